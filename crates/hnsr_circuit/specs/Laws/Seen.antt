-- How a call ends, told of the state and of the tables as they are seen: turned away by a row, passed by it, taken with
-- nothing sent.
use Rattle.std.specs.Prelude.{ℕ, ◌≡◌, List, [], Ok, Err}
use Rattle.std.proofs.Common.{sym, ap, ◌∙◌}
use Rattle.hnsr_circuit.specs.declared.records.RelayPending.{RelayPending}
use Rattle.hnsr_circuit.specs.declared.records.RelayCircuit.{RelayCircuit}
use Rattle.hnsr_circuit.specs.declared.records.ReservationUsage.{ReservationUsage}
use Rattle.hnsr_circuit.specs.declared.records.InflightAction.{InflightAction}
use Rattle.hnsr_circuit.specs.declared.runtime.OpaqueRelayRuntime.{OpaqueRelayRuntime}
use Rattle.hnsr_circuit.specs.declared.runtime.RelayState.{RelayState}
use Rattle.hnsr_circuit.specs.declared.runtime.Relayed.{Relayed}
use Rattle.hnsr_circuit.specs.declared.runtime.Sending.{Sending}
use Rattle.hnsr_circuit.specs.declared.answer.HnsrRuntimeError.{HnsrRuntimeError}
use Rattle.hnsr_circuit.specs.Answers.{HnsrAnswer}
use Rattle.hnsr_circuit.specs.Route.{out_words, output}
use Rattle.hnsr_circuit.specs.World.{World, Outcome, refuse, done, proceed, world_of, with_runtime}
use Rattle.hnsr_circuit.specs.Code.Progress.{filled_to, placed, Progress, progress, result, handed_back}
use Rattle.hnsr_circuit.specs.Code.Progress.{ending, outcome}
use Rattle.hnsr_circuit.specs.Code.Held.{state_seen, handed_seen, underway_seen}

-- ---- a row
-- what it passes goes on
pub passed : (w : World) (a : HnsrAnswer) (o : Outcome) → a ≡ Ok tt → o ≡ proceed w a o
unfolding proceed
passed w a o e = ap (λ (b : HnsrAnswer). proceed w b o) (sym e)

-- what it refuses leaves the world as it was
pub turned : (w : World) (a : HnsrAnswer) (o : Outcome) (e : HnsrRuntimeError) → a ≡ Err e → refuse w e ≡ proceed w a o
unfolding proceed
turned w a o e t = ap (λ (b : HnsrAnswer). proceed w b o) (sym t)

-- ---- what is handed back
module _ (s : RelayState) (p : List RelayPending) (c : List RelayCircuit) (l : List ReservationUsage)
    (i : List InflightAction) (out : List ℕ) (r : Relayed) where
  pub refused-seen : (e : HnsrRuntimeError) → (r.state ≡ s) × (r.answer ≡ Err e) × (r.words ≡ 0)
      → handed_seen r p c l i out ≡ ending out (refuse (state_seen s p c l i) e)
  unfolding filled_to placed
  refused-seen e h =
      λ x. handed_seen (record { state = h.0 x; answer = h.1 x; words = h.2 x }) p c l i out

  pub turned-seen : (e : HnsrRuntimeError) (a : HnsrAnswer) (o : Outcome)
      → (r.state ≡ s) × (r.answer ≡ Err e) × (r.words ≡ 0) → a ≡ Err e
      → handed_seen r p c l i out ≡ ending out (proceed (state_seen s p c l i) a o)
  turned-seen e a o h t = refused-seen e h ∙ ap (ending out) (turned (state_seen s p c l i) a o e t)

  -- a call that is taken and sends nothing
  pub taken-seen : (r.state ≡ s) × (r.answer ≡ Ok tt) × (r.words ≡ 0)
      → handed_seen r p c l i out ≡ ending out (done (state_seen s p c l i) [])
  unfolding filled_to placed
  taken-seen h =
      λ x. handed_seen (record { state = h.0 x; answer = h.1 x; words = h.2 x }) p c l i out

-- of any tables that are handed back
pub refused-back : (h : OpaqueRelayRuntime) (p : List RelayPending) (c : List RelayCircuit) (l : List ReservationUsage)
    (i : List InflightAction) (out : List ℕ) (r : Relayed) (e : HnsrRuntimeError)
    → (r.state.runtime ≡ h) × (r.answer ≡ Err e) × (r.words ≡ 0)
    → handed_back r p c l i out ≡ ending out (refuse (world_of h p c l i) e)
unfolding filled_to placed
refused-back h p c l i out r e k = λ x. result (world_of (k.0 x) p c l i) (k.1 x) (k.2 x) out

-- a state with another runtime
pub moved-seen : (s t : RelayState) (h : OpaqueRelayRuntime) (p : List RelayPending) (c : List RelayCircuit)
    (l : List ReservationUsage) (i : List InflightAction) → (t.runtime ≡ h) × (t.places ≡ s.places)
    → state_seen t p c l i ≡ with_runtime (state_seen s p c l i) h
moved-seen s t h p c l i e = λ x. state_seen (record { runtime = e.0 x; places = e.1 x }) p c l i

-- a call that sends nothing leaves the output as it was
pub quiet : (out : List ℕ) (o : Outcome) → o.routes ≡ [] → ending out o ≡ outcome out o
unfolding filled_to placed out_words output
quiet out o e = rw e

-- a call that has sent all is taken
pub over-seen : (r : Relayed) (s : Sending) (p : List RelayPending) (c : List RelayCircuit) (l : List ReservationUsage)
    (i : List InflightAction) (out : List ℕ) (t : Progress)
    → (r.state ≡ s.state) × (r.answer ≡ Ok tt) × (r.words ≡ s.position) → underway_seen s p c l i out ≡ t
    → handed_seen r p c l i out ≡ result t.world (Ok tt) t.position t.output
over-seen r s p c l i out t h e =
    (λ x. handed_seen (record { state = h.0 x; answer = h.1 x; words = h.2 x }) p c l i out)
    ∙ ap (λ (u : Progress). result u.world (Ok tt) u.position u.output) e

-- a call begins at the output's first word
pub begun-seen : (s : RelayState) (t : Sending) (p : List RelayPending) (c : List RelayCircuit)
    (l : List ReservationUsage) (i : List InflightAction) (out : List ℕ) → (t.state ≡ s) × (t.position ≡ 0)
    → underway_seen t p c l i out ≡ progress (state_seen s p c l i) 0 out
begun-seen s t p c l i out e = λ x. underway_seen (record { state = e.0 x; position = e.1 x }) p c l i out
