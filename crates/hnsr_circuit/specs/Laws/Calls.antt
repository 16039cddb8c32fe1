-- How a call of the code ends as the definition's does: turned away by its answer, or gone on; and, where it sends,
-- finished.
use Rattle.std.specs.Prelude.{ℕ, ◌+◌, ◌*◌, ◌/◌, ◌≤◌, min, ◌≡◌, true, false, List, ltb, length, Ok, Err}
use Rattle.std.proofs.Common.{arith, sym, ap, ◌∙◌, true≢false, ltb-true, ltb-false, lt-ltb, le-ltb}
use Rattle.std.proofs.Math.Path.{refl}
use Rattle.std.proofs.lemmas.Bool.{false≢true}
use Rattle.hns_encoding.specs.Laws.Tests.{split}
use Rattle.hns_encoding.specs.Numbers.{top}
use Rattle.hnsr_circuit.specs.declared.records.RelayPending.{RelayPending}
use Rattle.hnsr_circuit.specs.declared.records.RelayCircuit.{RelayCircuit}
use Rattle.hnsr_circuit.specs.declared.records.ReservationUsage.{ReservationUsage}
use Rattle.hnsr_circuit.specs.declared.records.InflightAction.{InflightAction}
use Rattle.hnsr_circuit.specs.declared.runtime.OpaqueRelayRuntime.{OpaqueRelayRuntime}
use Rattle.hnsr_circuit.specs.declared.runtime.Relayed.{Relayed}
use Rattle.hnsr_circuit.specs.declared.runtime.Sending.{Sending}
use Rattle.hnsr_circuit.specs.declared.answer.HnsrRuntimeError.{HnsrRuntimeError}
use Rattle.hnsr_circuit.specs.Answers.{HnsrAnswer, taken}
use Rattle.hnsr_circuit.specs.World.{World, Outcome, proceed, world_of}
use Rattle.hnsr_circuit.specs.Code.Progress.{filled_to, placed, Progress, progress}
use Rattle.hnsr_circuit.specs.Code.Progress.{underway, result, handed_back, ending, outcome}
use Rattle.hnsr_circuit.specs.Entry.{closing_words}
use Rattle.hnsr_circuit.specs.Call.{Call, step}
use Rattle.hnsr_circuit.specs.Laws.StepRoom.{room_of, routes-fit}
use Rattle.hnsr_circuit.specs.Laws.Progress.{fits}

-- what is refused for an error is answered by the row that refuses
pub answered : {x h : OpaqueRelayRuntime} {b a : HnsrAnswer} {e : HnsrRuntimeError} {n m : ℕ}
    → (x ≡ h) × (b ≡ Err e) × (n ≡ m) → a ≡ Err e → (x ≡ h) × (b ≡ a) × (n ≡ m)
answered f e = (f.0, f.1 ∙ sym e, f.2)

module _ (h : OpaqueRelayRuntime) (p : List RelayPending) (c : List RelayCircuit) (l : List ReservationUsage)
    (i : List InflightAction) (out : List ℕ) where
  refuses : (a : HnsrAnswer) (o : Outcome) → taken a ≡ false
      → result (world_of h p c l i) a 0 out ≡ ending out (proceed (world_of h p c l i) a o)
  unfolding proceed filled_to placed
  refuses (Ok _) o f = absurd (true≢false f)
  refuses (Err e) o f = refl

  -- a refusal hands back what it was given
  pub turned_away : (r : Relayed) (a b : HnsrAnswer) (o : Outcome)
      → (r.state.runtime ≡ h) × (r.answer ≡ a) × (r.words ≡ 0)
      → taken a ≡ false → a ≡ b
      → handed_back r p c l i out ≡ ending out (proceed (world_of h p c l i) b o)
  turned_away r a b o e f ab =
      (λ x. result (world_of (e.0 x) p c l i) (e.1 x) (e.2 x) out)
      ∙ refuses a o f
      ∙ ap (λ (z : HnsrAnswer). ending out (proceed (world_of h p c l i) z o)) ab

  -- a call begins at the output's first word
  pub begun : (s : Sending) → (s.state.runtime ≡ h) × (s.position ≡ 0)
      → underway s p c l i out ≡ progress (world_of h p c l i) 0 out
  begun s e = λ x. progress (world_of (e.0 x) p c l i) (e.1 x) out

-- what is not refused goes on
goes : (w : World) (a : HnsrAnswer) (o : Outcome) → taken a ≡ true → proceed w a o ≡ o
unfolding proceed
goes w (Ok _) o t = refl
goes w (Err e) o t = absurd (false≢true t)

pub gone-on : (w : World) (a b : HnsrAnswer) (o : Outcome) → taken a ≡ true → a ≡ b → proceed w b o ≡ o
gone-on w a b o t e = goes w b o (ap taken (sym e) ∙ t)

-- a call that has sent all is taken
pub over : (r : Relayed) (s : Sending) (p : List RelayPending) (c : List RelayCircuit) (l : List ReservationUsage)
    (i : List InflightAction) (out : List ℕ) (t : Progress)
    → (r.state.runtime ≡ s.state.runtime) × (r.answer ≡ Ok tt) × (r.words ≡ s.position) → underway s p c l i out ≡ t
    → handed_back r p c l i out ≡ result t.world (Ok tt) t.position t.output
over r s p c l i out t e h =
    (λ x. result (world_of (e.0 x) p c l i) (e.1 x) (e.2 x) out)
    ∙ ap (λ (u : Progress). result u.world (Ok tt) u.position u.output) h

-- what a call leaves in the output is the routes' words and then the old tail
pub whole : (out : List ℕ) (w : World) (c : Call) → room_of c ≤ length out → length out ≤ top 64
    → ending out (step w c) ≡ outcome out (step w c)
whole out w c r k = let n = routes-fit w c in fits out (step w c) (omega arith) k

-- room for so many words for each record, by division, so that no product is too large
pub room-tests : (room n m : ℕ) → room ≤ top 64
    → ltb (room / closing_words) (min (n + m) (top 64)) ≡ ltb room (closing_words * (n + m))
room-tests room n m k = split (ltb room (closing_words * (n + m)))
    (λ e. let h = ltb-true room (closing_words * (n + m)) e in
    lt-ltb (room / closing_words) (min (n + m) (top 64)) (omega arith) ∙ sym e)
    (λ e. let h = ltb-false room (closing_words * (n + m)) e in
    le-ltb (room / closing_words) (min (n + m) (top 64)) (omega arith) ∙ sym e)
