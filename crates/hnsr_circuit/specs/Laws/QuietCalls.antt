-- The calls that send nothing: what the code hands back is what the definition tells, or makes.
use Rattle.std.specs.Prelude.{ℕ, ◌≡◌, true, false, List, [], Option, Ok, Err}
use Rattle.std.proofs.Math.Path.{subst}
use Rattle.std.proofs.Common.{sym, ap, ◌∙◌, true≢false}
use Rattle.hnsr_circuit.specs.declared.records.RelayPending.{RelayPending}
use Rattle.hnsr_circuit.specs.declared.records.RelayCircuit.{RelayCircuit}
use Rattle.hnsr_circuit.specs.declared.records.ReservationUsage.{ReservationUsage}
use Rattle.hnsr_circuit.specs.declared.records.InflightAction.{InflightAction}
use Rattle.hnsr_circuit.specs.declared.runtime.OpaqueRelayRuntime.{OpaqueRelayRuntime}
use Rattle.hnsr_circuit.specs.declared.runtime.HnsrRuntimeStatus.{HnsrRuntimeStatus}
use Rattle.hnsr_circuit.specs.declared.runtime.Relayed.{Relayed}
use Rattle.hnsr_circuit.specs.declared.answer.HnsrRuntimeError.{HnsrRuntimeError}
use Rattle.hnsr_circuit.specs.Answers.{HnsrAnswer, taken}
use Rattle.hnsr_circuit.specs.Table.{clear}
use Rattle.hnsr_circuit.specs.Pending.{is_pending, clear_pending}
use Rattle.hnsr_circuit.specs.Circuits.{is_circuit, clear_circuit}
use Rattle.hnsr_circuit.specs.Ledger.{is_usage, clear_usage}
use Rattle.hnsr_circuit.specs.Inflight.{is_action, clear_action, dropped}
use Rattle.hnsr_circuit.specs.Runtime.{no_runtime}
use Rattle.hnsr_circuit.specs.Code.Held.{no_place, every_place}
use Rattle.hnsr_circuit.specs.World.{World, status_is, due_is, done, proceed, telling, world_of}
use Rattle.hnsr_circuit.specs.New.{emptied}
use Rattle.hnsr_circuit.specs.Code.Told.{status_told, due_told, Made}
use Rattle.hnsr_circuit.specs.Laws.Queueing.{taken_is}

-- ---- what is told
module _ (s : HnsrRuntimeStatus) (capacity : ℕ) (w : World) where
  pub tells-status : (a : HnsrAnswer) → a ≡ Ok tt
      → Ok (record { status = s; action_capacity = capacity })
      ≡ status_told (proceed w a (telling w (status_is s capacity)))
  unfolding proceed
  tells-status a t = rw t

  pub tells-nothing : (a : HnsrAnswer) (e : HnsrRuntimeError) → a ≡ Err e
      → Err e ≡ status_told (proceed w a (telling w (status_is s capacity)))
  unfolding proceed
  tells-nothing a e t = rw t

module _ (d : Option ℕ) (w : World) where
  pub tells-due : (a : HnsrAnswer) → a ≡ Ok tt → Ok d ≡ due_told (proceed w a (telling w (due_is d)))
  unfolding proceed
  tells-due a t = rw t

  pub tells-no-due : (a : HnsrAnswer) (e : HnsrRuntimeError) → a ≡ Err e
      → Err e ≡ due_told (proceed w a (telling w (due_is d)))
  unfolding proceed
  tells-no-due a e t = rw t

-- ---- new
module _ (h n : OpaqueRelayRuntime) (p p' : List RelayPending) (c c' : List RelayCircuit) (l l' : List ReservationUsage)
    (i i' : List InflightAction) (r : Relayed) (a b : HnsrAnswer) (e : a ≡ b) where
  pub empties : (r.state.runtime ≡ n) × (r.answer ≡ a) × (r.words ≡ 0) → r.state.places ≡ no_place
      → p' ≡ clear clear_pending is_pending p → c' ≡ clear clear_circuit is_circuit c
      → l' ≡ clear clear_usage is_usage l → i' ≡ clear clear_action is_action i → taken a ≡ true
      → Made r p' c' l' i' (proceed (world_of h p c l i) b (done (emptied (world_of h p c l i) n) []))
  unfolding proceed emptied dropped
  empties f k ep ec el ei t =
      let is = taken_is a t in
      subst
      (λ (z : HnsrAnswer).
      Made r p' c' l' i' (proceed (world_of h p c l i) z (done (emptied (world_of h p c l i) n) []))) (sym is ∙ e)
      (record {
        answer = f.1 ∙ is;
        tables = λ x. world_of n (ep x) (ec x) (el x) (ei x);
        runtime = f.0;
        places = k;
        words = f.2;
      })

  module _ (f : (r.state.runtime ≡ no_runtime) × (r.answer ≡ a) × (r.words ≡ 0)) (k : r.state.places ≡ every_place)
      (ep : p' ≡ p) (ec : c' ≡ c) (el : l' ≡ l) (ei : i' ≡ i) where
    keeps : (z : HnsrAnswer) → r.answer ≡ z → taken z ≡ false
        → Made r p' c' l' i' (proceed (world_of h p c l i) z (done (emptied (world_of h p c l i) n) []))
    unfolding proceed
    keeps (Ok _) ea t = absurd (true≢false t)
    keeps (Err x) ea t = record {
      answer = ea;
      tables = λ y. world_of h (ep y) (ec y) (el y) (ei y);
      runtime = f.0;
      places = k;
      words = f.2;
    }

    pub refuses-new : taken a ≡ false
        → Made r p' c' l' i' (proceed (world_of h p c l i) b (done (emptied (world_of h p c l i) n) []))
    refuses-new t = keeps b (f.1 ∙ e) (ap taken (sym e) ∙ t)
