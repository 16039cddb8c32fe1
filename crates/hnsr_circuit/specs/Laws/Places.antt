-- No call moves the number of places of a table, whatever the world: each change is a `put`, an `edit`, a `set` or a
-- `clear`.
use Prim.Native.Nat.{ℕ, zero, suc}
use Rattle.std.specs.Prelude.{◌≡◌, refl, Bool, true, false, List, length, Ok, Err, Option, Some}
use Rattle.std.proofs.Common.{◌∙◌, length-set}
use Rattle.std.proofs.lemmas.List.{length-map}
use Rattle.hnsr_circuit.specs.declared.peer.HnsrPeerId.{HnsrPeerId}
use Rattle.hnsr_circuit.specs.declared.records.RelayPending.{RelayPending}
use Rattle.hnsr_circuit.specs.declared.records.RelayCircuit.{RelayCircuit}
use Rattle.hnsr_circuit.specs.declared.records.ReservationUsage.{ReservationUsage}
use Rattle.hnsr_circuit.specs.declared.records.InflightAction.{InflightAction}
use Rattle.hnsr_circuit.specs.declared.tables.scan.Walked.{Walked}
use Rattle.hnsr_circuit.specs.declared.runtime.OpaqueRelayRuntime.{OpaqueRelayRuntime}
use Rattle.hnsr_circuit.specs.Answers.{HnsrAnswer}
use Rattle.hnsr_circuit.specs.Table.{not_yet, next}
use Rattle.hnsr_circuit.specs.Laws.Edits.{length-edit}
use Rattle.hnsr_circuit.specs.Laws.Walks.{where-cases}
use Rattle.hnsr_body.specs.declared.messages.Notice.{Notice}
use Rattle.hnsr_circuit.specs.Pending.{pending_id, clear_pending}
use Rattle.hnsr_circuit.specs.Circuits.{circuit_id, circuit_at, clear_circuit}
use Rattle.hnsr_circuit.specs.Inflight.{dropped}
use Rattle.hnsr_circuit.specs.World.{World, with_runtime, with_pending, with_circuits, with_ledger, with_inflight}
use Rattle.hnsr_circuit.specs.Queue.{Message, queued, can_queue, Sent, when, tell_if, tell}
use Rattle.hnsr_circuit.specs.RevokingCalls.{disconnect_pending}
use Rattle.hnsr_circuit.specs.Revocation.{without_actions, pending_table, circuit_table, without_pending, end_pending}
use Rattle.hnsr_circuit.specs.Revocation.{end_circuit, end_pending_there, end_circuit_there, revoke_pending}
use Rattle.hnsr_circuit.specs.Revocation.{revoke_circuit_there, revoke_circuit}
use Rattle.hnsr_circuit.specs.Revocation.{walk_from, walk, revoke_all}

-- w has as many places of each table as v
pub record AsMany (v w : World) : Type 0 where
  pub pending : length w.pending ≡ length v.pending
  pub circuits : length w.circuits ≡ length v.circuits
  pub ledger : length w.ledger ≡ length v.ledger
  pub inflight : length w.inflight ≡ length v.inflight

pub as_many : (w : World) → AsMany w w
as_many w = record { pending = refl; circuits = refl; ledger = refl; inflight = refl }

pub onward : {u v w : World} → AsMany u v → AsMany v w → AsMany u w
onward s t = record {
  pending = t.pending ∙ s.pending;
  circuits = t.circuits ∙ s.circuits;
  ledger = t.ledger ∙ s.ledger;
  inflight = t.inflight ∙ s.inflight;
}

-- ---- one part replaced
module _ {v w : World} (s : AsMany v w) where
  pub runtime-kept : (h : OpaqueRelayRuntime) → AsMany v (with_runtime w h)
  runtime-kept h = record { pending = s.pending; circuits = s.circuits; ledger = s.ledger; inflight = s.inflight }

  pub pending-kept : (t : List RelayPending) → length t ≡ length w.pending → AsMany v (with_pending w t)
  pending-kept t e =
      record { pending = e ∙ s.pending; circuits = s.circuits; ledger = s.ledger; inflight = s.inflight }

  pub circuits-kept : (t : List RelayCircuit) → length t ≡ length w.circuits → AsMany v (with_circuits w t)
  circuits-kept t e =
      record { pending = s.pending; circuits = e ∙ s.circuits; ledger = s.ledger; inflight = s.inflight }

  pub ledger-kept : (t : List ReservationUsage) → length t ≡ length w.ledger → AsMany v (with_ledger w t)
  ledger-kept t e =
      record { pending = s.pending; circuits = s.circuits; ledger = e ∙ s.ledger; inflight = s.inflight }

  pub inflight-kept : (t : List InflightAction) → length t ≡ length w.inflight → AsMany v (with_inflight w t)
  inflight-kept t e =
      record { pending = s.pending; circuits = s.circuits; ledger = s.ledger; inflight = e ∙ s.inflight }

-- ---- the changes: `put` is one store, `clear` a map
pub length-dropped : (p : InflightAction → Bool) (t : List InflightAction) → length (dropped p t) ≡ length t
unfolding dropped
length-dropped p t = simp length-map

pub without-actions-kept : {v : World} (w : World) (id : ℕ) → AsMany v w → AsMany v (without_actions w id)
unfolding without_actions
without-actions-kept w id s = inflight-kept s _ (length-dropped _ _)

pub without-pending-kept : {v : World} (w : World) (p : RelayPending → Bool) → AsMany v w
    → AsMany v (without_pending w p)
unfolding without_pending
without-pending-kept w p s = pending-kept s _ (length-edit p clear_pending w.pending)

pub end_pending_kept : (w : World) (p : RelayPending → Bool) (id : ℕ) → AsMany w (end_pending w p id)
unfolding end_pending
end_pending_kept w p id = runtime-kept (without-actions-kept _ id (without-pending-kept w p (as_many w))) _

pub end_circuit_kept : (w : World) (id : ℕ) → AsMany w (end_circuit w id)
unfolding end_circuit
end_circuit_kept w id =
    runtime-kept
    (without-actions-kept _ id (circuits-kept (as_many w) _ (length-edit (circuit_at id) clear_circuit w.circuits))) _

pub end_pending_there_kept : (w : World) (place : ℕ) → AsMany w (end_pending_there w place)
unfolding end_pending_there
end_pending_there_kept w place =
    runtime-kept (without-actions-kept _ _ (pending-kept (as_many w) _ (simp length-set))) _

pub end_circuit_there_kept : (w : World) (place : ℕ) → AsMany w (end_circuit_there w place)
unfolding end_circuit_there
end_circuit_there_kept w place =
    runtime-kept (without-actions-kept _ _ (circuits-kept (as_many w) _ (simp length-set))) _

-- ---- queueing, telling, walking
pub queued-kept : (m : Message) (w : World) → AsMany w (queued m w)
unfolding queued
queued-kept m w = runtime-kept (inflight-kept (as_many w) _ (simp length-set)) _

tell-if-kept : (a : HnsrAnswer) (m : Message) (w : World) → AsMany w (tell_if a m w).world
unfolding tell_if
tell-if-kept (Ok _) m w = queued-kept m w
tell-if-kept (Err e) m w = as_many w

pub tell-kept : (m : Message) (w : World) → AsMany w (tell m w).world
unfolding tell
tell-kept m w = tell-if-kept (can_queue m w) m w

pub when-kept : (v : World) (b : Bool) (part : World → Sent) (w : World) → AsMany v w → AsMany v (part w).world
    → AsMany v (when b part w).world
unfolding when
when-kept v true part w s t = t
when-kept v false part w s t = s

pub revoke-pending-kept : (n : Notice) (w : World) (place : ℕ) → AsMany w (revoke_pending n w place).world
unfolding revoke_pending
revoke-pending-kept n w place = onward (onward (end_pending_there_kept w place) (tell-kept _ _)) (tell-kept _ _)

pub disconnect-pending-kept : (peer : HnsrPeerId) (w : World) (place : ℕ)
    → AsMany w (disconnect_pending peer w place).world
unfolding disconnect_pending
disconnect-pending-kept peer w place = onward (end_pending_there_kept w place) (tell-kept _ _)

pub revoke-there-kept : (n : Notice) (w : World) (place : ℕ) → AsMany w (revoke_circuit_there n w place).world
unfolding revoke_circuit_there
revoke-there-kept n w place = onward (onward (end_circuit_there_kept w place) (tell-kept _ _)) (tell-kept _ _)

pub revoke-circuit-kept : (n : Notice) (w : World) (id : ℕ) → AsMany w (revoke_circuit n w id).world
unfolding revoke_circuit
revoke-circuit-kept n w id = when-kept w _ _ w (as_many w) (revoke-there-kept n w _)

module _ {A : Type 0} (id_of : A → ℕ) (table : World → List A) (p : A → Bool) (end : World → ℕ → Sent)
    (kept : (w : World) (place : ℕ) → AsMany w (end w place).world) where
  walk-from-kept : (turns : ℕ) (c : Option Walked) (w : World) → AsMany w (walk_from id_of table p end turns c w).world
  unfolding walk_from
  walk-from-kept zero c w = as_many w
  walk-from-kept (suc turns) c w =
      where-cases (λ (s : Sent). AsMany w s.world) end (walk_from id_of table p end turns) (next id_of p c (table w)) w
      (λ r e. onward (kept w r.place) (walk-from-kept turns (Some r) (end w r.place).world)) (λ e. as_many w)

  pub walk_kept : (w : World) → AsMany w (walk id_of table p end w).world
  unfolding walk
  walk_kept w = walk-from-kept (length (table w)) not_yet w

pub revoke-all-kept : (end_p : World → ℕ → Sent) (p : RelayPending → Bool) (end_c : World → ℕ → Sent)
    (c : RelayCircuit → Bool) (v w : World)
    → ((w : World) (place : ℕ) → AsMany w (end_p w place).world)
    → ((w : World) (place : ℕ) → AsMany w (end_c w place).world) → AsMany v w
    → AsMany v (revoke_all end_p p end_c c w).world
unfolding revoke_all
revoke-all-kept end_p p end_c c v w kp kc s =
    onward s
    (onward (walk_kept pending_id pending_table p end_p kp w) (walk_kept circuit_id circuit_table c end_c kc _))
