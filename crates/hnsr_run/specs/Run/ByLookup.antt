-- A walk ends the record at its place. In a run no two used records share an id, so this is the record that a lookup of
-- the id finds: the invariant speaks of ends by id.
use Rattle.std.specs.Prelude.{ℕ, ◌≡◌, true, eqb}
use Rattle.std.proofs.Math.Path.{sym, ap}
use Rattle.std.proofs.Common.{◌∙◌}
use borrow.Author.Tests.{eqb-true}
use Rattle.hns_encoding.specs.Laws.Tests.{both}
use Rattle.hnsr_body.specs.declared.messages.Notice.{Notice}
use Rattle.hnsr_circuit.specs.declared.peer.HnsrPeerId.{HnsrPeerId}
use Rattle.hnsr_circuit.specs.declared.records.RelayPending.{RelayPending}
use Rattle.hnsr_circuit.specs.declared.records.RelayCircuit.{RelayCircuit}
use Rattle.hnsr_circuit.specs.Table.{place_of}
use Rattle.hnsr_circuit.specs.Pending.{no_pending, pending_at, clear_pending}
use Rattle.hnsr_circuit.specs.Circuits.{no_circuit, circuit_at, clear_circuit}
use Rattle.hnsr_circuit.specs.Runtime.{count_revoked}
use Rattle.hnsr_circuit.specs.World.{World, with_pending, with_circuits, counting}
use Rattle.hnsr_circuit.specs.Queue.{Sent, and_then, tell}
use Rattle.hnsr_circuit.specs.Packet.{has_circuit, circuit_in}
use Rattle.hnsr_circuit.specs.Revocation.{without_actions, without_pending, end_pending, end_circuit}
use Rattle.hnsr_circuit.specs.Revocation.{end_pending_there, end_circuit_there, error_to_requester, close_to_endpoint}
use Rattle.hnsr_circuit.specs.Revocation.{close_to, has_pending, pending_in, revoke_pending, revoke_circuit_there}
use Rattle.hnsr_circuit.specs.RevokingCalls.{close_to_other, disconnect_pending}
use Rattle.hnsr_circuit.specs.Laws.Lookups.{pick_at, pick-has}
use Rattle.hnsr_circuit.specs.Laws.Edits.{edit-set}

-- the end of a pending record at a place, by id
abbrev pub by_id : (World → (place : ℕ) → Sent) → World → (id : ℕ) → Sent
by_id end w id = end w (place_of (pending_at id) w.pending)

-- ---- a pending record that is found
module _ (w : World) (id : ℕ) (e : has_pending w id ≡ true) where
  abbrev place : ℕ
  place = place_of (pending_at id) w.pending

  pending-id : (pending_in w id).circuit_id ≡ id
  unfolding pending_at
  pending-id =
      let p = pending_in w id in
      eqb-true p.circuit_id id
      (both p.used (eqb p.circuit_id id) (pick-has (pending_at id) no_pending w.pending e)).1

  pending-ended : end_pending_there w place ≡ end_pending w (pending_at id) id
  unfolding end_pending_there end_pending without_pending
  pending-ended =
      let table = sym (edit-set (pending_at id) clear_pending no_pending w.pending) in
      let same =
      ap (λ (p : RelayPending). p.circuit_id) (pick_at (pending_at id) no_pending w.pending) ∙ pending-id in
      λ i. counting count_revoked (without_actions (with_pending w (table i)) (same i))

  pub revoked-by-id : (n : Notice)
      → by_id (revoke_pending n) w id
      ≡ and_then (tell (error_to_requester n (pending_in w id)) (end_pending w (pending_at id) id))
      (tell (close_to_endpoint n (pending_in w id)))
  unfolding revoke_pending
  revoked-by-id n = let same = pick_at (pending_at id) no_pending w.pending in
      λ i. and_then (tell (error_to_requester n (same i)) (pending-ended i)) (tell (close_to_endpoint n (same i)))

  pub disconnected-by-id : (peer : HnsrPeerId)
      → by_id (disconnect_pending peer) w id
      ≡ tell (close_to_other peer (pending_in w id)) (end_pending w (pending_at id) id)
  unfolding disconnect_pending
  disconnected-by-id peer =
      λ i. tell (close_to_other peer (pick_at (pending_at id) no_pending w.pending i)) (pending-ended i)

-- ---- a circuit that is found
module _ (w : World) (id : ℕ) (e : has_circuit w id ≡ true) where
  circuit-id : (circuit_in w id).circuit_id ≡ id
  unfolding circuit_at
  circuit-id =
      let c = circuit_in w id in
      eqb-true c.circuit_id id
      (both c.used (eqb c.circuit_id id) (pick-has (circuit_at id) no_circuit w.circuits e)).1

  circuit-ended : end_circuit_there w (place_of (circuit_at id) w.circuits) ≡ end_circuit w id
  unfolding end_circuit_there end_circuit
  circuit-ended =
      let table = sym (edit-set (circuit_at id) clear_circuit no_circuit w.circuits) in
      let same =
      ap (λ (c : RelayCircuit). c.circuit_id) (pick_at (circuit_at id) no_circuit w.circuits) ∙ circuit-id in
      λ i. counting count_revoked (without_actions (with_circuits w (table i)) (same i))

  pub circuit-by-id : (n : Notice) → revoke_circuit_there n w (place_of (circuit_at id) w.circuits)
      ≡ and_then (tell (close_to n (circuit_in w id).requester id) (end_circuit w id))
      (tell (close_to n (circuit_in w id).endpoint id))
  unfolding revoke_circuit_there
  circuit-by-id n =
      let found = pick_at (circuit_at id) no_circuit w.circuits in
      let same = ap (λ (c : RelayCircuit). c.circuit_id) found ∙ circuit-id in
      λ i. and_then (tell (close_to n (found i).requester (same i)) (circuit-ended i))
      (tell (close_to n (found i).endpoint (same i)))
