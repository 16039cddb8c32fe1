-- The end of a record, and revocation (REVOKE.1 to REVOKE.7).
-- A walk revokes what has a property, by ascending id, each record at its place (TAB.8).
use Rattle.std.specs.Prelude.{ℕ, zero, suc, Bool, Option, None, Some, List, length, get_or, set}
use Rattle.hnsr_body.specs.declared.messages.Notice.{Notice}
use Rattle.hnsr_body.specs.Messages.{notice_body}
use Rattle.hnsr_circuit.specs.declared.peer.HnsrPeerId.{HnsrPeerId}
use Rattle.hnsr_circuit.specs.declared.records.RelayPending.{RelayPending}
use Rattle.hnsr_circuit.specs.declared.records.RelayCircuit.{RelayCircuit}
use Rattle.hnsr_circuit.specs.declared.tables.scan.Walked.{Walked}
use Rattle.hnsr_circuit.specs.Table.{any, pick, place_of, edit, not_yet, next}
use Rattle.hnsr_circuit.specs.Pending.{no_pending, pending_id, pending_at, clear_pending}
use Rattle.hnsr_circuit.specs.Circuits.{no_circuit, circuit_id, circuit_at, clear_circuit}
use Rattle.hnsr_circuit.specs.declared.records.InflightKind.TheVariants.{Close}
use Rattle.hnsr_circuit.specs.Inflight.{action_under, dropped}
use Rattle.hnsr_circuit.specs.Runtime.{count_revoked}
use Rattle.hnsr_circuit.specs.World.{World, Outcome, with_pending, with_circuits, with_inflight, counting}
use Rattle.hnsr_circuit.specs.Queue.{Message, message, Sent, silently, and_then, when, finished, tell}
use Rattle.hnsr_circuit.specs.Opcode.{op_close, op_error}
use Rattle.hnsr_circuit.specs.Packet.{has_circuit}

-- ---- the end of a record: its mark is cleared, the actions under its id are dropped, revoked_work counts
unfoldable pub without_actions : World → (id : ℕ) → World
without_actions w id = with_inflight w (dropped (action_under id) w.inflight)

-- the record that a lookup finds
unfoldable pub without_pending : World → (RelayPending → Bool) → World
without_pending w p = with_pending w (edit p clear_pending w.pending)

unfoldable pub end_pending : World → (RelayPending → Bool) → (id : ℕ) → World
end_pending w p id = counting count_revoked (without_actions (without_pending w p) id)

unfoldable pub end_circuit : World → (id : ℕ) → World
end_circuit w id =
    counting count_revoked (without_actions (with_circuits w (edit (circuit_at id) clear_circuit w.circuits)) id)

-- the record at a place
abbrev pub pending_there : World → (place : ℕ) → RelayPending
pending_there w place = get_or w.pending place no_pending

abbrev pub circuit_there : World → (place : ℕ) → RelayCircuit
circuit_there w place = get_or w.circuits place no_circuit

unfoldable pub end_pending_there : World → (place : ℕ) → World
end_pending_there w place =
    let p = pending_there w place in
    counting count_revoked (without_actions (with_pending w (set w.pending place (clear_pending p))) p.circuit_id)

unfoldable pub end_circuit_there : World → (place : ℕ) → World
end_circuit_there w place =
    let c = circuit_there w place in
    counting count_revoked (without_actions (with_circuits w (set w.circuits place (clear_circuit c))) c.circuit_id)

-- ---- a CLOSE or ERROR of the relay's own: stored as Close under the circuit id
abbrev pub closing : HnsrPeerId → (circuit opcode context : ℕ) → Notice → Message
closing destination circuit opcode context n = message destination circuit opcode context (notice_body n) Close

-- to the requester of a pending record under its own context, to the endpoint under the circuit id
unfoldable pub error_to_requester : Notice → RelayPending → Message
error_to_requester n p = closing p.requester p.circuit_id op_error p.requester_context n

unfoldable pub close_to_requester : Notice → RelayPending → Message
close_to_requester n p = closing p.requester p.circuit_id op_close p.requester_context n

unfoldable pub close_to_endpoint : Notice → RelayPending → Message
close_to_endpoint n p = closing p.endpoint p.circuit_id op_close p.circuit_id n

-- to a side of a circuit, under the circuit id
unfoldable pub close_to : Notice → HnsrPeerId → (id : ℕ) → Message
close_to n peer id = closing peer id op_close id n

-- ---- revocation of the record at a place
-- REVOKE.3: what the sides of a pending record hear
unfoldable pub revoke_pending : Notice → World → (place : ℕ) → Sent
revoke_pending n w place =
    let p = pending_there w place in
    and_then (tell (error_to_requester n p) (end_pending_there w place)) (tell (close_to_endpoint n p))

-- REVOKE.2: what the sides of a circuit hear
unfoldable pub revoke_circuit_there : Notice → World → (place : ℕ) → Sent
revoke_circuit_there n w place =
    let c = circuit_there w place in
    and_then (tell (close_to n c.requester c.circuit_id) (end_circuit_there w place))
    (tell (close_to n c.endpoint c.circuit_id))

-- ---- by id: the record that a lookup finds; one no longer there is nothing to revoke
abbrev pub has_pending : World → (id : ℕ) → Bool
has_pending w id = any (pending_at id) w.pending

abbrev pub pending_in : World → (id : ℕ) → RelayPending
pending_in w id = pick (pending_at id) no_pending w.pending

unfoldable pub revoke_circuit : Notice → World → (id : ℕ) → Sent
revoke_circuit n w id = when (has_circuit w id) (λ v. revoke_circuit_there n v (place_of (circuit_at id) v.circuits)) w

-- a turn of a walk: the record that it reached is ended, and then the rest; where it reached none it is over
unfoldable pub where_reached : (end : World → (place : ℕ) → Sent) → (rest : Option Walked → World → Sent)
    → Option Walked → World → Sent
where_reached end rest None w = silently w
where_reached end rest (Some n) w = and_then (end w n.place) (rest (Some n))

-- ---- a walk: again and again the least (id, place) above the last that has the property; the record at that place is
-- ended. It takes at most as many turns as there are places
module _ {A : Type 0} (id_of : A → ℕ) (table : World → List A) (p : A → Bool) (end : World → (place : ℕ) → Sent) where
  unfoldable pub walk_from : (turns : ℕ) → Option Walked → World → Sent
  walk_from zero c w = silently w
  walk_from (suc turns) c w = where_reached end (walk_from turns) (next id_of p c (table w)) w

  unfoldable pub walk : World → Sent
  walk w = walk_from (length (table w)) not_yet w

abbrev pub pending_table : World → List RelayPending
pending_table w = w.pending

abbrev pub circuit_table : World → List RelayCircuit
circuit_table w = w.circuits

-- REVOKE.5: both walks, one behind the other
unfoldable pub revoke_all : (World → ℕ → Sent) → (RelayPending → Bool) → (World → ℕ → Sent) → (RelayCircuit → Bool)
    → World → Outcome
revoke_all end_p p end_c c w =
    finished (and_then (walk pending_id pending_table p end_p w) (walk circuit_id circuit_table c end_c))
