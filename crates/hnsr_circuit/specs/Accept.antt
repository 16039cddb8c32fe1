-- ACCEPT (ACCEPT.1 to ACCEPT.13). A packet without a circuit id does not get here (ACCEPT.13).
use Rattle.std.specs.Prelude.{ℕ, min, Bool, true, not, ◌||◌, ltb, leb}
use Rattle.hnsr_body.specs.declared.accept_body.AcceptBody.{AcceptBody}
use Rattle.hnsr_body.specs.declared.accept_body.OpenedBody.{OpenedBody}
use Rattle.hnsr_body.specs.Accept.{decode_accept, accept_fields, opened_bytes}
use Rattle.hnsr_circuit.specs.declared.peer.HnsrPeerId.{HnsrPeerId}
use Rattle.hnsr_circuit.specs.declared.config.OpaqueRelayConfig.{OpaqueRelayConfig}
use Rattle.hnsr_circuit.specs.declared.records.RelayPending.{RelayPending}
use Rattle.hnsr_circuit.specs.declared.records.RelayCircuit.{RelayCircuit}
use Rattle.hnsr_circuit.specs.declared.answer.HnsrRuntimeError.TheVariants.{Capacity, InvalidAdmission}
use Rattle.hnsr_circuit.specs.declared.answer.HnsrRuntimeError.TheVariants.{UnknownRequest, WrongPeer}
use Rattle.hnsr_circuit.specs.Table.{any, pick, put, edit}
use Rattle.hnsr_circuit.specs.Answers.{HnsrAnswer, check, body_answer, ◌then◌}
use Rattle.hnsr_circuit.specs.Peer.{same_peer}
use Rattle.hnsr_circuit.specs.Pending.{no_pending, pending_at, overdue, clear_pending}
use Rattle.hnsr_circuit.specs.Circuits.{is_circuit, circuit_at}
use Rattle.hnsr_circuit.specs.declared.records.InflightKind.TheVariants.{Opened}
use Rattle.hnsr_circuit.specs.Inflight.{action_under, dropped, tallied, capacity_answer}
use Rattle.hnsr_circuit.specs.Runtime.{count_accept}
use Rattle.hnsr_circuit.specs.World.{World, Outcome, config_of, proceed, with_pending}
use Rattle.hnsr_circuit.specs.World.{with_circuits, with_inflight, counting}
use Rattle.hnsr_circuit.specs.Queue.{Message, message, send}
use Rattle.hnsr_circuit.specs.Opcode.{op_opened}
use Rattle.hnsr_circuit.specs.Counts.{circuit_count, reservation_work}
use Rattle.hnsr_circuit.specs.Packet.{Packet, sender}

-- ---- rows
-- 13, 15, 11 (ACCEPT.1 to ACCEPT.3): nothing such is pending, or not for this peer, or no longer
unfoldable pub request_answer : (found : Bool) → RelayPending → HnsrPeerId → (now : ℕ) → HnsrAnswer
request_answer found p peer now =
    check (not found) UnknownRequest
    then check (not (same_peer p.endpoint peer)) WrongPeer
    then check (overdue now p) InvalidAdmission

-- 10 (ACCEPT.5); the reservation's work may reach its most, since the pending record is among it (ACCEPT.12)
unfoldable pub accept_answer : OpaqueRelayConfig → RelayPending → AcceptBody
    → (circuits reservation_work : ℕ) → HnsrAnswer
accept_answer c p b circuits under =
    check
    (ltb p.initial_window b.accepted_window || leb c.maximum_circuits circuits
    || ltb p.ticket.max_active_circuits under) Capacity

-- ---- what is written
-- ACCEPT.10: the circuit as it begins
abbrev pub circuit_for : OpaqueRelayConfig → RelayPending → AcceptBody → RelayCircuit
circuit_for c p b = record {
  used = true;
  circuit_id = p.circuit_id;
  requester = p.requester;
  endpoint = p.endpoint;
  reservation_id = p.ticket.reservation_id;
  expires_at = p.ticket.expires_at;
  maximum_bytes = min p.ticket.max_bytes_per_circuit c.maximum_bytes_per_circuit;
  maximum_total_bytes = p.ticket.max_total_bytes;
  requester_credit = b.accepted_window;
  endpoint_credit = b.accepted_window;
  forwarded_bytes = 0;
  queued_to_requester = 0;
  queued_to_endpoint = 0;
}

-- ACCEPT.9: the circuit in the place of the pending record
unfoldable pub with_accept : World → RelayPending → AcceptBody → World
with_accept w p b =
    counting count_accept
    (with_circuits
    (with_inflight (with_pending w (edit (pending_at p.circuit_id) clear_pending w.pending))
    (dropped (action_under p.circuit_id) w.inflight))
    (put is_circuit (circuit_at p.circuit_id) (circuit_for (config_of w) p b) w.circuits))

abbrev pub opened_for : RelayPending → AcceptBody → OpenedBody
opened_for p b = record {
  circuit_id = p.circuit_id;
  accepted_window = b.accepted_window;
  endpoint_nonce = b.endpoint_nonce;
}

-- ACCEPT.11: under the context that the OPEN had
unfoldable pub opened_message : RelayPending → AcceptBody → Message
opened_message p b =
    message p.requester p.circuit_id op_opened p.requester_context (opened_bytes (opened_for p b)) Opened

-- ---- the steps, in the order of the rows. The room for OPENED is counted without the pending's own actions, which
-- ACCEPT drops (ACCEPT.6)
unfoldable pub accept_taken : World → Packet → RelayPending → AcceptBody → HnsrAnswer
accept_taken w q p b =
    request_answer (any (pending_at q.context) w.pending) p (sender q) q.now
    then body_answer (decode_accept q.body).result
    then accept_answer (config_of w) p b (circuit_count w) (reservation_work w p.ticket.reservation_id)
    then capacity_answer (config_of w) (tallied true q.context p.requester w.inflight)

unfoldable pub accept_with : World → Packet → RelayPending → AcceptBody → Outcome
accept_with w q p b = proceed w (accept_taken w q p b) (send (with_accept w p b) (opened_message p b))

unfoldable pub handle_accept : World → Packet → Outcome
handle_accept w q = accept_with w q (pick (pending_at q.context) no_pending w.pending) (accept_fields q.body)
