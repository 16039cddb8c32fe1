-- OPEN (OPEN.1 to OPEN.18). Three worlds, three answers: as lent; ledger records past their expiry dropped (OPEN.12);
-- the missing ledger record made (OPEN.16). Then all is written and INCOMING is queued.
-- A packet without a context does not get here (OPEN.18).
use Rattle.std.specs.Prelude.{ℕ, ◌+◌, min, Bool, false, not, ◌||◌, unwrap_or, ltb, leb, length}
use Rattle.hns_encoding.specs.Numbers.{top}
use Rattle.hnsr_body.specs.declared.open_body.OpenBody.{OpenBody}
use Rattle.hnsr_body.specs.declared.incoming_body.IncomingBody.{IncomingBody}
use Rattle.hnsr_body.specs.declared.error.HnsrProtocolError.TheVariants.{Admission}
use Rattle.hnsr_body.specs.Open.{decode_open, open_fields}
use Rattle.hnsr_body.specs.Incoming.{incoming_bytes}
use Rattle.hnsr_circuit.specs.declared.peer.HnsrPeerId.{HnsrPeerId}
use Rattle.hnsr_circuit.specs.declared.config.OpaqueRelayConfig.{OpaqueRelayConfig}
use Rattle.hnsr_circuit.specs.declared.records.RelayTicket.{RelayTicket}
use Rattle.hnsr_circuit.specs.declared.records.RelayPending.{RelayPending}
use Rattle.hnsr_circuit.specs.declared.answer.HnsrRuntimeError.TheVariants.{Protocol, Capacity, Deadline}
use Rattle.hns_encoding.specs.Sums.{count}
use Rattle.hnsr_circuit.specs.Table.{any, put}
use Rattle.hnsr_circuit.specs.Answers.{HnsrAnswer, check, body_answer, ◌then◌}
use Rattle.hnsr_circuit.specs.Peer.{peer_of, same_peer}
use Rattle.hnsr_circuit.specs.Pending.{pending_record, is_pending, pending_at, requested_by}
use Rattle.hnsr_circuit.specs.Ledger.{is_usage, lapsed, has_usage, usage_of, booked, ledger_answer, usage_answer}
use Rattle.hnsr_circuit.specs.declared.records.InflightKind.TheVariants.{Incoming}
use Rattle.hnsr_circuit.specs.Inflight.{tallied, capacity_answer}
use Rattle.hnsr_circuit.specs.Runtime.{count_open}
use Rattle.hnsr_circuit.specs.World.{World, Outcome, config_of, proceed, with_pending, with_ledger, counting}
use Rattle.hnsr_circuit.specs.Queue.{Message, message, send}
use Rattle.hnsr_circuit.specs.Opcode.{op_incoming}
use Rattle.hnsr_circuit.specs.Counts.{pending_count, circuit_count, peer_work, reservation_work}
use Rattle.hnsr_circuit.specs.Entry.{peer_answer}
use Rattle.hnsr_circuit.specs.Packet.{Packet, sender}
use Rattle.hnsr_circuit.specs.Draw.{drawn, draw_answer}

-- ---- rows
-- 10 (OPEN.1): no more fit for the relay or for the requester, or it is pending already
unfoldable pub open_answer : OpaqueRelayConfig → (pending circuits work : ℕ) → (repeated : Bool) → HnsrAnswer
open_answer c pending circuits work repeated =
    check
    (leb c.maximum_pending pending || leb c.maximum_circuits circuits
    || leb c.maximum_circuits_per_peer work || repeated) Capacity

-- 1 (OPEN.3): the host does not admit it, or what it granted is over
unfoldable pub admission_answer : (admitted : Bool) → (expiry now : ℕ) → HnsrAnswer
admission_answer admitted expiry now = check (not admitted || leb expiry now) (Protocol Admission)

-- 10 (OPEN.5): it asks for its own peer, or endpoint or reservation take no more
unfoldable pub endpoint_answer : OpaqueRelayConfig → RelayTicket → (same : Bool)
    → (work reservation_work : ℕ) → HnsrAnswer
endpoint_answer c t same work under =
    check (same || leb c.maximum_circuits_per_peer work || leb t.max_active_circuits under) Capacity

-- 12 (OPEN.8): the deadline does not fit 64 bits
unfoldable pub deadline_answer : OpaqueRelayConfig → (now : ℕ) → HnsrAnswer
deadline_answer c now = check (ltb (top 64) (now + c.accept_timeout_seconds)) Deadline

-- OPEN.14: the deadline
abbrev pub deadline_for : OpaqueRelayConfig → RelayTicket → (now : ℕ) → ℕ
deadline_for c t now = min (now + c.accept_timeout_seconds) t.expires_at

-- ---- what is written
-- what an OPEN has gathered once its grant is good
pub record Opening : Type 0 where
  pub requester : HnsrPeerId
  pub context : ℕ
  pub body : OpenBody
  pub endpoint : HnsrPeerId
  pub ticket : RelayTicket
  pub id : ℕ
  pub deadline : ℕ

abbrev pub pending_for : Opening → RelayPending
pending_for o =
    pending_record o.id o.requester o.endpoint o.context o.ticket o.body.initial_window
    o.deadline

-- ticket, profile, nonce and window are the OPEN's
abbrev pub incoming_for : Opening → IncomingBody
incoming_for o = record {
  ticket_id = o.body.ticket_id;
  open_request_id = o.context;
  profile = o.body.profile;
  requester_nonce = o.body.requester_nonce;
  initial_window = o.body.initial_window;
}

unfoldable pub incoming_message : Opening → Message
incoming_message o = message o.endpoint o.id op_incoming o.id (incoming_bytes (incoming_for o)) Incoming

-- OPEN.16: a record more, and a count
unfoldable pub with_open : World → Opening → World
with_open w o = counting count_open (with_pending w (put is_pending (pending_at o.id) (pending_for o) w.pending))

-- ---- the steps, in the order of the rows
abbrev pub open_body : Packet → OpenBody
open_body q = open_fields q.body

abbrev pub opening : World → Packet → Opening
opening w q = record {
  requester = sender q;
  context = q.context;
  body = open_body q;
  endpoint = peer_of q.admission.endpoint;
  ticket = q.admission.ticket;
  id = unwrap_or (drawn w q.random) 0;
  deadline = deadline_for (config_of w) q.admission.ticket q.now;
}

unfoldable pub open_admitted : World → Packet → HnsrAnswer
open_admitted w q =
    open_answer (config_of w) (pending_count w) (circuit_count w) (peer_work w (sender q))
    (any (requested_by (sender q) q.context) w.pending)
    then body_answer (decode_open q.key_valid q.body).result
    then admission_answer q.admission.admitted q.admission.ticket.expires_at q.now

-- two ids of a reservation: the body's is counted, the grant's is looked up (OPEN.15)
unfoldable pub open_placed : World → Packet → Opening → HnsrAnswer
open_placed w q o =
    peer_answer (length q.admission.endpoint)
    then endpoint_answer (config_of w) o.ticket (same_peer o.endpoint o.requester) (peer_work w o.endpoint)
    (reservation_work w o.body.reservation_id)
    then draw_answer (drawn w q.random)
    then capacity_answer (config_of w) (tallied false o.id o.endpoint w.inflight)
    then deadline_answer (config_of w) q.now
    then ledger_answer (has_usage o.ticket.reservation_id w.ledger) (count is_usage w.ledger)
    (length w.ledger)

-- the ledger record has been made, and stays if its bytes or expiry refuse
unfoldable pub open_booked : World → Opening → Outcome
open_booked w o =
    proceed w (usage_answer o.ticket (usage_of o.ticket.reservation_id w.ledger))
    (send (with_open w o) (incoming_message o))

-- lapsed ledger records are gone here, and stay gone (OPEN.12)
unfoldable pub open_granted : World → Packet → Opening → Outcome
open_granted w q o = proceed w (open_placed w q o) (open_booked (with_ledger w (booked o.ticket w.ledger)) o)

unfoldable pub open_lapsed : World → Packet → Outcome
open_lapsed w q = open_granted w q (opening w q)

unfoldable pub handle_open : World → Packet → Outcome
handle_open w q = proceed w (open_admitted w q) (open_lapsed (with_ledger w (lapsed q.now w.ledger)) q)
