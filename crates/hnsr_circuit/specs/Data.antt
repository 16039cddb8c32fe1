-- DATA (DATA.1 to DATA.12). The circuit's expiry is not asked (DATA.11). If it is refused with 6, its charges stay
-- (DATA.8).
use Rattle.std.specs.Prelude.{ℕ, Bool, false, not, ◌||◌, ltb, length}
use Rattle.hns_encoding.specs.Numbers.{saturating_add}
use Rattle.hnsr_body.specs.declared.values.ReservationId.{ReservationId}
use Rattle.hnsr_body.specs.Data.{data_checked}
use Rattle.hnsr_circuit.specs.declared.config.OpaqueRelayConfig.{OpaqueRelayConfig}
use Rattle.hnsr_circuit.specs.declared.records.RelayCircuit.{RelayCircuit}
use Rattle.hnsr_circuit.specs.declared.records.RelaySide.{RelaySide}
use Rattle.hnsr_circuit.specs.declared.records.ReservationUsage.{ReservationUsage}
use Rattle.hnsr_circuit.specs.declared.answer.HnsrRuntimeError.TheVariants.{InvalidAdmission}
use Rattle.hnsr_circuit.specs.declared.answer.HnsrRuntimeError.TheVariants.{FlowControl, ByteLimit}
use Rattle.hnsr_circuit.specs.Table.{edit}
use Rattle.hnsr_circuit.specs.Answers.{HnsrAnswer, check, body_answer, ◌then◌}
use Rattle.hnsr_circuit.specs.Circuits.{circuit_at, side_of, other_side, credit_of, queued_to, charged}
use Rattle.hnsr_circuit.specs.Ledger.{usage_at, has_usage, usage_of, spent}
use Rattle.hnsr_circuit.specs.declared.records.InflightKind.TheVariants.{Data}
use Rattle.hnsr_circuit.specs.Inflight.{to_endpoint, tallied, capacity_answer}
use Rattle.hnsr_circuit.specs.Runtime.{count_bytes}
use Rattle.hnsr_circuit.specs.World.{World, Outcome, config_of, proceed, with_circuits, with_ledger, counting}
use Rattle.hnsr_circuit.specs.Queue.{Message, send}
use Rattle.hnsr_circuit.specs.Packet.{Packet, sender, has_circuit, named_circuit, circuit_answer, receiver}

-- ---- rows
-- 11, 18 (DATA.5, DATA.6): no such reservation, or it or the circuit has too few bytes left
unfoldable pub bytes_answer : (found : Bool) → ReservationUsage → RelayCircuit → (n : ℕ) → HnsrAnswer
bytes_answer found u c n =
    check (not found) InvalidAdmission
    then check
    (ltb c.maximum_bytes (saturating_add 64 c.forwarded_bytes n)
    || ltb c.maximum_total_bytes (saturating_add 64 u.bytes n)) ByteLimit

-- 17 (DATA.7): more than the sender's credit, or more than the queue still takes
unfoldable pub flow_answer : OpaqueRelayConfig → RelayCircuit → RelaySide → (n : ℕ) → HnsrAnswer
flow_answer k c side n =
    check (ltb (credit_of side c) n || ltb k.maximum_queue_bytes (saturating_add 64 (queued_to (other_side side) c) n))
    FlowControl

-- ---- what is written: both records and the byte counters charged
unfoldable pub with_data : World → (id : ℕ) → ReservationId → RelaySide → (n : ℕ) → World
with_data w id reservation side n =
    counting (count_bytes n)
    (with_ledger (with_circuits w (edit (circuit_at id) (charged side n) w.circuits))
    (edit (usage_at reservation) (spent n) w.ledger))

-- the packet itself, on to the other side
unfoldable pub data_message : Packet → RelayCircuit → RelaySide → (n : ℕ) → Message
data_message q c side n = record {
  destination = receiver c (sender q);
  circuit = q.context;
  opcode = q.opcode;
  context = q.context;
  body = q.body;
  kind = Data;
  to_endpoint = to_endpoint (other_side side);
  bytes = n;
}

-- ---- the steps, in the order of the rows
unfoldable pub data_taken : World → Packet → RelayCircuit → RelaySide → (n : ℕ) → HnsrAnswer
data_taken w q c side n =
    body_answer (data_checked (length q.body))
    then circuit_answer (has_circuit w q.context) c (sender q)
    then capacity_answer (config_of w) (tallied false q.context (receiver c (sender q)) w.inflight)
    then bytes_answer (has_usage c.reservation_id w.ledger) (usage_of c.reservation_id w.ledger) c n
    then flow_answer (config_of w) c side n

unfoldable pub data_with : World → Packet → RelayCircuit → RelaySide → (n : ℕ) → Outcome
data_with w q c side n =
    proceed w (data_taken w q c side n)
    (send (with_data w q.context c.reservation_id side n) (data_message q c side n))

unfoldable pub handle_data : World → Packet → Outcome
handle_data w q = data_with w q (named_circuit w q) (side_of (sender q) (named_circuit w q)) (length q.body)
