-- CLOSE and ERROR (CLOSE.1 to CLOSE.12). A refusal behind the end leaves it ended.
use Rattle.std.specs.Prelude.{ℕ, cond, leb, Ok}
use Rattle.hnsr_body.specs.Detail.{decode_detail}
use Rattle.hnsr_circuit.specs.declared.records.RelayPending.{RelayPending}
use Rattle.hnsr_circuit.specs.declared.records.RelayCircuit.{RelayCircuit}
use Rattle.hnsr_circuit.specs.declared.answer.HnsrRuntimeError.TheVariants.{InvalidAdmission}
use Rattle.hns_encoding.specs.Sums.{count}
use Rattle.hnsr_circuit.specs.Table.{any, pick}
use Rattle.hnsr_circuit.specs.Answers.{HnsrAnswer, check, body_answer, ◌then◌}
use Rattle.hnsr_circuit.specs.Peer.{same_peer}
use Rattle.hnsr_circuit.specs.Pending.{no_pending, named_by}
use Rattle.hnsr_circuit.specs.declared.records.InflightKind.TheVariants.{Close}
use Rattle.hnsr_circuit.specs.World.{World, Outcome, proceed}
use Rattle.hnsr_circuit.specs.Queue.{Message, message, send}
use Rattle.hnsr_circuit.specs.Packet.{Packet, sender, has_circuit, named_circuit, circuit_answer, forwarded}
use Rattle.hnsr_circuit.specs.Revocation.{end_pending, end_circuit}

-- ---- rows
-- 1 (CLOSE.1): what the rule of the body refuses
unfoldable pub detail_answer : Packet → HnsrAnswer
detail_answer q = body_answer (decode_detail q.body).result

-- 11 (CLOSE.2). What is pending and named comes before a circuit (CLOSE.10); else 14, 15 (CLOSE.3, CLOSE.4)
unfoldable pub close_answer : (matches : ℕ) → (circuit : HnsrAnswer) → HnsrAnswer
close_answer matches circuit = check (leb 2 matches) InvalidAdmission then cond (leb 1 matches) (Ok tt) circuit

-- ---- CLOSE.11: each side hears the number that it knows
unfoldable pub translated : Packet → RelayPending → Message
translated q p =
    cond (same_peer p.requester (sender q))
    (message p.endpoint p.circuit_id q.opcode p.circuit_id q.body Close)
    (message p.requester p.circuit_id q.opcode p.requester_context q.body Close)

-- ---- the steps, in the order of the rows
unfoldable pub close_taken : World → Packet → HnsrAnswer
close_taken w q =
    detail_answer q
    then close_answer (count (named_by (sender q) q.context) w.pending)
    (circuit_answer (has_circuit w q.context) (named_circuit w q) (sender q))

unfoldable pub close_pending : World → Packet → RelayPending → Outcome
close_pending w q p = send (end_pending w (named_by (sender q) q.context) p.circuit_id) (translated q p)

unfoldable pub close_circuit : World → Packet → RelayCircuit → Outcome
close_circuit w q c = send (end_circuit w q.context) (forwarded q c Close)

unfoldable pub handle_close : World → Packet → Outcome
handle_close w q =
    proceed w (close_taken w q)
    (cond (any (named_by (sender q) q.context) w.pending)
    (close_pending w q (pick (named_by (sender q) q.context) no_pending w.pending))
    (close_circuit w q (named_circuit w q)))
