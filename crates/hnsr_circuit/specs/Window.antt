-- WINDOW (WINDOW.1 to WINDOW.8). If it is refused with 6, the credit stays raised (WINDOW.6).
use Rattle.std.specs.Prelude.{ℕ, ◌+◌, false, ltb}
use Rattle.hnsr_body.specs.Data.{decode_window, window_fields}
use Rattle.hnsr_body.specs.Values.{most_window}
use Rattle.hnsr_circuit.specs.declared.records.RelayCircuit.{RelayCircuit}
use Rattle.hnsr_circuit.specs.declared.records.RelaySide.{RelaySide}
use Rattle.hnsr_circuit.specs.declared.answer.HnsrRuntimeError.TheVariants.{FlowControl}
use Rattle.hnsr_circuit.specs.Table.{edit}
use Rattle.hnsr_circuit.specs.Answers.{HnsrAnswer, check, body_answer, ◌then◌}
use Rattle.hnsr_circuit.specs.Circuits.{circuit_at, side_of, other_side, credit_of, raised}
use Rattle.hnsr_circuit.specs.declared.records.InflightKind.TheVariants.{Control}
use Rattle.hnsr_circuit.specs.Inflight.{tallied, capacity_answer}
use Rattle.hnsr_circuit.specs.World.{World, Outcome, config_of, proceed, with_circuits}
use Rattle.hnsr_circuit.specs.Queue.{send}
use Rattle.hnsr_circuit.specs.Packet.{Packet, sender, has_circuit, named_circuit}
use Rattle.hnsr_circuit.specs.Packet.{circuit_answer, receiver, forwarded}

-- 17 (WINDOW.5): the credit would get too large
unfoldable pub credit_answer : RelayCircuit → RelaySide → (delta : ℕ) → HnsrAnswer
credit_answer c side delta = check (ltb most_window (credit_of (other_side side) c + delta)) FlowControl

unfoldable pub with_window : World → (id : ℕ) → RelaySide → (delta : ℕ) → World
with_window w id side delta = with_circuits w (edit (circuit_at id) (raised side delta) w.circuits)

-- ---- the steps, in the order of the rows
unfoldable pub window_taken : World → Packet → RelayCircuit → RelaySide → (delta : ℕ) → HnsrAnswer
window_taken w q c side delta =
    body_answer (decode_window q.body).result
    then circuit_answer (has_circuit w q.context) c (sender q)
    then capacity_answer (config_of w) (tallied false q.context (receiver c (sender q)) w.inflight)
    then credit_answer c side delta

unfoldable pub window_with : World → Packet → RelayCircuit → RelaySide → (delta : ℕ) → Outcome
window_with w q c side delta =
    proceed w (window_taken w q c side delta) (send (with_window w q.context side delta) (forwarded q c Control))

unfoldable pub handle_window : World → Packet → Outcome
handle_window w q =
    window_with w q (named_circuit w q) (side_of (sender q) (named_circuit w q)) (window_fields q.body).credit_delta
