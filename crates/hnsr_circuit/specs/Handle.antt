-- `handle`: entry, clock, gate, and then the message that the opcode names (HANDLE.1 to HANDLE.5).
use Rattle.std.specs.Prelude.{ℕ, Bool, cond, not, eqb, length}
use Rattle.hnsr_circuit.specs.declared.answer.HnsrRuntimeError.TheVariants.{Disabled, UnexpectedOpcode}
use Rattle.hnsr_circuit.specs.Answers.{HnsrAnswer, check, ◌then◌}
use Rattle.hnsr_circuit.specs.World.{World, Outcome, refuse, proceed, at_time}
use Rattle.hnsr_circuit.specs.Opcode.{op_open, op_accept, op_data, op_window, op_close, op_error}
use Rattle.hnsr_circuit.specs.Entry.{handle_words, room_answer, peer_answer, packet_answer, clock_answer}
use Rattle.hnsr_circuit.specs.Packet.{Packet}
use Rattle.hnsr_circuit.specs.Open.{handle_open}
use Rattle.hnsr_circuit.specs.Accept.{handle_accept}
use Rattle.hnsr_circuit.specs.Data.{handle_data}
use Rattle.hnsr_circuit.specs.Window.{handle_window}
use Rattle.hnsr_circuit.specs.Close.{handle_close}

-- ---- by opcode (HANDLE.4)
pub data Handling : Type 0 where
  OPEN : Handling
  ACCEPT : Handling
  DATA : Handling
  WINDOW : Handling
  CLOSE : Handling
  ERROR : Handling
  other : Handling

unfoldable pub handling_of : (opcode : ℕ) → Handling
handling_of n =
    cond (eqb n op_open) OPEN
    (cond (eqb n op_accept) ACCEPT
    (cond (eqb n op_data) DATA
    (cond (eqb n op_window) WINDOW
    (cond (eqb n op_close) CLOSE
    (cond (eqb n op_error) ERROR other)))))

-- 16 (HANDLE.3): an opcode that a relay does not take
unfoldable pub dispatch : Handling → World → Packet → Outcome
dispatch OPEN w q = handle_open w q
dispatch ACCEPT w q = handle_accept w q
dispatch DATA w q = handle_data w q
dispatch WINDOW w q = handle_window w q
dispatch CLOSE w q = handle_close w q
dispatch ERROR w q = handle_close w q
dispatch other w q = refuse w UnexpectedOpcode

-- ---- entry, clock, gate. From the clock's row on the clock has moved
unfoldable pub entry_answer : World → Packet → (room : ℕ) → HnsrAnswer
entry_answer w q room =
    room_answer w room handle_words
    then peer_answer (length q.source)
    then packet_answer q.opcode q.context (length q.body)

unfoldable pub gate_answer : (enabled : Bool) → HnsrAnswer
gate_answer enabled = check (not enabled) Disabled

unfoldable pub handle_gate : World → Packet → Outcome
handle_gate w q = proceed w (gate_answer w.runtime.enabled) (dispatch (handling_of q.opcode) w q)

unfoldable pub handle : World → Packet → (room : ℕ) → Outcome
handle w q room =
    proceed w (entry_answer w q room then clock_answer w.runtime.trusted_time_high_water q.now)
    (handle_gate (at_time w q.now) q)
