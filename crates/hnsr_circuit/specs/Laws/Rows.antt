-- Rows where another row stands in front, over any world: an OPEN or ACCEPT without a context is a 1 and nothing has
-- moved (OPEN.18, ACCEPT.13); an opcode from 21 on is a 16 and the clock has moved (HANDLE.3).
use Rattle.std.specs.Prelude.{ℕ, ◌≤◌, ◌≡◌, refl, true, false, eqb, ltb, length, Ok}
use Rattle.std.proofs.Common.{arith, ap, le-ltb, ne_eqb}
use Rattle.hnsr_body.specs.declared.error.HnsrInvalid.TheVariants.{ContextZero}
use Rattle.hnsr_body.specs.declared.error.HnsrProtocolError.TheVariants.{Invalid}
use Rattle.hnsr_body.specs.Packet.{most_packet, packet_size, sample_routes, packet_checked}
use Rattle.hnsr_circuit.specs.declared.answer.HnsrRuntimeError.{HnsrRuntimeError}
use Rattle.hnsr_circuit.specs.declared.answer.HnsrRuntimeError.TheVariants.{Protocol, UnexpectedOpcode}
use Rattle.hnsr_circuit.specs.Answers.{error_number, check, body_answer}
use Rattle.hnsr_circuit.specs.World.{World, Outcome, refuse, proceed, at_time}
use Rattle.hnsr_circuit.specs.Opcode.{op_open, op_accept, op_data, op_window, op_close, op_error}
use Rattle.hnsr_circuit.specs.Entry.{handle_words, room_answer, peer_answer, packet_answer, clock_answer}
use Rattle.hnsr_circuit.specs.Packet.{Packet}
use Rattle.hnsr_circuit.specs.Handle.{handling_of, dispatch, entry_answer, gate_answer, handle_gate, handle}
use Rattle.hnsr_circuit.specs.Call.{call_handle, step}

-- refused with this number, the world being this one, and without a route
pub record TurnedAway (o : Outcome) (answered : ℕ) (left : World) : Type 0 where
  pub error : HnsrRuntimeError
  pub outcome : o ≡ refuse left error
  pub number : error_number error ≡ answered

-- ---- a context of zero: 1, behind the rows of 22 and 4 and the packet's size, in front of the clock
packet-zero : (opcode context n : ℕ) → ltb most_packet (packet_size n) ≡ false → eqb opcode sample_routes ≡ false
    → context ≡ 0
    → packet_answer opcode context n ≡ check true (Protocol (Invalid ContextZero))
unfolding packet_answer packet_checked body_answer
packet-zero opcode context n small other zero = rw (small, other, zero)

pub zero-context : (w : World) (q : Packet) (room : ℕ) → room_answer w room handle_words ≡ Ok tt
    → peer_answer (length q.source) ≡ Ok tt
    → ltb most_packet (packet_size (length q.body)) ≡ false → eqb q.opcode sample_routes ≡ false → q.context ≡ 0
    → TurnedAway (step w (call_handle q room)) 1 w
unfolding step handle entry_answer proceed
zero-context w q room enough named small other zero = record {
  error = Protocol (Invalid ContextZero);
  outcome = rw (enough, named, packet-zero q.opcode q.context (length q.body) small other zero);
  number = refl;
}

-- so an OPEN (13) and an ACCEPT (15)
pub open_without_context : (w : World) (q : Packet) (room : ℕ) → room_answer w room handle_words ≡ Ok tt
    → peer_answer (length q.source) ≡ Ok tt
    → ltb most_packet (packet_size (length q.body)) ≡ false → q.opcode ≡ op_open → q.context ≡ 0
    → TurnedAway (step w (call_handle q room)) 1 w
open_without_context w q room enough named small is zero =
    zero-context w q room enough named small (ap (λ n. eqb n sample_routes) is) zero

pub accept_without_context : (w : World) (q : Packet) (room : ℕ) → room_answer w room handle_words ≡ Ok tt
    → peer_answer (length q.source) ≡ Ok tt
    → ltb most_packet (packet_size (length q.body)) ≡ false → q.opcode ≡ op_accept → q.context ≡ 0
    → TurnedAway (step w (call_handle q room)) 1 w
accept_without_context w q room enough named small is zero =
    zero-context w q room enough named small (ap (λ n. eqb n sample_routes) is) zero

-- ---- an opcode from 21 on: 16, behind entry, clock and gate; the clock has moved
pub opcode_from_21 : (w : World) (q : Packet) (room : ℕ) → entry_answer w q room ≡ Ok tt
    → w.runtime.trusted_time_high_water ≤ q.now → w.runtime.enabled ≡ true
    → 21 ≤ q.opcode → TurnedAway (step w (call_handle q room)) 16 (at_time w q.now)
unfolding step handle handle_gate gate_answer clock_answer handling_of dispatch proceed
opcode_from_21 w q room entry forward on high = record {
  error = UnexpectedOpcode;
  outcome = rw (
    entry,
    le-ltb q.now w.runtime.trusted_time_high_water forward,
    on,
    not_that op_open (omega arith),
    not_that op_accept (omega arith),
    not_that op_data (omega
        arith),
    not_that op_window (omega arith),
    not_that op_close (omega arith),
    not_that op_error (omega arith),
  );
  number = refl;
}
  where
    not_that : (n : ℕ) → n ≤ 20 → eqb q.opcode n ≡ false
    not_that n l = ne_eqb q.opcode n (λ e. omega arith)
