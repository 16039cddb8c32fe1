-- The rows in front of calls (ENTRY.1 to ENTRY.4), and how many output words a call needs (OUT.8).
use Rattle.std.specs.Prelude.{ℕ, ◌+◌, ◌*◌, Bool, not, ◌||◌, ltb, length}
use Rattle.hnsr_body.specs.Messages.{notice_size}
use Rattle.hnsr_body.specs.Packet.{packet_checked}
use Rattle.hnsr_body.specs.Data.{most_data}
use Rattle.hnsr_circuit.specs.declared.config.OpaqueRelayConfig.{OpaqueRelayConfig}
use Rattle.hnsr_circuit.specs.declared.answer.HnsrRuntimeError.TheVariants.{InvalidPeer, ClockRollback, Short}
use Rattle.hnsr_circuit.specs.Answers.{HnsrAnswer, check, body_answer}
use Rattle.hnsr_circuit.specs.Peer.{peer_good}
use Rattle.hns_encoding.specs.Words.{word_count}
use Rattle.hnsr_circuit.specs.Route.{head_words}
use Rattle.hnsr_circuit.specs.Counts.{pending_count, circuit_count}
use Rattle.hnsr_circuit.specs.World.{World, config_of}

-- ---- words needed: `handle` one route with the longest DATA, acknowledge and each revoked record two with the longest
-- notice
abbrev pub handle_words : ℕ
handle_words = head_words + word_count most_data

abbrev pub closing_words : ℕ
closing_words = 2 * (head_words + word_count notice_size)

abbrev pub acknowledge_words : ℕ
acknowledge_words = closing_words

-- for each used record, as lent
abbrev pub revoking_words : World → ℕ
revoking_words w = closing_words * (pending_count w + circuit_count w)

-- ---- 22 (ENTRY.1); the ledger has no maximum (ENTRY.6)
unfoldable pub too_few : OpaqueRelayConfig → (pending circuits inflight : ℕ) → Bool
too_few c pending circuits inflight =
    ltb pending c.maximum_pending || ltb circuits c.maximum_circuits
    || ltb inflight c.maximum_inflight_actions

unfoldable pub tables_short : OpaqueRelayConfig → World → Bool
tables_short c w = too_few c (length w.pending) (length w.circuits) (length w.inflight)

unfoldable pub tables_answer : World → HnsrAnswer
tables_answer w = check (tables_short (config_of w) w) Short

unfoldable pub room_answer : World → (room needed : ℕ) → HnsrAnswer
room_answer w room needed = check (ltb room needed || tables_short (config_of w) w) Short

-- ---- 4 (ENTRY.2), and for OPEN's endpoint (OPEN.4)
unfoldable pub peer_answer : (length : ℕ) → HnsrAnswer
peer_answer n = check (not (peer_good n)) InvalidPeer

-- ---- 1 (ENTRY.3): what the packet rule refuses
unfoldable pub packet_answer : (opcode context length : ℕ) → HnsrAnswer
packet_answer opcode context n = body_answer (packet_checked opcode context n)

-- ---- 7 (ENTRY.4): the time goes back
unfoldable pub clock_answer : (high_water now : ℕ) → HnsrAnswer
clock_answer high_water now = check (ltb now high_water) ClockRollback
