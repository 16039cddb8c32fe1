-- What comes with a packet (HOST.3 to HOST.5), and the circuit that a packet names.
use Rattle.std.specs.Prelude.{ℕ, Bool, not, List}
use Rattle.hnsr_circuit.specs.declared.peer.HnsrPeerId.{HnsrPeerId}
use Rattle.hnsr_circuit.specs.declared.records.RelayTicket.{RelayTicket}
use Rattle.hnsr_circuit.specs.declared.records.RelayCircuit.{RelayCircuit}
use Rattle.hnsr_circuit.specs.declared.answer.HnsrRuntimeError.TheVariants.{UnknownCircuit, WrongPeer}
use Rattle.hnsr_circuit.specs.Table.{any, pick}
use Rattle.hnsr_circuit.specs.Answers.{HnsrAnswer, check, ◌then◌}
use Rattle.hnsr_circuit.specs.Peer.{peer_of}
use Rattle.hnsr_circuit.specs.Circuits.{no_circuit, circuit_at, is_side, side_of, other_side, peer_at}
use Rattle.hnsr_circuit.specs.declared.records.InflightKind.{InflightKind}
use Rattle.hnsr_circuit.specs.Queue.{Message, message}
use Rattle.hnsr_circuit.specs.World.{World}

-- HOST.5. Where it is refused the rest means nothing
pub record Admission : Type 0 where
  pub admitted : Bool
  pub endpoint : List ℕ
  pub ticket : RelayTicket

-- a packet and what comes with it: the sender's name, the clock, and with OPEN the key-valid flag, the admission and
-- random bytes
pub record Packet : Type 0 where
  pub source : List ℕ
  pub opcode : ℕ
  pub context : ℕ
  pub body : List ℕ
  pub now : ℕ
  pub key_valid : Bool
  pub admission : Admission
  pub random : List ℕ

unfoldable pub sender : Packet → HnsrPeerId
sender q = peer_of q.source

-- ---- the circuit that DATA, WINDOW, CLOSE or ERROR names
abbrev pub has_circuit : World → (id : ℕ) → Bool
has_circuit w id = any (circuit_at id) w.circuits

abbrev pub circuit_in : World → (id : ℕ) → RelayCircuit
circuit_in w id = pick (circuit_at id) no_circuit w.circuits

abbrev pub named_circuit : World → Packet → RelayCircuit
named_circuit w q = circuit_in w q.context

-- 14, 15 (DATA.2, DATA.3 and their like): no such circuit, or the sender is no side of it
unfoldable pub circuit_answer : (found : Bool) → RelayCircuit → HnsrPeerId → HnsrAnswer
circuit_answer found c peer = check (not found) UnknownCircuit then check (not (is_side peer c)) WrongPeer

-- the peer that a circuit's packet goes on to
abbrev pub receiver : RelayCircuit → HnsrPeerId → HnsrPeerId
receiver c peer = peer_at (other_side (side_of peer c)) c

-- the packet itself, on to the other side, as it came (WINDOW.8, CLOSE.12)
abbrev pub forwarded : Packet → RelayCircuit → InflightKind → Message
forwarded q c kind = message (receiver c (sender q)) q.context q.opcode q.context q.body kind
