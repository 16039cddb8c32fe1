-- The message that takes a circuit's packet on to the other side, as the code holds it: all but its body.
use Rattle.std.specs.Prelude.{ℕ, false, cond, not, Option, None, Some, Result, Ok, Err}
use Rattle.std.specs.Result.{result_and}
use Rattle.hnsr_circuit.specs.declared.tables.lookup.Found.{Found}
use Rattle.hnsr_circuit.specs.declared.answer.HnsrRuntimeError.{HnsrRuntimeError}
use Rattle.hnsr_circuit.specs.declared.answer.HnsrRuntimeError.TheVariants.{UnknownCircuit, WrongPeer}
use Rattle.hnsr_circuit.specs.Answers.{check}
use Rattle.hnsr_circuit.specs.declared.peer.HnsrPeerId.{HnsrPeerId}
use Rattle.hnsr_circuit.specs.declared.records.InflightKind.{InflightKind}
use Rattle.hnsr_circuit.specs.declared.records.InflightKind.TheVariants.{Data, Close}
use Rattle.hnsr_circuit.specs.declared.output.queue.Outgoing.{Outgoing}
use Rattle.hnsr_circuit.specs.declared.records.RelayCircuit.{RelayCircuit}
use Rattle.hnsr_circuit.specs.declared.runtime.RelayPacket.{RelayPacket}
use Rattle.hnsr_circuit.specs.declared.records.RelayPending.{RelayPending}
use Rattle.hnsr_circuit.specs.Peer.{same_peer}
use Rattle.hnsr_circuit.specs.Circuits.{is_side, side_of, other_side}
use Rattle.hnsr_circuit.specs.Inflight.{to_endpoint}
use Rattle.hnsr_circuit.specs.Packet.{receiver}

-- the circuit that a packet names, of which the peer is a side
abbrev pub own_circuit : Option (Found RelayCircuit) → HnsrPeerId → Result (Found RelayCircuit) HnsrRuntimeError
own_circuit None peer = Err UnknownCircuit
own_circuit (Some f) peer = result_and (check (not (is_side peer f.row)) WrongPeer) (Ok f)

-- any but a DATA
abbrev pub outgoing : HnsrPeerId → (circuit opcode context : ℕ) → InflightKind → Outgoing
outgoing destination circuit opcode context kind = record {
  destination = destination;
  circuit_id = circuit;
  opcode = opcode;
  context_id = context;
  kind = kind;
  to_endpoint = false;
  bytes = 0;
}

abbrev pub passed_on : RelayPacket → RelayCircuit → HnsrPeerId → InflightKind → Outgoing
passed_on q c peer kind = outgoing (receiver c peer) q.context_id q.opcode q.context_id kind

abbrev pub data_on : RelayPacket → RelayCircuit → HnsrPeerId → (n : ℕ) → Outgoing
data_on q c peer n = record {
  destination = receiver c peer;
  circuit_id = q.context_id;
  opcode = q.opcode;
  context_id = q.context_id;
  kind = Data;
  to_endpoint = to_endpoint (other_side (side_of peer c));
  bytes = n;
}

-- a CLOSE or ERROR about a circuit or pending record; to the other side of a pending record
abbrev pub close_on : HnsrPeerId → (circuit opcode context : ℕ) → Outgoing
close_on destination circuit opcode context = outgoing destination circuit opcode context Close

abbrev pub translated_on : (opcode : ℕ) → RelayPending → HnsrPeerId → Outgoing
translated_on opcode p peer =
    cond (same_peer p.requester peer)
    (close_on p.endpoint p.circuit_id opcode p.circuit_id)
    (close_on p.requester p.circuit_id opcode p.requester_context)
