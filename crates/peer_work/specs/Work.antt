-- A peer's work: the pending records and the circuits that it is a side of. The one contract of all ways of counting.
use Rattle.std.specs.Prelude.{ℕ, List, count_by}
use Rattle.hns_encoding.specs.Numbers.{saturating_add}
use Rattle.hnsr_circuit.specs.declared.peer.HnsrPeerId.{HnsrPeerId}
use Rattle.hnsr_circuit.specs.declared.records.RelayCircuit.{RelayCircuit}
use Rattle.hnsr_circuit.specs.declared.records.RelayPending.{RelayPending}
use Rattle.hnsr_circuit.specs.Circuits.{circuit_of}
use Rattle.hnsr_circuit.specs.Pending.{pending_of}

abbrev pub work_of : HnsrPeerId → List RelayPending → List RelayCircuit → ℕ
work_of peer pending circuits =
    saturating_add 64 (count_by (pending_of peer) pending) (count_by (circuit_of peer) circuits)
