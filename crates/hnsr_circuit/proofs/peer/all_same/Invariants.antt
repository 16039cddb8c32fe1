-- Whether all bytes so far are the same, and those that are left.
use Rattle.std.proofs.Common.{◌≡◌, ◌&&◌, drop}
use Rattle.hnsr_circuit.specs.Peer.{same_bytes}
use Rattle.hnsr_circuit.proofs.peer.all_same.Given as goal

abbrev pub invariant-loop-i : goal.invariant-loop-i
invariant-loop-i l = (l.same && same_bytes (drop l.i l.a) (drop l.i l.b)) ≡ same_bytes l.a l.b
