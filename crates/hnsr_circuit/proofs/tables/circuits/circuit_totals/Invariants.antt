use Rattle.std.proofs.Common.{◌≡◌, ◌≤◌, drop}
use Rattle.hns_encoding.specs.Loops.{fold_from}
use Rattle.hns_encoding.specs.Numbers.{top}
use Rattle.hnsr_circuit.specs.Code.Turns.{no_totals, totalled}
use Rattle.hnsr_circuit.proofs.tables.circuits.circuit_totals.Given as goal

abbrev pub invariant-loop-row : goal.invariant-loop-row
invariant-loop-row l =
    (l.totals.used ≤ l.row-index)
    × (l.totals.queued_bytes ≤ top 64)
    × (fold_from totalled (drop l.row-index l.seen) l.row-index l.totals ≡ fold_from totalled l.seen 0 no_totals)
