use Rattle.std.proofs.Common.{◌≡◌, drop}
use Rattle.hns_encoding.specs.Loops.{fold_from}
use Rattle.hnsr_circuit.specs.Code.Turns.{no_work, WorkAtMost}
use Rattle.hnsr_circuit.proofs.tables.table.work.Given as goal

abbrev pub invariant-loop-row : goal.invariant-loop-row
invariant-loop-row g l =
    let turn = g.R.Worked.worked l.question in
    WorkAtMost l.row-index l.work
    × (fold_from turn (drop l.row-index l.seen) l.row-index l.work ≡ fold_from turn l.seen 0 no_work)
