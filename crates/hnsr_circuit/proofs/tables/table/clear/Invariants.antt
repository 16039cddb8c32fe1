use Rattle.std.proofs.Common.{◌≡◌, take, drop, ◌++◌}
use Rattle.hnsr_circuit.specs.Table.{clear}
use Rattle.hnsr_circuit.proofs.tables.table.clear.Given as goal

abbrev pub invariant-loop-row : goal.invariant-loop-row
invariant-loop-row g l =
    let unmark = g.R.TableRecord.unmarked in
    let p = g.Q.Question.holds l.question in
    take l.row-index l.row-items ++ clear unmark p (drop l.row-index l.row-items)
    ≡ clear unmark p l.initial.row-items
