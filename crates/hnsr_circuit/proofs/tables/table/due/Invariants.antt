use Rattle.std.proofs.Common.{◌≡◌, drop}
use Rattle.hns_encoding.specs.Loops.{fold_from}
use Rattle.hnsr_circuit.specs.NextDue.{due_turn}
use Rattle.hnsr_circuit.proofs.tables.table.due.Given as goal

abbrev pub invariant-loop-row : goal.invariant-loop-row
invariant-loop-row g l =
    let turn = due_turn g.R.TableRecord.is_used g.R.Timed.due_at in
    fold_from turn (drop l.row-index l.seen) l.row-index l.earliest ≡ fold_from turn l.seen 0 l.initial.earliest
