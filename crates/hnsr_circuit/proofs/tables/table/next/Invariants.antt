use Rattle.std.proofs.Common.{◌≡◌, drop}
use Rattle.hns_encoding.specs.Loops.{fold_from}
use Rattle.hnsr_circuit.specs.Table.{next_turn, not_yet}
use Rattle.hnsr_circuit.proofs.tables.table.next.Given as goal

abbrev pub invariant-loop-place : goal.invariant-loop-place
invariant-loop-place g l =
    let turn = next_turn g.R.Numbered.id (g.Q.Question.holds l.question) l.cursor in
    fold_from turn (drop l.place l.seen) l.place l.best ≡ fold_from turn l.seen 0 not_yet
