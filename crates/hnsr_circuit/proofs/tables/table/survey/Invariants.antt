use Rattle.std.proofs.Common.{◌≡◌, ◌+◌, ◌≤◌, drop}
use Rattle.hns_encoding.specs.Loops.{fold_from}
use Rattle.hns_encoding.specs.Sums.{count}
use Rattle.hnsr_circuit.specs.Table.{not_yet, next_turn}
use Rattle.hnsr_circuit.proofs.tables.table.survey.Given as goal

abbrev pub invariant-loop-place : goal.invariant-loop-place
invariant-loop-place g l =
    let used = g.R.TableRecord.is_used in
    let turn = next_turn g.R.Numbered.id (g.Q.Question.holds l.question) not_yet in
    (l.used ≤ l.place)
    × (l.used + count used (drop l.place l.seen) ≡ count used l.seen)
    × (fold_from turn (drop l.place l.seen) l.place l.first ≡ fold_from turn l.seen 0 not_yet)
