-- `filter` and `count` are told by std's lemmas for them.
use Rattle.std.proofs.Common.{rules, ◌∙◌, take}
use Rattle.std.proofs.lemmas.Iterator.{YieldsList-from_slice}
use Rattle.std.proofs.lemmas.Iterator.Consumers.{YieldsList-from_filter, count_from_yields_List}
use Rattle.hnsr_circuit.specs.Laws.Held.{count_held}
use Rattle.hnsr_circuit.proofs.tables.table.count.Goals as goal

pub returns : goal.returns
returns g c =
    let p = g.Q.Question.holds c.args.question.now in
    let t = c.args.rows.now in
    count_from_yields_List c.filter.result c.count.result c.count.ensures.ran
    (YieldsList-from_filter _ p (YieldsList-from_slice (take c.args.number t) cc) c.filter.ensures.closure
    (λ x r q k. search rules))
    ∙ count_held g.R.TableRecord.unmarked p (g.met.Q.Question.of_used c.args.question.now) c.args.number t
