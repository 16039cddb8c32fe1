use Rattle.std.proofs.Common.{arith, ap, Bool, cond, ◌+◌, ◌∙◌}
use Rattle.hnsr_circuit.specs.Table.{not_yet, next_turn, next}
use Rattle.hnsr_circuit.specs.Laws.Held.{fold_seen, count_seen, next-idle}
use Rattle.hnsr_circuit.specs.Laws.Scans.{count_turn, fold_turn}
use Rattle.hnsr_circuit.proofs.tables.table.survey.Goals as goal

pub loop-place-preserved : goal.loop-place-preserved
loop-place-preserved g c =
    let a = c.args in
    let r = g.R.TableRecord in
    let l = c.loop-place in
    let row = c.index-seen-place in
    let seen = c.in_use-seen.result.now in (
      omega (arith, c.one_more-used.ensures.more),
      count_turn seen l.place row.result c.loop-place-test.true row.is r.is_used _ l.used _
          (c.one_more-used.ensures.counted (omega arith)
          ∙ ap (λ (b : Bool). l.used + cond b 1 0) c.is_used.ensures)
          l.invariant.1,
      fold_turn seen l.place row.result c.loop-place-test.true row.is
          (next_turn g.R.Numbered.id (g.Q.Question.holds a.question.now) not_yet) l.first c.next_turn-first.result _
          c.next_turn-first.ensures l.invariant.2,
    )

pub returns : goal.returns
unfolding next
returns g c =
    let a = c.args in
    let l = c.loop-place in
    let r = g.R.TableRecord in
    let p = g.Q.Question.holds a.question.now in
    let seen = c.in_use-seen.result.now in (
      count_seen r.unmarked r.is_used g.met.R.TableRecord.unused a.number a.rows.now seen l.place l.used
          c.in_use-seen.ensures c.loop-place-test.false l.invariant.1,
      fold_seen r.unmarked (next_turn g.R.Numbered.id p not_yet)
          (next-idle r.unmarked g.R.Numbered.id p (g.met.Q.Question.of_used a.question.now) not_yet)
          a.number a.rows.now seen l.place l.first _ c.in_use-seen.ensures c.loop-place-test.false l.invariant.2,
    )
