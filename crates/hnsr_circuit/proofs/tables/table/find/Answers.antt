-- `position` is told by std's lemma for it, as the check does not follow a trait's test to an equation of options.
use Rattle.std.proofs.Common.{rules, ◌≡◌, take, true, false}
use Rattle.std.proofs.lemmas.Iterator.{IsFirst-from_position, YieldsList-from_slice}
use Rattle.hnsr_circuit.specs.Laws.Held.{found_held, found_within}
use Rattle.hnsr_circuit.proofs.tables.table.find.Goals as goal

pub returns : goal.returns
returns g c =
    let r = g.R.TableRecord in
    let p = g.Q.Question.holds c.args.question.now in
    let t = c.args.rows.now in
    let off = g.met.Q.Question.of_used c.args.question.now in
    let found = found_held r.unmarked p off c.args.number t
    c.position.result
    (IsFirst-from_position _ _ _ (λ x. p x ≡ true) (λ x. p x ≡ false) c.position.ensures.ran
    (YieldsList-from_slice (take c.args.number t) cc) (λ x q k. search rules) (λ x q k. search rules)) in
    record { found = found; within = found_within r.unmarked p off c.args.number t c.position.result found }
