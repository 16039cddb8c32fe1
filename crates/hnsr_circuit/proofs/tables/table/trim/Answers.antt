-- `position` from the end on is told by std's lemma for it.
use Rattle.std.proofs.Common.{rules, ◌∙◌, ◌≡◌, ◌-◌, take, length, true, false}
use Rattle.std.specs.Option.{unwrap_or}
use Rattle.std.proofs.lemmas.Iterator.{IsFirst-from_position}
use Rattle.std.proofs.lemmas.Iterator.Adapters.{YieldsList-from_rev_slice}
use Rattle.hnsr_circuit.specs.Code.Held.{held}
use Rattle.hnsr_circuit.specs.Laws.Held.{lowered}
use Rattle.hnsr_circuit.proofs.tables.table.trim.Goals as goal

pub returns : goal.returns
returns g c =
    let r = g.R.TableRecord in
    let t = c.args.rows.now in
    let p = r.is_used in
    let seen = c.in_use-seen.ensures in
    let unused = c.position-unused.result in
    (λ i. held r.unmarked (length (seen i) - c.unwrap_or.ensures i) t)
    ∙ (λ i. held r.unmarked (length (take c.args.number t) - unwrap_or unused (length (seen i))) t)
    ∙ lowered r.unmarked p g.met.R.TableRecord.still c.args.number t unused
    (IsFirst-from_position _ _ _ (λ x. p x ≡ true) (λ x. p x ≡ false) c.position-unused.ensures.ran
    (YieldsList-from_rev_slice (take c.args.number t) cc) (λ x q k. search rules) (λ x q k. search rules))
