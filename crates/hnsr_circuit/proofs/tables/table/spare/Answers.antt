-- `position` is told by std's lemma for it, as the check does not follow a trait's test to an equation.
use Rattle.std.proofs.Common.{rules, ap, ◌∙◌, ◌≡◌, take, length, true, false, not, List}
use Rattle.std.specs.Option.{unwrap_or}
use Rattle.std.proofs.lemmas.Iterator.{IsFirst-from_position, YieldsList-from_slice}
use Rattle.hns_encoding.specs.Sums.{non}
use Rattle.hnsr_circuit.specs.Laws.Held.{spare_held}
use Rattle.hnsr_circuit.proofs.tables.table.spare.Goals as goal

pub returns : goal.returns
returns g c =
    let r = g.R.TableRecord in
    let p = non r.is_used in
    let t = c.args.rows.now in
    c.unwrap_or.ensures
    ∙ ap (λ (s : List _). unwrap_or c.position.result (length s)) c.in_use-seen.ensures
    ∙ spare_held r.unmarked p (λ a. ap not (g.met.R.TableRecord.unused a)) c.args.number t
    c.position.result
    (IsFirst-from_position _ _ _ (λ x. p x ≡ true) (λ x. p x ≡ false) c.position.ensures.ran
    (YieldsList-from_slice (take c.args.number t) cc) (λ x q k. search rules) (λ x q k. search rules))
