-- What endpoint, work and draws refuse is refused; else the plan is placed.
use mathlib.Core.Path.{sym, ap, ◌∙◌}
use Rattle.hnsr_circuit.specs.World.{Outcome}
use Rattle.hnsr_circuit.specs.Code.Held.{held_pending, held_circuits, held_ledger, held_actions}
use Rattle.hnsr_circuit.specs.Code.Opening.{placed_plan}
use Rattle.hnsr_circuit.specs.Code.Progress.{ending}
use Rattle.hnsr_circuit.specs.Laws.Opening.{placed-goes, lapsed_refused}
use Rattle.hnsr_circuit.proofs.messages.handle_open.open_lapsed.Goals as goal

pub returns-in-Ok : goal.returns-in-Ok
returns-in-Ok c =
    λ source body endpoint er eg.
    let a = c.args in
    let r = a.gathered.request in
    let n = r.state.places in
    let k = placed-goes r (held_pending n a.pending.now) (held_circuits n a.circuits.now) (held_ledger n a.ledger.now)
    (held_actions n a.inflight.now) source body endpoint a.random.now er c.in-Ok.plan
    (sym (λ x. placed_plan (eg x) (c.draw-drawn.ensures x)) ∙ sym c.placed_plan.ensures ∙ c.in-Ok.is) in
    c.open_placed.ensures a.circuits.now k.0 ∙ ap (λ (o : Outcome). ending a.out.now o) k.1

pub returns-in-Err : goal.returns-in-Err
returns-in-Err c =
    λ source body endpoint er eg.
    let a = c.args in
    lapsed_refused a.gathered a.pending.now a.circuits.now a.ledger.now a.inflight.now source body endpoint a.random.now
    a.out.now c.refused.result c.in-Err.error c.draw-drawn.result c.placed_plan.result er eg c.draw-drawn.ensures
    c.placed_plan.ensures c.in-Err.is c.refused.ensures
