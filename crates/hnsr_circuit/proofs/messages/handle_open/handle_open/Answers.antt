-- What the tables as lent refuse is refused; else lapsed ledger records are dropped, and the second stage follows, to
-- which it is known whether the first draw is taken.
use mathlib.Core.Path.{sym, ap, ◌∙◌}
use Rattle.hnsr_circuit.specs.declared.messages.open.OpenGathered.{OpenGathered}
use Rattle.hnsr_circuit.specs.World.{Outcome}
use Rattle.hnsr_circuit.specs.declared.runtime.Request.{Request}
use Rattle.hnsr_circuit.specs.Open.{open_lapsed}
use Rattle.hnsr_circuit.specs.Code.Held.{held_pending, held_circuits, held_ledger, held_actions, world_given}
use Rattle.hnsr_circuit.specs.Code.Opening.{gathering, open_rows}
use Rattle.hnsr_circuit.specs.Code.Progress.{packet_of, ending}
use Rattle.hnsr_circuit.specs.Laws.Opening.{first_known, open-goes, open_refused}
use Rattle.hnsr_circuit.proofs.messages.handle_open.handle_open.Goals as goal

pub open_lapsed-requires : goal.open_lapsed-requires
open_lapsed-requires c =
    let a = c.args in
    let n = a.request.state.places in
    rw c.gather-gathered.ensures
    (first_known a.request (held_pending n a.pending.now) (held_circuits n a.circuits.now) a.body.now a.endpoint.now
    a.random.now)

pub returns-in-Ok : goal.returns-in-Ok
returns-in-Ok c =
    λ source er.
    let a = c.args in
    let r = a.request in
    let n = r.state.places in
    let p = a.pending.now in
    let cs = a.circuits.now in
    let same = ap (λ (g : OpenGathered). g.request) c.gather-gathered.ensures in
    c.open_lapsed.ensures source a.body.now a.endpoint.now (ap (λ (x : Request). x.peer) same ∙ er)
    (c.gather-gathered.ensures
    ∙ ap (λ (x : Request). gathering x a.body.now a.endpoint.now a.random.now (held_pending x.state.places p)
    (held_circuits x.state.places cs)) (sym same))
    ∙ ap (λ (x : Request). ending a.out.now
    (open_lapsed (world_given x p cs c.drop_lapsed.new.ledger a.inflight.now)
    (packet_of x.packet source a.body.now a.endpoint.now a.random.now))) same
    ∙ rw c.drop_lapsed.ensures
    (ap (λ (o : Outcome). ending a.out.now o)
    (open-goes r (held_pending n p) (held_circuits n cs) (held_ledger n a.ledger.now) (held_actions n a.inflight.now)
    source a.body.now a.endpoint.now a.random.now er
    (sym (ap (λ (y : OpenGathered). open_rows y) c.gather-gathered.ensures) ∙ sym c.open_rows.ensures ∙ c.in-Ok.is)))

pub returns-in-Err : goal.returns-in-Err
returns-in-Err c =
    λ source er.
    let a = c.args in
    open_refused a.request a.pending.now a.circuits.now a.ledger.now a.inflight.now source a.body.now a.endpoint.now
    a.random.now a.out.now c.refused.result c.in-Err.error c.gather-gathered.result c.open_rows.result er
    c.gather-gathered.ensures c.open_rows.ensures c.in-Err.is c.refused.ensures
