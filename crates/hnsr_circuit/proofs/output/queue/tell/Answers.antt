-- The message is queued by what the scan and the rows say.
use Rattle.std.proofs.Common.{sym, ◌∙◌}
use Rattle.hnsr_circuit.specs.Laws.Queueing.{told}
use Rattle.hnsr_circuit.proofs.output.queue.tell.Goals as goal

pub returns-in-Ok : goal.returns-in-Ok
returns-in-Ok c =
    λ p cs l.
    let a = c.args in
    told a.sending.state p cs l a.inflight.now a.message a.body.bytes.now a.scan c.requires c.in-Ok.queued
    (sym c.queue.ensures ∙ c.in-Ok.is) a.sending.position a.out.now c.write.result c.write.new.inflight
    c.write.new.out c.write.ensures
