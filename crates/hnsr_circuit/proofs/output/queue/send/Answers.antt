-- The message is queued by what the scan and the rows say, and ends the call that begins with it.
use Rattle.std.proofs.Common.{sym, subst₂, refl, ◌∙◌, ℕ}
use Rattle.hnsr_circuit.specs.declared.runtime.RelayState.{RelayState}
use Rattle.hnsr_circuit.specs.Code.Queueing.{Written}
use Rattle.hnsr_circuit.specs.Laws.Queueing.{ended}
use Rattle.hnsr_circuit.proofs.output.queue.send.Goals as goal

pub returns-in-Ok : goal.returns-in-Ok
returns-in-Ok c =
    λ p cs l.
    let a = c.args in
    let q = c.in-Ok.queued in
    let i' = c.write.new.inflight in
    let out' = c.write.new.out in
    ended a.state p cs l a.inflight.now a.message a.body.bytes.now a.scan c.requires q
    (sym c.queue.ensures ∙ c.in-Ok.is) 0 a.out.now c.write.result i' out'
    (subst₂ (λ (s : RelayState) (n : ℕ).
    Written a.message a.body.bytes.now q s n a.inflight.now a.out.now c.write.result i' out')
    c.start.ensures.0 c.start.ensures.1 c.write.ensures)
    c.finish.result c.finish.ensures refl
