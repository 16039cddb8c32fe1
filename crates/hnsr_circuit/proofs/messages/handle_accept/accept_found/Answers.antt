-- What the records refuse is refused; else the tables are the definition's, and OPENED is sent.
use mathlib.Core.Path.{sym, ap, ◌∙◌}
use Rattle.hnsr_circuit.specs.World.{Outcome}
use Rattle.hnsr_circuit.specs.Code.Held.{held_pending, held_circuits, held_ledger, held_actions}
use Rattle.hnsr_circuit.specs.Code.Progress.{ending}
use Rattle.hnsr_circuit.specs.Laws.Opening.{named-goes}
use Rattle.hnsr_circuit.proofs.messages.handle_accept.accept_found.Goals as goal

pub returns-in-Ok : goal.returns-in-Ok
returns-in-Ok c =
    λ l₀ k.
    let a = c.args in
    let r = a.request in
    let n = r.state.places in
    c.send.ensures c.unmark.new.rows c.put_circuit-number.new.circuits l₀
    ∙ rw (c.accepted.ensures, c.opened_out-message.ensures, c.to_bytes.ensures, c.opened_for.ensures)
    (ap (λ (o : Outcome). ending a.out.now o)
    (named-goes r.state.runtime (held_pending n a.pending.now) (held_circuits n a.circuits.now) (held_ledger n l₀)
    (held_actions n a.inflight.now) r.packet.context_id a.found a.body _ _ _ k
    (sym c.accept_answered.ensures ∙ c.in-Ok.is) c.unmark.ensures.seen
    (rw c.circuit_for-circuit.ensures at c.put_circuit-number.ensures) c.drop_and_scan-scan.ensures.0))
