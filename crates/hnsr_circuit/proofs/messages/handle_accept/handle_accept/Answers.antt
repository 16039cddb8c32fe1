-- What the packet and its pending record refuse is refused; else the records decide.
use mathlib.Core.Path.{sym, ap, ◌∙◌}
use Rattle.hnsr_circuit.specs.World.{Outcome}
use Rattle.hnsr_circuit.specs.Code.Held.{held_pending, held_circuits, held_ledger, held_actions}
use Rattle.hnsr_circuit.specs.Code.Opening.{accept_entry}
use Rattle.hnsr_circuit.specs.Code.Progress.{ending}
use Rattle.hnsr_circuit.specs.Laws.Opening.{entry-found}
use Rattle.hnsr_circuit.proofs.messages.handle_accept.handle_accept.Goals as goal

pub returns-in-Ok : goal.returns-in-Ok
returns-in-Ok c =
    λ l₀ source e rs en.
    let a = c.args in
    let r = a.request in
    let n = r.state.places in
    let k = entry-found r.state.runtime (held_pending n a.pending.now) (held_circuits n a.circuits.now)
    (held_ledger n l₀) (held_actions n a.inflight.now) r.packet source a.body.now e rs c.in-Ok.found
    (sym (λ x. accept_entry (c.look_up-named.ensures x) (en x) r.packet.now (c.decode-read.ensures x))
    ∙ sym c.accept_entry.ensures ∙ c.in-Ok.is) in
    c.accept_found.ensures l₀ k.0
    ∙ rw c.decode-read.ensures (ap (λ (o : Outcome). ending a.out.now o) k.1)
