-- The action removed, its queue lowered, and then settled.
use Rattle.std.proofs.Common.{ap, ◌∙◌}
use Rattle.hnsr_circuit.specs.Code.Progress.{ending}
use Rattle.hnsr_circuit.specs.Laws.Acknowledging.{action-settled}
use Rattle.hnsr_circuit.specs.Code.Held.{held_pending, held_circuits, held_ledger, held_actions}
use Rattle.hnsr_circuit.proofs.calls.acknowledge.acknowledge_action.Goals as goal

pub returns : goal.returns
returns c =
    λ l₀ g n ef.
    let a = c.args in
    let s = a.state in
    c.settle.ensures l₀
    ∙ ap (ending a.out.now)
    (action-settled s.runtime (held_pending s.places a.pending.now) (held_circuits s.places a.circuits.now)
    (held_ledger s.places l₀) (held_actions s.places a.inflight.now) g n a.delivered _ _ a.found ef
    c.unmark.ensures.seen c.lower_for.ensures)
