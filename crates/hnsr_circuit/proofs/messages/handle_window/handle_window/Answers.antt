-- What is raised and sent by the plan is what the definition leaves.
use Rattle.hnsr_circuit.specs.Laws.Handlers.{window_sent}
use Rattle.hnsr_circuit.proofs.messages.handle_window.handle_window.Goals as goal

pub returns-in-Ok : goal.returns-in-Ok
returns-in-Ok c =
    λ p l source e rs en.
    window_sent c.args.request c.args.circuits.now c.args.inflight.now c.args.body.bytes.now c.plan_window.result
    c.plan_window.ensures c.in-Ok.plan c.in-Ok.is p l _ _ source e rs _ _ _ en c.raise_circuit.ensures c.send.ensures
