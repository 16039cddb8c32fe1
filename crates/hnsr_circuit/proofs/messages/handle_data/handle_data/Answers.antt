-- What is charged and sent by the plan is what the definition leaves.
use Rattle.hnsr_circuit.specs.Laws.Handlers.{data_sent}
use Rattle.hnsr_circuit.proofs.messages.handle_data.handle_data.Goals as goal

pub returns-in-Ok : goal.returns-in-Ok
returns-in-Ok c =
    λ p source e rs en.
    data_sent c.args.request c.args.circuits.now c.args.ledger.now c.args.inflight.now c.length-n.result
    c.plan_data.result c.plan_data.ensures c.in-Ok.plan c.transferred.result c.with_runtime-counted.result
    c.from-bytes.result c.in-Ok.is c.transferred.ensures c.with_runtime-counted.ensures p _ _ _ source _ e rs _ _ _ _ en
    c.length-n.ensures c.from.ensures c.from-bytes.ensures c.charge_circuit.ensures c.spend.ensures c.send.ensures
