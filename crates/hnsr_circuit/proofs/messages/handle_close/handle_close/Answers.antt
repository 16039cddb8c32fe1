-- What is ended, dropped and sent is what the definition leaves.
use Rattle.hnsr_circuit.specs.Laws.Handlers.{close_sent}
use Rattle.hnsr_circuit.proofs.messages.handle_close.handle_close.Goals as goal

pub returns-in-Ok : goal.returns-in-Ok
returns-in-Ok c =
    λ l source e rs en.
    close_sent c.args.request c.args.pending.now c.close.new.pending c.args.circuits.now c.close.new.circuits
    c.args.body.bytes.now c.close.result c.close.ensures l c.args.inflight.now _ _ source e rs _ _ _ c.in-Ok.message
    c.revoked.result c.with_runtime-counted.result en c.in-Ok.is c.revoked.ensures c.with_runtime-counted.ensures
    c.drop_and_scan-scan.ensures.0 c.send.ensures
