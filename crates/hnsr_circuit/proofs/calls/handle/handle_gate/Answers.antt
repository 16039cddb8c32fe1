-- Turned away by the gate, or gone on to the handling.
use Rattle.std.proofs.Common.{sym, ap, ◌∙◌}
use Rattle.hnsr_circuit.specs.Handle.{handling_of, dispatch, handle_gate}
use Rattle.hnsr_circuit.specs.Code.Held.{state_seen}
use Rattle.hnsr_circuit.specs.Code.Progress.{packet_of, ending}
use Rattle.hnsr_circuit.specs.Laws.Seen.{turned-seen, passed}
use Rattle.hnsr_circuit.proofs.calls.handle.handle_gate.Goals as goal

pub returns-in-Ok : goal.returns-in-Ok
unfolding handle_gate
returns-in-Ok c =
    let a = c.args in
    let w = state_seen a.state a.pending.now a.circuits.now a.ledger.now a.inflight.now in
    let q = packet_of a.packet a.source.now a.body.bytes.now a.endpoint.now a.random.now in
    c.dispatch.ensures a.source.now c.new-peer.ensures
    ∙ ap (ending a.out.now)
    (passed w _ (dispatch (handling_of q.opcode) w q) (sym c.gate_answer.ensures ∙ c.in-Ok.is))

pub returns-in-Err : goal.returns-in-Err
unfolding handle_gate
returns-in-Err c =
    let a = c.args in
    let w = state_seen a.state a.pending.now a.circuits.now a.ledger.now a.inflight.now in
    let q = packet_of a.packet a.source.now a.body.bytes.now a.endpoint.now a.random.now in
    turned-seen a.state a.pending.now a.circuits.now a.ledger.now a.inflight.now a.out.now c.refused.result
    c.in-Err.error _ (dispatch (handling_of q.opcode) w q) c.refused.ensures (sym c.gate_answer.ensures ∙ c.in-Err.is)
