-- Turned away by its rows, or gone on: the actions toward the peer dropped, then its records revoked.
use Rattle.std.proofs.Common.{rules, arith, ◌<◌, [], length, ap, ◌∙◌}
use Rattle.hnsr_circuit.specs.Table.{clear}
use Rattle.hnsr_circuit.specs.Peer.{peer_of}
use Rattle.hnsr_circuit.specs.Inflight.{action_toward, clear_action}
use Rattle.hnsr_circuit.specs.declared.peer.HnsrPeerId.{HnsrPeerId}
use Rattle.hnsr_circuit.specs.declared.tables.question.Revoking.TheVariants.{Disconnected}
use Rattle.hnsr_circuit.specs.Call.{step, call_disconnect}
use Rattle.hnsr_circuit.specs.World.{with_inflight}
use Rattle.hnsr_circuit.specs.RevokingCalls.{disconnect, disconnect_peer}
use Rattle.hnsr_circuit.specs.Code.Held.{held_actions, state_seen}
use Rattle.hnsr_circuit.specs.Code.Progress.{ending}
use Rattle.hnsr_circuit.specs.Code.Revoking.{revoking_all}
use Rattle.hnsr_circuit.specs.Laws.Calls.{whole}
use Rattle.hnsr_circuit.specs.Laws.Seen.{turned-seen}
use Rattle.hnsr_circuit.specs.Laws.RevokingCalls.{entry_walks, entry_own, entry_passed, entry_refused, disconnected}
use Rattle.hnsr_circuit.proofs.calls.revoking.disconnect.Goals as goal

pub revoke_all-requires : goal.revoke_all-requires
revoke_all-requires c = let a = c.args in
    entry_own (Disconnected c.new-peer_id.result)
    (state_seen a.state a.pending.now a.circuits.now [] a.inflight.now) (length a.out.now) c.peer_answer-named.ensures
    (c.entered.ensures []) c.in-Ok.walks c.in-Ok.is

pub returns-in-Ok : goal.returns-in-Ok
unfolding step
returns-in-Ok c = λ l.
    let a = c.args in
    let w = state_seen a.state a.pending.now a.circuits.now l a.inflight.now in
    let room = length a.out.now in
    let v = Disconnected c.new-peer_id.result in
    let walks = entry_walks v w room c.peer_answer-named.ensures (c.entered.ensures l) c.in-Ok.walks c.in-Ok.is in
    let answer = entry_passed v w room c.peer_answer-named.ensures (c.entered.ensures l) c.in-Ok.walks c.in-Ok.is in
    let peer = c.new-peer_id.ensures in
    let small : room < 18446744073709551616 = search rules in
    c.revoke_all.ensures l
    ∙ (λ x. ending a.out.now (revoking_all (walks x).revoking (with_inflight w (c.clear.ensures x))))
    ∙ ap (λ (p : HnsrPeerId). ending a.out.now (revoking_all (Disconnected p)
    (with_inflight w (clear clear_action (action_toward p) (held_actions a.state.places a.inflight.now))))) peer
    ∙ ap (ending a.out.now) (disconnected w room a.peer.now answer)
    ∙ whole a.out.now w (call_disconnect a.peer.now room) (omega arith) (omega arith)

pub returns-in-Err : goal.returns-in-Err
unfolding step disconnect
returns-in-Err c = λ l.
    let a = c.args in
    let w = state_seen a.state a.pending.now a.circuits.now l a.inflight.now in
    let room = length a.out.now in
    let answer = entry_refused (Disconnected c.new-peer_id.result) w room c.peer_answer-named.ensures
    (c.entered.ensures l) c.in-Err.error c.in-Err.is in
    let small : room < 18446744073709551616 = search rules in
    turned-seen a.state a.pending.now a.circuits.now l a.inflight.now a.out.now c.refused.result c.in-Err.error _
    (disconnect_peer w (peer_of a.peer.now)) c.refused.ensures answer
    ∙ whole a.out.now w (call_disconnect a.peer.now room) (omega arith) (omega arith)
