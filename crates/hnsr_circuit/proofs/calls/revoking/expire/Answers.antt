-- Turned away by its rows, or gone on: the clock moved, ledger records dropped, then what is over revoked.
use Rattle.std.proofs.Common.{rules, arith, ◌<◌, length, sym, ap, ◌∙◌}
use Rattle.hnsr_circuit.specs.declared.tables.question.Revoking.TheVariants.{Expired}
use Rattle.hnsr_circuit.specs.Call.{step, call_expire}
use Rattle.hnsr_circuit.specs.Runtime.{with_clock}
use Rattle.hnsr_circuit.specs.World.{world_of}
use Rattle.hnsr_circuit.specs.RevokingCalls.{expire, expire_at}
use Rattle.hnsr_circuit.specs.Code.Held.{held_pending, held_circuits, world_seen, state_seen}
use Rattle.hnsr_circuit.specs.Code.Progress.{ending}
use Rattle.hnsr_circuit.specs.Code.Revoking.{walks_of, revoking_all}
use Rattle.hnsr_circuit.specs.Laws.Calls.{whole}
use Rattle.hnsr_circuit.specs.Laws.Seen.{turned-seen}
use Rattle.hnsr_circuit.specs.Laws.RevokingCalls.{entry_walks, entry_own, entry_passed, entry_refused, expired}
use Rattle.hnsr_circuit.proofs.calls.revoking.expire.Goals as goal

pub returns-in-Ok : goal.returns-in-Ok
unfolding step
returns-in-Ok c =
    let a = c.args in
    let w = state_seen a.state a.pending.now a.circuits.now a.ledger.now a.inflight.now in
    let room = length a.out.now in
    let v = Expired a.time in
    let walks = entry_walks v w room c.clock_answer-clock.ensures (c.entered.ensures a.ledger.now) c.in-Ok.walks
    c.in-Ok.is in
    let answer =
    entry_passed v w room c.clock_answer-clock.ensures (c.entered.ensures a.ledger.now) c.in-Ok.walks c.in-Ok.is in
    let runtime = c.with_runtime-moved.ensures.0 ∙ c.with_clock.ensures in
    let places = c.with_runtime-moved.ensures.1 in
    let small : room < 18446744073709551616 = search rules in
    c.revoke_all.ensures c.drop_lapsed.new.ledger
    ∙ (λ x. ending a.out.now (revoking_all (walks x).revoking
    (world_seen (runtime x) (places x) a.pending.now a.circuits.now c.drop_lapsed.new.ledger a.inflight.now)))
    ∙ (λ x. ending a.out.now (revoking_all v
    (world_of (with_clock a.state.runtime a.time) w.pending w.circuits (c.drop_lapsed.ensures x) w.inflight)))
    ∙ ap (ending a.out.now) (expired w room a.time answer)
    ∙ whole a.out.now w (call_expire a.time room) (omega arith) (omega arith)

pub revoke_all-requires : goal.revoke_all-requires
revoke_all-requires c = let a = c.args in
    entry_own (Expired a.time) (state_seen a.state a.pending.now a.circuits.now a.ledger.now a.inflight.now)
    (length a.out.now) c.clock_answer-clock.ensures (c.entered.ensures a.ledger.now) c.in-Ok.walks c.in-Ok.is
    ∙ (λ x. walks_of c.in-Ok.walks.revoking (held_pending (sym c.with_runtime-moved.ensures.1 x) a.pending.now)
    (held_circuits (sym c.with_runtime-moved.ensures.1 x) a.circuits.now))

pub returns-in-Err : goal.returns-in-Err
unfolding step expire
returns-in-Err c =
    let a = c.args in
    let w = state_seen a.state a.pending.now a.circuits.now a.ledger.now a.inflight.now in
    let room = length a.out.now in
    let answer = entry_refused (Expired a.time) w room c.clock_answer-clock.ensures (c.entered.ensures a.ledger.now)
    c.in-Err.error c.in-Err.is in
    let small : room < 18446744073709551616 = search rules in
    turned-seen a.state a.pending.now a.circuits.now a.ledger.now a.inflight.now a.out.now c.refused.result
    c.in-Err.error _ (expire_at w a.time) c.refused.ensures answer
    ∙ whole a.out.now w (call_expire a.time room) (omega arith) (omega arith)
