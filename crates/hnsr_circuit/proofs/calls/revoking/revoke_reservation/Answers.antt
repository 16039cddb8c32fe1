-- Turned away by its room, or gone on: the ledger record dropped, then what is under the id revoked.
use Rattle.std.proofs.Common.{rules, arith, ◌<◌, Ok, length, sym, ◌∙◌, ap}
use Rattle.hnsr_circuit.specs.declared.tables.question.Revoking.TheVariants.{Reservation}
use Rattle.hnsr_circuit.specs.Entry.{room_answer, revoking_words}
use Rattle.hnsr_circuit.specs.Call.{step, call_revoke_reservation}
use Rattle.hnsr_circuit.specs.World.{with_ledger}
use Rattle.hnsr_circuit.specs.RevokingCalls.{revoke_reservation, revoke_under}
use Rattle.hnsr_circuit.specs.Code.Held.{state_seen}
use Rattle.hnsr_circuit.specs.Code.Progress.{ending}
use Rattle.hnsr_circuit.specs.Code.Revoking.{revoking_all}
use Rattle.hnsr_circuit.specs.Laws.Calls.{whole}
use Rattle.hnsr_circuit.specs.Laws.Seen.{turned-seen}
use Rattle.hnsr_circuit.specs.Laws.RevokingCalls.{entry_walks, entry_own, entry_passed, entry_refused, then_nothing}
use Rattle.hnsr_circuit.specs.Laws.RevokingCalls.{revoked_under}
use Rattle.hnsr_circuit.proofs.calls.revoking.revoke_reservation.Goals as goal

pub revoke_all-requires : goal.revoke_all-requires
revoke_all-requires c = let a = c.args in
    entry_own (Reservation a.id) (state_seen a.state a.pending.now a.circuits.now a.ledger.now a.inflight.now)
    (length a.out.now) (λ x. Ok tt) (c.entered.ensures a.ledger.now) c.in-Ok.walks c.in-Ok.is

pub returns-in-Ok : goal.returns-in-Ok
unfolding step
returns-in-Ok c =
    let a = c.args in
    let w = state_seen a.state a.pending.now a.circuits.now a.ledger.now a.inflight.now in
    let room = length a.out.now in
    let v = Reservation a.id in
    let walks = entry_walks v w room (λ x. Ok tt) (c.entered.ensures a.ledger.now) c.in-Ok.walks c.in-Ok.is in
    let answer = sym (then_nothing (room_answer w room (revoking_words w)))
    ∙ entry_passed v w room (λ x. Ok tt) (c.entered.ensures a.ledger.now) c.in-Ok.walks c.in-Ok.is in
    let small : room < 18446744073709551616 = search rules in
    c.revoke_all.ensures c.drop_usage.new.ledger
    ∙ (λ x. ending a.out.now (revoking_all (walks x).revoking (with_ledger w (c.drop_usage.ensures x))))
    ∙ ap (ending a.out.now) (revoked_under w room a.id answer)
    ∙ whole a.out.now w (call_revoke_reservation a.id room) (omega arith) (omega arith)

pub returns-in-Err : goal.returns-in-Err
unfolding step revoke_reservation
returns-in-Err c =
    let a = c.args in
    let w = state_seen a.state a.pending.now a.circuits.now a.ledger.now a.inflight.now in
    let room = length a.out.now in
    let answer = sym (then_nothing (room_answer w room (revoking_words w)))
    ∙ entry_refused (Reservation a.id) w room (λ x. Ok tt) (c.entered.ensures a.ledger.now) c.in-Err.error
    c.in-Err.is in
    let small : room < 18446744073709551616 = search rules in
    turned-seen a.state a.pending.now a.circuits.now a.ledger.now a.inflight.now a.out.now c.refused.result
    c.in-Err.error _ (revoke_under w a.id) c.refused.ensures answer
    ∙ whole a.out.now w (call_revoke_reservation a.id room) (omega arith) (omega arith)
