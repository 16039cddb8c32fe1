-- Turned away by its rows, or gone on with the action that is found.
use Rattle.std.proofs.Common.{Bool, rules, arith, sym, ap, ◌∙◌, ◌||◌, ◌<◌, ltb, length}
use Rattle.std.specs.Option.{ok_or}
use Rattle.std.specs.Result.{result_and}
use Rattle.hnsr_circuit.specs.declared.answer.HnsrRuntimeError.TheVariants.{Short, UnknownAction}
use Rattle.hnsr_circuit.specs.declared.records.InflightAction.{InflightAction}
use Rattle.hnsr_circuit.specs.Answers.{HnsrAnswer, check}
use Rattle.hnsr_circuit.specs.Table.{pick}
use Rattle.hnsr_circuit.specs.Inflight.{no_action, action_at}
use Rattle.hnsr_circuit.specs.Entry.{acknowledge_words, room_answer, tables_short}
use Rattle.hnsr_circuit.specs.Code.Progress.{ending}
use Rattle.hnsr_circuit.specs.Code.Held.{state_seen, held_actions}
use Rattle.hnsr_circuit.specs.Acknowledge.{generation_answer, acknowledge_taken, acknowledge_action, acknowledge}
use Rattle.hnsr_circuit.specs.Call.{step, call_acknowledge}
use Rattle.hnsr_circuit.specs.Laws.Calls.{whole}
use Rattle.hnsr_circuit.specs.Laws.Seen.{turned-seen, passed}
use Rattle.hnsr_circuit.specs.Laws.Lookups.{found_is}
use Rattle.hnsr_circuit.specs.Laws.Acknowledging.{action-numbered, action_missing}
use Rattle.hnsr_circuit.specs.Laws.HeldTables.{few-held}
use Rattle.hnsr_circuit.proofs.calls.acknowledge.acknowledge.Goals as goal

pub returns-in-Ok : goal.returns-in-Ok
unfolding step acknowledge acknowledge_taken room_answer tables_short
returns-in-Ok c =
    λ l₀.
    let a = c.args in
    let s = a.state in
    let w = state_seen s a.pending.now a.circuits.now l₀ a.inflight.now in
    let p = action_at a.generation a.sequence in
    let t = held_actions s.places a.inflight.now in
    let few = c.too_few-few.ensures ∙ few-held s.runtime.config s.places a.pending.now a.circuits.now a.inflight.now in
    let short : Bool → HnsrAnswer = λ b. check (ltb (length a.out.now) acknowledge_words || b) Short in
    let current = generation_answer s.runtime.generation a.generation in
    let k = action-numbered (short _) current p t c.in-Ok.found
    (sym (c.outstanding.ensures
    ∙ (λ x. result_and (short (few x)) (result_and current (ok_or (c.look_up-numbered.ensures x) UnknownAction))))
    ∙ c.in-Ok.is) in
    let row = (found_is p no_action t c.in-Ok.found k.1).2 in
    let small : length c.args.out.now < 18446744073709551616 = search rules in
    c.acknowledge_action.ensures l₀ a.generation a.sequence k.1
    ∙ ap (ending a.out.now)
    (ap (λ (x : InflightAction). acknowledge_action w a.generation a.sequence a.delivered x) row
    ∙ passed w _ (acknowledge_action w a.generation a.sequence a.delivered (pick p no_action t)) k.0)
    ∙ whole a.out.now w (call_acknowledge a.generation a.sequence a.delivered (length a.out.now)) (omega arith)
    (omega arith)

pub returns-in-Err : goal.returns-in-Err
unfolding step acknowledge acknowledge_taken room_answer tables_short
returns-in-Err c =
    λ l₀.
    let a = c.args in
    let s = a.state in
    let w = state_seen s a.pending.now a.circuits.now l₀ a.inflight.now in
    let p = action_at a.generation a.sequence in
    let t = held_actions s.places a.inflight.now in
    let few = c.too_few-few.ensures ∙ few-held s.runtime.config s.places a.pending.now a.circuits.now a.inflight.now in
    let short : Bool → HnsrAnswer = λ b. check (ltb (length a.out.now) acknowledge_words || b) Short in
    let current = generation_answer s.runtime.generation a.generation in
    let k = action_missing (short _) current p t c.in-Err.error
    (sym (c.outstanding.ensures
    ∙ (λ x. result_and (short (few x)) (result_and current (ok_or (c.look_up-numbered.ensures x) UnknownAction))))
    ∙ c.in-Err.is) in
    let small : length c.args.out.now < 18446744073709551616 = search rules in
    turned-seen s a.pending.now a.circuits.now l₀ a.inflight.now a.out.now c.refused.result c.in-Err.error _
    (acknowledge_action w a.generation a.sequence a.delivered (pick p no_action t)) c.refused.ensures k
    ∙ whole a.out.now w (call_acknowledge a.generation a.sequence a.delivered (length a.out.now)) (omega arith)
    (omega arith)
