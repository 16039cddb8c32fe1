-- What is too short is short of the tables as they are seen: they are as long, and the survey has counted them.
use Rattle.std.proofs.Common.{◌+◌, ◌*◌, ◌||◌, Ok, ltb, sym, ◌∙◌}
use Rattle.std.specs.Result.{result_and}
use Rattle.hnsr_circuit.specs.declared.answer.HnsrRuntimeError.TheVariants.{Short}
use Rattle.hnsr_circuit.specs.Answers.{check, ◌then◌}
use Rattle.hnsr_circuit.specs.Counts.{pending_count, circuit_count}
use Rattle.hnsr_circuit.specs.Entry.{closing_words, too_few, tables_short, room_answer}
use Rattle.hnsr_circuit.specs.Pending.{clear_pending}
use Rattle.hnsr_circuit.specs.Circuits.{clear_circuit}
use Rattle.hnsr_circuit.specs.Inflight.{clear_action}
use Rattle.hnsr_circuit.specs.Laws.Held.{length-held}
use Rattle.hnsr_circuit.proofs.calls.revoking.entered.Goals as goal

pub returns : goal.returns
unfolding room_answer tables_short pending_count circuit_count
returns c = λ l.
    let a = c.args in
    let n = a.state.places in
    let waiting = c.survey-waiting.ensures in
    let active = c.survey-active.ensures in
    let short = c.room_short-short.ensures ∙ (λ x. ltb a.room (closing_words * (waiting.0 x + active.0 x))) in
    let few = c.too_few-few.ensures
    ∙ (λ x. too_few a.state.runtime.config (sym (length-held clear_pending n.pending a.pending.now) x)
    (sym (length-held clear_circuit n.circuits a.circuits.now) x)
    (sym (length-held clear_action n.actions a.inflight.now) x)) in
    let lent = c.check-lent.ensures ∙ (λ x. check (short x || few x) Short) in
    let answer = c.and.ensures ∙ (λ x. lent x then a.rows) in
    c.and-2.ensures
    ∙ (λ x. result_and (answer x)
    (Ok (record { revoking = a.revoking; pending = waiting.1 x; circuits = active.1 x })))
