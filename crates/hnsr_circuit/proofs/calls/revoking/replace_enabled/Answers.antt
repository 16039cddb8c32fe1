-- Turned away by its rows; or the state changes; or it is the same, and nothing does.
use Rattle.std.proofs.Common.{rules, arith, ◌<◌, [], length, ap, ◌∙◌}
use Rattle.hnsr_circuit.specs.declared.tables.question.Revoking.TheVariants.{Disabled}
use Rattle.hnsr_circuit.specs.Answers.{◌then◌}
use Rattle.hnsr_circuit.specs.Call.{step, call_replace_enabled}
use Rattle.hnsr_circuit.specs.RevokingCalls.{changes, replace_enabled}
use Rattle.hnsr_circuit.specs.Code.Held.{state_seen}
use Rattle.hnsr_circuit.specs.Code.Progress.{ending}
use Rattle.hnsr_circuit.specs.Laws.Calls.{whole}
use Rattle.hnsr_circuit.specs.Laws.Seen.{turned-seen, taken-seen}
use Rattle.hnsr_circuit.specs.Laws.RevokingCalls.{entry_walks, entry_passed, entry_refused, below_top, changed_state}
use Rattle.hnsr_circuit.specs.Laws.RevokingCalls.{same_state}
use Rattle.hnsr_circuit.proofs.calls.revoking.replace_enabled.Goals as goal

pub switch_to-requires : goal.switch_to-requires
switch_to-requires c =
    let a = c.args in
    let w = state_seen a.state a.pending.now a.circuits.now [] a.inflight.now in
    let room = length a.out.now in
    let g = a.state.runtime.generation in
    let b = changes w a.enabled in
    let rows = c.and-rows.ensures ∙ (λ x. c.generation_answer-current.ensures x then c.change_answer.ensures x) in
    let answer = entry_passed Disabled w room rows (c.entered.ensures []) c.in-Ok.walks c.in-Ok.is in
    let small : g < 18446744073709551616 = search rules in (
      below_top w room a.expected_generation a.enabled answer (omega arith) c.if-changes.true,
      entry_walks Disabled w room rows (c.entered.ensures []) c.in-Ok.walks c.in-Ok.is,
    )

pub returns-then-changes : goal.returns-then-changes
unfolding step
returns-then-changes c = λ l.
    let a = c.args in
    let w = state_seen a.state a.pending.now a.circuits.now l a.inflight.now in
    let room = length a.out.now in
    let rows = c.and-rows.ensures ∙ (λ x. c.generation_answer-current.ensures x then c.change_answer.ensures x) in
    let answer = entry_passed Disabled w room rows (c.entered.ensures l) c.in-Ok.walks c.in-Ok.is in
    let small : room < 18446744073709551616 = search rules in
    c.switch_to.ensures l
    ∙ ap (ending a.out.now) (changed_state w room a.expected_generation a.enabled answer c.if-changes.true)
    ∙ whole a.out.now w (call_replace_enabled a.expected_generation a.enabled room) (omega arith) (omega arith)

pub returns-else-changes : goal.returns-else-changes
unfolding step
returns-else-changes c = λ l.
    let a = c.args in
    let w = state_seen a.state a.pending.now a.circuits.now l a.inflight.now in
    let room = length a.out.now in
    let rows = c.and-rows.ensures ∙ (λ x. c.generation_answer-current.ensures x then c.change_answer.ensures x) in
    let answer = entry_passed Disabled w room rows (c.entered.ensures l) c.in-Ok.walks c.in-Ok.is in
    let small : room < 18446744073709551616 = search rules in
    taken-seen a.state a.pending.now a.circuits.now l a.inflight.now a.out.now c.taken.result c.taken.ensures
    ∙ ap (ending a.out.now) (same_state w room a.expected_generation a.enabled answer c.if-changes.false)
    ∙ whole a.out.now w (call_replace_enabled a.expected_generation a.enabled room) (omega arith) (omega arith)

pub returns-in-Err : goal.returns-in-Err
unfolding step replace_enabled
returns-in-Err c = λ l.
    let a = c.args in
    let w = state_seen a.state a.pending.now a.circuits.now l a.inflight.now in
    let room = length a.out.now in
    let rows = c.and-rows.ensures ∙ (λ x. c.generation_answer-current.ensures x then c.change_answer.ensures x) in
    let answer = entry_refused Disabled w room rows (c.entered.ensures l) c.in-Err.error c.in-Err.is in
    let small : room < 18446744073709551616 = search rules in
    turned-seen a.state a.pending.now a.circuits.now l a.inflight.now a.out.now c.refused.result c.in-Err.error _ _
    c.refused.ensures answer
    ∙ whole a.out.now w (call_replace_enabled a.expected_generation a.enabled room) (omega arith) (omega arith)
