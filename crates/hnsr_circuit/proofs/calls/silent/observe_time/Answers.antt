-- The clock moves where the row passes.
use Rattle.std.proofs.Common.{sym, ap, refl, ◌∙◌, []}
use Rattle.hnsr_circuit.specs.Code.Held.{state_seen}
use Rattle.hnsr_circuit.specs.Code.Progress.{outcome}
use Rattle.hnsr_circuit.specs.World.{World, done, refuse, at_time}
use Rattle.hnsr_circuit.specs.New.{observe_time}
use Rattle.hnsr_circuit.specs.Call.{step}
use Rattle.hnsr_circuit.specs.Laws.Seen.{refused-seen, taken-seen, moved-seen, passed, turned, quiet}
use Rattle.hnsr_circuit.proofs.calls.silent.observe_time.Goals as goal

pub returns-in-Ok : goal.returns-in-Ok
unfolding step observe_time
returns-in-Ok c =
    λ p cs l i out.
    let a = c.args in
    let w = state_seen a.state p cs l i in
    let moved = moved-seen a.state c.with_runtime.result _ p cs l i
    (c.with_runtime.ensures.0 ∙ c.with_clock.ensures, c.with_runtime.ensures.1) in
    taken-seen c.with_runtime.result p cs l i out c.taken.result c.taken.ensures
    ∙ quiet out (done (state_seen c.with_runtime.result p cs l i) []) refl
    ∙ ap (λ (v : World). outcome out (done v [])) moved
    ∙ ap (outcome out) (passed w _ (done (at_time w a.time) []) (sym c.clock_answer.ensures ∙ c.in-Ok.is))

pub returns-in-Err : goal.returns-in-Err
unfolding step observe_time
returns-in-Err c =
    λ p cs l i out.
    let a = c.args in
    let w = state_seen a.state p cs l i in
    refused-seen a.state p cs l i out c.refused.result c.in-Err.error c.refused.ensures
    ∙ quiet out (refuse w c.in-Err.error) refl
    ∙ ap (outcome out)
    (turned w _ (done (at_time w a.time) []) c.in-Err.error (sym c.clock_answer.ensures ∙ c.in-Err.is))
