-- The earliest of the three tables, and a table that is too short tells nothing.
use mathlib.Core.Path.{sym, ap, ◌∙◌}
use mathlib.Core.Bool.{Bool}
use Prim.Native.Nat.{ℕ}
use Rattle.std.proofs.Common.{Ok, Err, Option}
use Rattle.std.proofs.lemmas.Result.{err_from_is_err_and}
use Rattle.hnsr_circuit.specs.declared.answer.HnsrRuntimeError.TheVariants.{Short}
use Rattle.hnsr_circuit.specs.Answers.{check}
use Rattle.hnsr_circuit.specs.Entry.{tables_answer, tables_short}
use Rattle.hnsr_circuit.specs.World.{world_of}
use Rattle.hnsr_circuit.specs.NextDue.{circuit_due, usage_due, due_of, next_due}
use Rattle.hnsr_circuit.specs.Call.{step}
use Rattle.hnsr_circuit.specs.Laws.QuietCalls.{tells-due, tells-no-due}
use Rattle.hnsr_circuit.specs.Code.Held.{held_pending, held_circuits, held_ledger, held_actions}
use Rattle.hnsr_circuit.specs.Laws.HeldTables.{few-held}
use Rattle.hnsr_circuit.proofs.calls.silent.next_due.Goals as goal

pub returns-in_err-check : goal.returns-in_err-check
unfolding step next_due tables_answer tables_short
returns-in_err-check c =
    let a = c.args in
    let w = world_of a.state.runtime (held_pending a.state.places a.pending.now)
    (held_circuits a.state.places a.circuits.now) (held_ledger a.state.places a.ledger.now)
    (held_actions a.state.places a.inflight.now) in
    let row = c.check.ensures
    ∙ ap (λ (b : Bool). check b Short) (c.too_few-few.ensures
    ∙ few-held a.state.runtime.config a.state.places a.pending.now a.circuits.now a.inflight.now) in
    let p = err_from_is_err_and c.from_residual.result c.from_residual.ensures.1 in
    p.1 ∙ tells-no-due (due_of w) w (tables_answer w) p.0 (sym row ∙ c.in_err-check.was ∙ ap Err (sym p.2))

pub returns : goal.returns
unfolding step next_due tables_answer tables_short due_of
returns c =
    let a = c.args in
    let cs = held_circuits a.state.places a.circuits.now in
    let ls = held_ledger a.state.places a.ledger.now in
    let w = world_of a.state.runtime (held_pending a.state.places a.pending.now) cs ls
    (held_actions a.state.places a.inflight.now) in
    let row = c.check.ensures
    ∙ ap (λ (b : Bool). check b Short) (c.too_few-few.ensures
    ∙ few-held a.state.runtime.config a.state.places a.pending.now a.circuits.now a.inflight.now) in
    let all = c.due.ensures
    ∙ ap (λ (d : Option ℕ). usage_due ls d)
    (c.due-second.ensures ∙ ap (λ (d : Option ℕ). circuit_due cs d) c.due-first.ensures) in
    ap Ok all ∙ tells-due (due_of w) w (tables_answer w) (sym row ∙ c.in_ok-check.was)
