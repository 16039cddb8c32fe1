-- Every place is unmarked where the rows pass; else the tables stay.
-- lengths are numbers of 64 bits
use Rattle.hnsr_circuit.specs.Answers.{taken}
use borrow.Author.Rules.{rules}
use Prim.Native.Nat.{◌<◌}
use mathlib.Core.Path.{sym, ap, ◌∙◌}
use mathlib.Core.Bool.{Bool, ◌||◌}
use lib.Dec.{eqb}
use lib.ListN.{length}
use Rattle.hnsr_circuit.specs.Laws.Held.{held-cleared, held_all}
use Rattle.hnsr_circuit.specs.Inflight.{clear_action, is_action}
use Rattle.hnsr_circuit.specs.declared.answer.HnsrRuntimeError.TheVariants.{Short}
use Rattle.hnsr_circuit.specs.Answers.{check, ◌then◌}
use Rattle.hnsr_circuit.specs.Entry.{tables_short}
use Rattle.hnsr_circuit.specs.Config.{validate_config}
use Rattle.hnsr_circuit.specs.New.{session_answer, new_answer, new_relay}
use Rattle.hnsr_circuit.specs.Call.{start}
use Rattle.hnsr_circuit.specs.Laws.Queueing.{taken_is}
use Rattle.hnsr_circuit.specs.Laws.QuietCalls.{empties, refuses-new}
use native.Mathlib.Omega.{arith}
use Rattle.hnsr_circuit.specs.Pending.{is_pending, clear_pending}
use Rattle.hnsr_circuit.specs.Circuits.{is_circuit, clear_circuit}
use Rattle.hnsr_circuit.specs.Ledger.{is_usage, clear_usage}
use Rattle.hnsr_circuit.specs.Code.Held.{held_pending, held_circuits, held_ledger, held_actions}
use Rattle.hnsr_circuit.specs.Laws.Records.{pending_still, circuit_still, usage_still, action_still}
use Rattle.hnsr_circuit.specs.declared.tables.places.Places.{Places}
use Rattle.hnsr_circuit.specs.declared.runtime.RelayState.{RelayState}
use Rattle.hnsr_circuit.specs.Runtime.{new_runtime}
use Rattle.hnsr_circuit.proofs.calls.silent.new.Goals as goal

pub returns-in-Ok : goal.returns-in-Ok
unfolding start new_relay new_answer tables_short
returns-in-Ok c =
    λ h.
    let a = c.args in
    let e = c.taken.ensures in
    let k = ap (λ (s : RelayState). s.places) e.0 in
    let t = ap taken c.in-Ok.is in
    empties h _ a.pending.now _ a.circuits.now _ a.ledger.now _ a.inflight.now _
    c.taken.result c.new_answer.result _
    (c.new_answer.ensures
    ∙ ap (λ (b : Bool). session_answer a.session a.generation
    then validate_config a.config
    then check (b || eqb (length a.ledger.now) 0) Short) c.too_few-few.ensures)
    (ap (λ (s : RelayState). s.runtime) e.0 ∙ c.new-runtime.ensures, e.1 ∙ sym (taken_is c.new_answer.result t), e.2) k
    (ap (λ (n : Places). held_pending n a.pending.now) k
    ∙ held-cleared clear_pending is_pending pending_still a.pending.now)
    (ap (λ (n : Places). held_circuits n a.circuits.now) k
    ∙ held-cleared clear_circuit is_circuit circuit_still a.circuits.now)
    (ap (λ (n : Places). held_ledger n a.ledger.now) k
    ∙ held-cleared clear_usage is_usage usage_still a.ledger.now)
    (ap (λ (n : Places). held_actions n a.inflight.now) k
    ∙ held-cleared clear_action is_action action_still a.inflight.now) t

pub returns-in-Err : goal.returns-in-Err
unfolding start new_relay new_answer tables_short
returns-in-Err c =
    λ h.
    let s = c in
    let a = s.args in
    let e = c.refused.ensures in
    let k = ap (λ (s : RelayState). s.places) e.0 in
    let b : (length c.args.pending.now < 18446744073709551616)
    × (length c.args.circuits.now < 18446744073709551616)
    × (length c.args.ledger.now < 18446744073709551616)
    × (length c.args.inflight.now < 18446744073709551616) = (search rules, search rules, search rules, search rules) in
    refuses-new h (new_runtime a.session a.generation a.config a.time) a.pending.now _ a.circuits.now
    _ a.ledger.now _ a.inflight.now _ c.refused.result c.new_answer.result _
    (c.new_answer.ensures
    ∙ ap (λ (b : Bool). session_answer a.session a.generation
    then validate_config a.config
    then check (b || eqb (length a.ledger.now) 0) Short) c.too_few-few.ensures)
    (ap (λ (s : RelayState). s.runtime) e.0, e.1 ∙ sym c.in-Err.is, e.2) k
    (ap (λ (n : Places). held_pending n a.pending.now) k
    ∙ held_all clear_pending 18446744073709551615 a.pending.now (omega (arith, b.0)))
    (ap (λ (n : Places). held_circuits n a.circuits.now) k
    ∙ held_all clear_circuit 18446744073709551615 a.circuits.now (omega (arith, b.1)))
    (ap (λ (n : Places). held_ledger n a.ledger.now) k
    ∙ held_all clear_usage 18446744073709551615 a.ledger.now (omega (arith, b.2)))
    (ap (λ (n : Places). held_actions n a.inflight.now) k
    ∙ held_all clear_action 18446744073709551615 a.inflight.now (omega (arith, b.3)))
    (ap taken c.in-Err.is)
