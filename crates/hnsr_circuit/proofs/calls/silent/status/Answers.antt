-- The counts are the definition's, and a refusal tells nothing.
use mathlib.Core.Path.{◌≡◌, sym, ap, ◌∙◌}
use mathlib.Core.Bool.{Bool, false}
use Rattle.std.proofs.Common.{Ok, Err}
use Rattle.std.proofs.lemmas.Result.{err_from_is_err_and}
use lib.ListN.{length}
use Rattle.hnsr_circuit.specs.declared.answer.HnsrRuntimeError.TheVariants.{Short}
use Rattle.hnsr_circuit.specs.declared.tables.scan.ActionQuestion.{ActionQuestion}
use Rattle.hnsr_circuit.specs.declared.tables.scan.InflightTally.{InflightTally}
use Rattle.hnsr_circuit.specs.Answers.{check, ◌then◌}
use Rattle.hnsr_circuit.specs.Peer.{peer_of}
use Rattle.hnsr_circuit.specs.Inflight.{tallied, capacity_left}
use Rattle.hnsr_circuit.specs.Entry.{tables_answer, tables_short, peer_answer}
use Rattle.hnsr_circuit.specs.World.{world_of}
use Rattle.hnsr_circuit.specs.Counts.{pending_count}
use Rattle.hnsr_circuit.specs.Status.{status_from, status_of, action_capacity, status}
use Rattle.hnsr_circuit.specs.Call.{step}
use Rattle.hnsr_circuit.specs.Code.Question.{capacity_question}
use Rattle.hnsr_circuit.specs.Code.Turns.{actions_scanned}
use Rattle.hnsr_circuit.specs.Code.Held.{held_pending, held_circuits, held_ledger, held_actions}
use Rattle.hnsr_circuit.specs.Laws.Inflight.{all-counted}
use Rattle.hnsr_circuit.specs.Laws.QuietCalls.{tells-status, tells-nothing}
use Rattle.hnsr_circuit.specs.Laws.HeldTables.{few-held}
use Rattle.hnsr_circuit.proofs.calls.silent.status.Goals as goal

pub returns-in_err-status_answer : goal.returns-in_err-status_answer
unfolding step status tables_answer tables_short
returns-in_err-status_answer c =
    λ l₀.
    let a = c.args in
    let w = world_of a.state.runtime (held_pending a.state.places a.pending.now)
    (held_circuits a.state.places a.circuits.now) (held_ledger a.state.places l₀)
    (held_actions a.state.places a.inflight.now) in
    let row = c.status_answer.ensures
    ∙ ap (λ (b : Bool). check b Short then peer_answer (length a.peer.now)) (c.too_few-few.ensures
    ∙ few-held a.state.runtime.config a.state.places a.pending.now a.circuits.now a.inflight.now) in
    let p = err_from_is_err_and c.from_residual.result c.from_residual.ensures.1 in
    p.1
    ∙ tells-nothing (status_of w) (action_capacity w (peer_of a.peer.now) a.circuit_id) w
    (tables_answer w then peer_answer (length a.peer.now)) p.0
    (sym row ∙ c.in_err-status_answer.was ∙ ap Err (sym p.2))

pub returns : goal.returns
unfolding step status tables_answer tables_short status_of pending_count action_capacity actions_scanned tallied
returns c =
    λ l₀.
    let a = c.args in
    let i = held_actions a.state.places a.inflight.now in
    let w = world_of a.state.runtime (held_pending a.state.places a.pending.now)
    (held_circuits a.state.places a.circuits.now) (held_ledger a.state.places l₀) i in
    let n = c.count-waiting.ensures in
    let t = c.circuit_totals-totals.ensures in
    let question = c.capacity_question-question.ensures ∙ ap (capacity_question a.circuit_id) c.new-name.ensures in
    let tally : c.scan_actions-scan.result.tally ≡ tallied false a.circuit_id (peer_of a.peer.now) i
    = ap (λ s. s.tally) c.scan_actions-scan.ensures
    ∙ ap (λ (q : ActionQuestion). tallied q.replacing q.circuit_id q.peer i) question in
    let all = ap (λ (x : InflightTally). x.total) tally ∙ all-counted a.circuit_id i in
    let e = c.status_told.ensures in
    let row = c.status_answer.ensures
    ∙ ap (λ (b : Bool). check b Short then peer_answer (length a.peer.now)) (c.too_few-few.ensures
    ∙ few-held a.state.runtime.config a.state.places a.pending.now a.circuits.now a.inflight.now) in
    (λ x. Ok (record { status = e.0 x; action_capacity = e.1 x }))
    ∙ (λ x. Ok (record {
      status = status_from a.state.runtime (n x) (t x) (all x);
      action_capacity = capacity_left a.state.runtime.config (tally x);
    }))
    ∙ tells-status (status_of w) (action_capacity w (peer_of a.peer.now) a.circuit_id) w
    (tables_answer w then peer_answer (length a.peer.now))
    (sym row ∙ c.in_ok-status_answer.was)
