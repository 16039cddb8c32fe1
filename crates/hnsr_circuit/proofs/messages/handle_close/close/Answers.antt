-- What a lookup finds is marked no more, and nothing else changes.
use Rattle.std.specs.Prelude.{ℕ, Ok, leb}
use Rattle.std.proofs.Common.{ap, sym, ◌∙◌}
use Rattle.hnsr_body.specs.declared.layout.Read.{Read}
use Rattle.hnsr_body.specs.declared.detail_body.ReasonDetail.{ReasonDetail}
use Rattle.hnsr_circuit.specs.declared.answer.HnsrRuntimeError.TheVariants.{InvalidAdmission}
use Rattle.hnsr_circuit.specs.Answers.{check}
use Rattle.hnsr_circuit.specs.Code.Held.{held_pending, held_circuits}
use Rattle.hnsr_circuit.specs.Code.Message.{own_circuit}
use Rattle.hnsr_circuit.specs.Laws.Handlers.{pending_ended, circuit_ended}
use Rattle.hnsr_circuit.proofs.messages.handle_close.close.Goals as goal

pub returns-in-Some : goal.returns-in-Some
returns-in-Some c =
    let a = c.args in
    let s = a.request.state in
    let detail = ap (λ (r : Read ReasonDetail). r.result) (sym c.decode.ensures) ∙ c.in_ok-decode.was in
    let few = sym (c.check.ensures ∙ ap (λ (n : ℕ). check (leb 2 n) InvalidAdmission) c.count-matches.ensures)
    ∙ c.in_ok-check.was in
    let ended = pending_ended (held_pending s.places a.pending.now) (held_circuits s.places a.circuits.now)
    a.request.packet a.request.peer a.body.now detail few c.in-Some.found (sym c.look_up.ensures ∙ c.in-Some.is) in
    (ap Ok c.translated_on.ensures ∙ ended.0, c.unmark.ensures.seen ∙ ended.1, ended.2)

pub returns-in_ok-found-in-None : goal.returns-in_ok-found-in-None
returns-in_ok-found-in-None c =
    let a = c.args in
    let s = a.request.state in
    let detail = ap (λ (r : Read ReasonDetail). r.result) (sym c.decode.ensures) ∙ c.in_ok-decode.was in
    let few = sym (c.check.ensures ∙ ap (λ (n : ℕ). check (leb 2 n) InvalidAdmission) c.count-matches.ensures)
    ∙ c.in_ok-check.was in
    let own = sym (c.own_circuit.ensures ∙ (λ j. own_circuit (c.look_up-in-None.ensures j) a.request.peer))
    ∙ c.in_ok-found-in-None.was in
    let ended = circuit_ended (held_pending s.places a.pending.now) (held_circuits s.places a.circuits.now)
    a.request.packet a.request.peer a.body.now detail few c.in_ok-found-in-None.found
    (sym c.look_up.ensures ∙ c.in-None.is) own in
    (ap Ok c.passed_on.ensures ∙ ended.0, ended.1, c.unmark-in-None.ensures.seen ∙ ended.2)
