-- The circuit that is found is revoked, and then the call is over.
use Rattle.std.proofs.Common.{[], sym, ap, ◌∙◌}
use Rattle.hnsr_circuit.specs.declared.calls.revocation.Closings.{Closings}
use Rattle.hnsr_circuit.specs.Revocation.{revoke_circuit, end_circuit_there}
use Rattle.hnsr_circuit.specs.World.{world_of}
use Rattle.hnsr_circuit.specs.Queue.{Sent, finished}
use Rattle.hnsr_circuit.specs.Code.Held.{state_seen}
use Rattle.hnsr_circuit.specs.Code.Progress.{filled_to, placed, Progress, progress, advanced, advance, ending}
use Rattle.hnsr_circuit.specs.Code.Revoking.{told}
use Rattle.hnsr_circuit.specs.Laws.Revocation.{found_told, none_told}
use Rattle.hnsr_circuit.specs.Laws.Seen.{begun-seen, over-seen}
use Rattle.hnsr_circuit.proofs.calls.revocation.revoke_one.Goals as goal

pub returns-in-Some : goal.returns-in-Some
returns-in-Some c = λ p l.
    let a = c.args in
    let w = state_seen a.state p a.circuits.now l a.inflight.now in
    let start =
    begun-seen a.state c.start-start.result p a.circuits.now l a.inflight.now a.out.now c.start-start.ensures in
    over-seen c.finish.result c.end.result p c.end.new.rows l c.end.new.inflight c.end.new.out
    (advanced (progress w 0 a.out.now) (revoke_circuit a.notice w a.id)) c.finish.ensures
    (c.end.ensures (world_of a.state.runtime p [] l [])
    ∙ ap
    (λ (s : Progress). advance (λ v. told c.close_both-closings.result (end_circuit_there v c.in-Some.found.place)) s)
    start
    ∙ ap (λ (k : Closings). advanced (progress w 0 a.out.now) (told k (end_circuit_there w c.in-Some.found.place)))
    c.close_both-closings.ensures
    ∙ ap (advanced (progress w 0 a.out.now))
    (found_told a.notice w a.id c.in-Some.found (sym c.look_up.ensures ∙ c.in-Some.is)))

pub returns-in-None : goal.returns-in-None
unfolding filled_to placed
returns-in-None c = λ p l.
    let a = c.args in
    let w = state_seen a.state p a.circuits.now l a.inflight.now in
    over-seen c.finish-in-None.result c.start-start.result p a.circuits.now l a.inflight.now a.out.now
    (progress w 0 a.out.now) c.finish-in-None.ensures
    (begun-seen a.state c.start-start.result p a.circuits.now l a.inflight.now a.out.now c.start-start.ensures)
    ∙ ap (λ (s : Sent). ending a.out.now (finished s))
    (none_told a.notice w a.id (sym c.look_up.ensures ∙ c.in-None.is))
