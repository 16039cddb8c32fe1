-- The pending record that is found ends and ERROR is sent; where there is none, nothing is done.
use Rattle.std.proofs.Common.{sym, ap, ◌∙◌}
use Rattle.hnsr_circuit.specs.Pending.{no_pending, pending_at}
use Rattle.hnsr_body.specs.declared.messages.Notice.TheVariants.{EndpointWriteFailed}
use Rattle.hnsr_body.specs.Messages.{notice_body}
use Rattle.hnsr_circuit.specs.World.{World}
use Rattle.hnsr_circuit.specs.Queue.{send}
use Rattle.hnsr_circuit.specs.Code.Progress.{message_of, ending}
use Rattle.hnsr_circuit.specs.Laws.Acknowledging.{incoming_failed, none_failed}
use Rattle.hnsr_circuit.specs.Laws.Lookups.{not_found}
use Rattle.hnsr_circuit.specs.Laws.Seen.{taken-seen, moved-seen}
use Rattle.hnsr_circuit.specs.Code.Held.{held_pending, held_circuits, held_ledger, held_actions}
use Rattle.hnsr_circuit.proofs.calls.acknowledge.fail_incoming.Goals as goal

pub returns-in-Some : goal.returns-in-Some
returns-in-Some c =
    λ cs₀ l₀.
    let a = c.args in
    let s = a.state in
    let rows = c.unmark.new.rows in
    let moved = moved-seen s c.with_runtime-after.result c.revoked.result rows cs₀ l₀ a.inflight.now
    c.with_runtime-after.ensures in
    c.send_notice.ensures rows cs₀ l₀
    ∙ ap (λ (v : World). ending a.out.now
    (send v (message_of c.error_to_requester-message.result (notice_body EndpointWriteFailed)))) moved
    ∙ ap (ending a.out.now)
    (incoming_failed s.runtime (held_pending s.places a.pending.now) (held_circuits s.places cs₀)
    (held_ledger s.places l₀) (held_actions s.places a.inflight.now) a.id c.in-Some.found c.revoked.result
    (held_pending s.places rows) c.error_to_requester-message.result (sym c.look_up.ensures ∙ c.in-Some.is)
    c.revoked.ensures c.unmark.ensures.seen c.error_to_requester-message.ensures)

pub returns-in-None : goal.returns-in-None
returns-in-None c =
    λ cs₀ l₀.
    let a = c.args in
    let s = a.state in
    taken-seen s a.pending.now cs₀ l₀ a.inflight.now a.out.now c.taken.result c.taken.ensures
    ∙ ap (ending a.out.now)
    (none_failed s.runtime (held_pending s.places a.pending.now) (held_circuits s.places cs₀) (held_ledger s.places l₀)
    (held_actions s.places a.inflight.now) a.id
    (not_found (pending_at a.id) no_pending (held_pending s.places a.pending.now)
    (sym c.look_up.ensures ∙ c.in-None.is)))
