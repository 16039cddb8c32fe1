-- What the ledger record refuses is refused; else the pending record is written, and INCOMING sent.
use mathlib.Core.Path.{sym, ap, ◌∙◌}
use lib.ListN.{set}
use Rattle.hnsr_circuit.specs.Table.{place_of}
use Rattle.hns_encoding.specs.Sums.{non}
use Rattle.hnsr_circuit.specs.Pending.{is_pending}
use Rattle.hnsr_circuit.specs.declared.records.RelayPending.{RelayPending}
use Rattle.hnsr_circuit.specs.World.{Outcome}
use Rattle.hnsr_circuit.specs.Code.Held.{held_pending, held_circuits, held_ledger, held_actions}
use Rattle.hnsr_circuit.specs.Code.Progress.{ending}
use Rattle.hnsr_circuit.specs.Laws.Opening.{booked-goes}
use Rattle.hnsr_circuit.proofs.messages.handle_open.open_booked.Goals as goal

pub returns-in-Ok : goal.returns-in-Ok
returns-in-Ok c =
    λ c₀ l₀ eu f.
    let a = c.args in
    let n = a.state.places in
    let p = held_pending n a.pending.now in
    c.send.ensures c.put_new-number.new.rows c₀ l₀
    ∙ rw (c.opened.ensures, c.incoming_out.ensures, c.to_bytes.ensures, c.incoming_for.ensures)
    (ap (λ (o : Outcome). ending a.out.now o)
    (booked-goes a.state.runtime p (held_circuits n c₀) (held_ledger n l₀) (held_actions n a.inflight.now) a.plan
    a.usage eu _ f (sym c.usage_answer.ensures ∙ c.in-Ok.is)
    (c.put_new-number.ensures
    ∙ ap (λ (r : RelayPending). set p (place_of (non is_pending) p) r) c.pending_for.ensures)))
