-- What actions and ledger refuse is refused; else the ledger record is put, and the last stage follows.
use mathlib.Core.Path.{sym, ap, ◌∙◌}
use lib.ListN.{set}
use Rattle.hnsr_circuit.specs.declared.output.queue.Outgoing.{Outgoing}
use Rattle.hnsr_circuit.specs.declared.records.ReservationUsage.{ReservationUsage}
use Rattle.hnsr_circuit.specs.declared.tables.lookup.Found.{Found}
use Rattle.hnsr_circuit.specs.declared.tables.scan.ActionQuestion.{ActionQuestion}
use Rattle.hnsr_circuit.specs.declared.tables.scan.LedgerScan.{LedgerScan}
use Rattle.hnsr_circuit.specs.World.{Outcome}
use Rattle.hnsr_circuit.specs.Code.Held.{held_pending, held_circuits, held_ledger, held_actions}
use Rattle.hnsr_circuit.specs.Code.Opening.{booked_in, placed_rows}
use Rattle.hnsr_circuit.specs.Code.Progress.{asking, ending}
use Rattle.hnsr_circuit.specs.Code.Turns.{actions_scanned}
use Rattle.hnsr_circuit.specs.Laws.Opening.{drawn-goes}
use Rattle.hnsr_circuit.proofs.messages.handle_open.open_placed.Goals as goal

pub returns-in-Ok : goal.returns-in-Ok
returns-in-Ok c =
    λ c₀ f.
    let a = c.args in
    let n = a.state.places in
    let t = held_ledger n a.ledger.now in
    let i = held_actions n a.inflight.now in
    let scan = c.scan_actions-scan.ensures
    ∙ ap (λ (q : ActionQuestion). actions_scanned q i)
    (c.asking.ensures ∙ ap (λ (m : Outgoing). asking a.state.runtime m) c.incoming_out.ensures) in
    let usage = c.booked-usage.ensures
    ∙ ap (λ (r : LedgerScan). booked_in r a.plan.ticket) c.scan_ledger-asked.ensures in
    let k = drawn-goes a.state.runtime (held_pending n a.pending.now) (held_circuits n c₀) t i a.plan a.now _
    (sym (λ x. placed_rows a.state.runtime.config a.now (scan x).tally (c.scan_ledger-asked.ensures x))
    ∙ sym c.placed_rows.ensures ∙ c.in-Ok.is)
    (c.put-number.ensures ∙ (λ x. set t (usage x).place (usage x).row)) in
    c.open_booked.ensures c₀ c.put-number.new.rows (ap (λ (x : Found ReservationUsage). x.row) usage ∙ k.0) f
    ∙ ap (λ (o : Outcome). ending a.out.now o) k.1
