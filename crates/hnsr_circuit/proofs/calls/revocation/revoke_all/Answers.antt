-- One walk after the other, and then the call is over.
use Rattle.std.proofs.Common.{sym, ap, ◌∙◌, List, []}
use Rattle.hnsr_circuit.specs.declared.records.RelayCircuit.{RelayCircuit}
use Rattle.hnsr_circuit.specs.declared.calls.revocation.Walks.{Walks}
use Rattle.hnsr_circuit.specs.Table.{not_yet, next}
use Rattle.hnsr_circuit.specs.Pending.{no_pending, pending_id}
use Rattle.hnsr_circuit.specs.Circuits.{no_circuit, circuit_id}
use Rattle.hnsr_circuit.specs.World.{world_of}
use Rattle.hnsr_circuit.specs.Queue.{and_then}
use Rattle.hnsr_circuit.specs.Revocation.{walk, pending_table, circuit_table, end_pending_there, end_circuit_there}
use Rattle.hnsr_circuit.specs.Code.Held.{state_seen}
use Rattle.hnsr_circuit.specs.Code.Progress.{Progress, progress, advanced, advance, ending}
use Rattle.hnsr_circuit.specs.Code.Question.{pending_revoked, circuit_revoked}
use Rattle.hnsr_circuit.specs.Code.Revoking.{pending_closings, circuit_closings, ended}
use Rattle.hnsr_circuit.specs.Laws.Progress.{advance_then}
use Rattle.hnsr_circuit.specs.Laws.Revocation.{pending_told, walks_told}
use Rattle.hnsr_circuit.specs.Laws.RoomEnds.{walk-pending-circuits}
use Rattle.hnsr_circuit.specs.Laws.Seen.{begun-seen, over-seen}
use Rattle.hnsr_circuit.proofs.calls.revocation.revoke_all.Goals as goal

pub walk-requires : goal.walk-requires
walk-requires c =
    let a = c.args in
    let v = a.walks.revoking in
    let w = state_seen a.state a.pending.now a.circuits.now [] a.inflight.now in
    let kept = ap (λ (s : Progress). s.world.circuits)
    (c.walk-sent.ensures (world_of a.state.runtime [] a.circuits.now [] [])
    ∙ ap (advance (walk pending_id pending_table (pending_revoked v)
    (ended pending_table no_pending (pending_closings v) end_pending_there)))
    (begun-seen a.state c.start-start.result a.pending.now a.circuits.now [] a.inflight.now a.out.now
    c.start-start.ensures))
    ∙ (λ j. (walk pending_id pending_table (pending_revoked v) (λ u place. pending_told v u place j) w).world.circuits)
    ∙ walk-pending-circuits v (pending_revoked v) w in
    ap (λ (k : Walks). k.circuits) c.requires
    ∙ ap (λ (t : List RelayCircuit). next circuit_id (circuit_revoked v) not_yet t) (sym kept)

pub returns : goal.returns
returns c = λ l.
    let a = c.args in
    let v = a.walks.revoking in
    let w = state_seen a.state a.pending.now a.circuits.now l a.inflight.now in
    let p = c.walk-sent.new.rows in
    let first = walk pending_id pending_table (pending_revoked v)
    (ended pending_table no_pending (pending_closings v) end_pending_there) in
    let second = walk circuit_id circuit_table (circuit_revoked v)
    (ended circuit_table no_circuit (circuit_closings v) end_circuit_there) in
    let start = begun-seen a.state c.start-start.result a.pending.now a.circuits.now l a.inflight.now a.out.now
    c.start-start.ensures in
    over-seen c.finish.result c.walk.result p c.walk.new.rows l c.walk.new.inflight c.walk.new.out
    (advanced (progress w 0 a.out.now) (and_then (first w) second)) c.finish.ensures
    (c.walk.ensures (world_of a.state.runtime p [] l [])
    ∙ ap (λ (s : Progress). advance second s)
    (c.walk-sent.ensures (world_of a.state.runtime [] a.circuits.now l [])
    ∙ ap (λ (s : Progress). advance first s) start)
    ∙ sym (advance_then (progress w 0 a.out.now) (first w) second))
    ∙ ap (ending a.out.now) (walks_told v w)
