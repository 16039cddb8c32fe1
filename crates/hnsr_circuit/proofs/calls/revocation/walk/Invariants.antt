-- What is left of the walk, from where it has come to, leaves what the whole walk leaves.
use Rattle.std.proofs.Common.{◌≡◌, ◌-◌}
use Rattle.hnsr_circuit.specs.World.{World}
use Rattle.hnsr_circuit.specs.Revocation.{walk}
use Rattle.hnsr_circuit.specs.Code.Held.{sending_seen}
use Rattle.hnsr_circuit.specs.Code.Progress.{advance}
use Rattle.hnsr_circuit.specs.Code.Revoking.{ended}
use Rattle.hnsr_circuit.specs.Laws.Revocation.{walk_on}
use Rattle.hnsr_circuit.proofs.calls.revocation.walk.Given as goal

abbrev pub invariant-loop : goal.invariant-loop
invariant-loop g l =
    let r = g.R.Revocable in
    let id = g.R.Numbered.id in
    let has = g.R.Revocable.is_revoked l.revoking in
    let end = ended r.table g.R.TableRecord.none (r.closings l.revoking) r.without in
    (w : World)
    → advance (walk_on id r.table has end (l.end - l.counter) l.next)
    (sending_seen l.sent (r.with_table w l.rows) l.inflight l.out)
    ≡ advance (walk id r.table has end)
    (sending_seen l.initial.sent (r.with_table w l.initial.rows) l.initial.inflight l.initial.out)
