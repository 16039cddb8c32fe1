use Rattle.std.proofs.Common.{◌≡◌, take, drop, ◌++◌}
use Rattle.hns_encoding.specs.Loops.{fold_from}
use Rattle.hnsr_circuit.specs.Table.{clear}
use Rattle.hnsr_circuit.specs.Inflight.{clear_action, action_under}
use Rattle.hnsr_circuit.specs.Code.Turns.{TallyAtMost, no_scan, scanned}
use Rattle.hnsr_circuit.proofs.tables.inflight.drop_and_scan.Given as goal

abbrev pub invariant-loop-place : goal.invariant-loop-place
invariant-loop-place l =
    let turn = scanned l.question in
    let p = action_under l.id in
    let left = clear clear_action p l.initial.row-items in
    TallyAtMost l.place l.scan.tally
    × (take l.place l.row-items ++ clear clear_action p (drop l.place l.row-items) ≡ left)
    × (fold_from turn (drop l.place left) l.place l.scan ≡ fold_from turn left 0 no_scan)
