use Rattle.std.proofs.Common.{◌≡◌, drop}
use Rattle.hns_encoding.specs.Loops.{fold_from}
use Rattle.hnsr_circuit.specs.Code.Turns.{TallyAtMost, no_scan, scanned}
use Rattle.hnsr_circuit.proofs.tables.inflight.scan_actions.Given as goal

abbrev pub invariant-loop-place : goal.invariant-loop-place
invariant-loop-place l =
    let turn = scanned l.question in
    TallyAtMost l.place l.scan.tally
    × (fold_from turn (drop l.place l.seen) l.place l.scan ≡ fold_from turn l.seen 0 no_scan)
