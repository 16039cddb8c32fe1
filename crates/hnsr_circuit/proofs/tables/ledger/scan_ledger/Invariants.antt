use Rattle.std.proofs.Common.{◌≡◌, ◌≤◌, drop, length}
use Rattle.hns_encoding.specs.Loops.{fold_from}
use Rattle.hnsr_circuit.specs.Code.Turns.{no_ledger_scan, usage_scanned}
use Rattle.hnsr_circuit.proofs.tables.ledger.scan_ledger.Given as goal

abbrev pub invariant-loop-place : goal.invariant-loop-place
invariant-loop-place l =
    let turn = usage_scanned l.id in
    (l.scan.used ≤ l.place)
    × (fold_from turn (drop l.place l.seen) l.place l.scan
    ≡ fold_from turn l.seen 0 (no_ledger_scan (length l.ledger)))
