-- What is passed is dropped, and what is left of the scan goes over the table as it will be.
use Rattle.std.proofs.Common.{arith, ap, refl, sym, ◌∙◌, ◌≡◌, ◌<◌, get_or, length, take, drop, List, ◌++◌}
use Rattle.std.proofs.lemmas.List.{get_or_default}
use lib.ListN.{length-map}
use Rattle.hns_encoding.specs.Loops.{fold_step, map-step, map-done}
use Rattle.hnsr_circuit.specs.Table.{cleared, clear}
use Rattle.hnsr_circuit.specs.Inflight.{no_action, clear_action, action_under, dropped}
use Rattle.hnsr_circuit.specs.Code.Held.{held}
use Rattle.hnsr_circuit.specs.Code.Turns.{scanned}
use Rattle.hnsr_circuit.specs.declared.records.InflightAction.{InflightAction}
use Rattle.hnsr_circuit.specs.Laws.HeldTables.{dropped_scanned}
use Rattle.hnsr_circuit.specs.Laws.Held.{cleared_held}
use Rattle.hnsr_circuit.specs.Laws.Scans.{map-here}
use Rattle.hnsr_circuit.proofs.tables.inflight.drop_and_scan.Goals as goal

pub loop-place-preserved : goal.loop-place-preserved
loop-place-preserved c =
    let q = c.args.question in
    let g = cleared clear_action (action_under c.args.id) in
    let l = c.loop-place in
    let first = take c.min-end.result c.args.inflight.now in
    let left = clear clear_action (action_under c.args.id) first in
    let row = c.drop_under.new.row in
    let inside : l.place < length l.row-items = omega (arith, l.auto.row-items, c.loop-place-test.true) in
    let long : l.place < length left = rw (length-map first g) c.loop-place-test.true in
    let here : row ≡ g (get_or l.row-items l.place no_action) =
    c.drop_under.ensures ∙ ap g (get_or_default l.row-items l.place _ no_action inside) in
    let there : row ≡ get_or left l.place no_action = here
    ∙ sym (map-here g l.row-items no_action l.place inside)
    ∙ ap (λ (x : List InflightAction). get_or x l.place no_action) l.invariant.1 in (
      record { all = omega arith; circuit = omega arith; peer = omega arith },
      map-step g l.row-items no_action l.place row left inside here l.invariant.1,
      fold_step (scanned q) left no_action l.place l.scan c.action_scanned-scan.result _ long
          (c.action_scanned-scan.ensures.scanned ∙ ap (λ (x : InflightAction). scanned q l.scan x l.place) there)
          l.invariant.2,
    )

pub returns : goal.returns
unfolding dropped
returns c =
    let a = c.args in
    let p = action_under a.id in
    let t = a.inflight.now in
    let n = a.places.actions in
    let l = c.loop-place in
    let end = c.min-end.result in
    let first = take end t in
    let done = map-done (cleared clear_action p) l.row-items l.place (clear clear_action p first)
    (omega (arith, l.auto.row-items, c.loop-place-test.false)) l.invariant.1 in (
      ap (λ (x : List InflightAction). held clear_action n (x ++ drop end t)) done
          ∙ cleared_held clear_action p (λ x. refl) n end t c.min-end.ensures,
      c.ended.ensures
          ∙ dropped_scanned a.question p n end t l.place l.scan c.min-end.ensures c.loop-place-test.false l.invariant.2,
    )
