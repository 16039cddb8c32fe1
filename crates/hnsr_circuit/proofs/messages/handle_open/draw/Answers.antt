-- Each draw ends the drawing, or leaves what is left.
use Rattle.std.proofs.Common.{◌∙◌, sym, arith}
use Rattle.hnsr_circuit.specs.Laws.Opening.{draws_are, draw_over, zero_ends, zero_passed}
use Rattle.hnsr_circuit.specs.Laws.Opening.{taken_ends, taken_passed, fresh_drawn}
use Rattle.hnsr_circuit.proofs.messages.handle_open.draw.Goals.{then-id-eq0+else-zeros-ge-MOST_DRAWS}
use Rattle.hnsr_circuit.proofs.messages.handle_open.draw.Goals.{else-id-eq0+then-id_taken+else-candidates-ge-MOST_DRAWS}
use Rattle.hnsr_circuit.proofs.messages.handle_open.draw.Goals as goal

pub loop-bytes-init : goal.loop-bytes-init
loop-bytes-init c = (omega arith, omega arith, rw (c.as_chunks.ensures.front, draws_are c.args.random.now))

pub returns-then-zeros-ge-MOST_DRAWS : goal.returns-then-zeros-ge-MOST_DRAWS
returns-then-zeros-ge-MOST_DRAWS c =
    zero_ends _ _ _ _ _ c.loop-bytes.invariant.2 c.from_be_bytes-id.ensures c.loop-bytes-test.true c.if-id-eq0.true
    c.if-zeros-ge-MOST_DRAWS.true

pub returns-then-candidates-ge-MOST_DRAWS : goal.returns-then-candidates-ge-MOST_DRAWS
returns-then-candidates-ge-MOST_DRAWS c =
    taken_ends _ _ _ _ _ c.loop-bytes.invariant.2 c.from_be_bytes-id.ensures c.loop-bytes-test.true c.if-id-eq0.false
    (sym c.id_taken.ensures ∙ c.if-id_taken.true) c.if-candidates-ge-MOST_DRAWS.true

pub returns-else-id_taken : goal.returns-else-id_taken
returns-else-id_taken c =
    fresh_drawn _ _ _ _ _ c.loop-bytes.invariant.2 c.from_be_bytes-id.ensures c.loop-bytes-test.true c.if-id-eq0.false
    (sym c.id_taken.ensures ∙ c.if-id_taken.false)

pub loop-bytes-preserved : goal.loop-bytes-preserved
loop-bytes-preserved c =
    elim c.if-id-eq0.branch [
      | then-id-eq0+else-zeros-ge-MOST_DRAWS w ↦ rw (w.zeros-is, w.candidates-is) (
        omega (arith, w.if-zeros-ge-MOST_DRAWS.false),
        c.loop-bytes.invariant.1,
        zero_passed _ _ _ _ _ c.loop-bytes.invariant.2 c.from_be_bytes-id.ensures c.loop-bytes-test.true
            w.if-id-eq0.true (omega (arith, w.if-zeros-ge-MOST_DRAWS.false)),
      )
      | else-id-eq0+then-id_taken+else-candidates-ge-MOST_DRAWS w ↦ rw (w.zeros-is, w.candidates-is) (
        omega arith,
        omega (arith, w.if-candidates-ge-MOST_DRAWS.false),
        taken_passed _ _ _ _ _ c.loop-bytes.invariant.2 c.from_be_bytes-id.ensures c.loop-bytes-test.true
            w.if-id-eq0.false (sym w.id_taken.ensures ∙ w.if-id_taken.true)
            (omega (arith, w.if-candidates-ge-MOST_DRAWS.false)),
      )
    ]

pub returns : goal.returns
returns c = draw_over _ _ _ _ _ c.loop-bytes.invariant.2 c.loop-bytes-test.false
