-- Turned away by the rows of entry and clock, or gone on to the gate with the clock moved.
use Rattle.std.proofs.Common.{rules, arith, ap, sym, ◌∙◌, ◌<◌, length}
use Rattle.hnsr_circuit.specs.Answers.{taken}
use Rattle.hnsr_circuit.specs.World.{at_time, world_of}
use Rattle.hnsr_circuit.specs.Handle.{handle_gate, handle}
use Rattle.hnsr_circuit.specs.Code.Progress.{packet_of, ending}
use Rattle.hnsr_circuit.specs.Call.{step, call_handle}
use Rattle.hnsr_circuit.specs.Code.Held.{state_seen, held_pending, held_circuits, held_ledger, held_actions}
use Rattle.hnsr_circuit.specs.Laws.Calls.{whole}
use Rattle.hnsr_circuit.specs.Laws.Seen.{turned-seen}
use Rattle.hnsr_circuit.specs.Laws.HandleCall.{rows, body-short, entered}
use Rattle.hnsr_circuit.specs.Laws.HeldTables.{few-held}
use Rattle.hnsr_circuit.proofs.calls.handle.handle.Goals as goal

pub invariant_of-handle_gate : goal.invariant_of-handle_gate
invariant_of-handle_gate c =
    let a = c.args in
    let s = a.state in
    let q = packet_of a.packet a.source.now a.body.now a.endpoint.now a.random.now in
    record {
      short = body-short s.runtime (held_pending s.places a.pending.now) (held_circuits s.places a.circuits.now)
          (held_ledger s.places a.ledger.now) (held_actions s.places a.inflight.now) q (length a.out.now)
          c.too_few-few.result c.room_answer-lent.result c.entry_answer.result
          (c.too_few-few.ensures ∙ few-held s.runtime.config s.places a.pending.now a.circuits.now a.inflight.now)
          c.room_answer-lent.ensures c.entry_answer.ensures (ap taken c.in-Ok.is);
    }

pub returns-in-Ok : goal.returns-in-Ok
unfolding step
returns-in-Ok c =
    let a = c.args in
    let s = a.state in
    let w = state_seen s a.pending.now a.circuits.now a.ledger.now a.inflight.now in
    let q = packet_of a.packet a.source.now a.body.now a.endpoint.now a.random.now in
    let small : length c.args.out.now < 18446744073709551616 = search rules in
    let e = c.trim.ensures in
    c.handle_gate.ensures
    ∙ (λ x. ending a.out.now (handle_gate (world_of c.with_clock.result (e.0 x) (e.1 x) (e.2 x) (e.3 x)) q))
    ∙ ap (ending a.out.now)
    (entered s.runtime (held_pending s.places a.pending.now) (held_circuits s.places a.circuits.now)
    (held_ledger s.places a.ledger.now) (held_actions s.places a.inflight.now) q (length a.out.now)
    c.too_few-few.result c.room_answer-lent.result c.entry_answer.result
    (c.too_few-few.ensures ∙ few-held s.runtime.config s.places a.pending.now a.circuits.now a.inflight.now)
    c.room_answer-lent.ensures c.entry_answer.ensures c.with_clock.result (ap taken c.in-Ok.is) c.with_clock.ensures)
    ∙ whole a.out.now w (call_handle q (length a.out.now)) (omega arith) (omega arith)

pub returns-in-Err : goal.returns-in-Err
unfolding step handle
returns-in-Err c =
    let a = c.args in
    let s = a.state in
    let w = state_seen s a.pending.now a.circuits.now a.ledger.now a.inflight.now in
    let q = packet_of a.packet a.source.now a.body.now a.endpoint.now a.random.now in
    let small : length c.args.out.now < 18446744073709551616 = search rules in
    let same = rows s.runtime (held_pending s.places a.pending.now) (held_circuits s.places a.circuits.now)
    (held_ledger s.places a.ledger.now) (held_actions s.places a.inflight.now) q (length a.out.now)
    c.too_few-few.result c.room_answer-lent.result c.entry_answer.result
    (c.too_few-few.ensures ∙ few-held s.runtime.config s.places a.pending.now a.circuits.now a.inflight.now)
    c.room_answer-lent.ensures c.entry_answer.ensures in
    turned-seen s a.pending.now a.circuits.now a.ledger.now a.inflight.now a.out.now c.refused.result c.in-Err.error _
    (handle_gate (at_time w a.packet.now) q) c.refused.ensures (sym same ∙ c.in-Err.is)
    ∙ whole a.out.now w (call_handle q (length a.out.now)) (omega arith) (omega arith)
