-- Each arm is the handling that its opcode picks.
use Prim.Native.Nat.{ℕ}
use mathlib.Core.Path.{sym, ap, ◌∙◌}
use mathlib.Core.Logic.{inl, inr, ⊎_elim}
use Rattle.hnsr_circuit.specs.World.{Outcome}
use Rattle.hnsr_circuit.specs.declared.answer.HnsrRuntimeError.TheVariants.{UnexpectedOpcode}
use Rattle.hnsr_circuit.specs.Handle.{Handling, handling_of, dispatch}
use Rattle.hnsr_circuit.specs.Code.Progress.{packet_of, ending}
use Rattle.hnsr_circuit.specs.Laws.HandleCall.{closes, at_nineteen, other-below, other-above}
use Rattle.hnsr_circuit.specs.Laws.HandleCall.{other-incoming, other-opened}
use Rattle.hnsr_circuit.specs.Laws.Seen.{refused-seen}
use Rattle.hnsr_circuit.specs.Code.Held.{world_given}
use Rattle.hnsr_circuit.proofs.calls.handle.dispatch.Goals as goal
use Rattle.hnsr_circuit.proofs.calls.handle.dispatch.Goals.{in-14-1, in_default+then-opcode-lt13}
use Rattle.hnsr_circuit.proofs.calls.handle.dispatch.Goals.{in_default+else-opcode-lt13+else-opcode-lt21}

pub returns-in-13 : goal.returns-in-13
unfolding handling_of dispatch
returns-in-13 c =
    λ source en.
    let a = c.args in
    let w = world_given a.request a.pending.now a.circuits.now a.ledger.now a.inflight.now in
    let q = packet_of a.request.packet source a.body.bytes.now a.endpoint.now a.random.now in
    c.handle_open.ensures source en
    ∙ ap (λ (n : ℕ). ending a.out.now (dispatch (handling_of n) w q)) (sym c.in-13.is)

pub returns-in-15 : goal.returns-in-15
unfolding handling_of dispatch
returns-in-15 c =
    λ source en.
    let a = c.args in
    let w = world_given a.request a.pending.now a.circuits.now a.ledger.now a.inflight.now in
    let q = packet_of a.request.packet source a.body.bytes.now a.endpoint.now a.random.now in
    c.handle_accept.ensures a.ledger.now source a.endpoint.now a.random.now en
    ∙ ap (λ (n : ℕ). ending a.out.now (dispatch (handling_of n) w q)) (sym c.in-15.is)

pub returns-in-17 : goal.returns-in-17
unfolding handling_of dispatch
returns-in-17 c =
    λ source en.
    let a = c.args in
    let w = world_given a.request a.pending.now a.circuits.now a.ledger.now a.inflight.now in
    let q = packet_of a.request.packet source a.body.bytes.now a.endpoint.now a.random.now in
    c.handle_data.ensures a.pending.now source a.endpoint.now a.random.now en
    ∙ ap (λ (n : ℕ). ending a.out.now (dispatch (handling_of n) w q)) (sym c.in-17.is)

pub returns-in-18 : goal.returns-in-18
unfolding handling_of dispatch
returns-in-18 c =
    λ source en.
    let a = c.args in
    let w = world_given a.request a.pending.now a.circuits.now a.ledger.now a.inflight.now in
    let q = packet_of a.request.packet source a.body.bytes.now a.endpoint.now a.random.now in
    c.handle_window.ensures a.pending.now a.ledger.now source a.endpoint.now a.random.now en
    ∙ ap (λ (n : ℕ). ending a.out.now (dispatch (handling_of n) w q)) (sym c.in-18.is)

pub returns-in-19-to-20 : goal.returns-in-19-to-20
returns-in-19-to-20 c =
    λ source en.
    let a = c.args in
    let w = world_given a.request a.pending.now a.circuits.now a.ledger.now a.inflight.now in
    let q = packet_of a.request.packet source a.body.bytes.now a.endpoint.now a.random.now in
    let rest = c.in-19-to-20.in_default-own.rest in
    let low = c.in-19-to-20.if-opcode-lt13-own.false in
    let high = c.in-19-to-20.if-opcode-lt21-own.true in
    let n = a.request.packet.opcode in
    c.handle_close.ensures a.ledger.now source a.endpoint.now a.random.now en
    ∙ ap (λ (o : Outcome). ending a.out.now o)
    (closes n w q
    (at_nineteen n low rest.0.0.0.0.1 (λ e. rest.1 (inl e)) rest.0.0.0.1 (λ e. rest.1 (inr e))
    rest.0.0.1 rest.0.1) high)

pub returns-in-0-to-12 : goal.returns-in-0-to-12
unfolding dispatch
returns-in-0-to-12 c =
    λ source en.
    let a = c.args in
    let r = a.request in
    let n = r.packet.opcode in
    let w = world_given r a.pending.now a.circuits.now a.ledger.now a.inflight.now in
    let q = packet_of r.packet source a.body.bytes.now a.endpoint.now a.random.now in
    refused-seen r.state a.pending.now a.circuits.now a.ledger.now a.inflight.now a.out.now c.refused.result
    UnexpectedOpcode c.refused.ensures
    ∙ ap (λ (k : Handling). ending a.out.now (dispatch k w q)) (sym
    (elim c.in-0-to-12-1.branch [
      | in-14-1 w ↦ ⊎_elim (other-incoming n) (other-opened n) w.in-14-1.keys5
      | in_default+then-opcode-lt13 w ↦ other-below n w.if-opcode-lt13-1.true
      | in_default+else-opcode-lt13+else-opcode-lt21 w ↦ other-above n w.if-opcode-lt21-1.false
    ]))
