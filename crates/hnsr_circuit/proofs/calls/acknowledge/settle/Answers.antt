-- What is done is decided by the kind and by whether it was delivered.
use mathlib.Core.Path.{sym, ap, ◌∙◌}
use Rattle.hnsr_circuit.specs.declared.records.InflightKind.TheVariants.{Incoming, Close}
use Rattle.hnsr_circuit.specs.Code.Progress.{ending}
use Rattle.hnsr_circuit.specs.Acknowledge.{undelivered}
use Rattle.hnsr_circuit.specs.Laws.Acknowledging.{settled-delivered, settled-by, settled-revoked}
use Rattle.hnsr_circuit.specs.Code.Held.{state_seen}
use Rattle.hnsr_circuit.specs.Laws.Seen.{taken-seen}
use Rattle.hnsr_circuit.proofs.calls.acknowledge.settle.Goals as goal

pub returns-then-delivered : goal.returns-then-delivered
returns-then-delivered c =
    λ l₀.
    let a = c.args in
    let w = state_seen a.state a.pending.now a.circuits.now l₀ a.inflight.now in
    taken-seen a.state a.pending.now a.circuits.now l₀ a.inflight.now a.out.now c.taken.result c.taken.ensures
    ∙ ap (ending a.out.now) (settled-delivered w a.action a.delivered c.if-delivered.true)

pub returns-in-Incoming : goal.returns-in-Incoming
unfolding undelivered
returns-in-Incoming c =
    λ l₀.
    let a = c.args in
    let w = state_seen a.state a.pending.now a.circuits.now l₀ a.inflight.now in
    c.fail_incoming.ensures a.circuits.now l₀
    ∙ ap (ending a.out.now)
    (settled-by w a.action a.delivered Incoming (sym c.from.ensures ∙ c.in-Incoming.is) c.if-delivered.false)

pub returns-in-Opened : goal.returns-in-Opened
returns-in-Opened c =
    λ l₀.
    let a = c.args in
    let w = state_seen a.state a.pending.now a.circuits.now l₀ a.inflight.now in
    c.revoke_one.ensures a.pending.now l₀
    ∙ ap (ending a.out.now)
    (settled-revoked w a.action a.delivered c.from.result (sym c.from.ensures) c.in-Opened.is
    c.if-delivered.false)

pub returns-in-Close : goal.returns-in-Close
unfolding undelivered
returns-in-Close c =
    λ l₀.
    let a = c.args in
    let w = state_seen a.state a.pending.now a.circuits.now l₀ a.inflight.now in
    taken-seen a.state a.pending.now a.circuits.now l₀ a.inflight.now a.out.now c.taken-in-Close.result
    c.taken-in-Close.ensures
    ∙ ap (ending a.out.now)
    (settled-by w a.action a.delivered Close (sym c.from.ensures ∙ c.in-Close.is) c.if-delivered.false)
