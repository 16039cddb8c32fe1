-- Every action dropped and the generation raised; if off, every record revoked.
use Rattle.std.proofs.Common.{List, [], sym, ap, ◌∙◌}
use Rattle.hnsr_circuit.specs.declared.records.InflightAction.{InflightAction}
use Rattle.hnsr_circuit.specs.declared.tables.question.Revoking.TheVariants.{Disabled}
use Rattle.hnsr_circuit.specs.World.{done, world_of}
use Rattle.hnsr_circuit.specs.Code.Held.{held_pending, held_circuits, world_seen, state_seen}
use Rattle.hnsr_circuit.specs.Code.Progress.{ending}
use Rattle.hnsr_circuit.specs.Code.Revoking.{walks_of, revoking_all}
use Rattle.hnsr_circuit.specs.Runtime.{with_enabled}
use Rattle.hnsr_circuit.specs.Laws.Seen.{taken-seen}
use Rattle.hnsr_circuit.specs.Laws.RevokingCalls.{switched_on, switched_off}
use Rattle.hnsr_circuit.proofs.calls.revoking.switch_to.Goals as goal

pub returns-then-enabled : goal.returns-then-enabled
returns-then-enabled c = λ l.
    let a = c.args in
    let w = state_seen a.state a.pending.now a.circuits.now l a.inflight.now in
    let runtime = c.with_runtime-switched.ensures.0 ∙ c.with_enabled.ensures c.requires.0 in
    let places = c.with_runtime-switched.ensures.1 in
    taken-seen c.with_runtime-switched.result a.pending.now a.circuits.now l c.clear.new.rows a.out.now c.taken.result
    c.taken.ensures
    ∙ (λ x. ending a.out.now
    (done (world_seen (runtime x) (places x) a.pending.now a.circuits.now l c.clear.new.rows) []))
    ∙ ap (λ (i : List InflightAction). ending a.out.now
    (done (world_of (with_enabled a.state.runtime a.enabled) w.pending w.circuits w.ledger i) [])) c.clear.ensures
    ∙ ap (ending a.out.now) (switched_on w a.enabled c.if-enabled.true)

pub revoke_all-requires : goal.revoke_all-requires
revoke_all-requires c = let a = c.args in
    let e = c.requires.1 in
    let places = sym c.with_runtime-switched.ensures.1 in
    e ∙ (λ x. walks_of (sym e x).revoking (held_pending (places x) a.pending.now)
    (held_circuits (places x) a.circuits.now))

pub returns : goal.returns
returns c = λ l.
    let a = c.args in
    let w = state_seen a.state a.pending.now a.circuits.now l a.inflight.now in
    let runtime = c.with_runtime-switched.ensures.0 ∙ c.with_enabled.ensures c.requires.0 in
    let places = c.with_runtime-switched.ensures.1 in
    c.revoke_all.ensures l
    ∙ (λ x. ending a.out.now (revoking_all (c.requires.1 x).revoking
    (world_seen (runtime x) (places x) a.pending.now a.circuits.now l c.clear.new.rows)))
    ∙ ap (λ (i : List InflightAction). ending a.out.now (revoking_all Disabled
    (world_of (with_enabled a.state.runtime a.enabled) w.pending w.circuits w.ledger i))) c.clear.ensures
    ∙ ap (ending a.out.now) (switched_off w a.enabled c.if-enabled.false)
