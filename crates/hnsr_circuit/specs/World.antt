-- The world that a call is given and leaves: the runtime by value and the four lent tables; and what a call gives back.
use Rattle.std.specs.Prelude.{ℕ, List, [], Option, Ok, Err}
use Rattle.hnsr_circuit.specs.declared.config.OpaqueRelayConfig.{OpaqueRelayConfig}
use Rattle.hnsr_circuit.specs.declared.records.RelayPending.{RelayPending}
use Rattle.hnsr_circuit.specs.declared.records.RelayCircuit.{RelayCircuit}
use Rattle.hnsr_circuit.specs.declared.records.ReservationUsage.{ReservationUsage}
use Rattle.hnsr_circuit.specs.declared.records.InflightAction.{InflightAction}
use Rattle.hnsr_circuit.specs.declared.runtime.OpaqueRelayRuntime.{OpaqueRelayRuntime}
use Rattle.hnsr_circuit.specs.declared.runtime.RuntimeCounters.{RuntimeCounters}
use Rattle.hnsr_circuit.specs.declared.runtime.HnsrRuntimeStatus.{HnsrRuntimeStatus}
use Rattle.hnsr_circuit.specs.declared.answer.HnsrRuntimeError.{HnsrRuntimeError}
use Rattle.hnsr_circuit.specs.Answers.{HnsrAnswer}
use Rattle.hnsr_circuit.specs.Route.{Route}
use Rattle.hnsr_circuit.specs.Runtime.{with_clock, with_counters}

pub record World : Type 0 where
  pub runtime : OpaqueRelayRuntime
  pub pending : List RelayPending
  pub circuits : List RelayCircuit
  pub ledger : List ReservationUsage
  pub inflight : List InflightAction

abbrev pub world_of : OpaqueRelayRuntime → List RelayPending → List RelayCircuit → List ReservationUsage
    → List InflightAction → World
world_of h p c l i = record { runtime = h; pending = p; circuits = c; ledger = l; inflight = i }

abbrev pub config_of : World → OpaqueRelayConfig
config_of w = w.runtime.config

-- ---- what a call gives back
-- what a call tells beside its answer and its routes
pub data Told : Type 0 where
  silent : Told
  status_is : HnsrRuntimeStatus → (capacity : ℕ) → Told
  due_is : Option ℕ → Told

pub record Outcome : Type 0 where
  pub world : World
  pub answer : HnsrAnswer
  pub routes : List Route
  pub told : Told

abbrev pub refuse : World → HnsrRuntimeError → Outcome
refuse w e = record { world = w; answer = Err e; routes = []; told = silent }

abbrev pub done : World → List Route → Outcome
done w routes = record { world = w; answer = Ok tt; routes = routes; told = silent }

abbrev pub telling : World → Told → Outcome
telling w t = record { world = w; answer = Ok tt; routes = []; told = t }

-- the answer of a row, and what follows if it passes; a refusal leaves the world that it is given, so what stays after
-- a refusal is always the world named in front of its row
unfoldable pub proceed : World → HnsrAnswer → Outcome → Outcome
proceed w (Ok _) o = o
proceed w (Err e) o = refuse w e

-- ---- the world with one part replaced
abbrev pub with_runtime : World → OpaqueRelayRuntime → World
with_runtime w h = world_of h w.pending w.circuits w.ledger w.inflight

abbrev pub with_pending : World → List RelayPending → World
with_pending w t = world_of w.runtime t w.circuits w.ledger w.inflight

abbrev pub with_circuits : World → List RelayCircuit → World
with_circuits w t = world_of w.runtime w.pending t w.ledger w.inflight

abbrev pub with_ledger : World → List ReservationUsage → World
with_ledger w t = world_of w.runtime w.pending w.circuits t w.inflight

abbrev pub with_inflight : World → List InflightAction → World
with_inflight w t = world_of w.runtime w.pending w.circuits w.ledger t

abbrev pub at_time : World → (now : ℕ) → World
at_time w now = with_runtime w (with_clock w.runtime now)

abbrev pub counting : (RuntimeCounters → RuntimeCounters) → World → World
counting f w = with_runtime w (with_counters w.runtime (f w.runtime.counters))
