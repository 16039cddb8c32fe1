-- `status`: the fields of the Rust's HnsrRuntimeStatus, in its order, and beside them the action capacity that is left
-- for a peer and a circuit.
use Rattle.std.specs.Prelude.{ℕ, min, false, List, length}
use Rattle.hns_encoding.specs.Numbers.{top}
use Rattle.hnsr_circuit.specs.declared.peer.HnsrPeerId.{HnsrPeerId}
use Rattle.hnsr_circuit.specs.declared.records.RelayCircuit.{RelayCircuit}
use Rattle.hnsr_circuit.specs.declared.tables.scan.CircuitTotals.{CircuitTotals}
use Rattle.hnsr_circuit.specs.declared.runtime.OpaqueRelayRuntime.{OpaqueRelayRuntime}
use Rattle.hnsr_circuit.specs.declared.runtime.HnsrRuntimeStatus.{HnsrRuntimeStatus}
use Rattle.hns_encoding.specs.Sums.{count, total}
use Rattle.hnsr_circuit.specs.Circuits.{is_circuit, queued_in}
use Rattle.hnsr_circuit.specs.Answers.{◌then◌}
use Rattle.hnsr_circuit.specs.Peer.{peer_of}
use Rattle.hnsr_circuit.specs.Inflight.{is_action, tallied, capacity_left}
use Rattle.hnsr_circuit.specs.World.{World, config_of, status_is, Outcome, proceed, telling}
use Rattle.hnsr_circuit.specs.Counts.{pending_count}
use Rattle.hnsr_circuit.specs.Entry.{tables_answer, peer_answer}

-- what is asked of the circuits; the sum of the queues stops at its top
abbrev pub circuit_totals : List RelayCircuit → CircuitTotals
circuit_totals t = record { used = count is_circuit t; queued_bytes = min (total queued_in t) (top 64) }

abbrev pub status_from : OpaqueRelayRuntime → (pending : ℕ) → CircuitTotals → (actions : ℕ) → HnsrRuntimeStatus
status_from h pending circuits actions = record {
  generation = h.generation;
  enabled = h.enabled;
  pending_circuits = pending;
  active_circuits = circuits.used;
  queued_bytes = circuits.queued_bytes;
  queued_actions = actions;
  trusted_time_high_water = h.trusted_time_high_water;
  admitted_opens = h.counters.admitted_opens;
  opened_circuits = h.counters.opened_circuits;
  bytes_sent = h.counters.bytes_sent;
  bytes_received = h.counters.bytes_received;
  revoked_work = h.counters.revoked_work;
}

unfoldable pub status_of : World → HnsrRuntimeStatus
status_of w = status_from w.runtime (pending_count w) (circuit_totals w.circuits) (count is_action w.inflight)

-- STATUS.6: how many further actions fit, toward a peer and under a circuit, known or not
unfoldable pub action_capacity : World → HnsrPeerId → (circuit : ℕ) → ℕ
action_capacity w peer circuit = capacity_left (config_of w) (tallied false circuit peer w.inflight)

unfoldable pub status : World → (peer : List ℕ) → (circuit : ℕ) → Outcome
status w peer circuit =
    proceed w (tables_answer w then peer_answer (length peer))
    (telling w (status_is (status_of w) (action_capacity w (peer_of peer) circuit)))
