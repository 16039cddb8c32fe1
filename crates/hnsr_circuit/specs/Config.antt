-- The configuration (CFG): defaults, bounds, and what `validate` refuses.
use Rattle.std.specs.Prelude.{ℕ, Bool, not, ◌&&◌, leb}
use Rattle.hnsr_circuit.specs.declared.config.OpaqueRelayConfig.{OpaqueRelayConfig}
use Rattle.hnsr_circuit.specs.declared.answer.HnsrRuntimeError.TheVariants.{InvalidConfig}
use Rattle.hnsr_circuit.specs.Answers.{HnsrAnswer, check}

abbrev pub max_runtime_pending : ℕ
max_runtime_pending = 65536

abbrev pub max_runtime_circuits : ℕ
max_runtime_circuits = 65536

abbrev pub max_circuits : ℕ
max_circuits = 32

abbrev pub max_circuit_queue : ℕ
max_circuit_queue = 65536

abbrev pub max_runtime_inflight_actions : ℕ
max_runtime_inflight_actions = 262144

abbrev pub least_inflight_actions_per_circuit : ℕ
least_inflight_actions_per_circuit = 2

abbrev pub max_open_deadline_seconds : ℕ
max_open_deadline_seconds = 10

abbrev pub default_config : OpaqueRelayConfig
default_config = record {
  maximum_pending = 1024;
  maximum_circuits = 4096;
  maximum_circuits_per_peer = max_circuits;
  maximum_queue_bytes = max_circuit_queue;
  maximum_inflight_actions = 65536;
  maximum_inflight_actions_per_circuit = 128;
  maximum_inflight_actions_per_peer = 4096;
  maximum_bytes_per_circuit = 16777216;
  accept_timeout_seconds = max_open_deadline_seconds;
}

-- between two limits, ends included
unfoldable pub within_limits : (low n high : ℕ) → Bool
within_limits low n high = leb low n && leb n high

unfoldable pub config_good : OpaqueRelayConfig → Bool
config_good c =
    within_limits 1 c.maximum_pending max_runtime_pending
    && within_limits 1 c.maximum_circuits max_runtime_circuits
    && within_limits 1 c.maximum_circuits_per_peer max_circuits
    && within_limits 1 c.maximum_queue_bytes max_circuit_queue
    && within_limits 1 c.maximum_inflight_actions max_runtime_inflight_actions
    && within_limits least_inflight_actions_per_circuit c.maximum_inflight_actions_per_circuit
    c.maximum_inflight_actions
    && within_limits c.maximum_inflight_actions_per_circuit c.maximum_inflight_actions_per_peer
    c.maximum_inflight_actions
    && leb 1 c.maximum_bytes_per_circuit
    && within_limits 1 c.accept_timeout_seconds max_open_deadline_seconds

unfoldable pub validate_config : OpaqueRelayConfig → HnsrAnswer
validate_config c = check (not (config_good c)) InvalidConfig
