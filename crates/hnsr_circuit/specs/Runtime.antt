-- The runtime with one part replaced (HOST.8), and the counters (COUNT.1 to COUNT.5).
use Rattle.std.specs.Prelude.{ℕ, ◌+◌, Bool, true, false}
use mathlib.Core.List.{List, replicate}
use Rattle.hns_encoding.specs.Numbers.{saturating_add}
use Rattle.hnsr_circuit.specs.declared.config.OpaqueRelayConfig.{OpaqueRelayConfig}
use Rattle.hnsr_circuit.specs.declared.runtime.OpaqueRelayRuntime.{OpaqueRelayRuntime}
use Rattle.hnsr_circuit.specs.declared.runtime.RuntimeCounters.{RuntimeCounters}

-- ---- counters: sums that stop at their top
abbrev pub counters : (admitted opened sent received revoked : ℕ) → RuntimeCounters
counters admitted opened sent received revoked = record {
  admitted_opens = admitted;
  opened_circuits = opened;
  bytes_sent = sent;
  bytes_received = received;
  revoked_work = revoked;
}

abbrev pub no_counts : RuntimeCounters
no_counts = counters 0 0 0 0 0

abbrev pub count_open : RuntimeCounters → RuntimeCounters
count_open c =
    counters (saturating_add 64 c.admitted_opens 1) c.opened_circuits c.bytes_sent c.bytes_received
    c.revoked_work

abbrev pub count_accept : RuntimeCounters → RuntimeCounters
count_accept c =
    counters c.admitted_opens (saturating_add 64 c.opened_circuits 1) c.bytes_sent c.bytes_received
    c.revoked_work

abbrev pub count_bytes : ℕ → RuntimeCounters → RuntimeCounters
count_bytes n c =
    counters c.admitted_opens c.opened_circuits (saturating_add 64 c.bytes_sent n)
    (saturating_add 64 c.bytes_received n) c.revoked_work

abbrev pub count_revoked : RuntimeCounters → RuntimeCounters
count_revoked c =
    counters c.admitted_opens c.opened_circuits c.bytes_sent c.bytes_received
    (saturating_add 64 c.revoked_work 1)

-- ---- the runtime
-- what `new` makes
abbrev pub new_runtime : (session : List ℕ) → (generation : ℕ) → OpaqueRelayConfig → (now : ℕ) → OpaqueRelayRuntime
new_runtime session generation config now = record {
  session = session;
  generation = generation;
  enabled = true;
  trusted_time_high_water = now;
  config = config;
  next_action_sequence = 1;
  counters = no_counts;
}

-- what calls change, replaced
abbrev pub runtime_with : OpaqueRelayRuntime → (generation : ℕ) → (enabled : Bool) → (clock next : ℕ) → RuntimeCounters
    → OpaqueRelayRuntime
runtime_with h generation enabled clock next counts = record {
  session = h.session;
  generation = generation;
  enabled = enabled;
  trusted_time_high_water = clock;
  config = h.config;
  next_action_sequence = next;
  counters = counts;
}

abbrev pub with_clock : OpaqueRelayRuntime → (now : ℕ) → OpaqueRelayRuntime
with_clock h now = runtime_with h h.generation h.enabled now h.next_action_sequence h.counters

abbrev pub with_sequence : OpaqueRelayRuntime → (next : ℕ) → OpaqueRelayRuntime
with_sequence h next = runtime_with h h.generation h.enabled h.trusted_time_high_water next h.counters

abbrev pub with_counters : OpaqueRelayRuntime → RuntimeCounters → OpaqueRelayRuntime
with_counters h c =
    runtime_with h h.generation h.enabled h.trusted_time_high_water h.next_action_sequence c

-- SWITCH.4: a new generation, numbered from 1
abbrev pub with_enabled : OpaqueRelayRuntime → Bool → OpaqueRelayRuntime
with_enabled h on = runtime_with h (h.generation + 1) on h.trusted_time_high_water 1 h.counters

-- what a refused `new` hands back: zeros, and off
abbrev pub no_config : OpaqueRelayConfig
no_config = record {
  maximum_pending = 0;
  maximum_circuits = 0;
  maximum_circuits_per_peer = 0;
  maximum_queue_bytes = 0;
  maximum_inflight_actions = 0;
  maximum_inflight_actions_per_circuit = 0;
  maximum_inflight_actions_per_peer = 0;
  maximum_bytes_per_circuit = 0;
  accept_timeout_seconds = 0;
}

abbrev pub no_runtime : OpaqueRelayRuntime
no_runtime = runtime_with (new_runtime (replicate 16 0) 0 no_config 0) 0 false 0 0 no_counts
