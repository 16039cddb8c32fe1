-- What a good configuration says, and sums that stop: one that is within a limit below the top has not stopped.
use Rattle.std.specs.Prelude.{ℕ, ◌+◌, ◌≤◌, ◌<◌, ◌≡◌, Bool, true, false, ◌&&◌, leb, ltb}
use Rattle.std.proofs.Common.{arith, leb-true, ltb-false}
use Rattle.hns_encoding.specs.Numbers.{top, saturating_add}
use Rattle.hns_encoding.specs.Laws.Tests.{both}
use Rattle.hnsr_circuit.specs.declared.config.OpaqueRelayConfig.{OpaqueRelayConfig}
use Rattle.hnsr_circuit.specs.Config.{within_limits, config_good, max_runtime_pending, max_runtime_circuits}
use Rattle.hnsr_circuit.specs.Config.{max_circuits, max_circuit_queue, max_runtime_inflight_actions}
use Rattle.hnsr_circuit.specs.Config.{least_inflight_actions_per_circuit, max_open_deadline_seconds}

pub record Limits (c : OpaqueRelayConfig) : Type 0 where
  pub pending : 1 ≤ c.maximum_pending
  pub circuits : 1 ≤ c.maximum_circuits
  pub queue : c.maximum_queue_bytes ≤ 65536
  pub actions : 1 ≤ c.maximum_inflight_actions
  pub per_circuit : 2 ≤ c.maximum_inflight_actions_per_circuit
  pub per_peer : c.maximum_inflight_actions_per_circuit ≤ c.maximum_inflight_actions_per_peer

within : (low n high : ℕ) → within_limits low n high ≡ true → (low ≤ n) × (n ≤ high)
unfolding within_limits
within low n high e = let k = both (leb low n) (leb n high) e in (leb-true low n k.0, leb-true n high k.1)

pub limits : (c : OpaqueRelayConfig) → config_good c ≡ true → Limits c
unfolding config_good
limits c e =
    let a = both l₈ t e in
    let b = both l₇ z a.0 in
    let d = both l₆ r b.0 in
    let f = both l₅ k d.0 in
    let g = both l₄ i f.0 in
    let h = both l₃ q g.0 in
    let m = both l₂ n h.0 in
    let o = both p u m.0 in record {
      pending = (within 1 c.maximum_pending max_runtime_pending o.0).0;
      circuits = (within 1 c.maximum_circuits max_runtime_circuits o.1).0;
      queue = (within 1 c.maximum_queue_bytes max_circuit_queue h.1).1;
      actions = (within 1 c.maximum_inflight_actions max_runtime_inflight_actions g.1).0;
      per_circuit =
          (within least_inflight_actions_per_circuit c.maximum_inflight_actions_per_circuit
          c.maximum_inflight_actions f.1).0;
      per_peer =
          (within c.maximum_inflight_actions_per_circuit c.maximum_inflight_actions_per_peer
          c.maximum_inflight_actions d.1).0;
    }
  where
    p : Bool
    p = within_limits 1 c.maximum_pending max_runtime_pending

    u : Bool
    u = within_limits 1 c.maximum_circuits max_runtime_circuits

    n : Bool
    n = within_limits 1 c.maximum_circuits_per_peer max_circuits

    q : Bool
    q = within_limits 1 c.maximum_queue_bytes max_circuit_queue

    i : Bool
    i = within_limits 1 c.maximum_inflight_actions max_runtime_inflight_actions

    k : Bool
    k =
        within_limits least_inflight_actions_per_circuit c.maximum_inflight_actions_per_circuit
        c.maximum_inflight_actions

    r : Bool
    r =
        within_limits c.maximum_inflight_actions_per_circuit c.maximum_inflight_actions_per_peer
        c.maximum_inflight_actions

    z : Bool
    z = leb 1 c.maximum_bytes_per_circuit

    t : Bool
    t = within_limits 1 c.accept_timeout_seconds max_open_deadline_seconds

    l₂ : Bool
    l₂ = p && u

    l₃ : Bool
    l₃ = l₂ && n

    l₄ : Bool
    l₄ = l₃ && q

    l₅ : Bool
    l₅ = l₄ && i

    l₆ : Bool
    l₆ = l₅ && k

    l₇ : Bool
    l₇ = l₆ && r

    l₈ : Bool
    l₈ = l₇ && z

-- ---- sums that stop
pub within-top : (m a n : ℕ) → m < top 64 → ltb m (saturating_add 64 a n) ≡ false → a + n ≤ m
within-top m a n l e = omega (arith, ltb-false m (saturating_add 64 a n) e)

pub top_within : (m a n : ℕ) → a + n ≤ m → saturating_add 64 a n ≤ m
top_within m a n l = omega arith
