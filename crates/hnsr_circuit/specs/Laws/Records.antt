-- The laws of the four record types, as tables ask for them: an unmarked record is unused, an unused one is its own
-- unmarking, and no unmarked record answers a question.
use Rattle.std.specs.Prelude.{ℕ, ◌≡◌, refl, false}
use Rattle.std.proofs.Common.{sym}
use Rattle.hnsr_body.specs.declared.values.ReservationId.{ReservationId}
use Rattle.hnsr_circuit.specs.declared.peer.HnsrPeerId.{HnsrPeerId}
use Rattle.hnsr_circuit.specs.declared.records.RelayPending.{RelayPending}
use Rattle.hnsr_circuit.specs.declared.records.RelayCircuit.{RelayCircuit}
use Rattle.hnsr_circuit.specs.declared.records.ReservationUsage.{ReservationUsage}
use Rattle.hnsr_circuit.specs.declared.records.InflightAction.{InflightAction}
use Rattle.hnsr_circuit.specs.declared.tables.question.Revoking.{Revoking}
use Rattle.hnsr_circuit.specs.declared.tables.question.Revoking.TheVariants.{Disabled, Disconnected, Reservation}
use Rattle.hnsr_circuit.specs.declared.tables.question.Revoking.TheVariants.{Expired}
use Rattle.hnsr_circuit.specs.Pending.{is_pending, pending_at, pending_of, pending_under, pending_over}
use Rattle.hnsr_circuit.specs.Pending.{named_by, pending_marked, clear_pending}
use Rattle.hnsr_circuit.specs.Circuits.{is_circuit, circuit_at, circuit_of, circuit_under, circuit_over}
use Rattle.hnsr_circuit.specs.Circuits.{circuit_marked, clear_circuit}
use Rattle.hnsr_circuit.specs.Code.Question.{pending_revoked, circuit_revoked}
use Rattle.hnsr_circuit.specs.Ledger.{is_usage, usage_at, usage_over, usage_marked, clear_usage}
use Rattle.hnsr_circuit.specs.Inflight.{is_action, action_at, action_toward, action_marked, clear_action}

-- ---- pending records
pub pending_unused : (p : RelayPending) → is_pending (clear_pending p) ≡ false
unfolding is_pending
pending_unused p = refl

pub pending_still : (p : RelayPending) → is_pending p ≡ false → clear_pending p ≡ p
unfolding is_pending
pending_still p e = λ j. pending_marked (sym e j) p

pub pending_at_used : (id : ℕ) (p : RelayPending) → pending_at id (clear_pending p) ≡ false
unfolding pending_at
pending_at_used id p = refl

pub named_by_used : (peer : HnsrPeerId) (context : ℕ) (p : RelayPending)
    → named_by peer context (clear_pending p) ≡ false
unfolding named_by
named_by_used peer context p = refl

-- ---- circuits
pub circuit_unused : (c : RelayCircuit) → is_circuit (clear_circuit c) ≡ false
unfolding is_circuit
circuit_unused c = refl

pub circuit_still : (c : RelayCircuit) → is_circuit c ≡ false → clear_circuit c ≡ c
unfolding is_circuit
circuit_still c e = λ j. circuit_marked (sym e j) c

pub circuit_at_used : (id : ℕ) (c : RelayCircuit) → circuit_at id (clear_circuit c) ≡ false
unfolding circuit_at
circuit_at_used id c = refl

-- ---- ledger records
pub usage_unused : (u : ReservationUsage) → is_usage (clear_usage u) ≡ false
unfolding is_usage
usage_unused u = refl

pub usage_still : (u : ReservationUsage) → is_usage u ≡ false → clear_usage u ≡ u
unfolding is_usage
usage_still u e = λ j. usage_marked (sym e j) u

pub usage_at_used : (id : ReservationId) (u : ReservationUsage) → usage_at id (clear_usage u) ≡ false
unfolding usage_at
usage_at_used id u = refl

pub usage_over_used : (now : ℕ) (u : ReservationUsage) → usage_over now (clear_usage u) ≡ false
unfolding usage_over
usage_over_used now u = refl

-- ---- outstanding actions
pub action_unused : (a : InflightAction) → is_action (clear_action a) ≡ false
unfolding is_action
action_unused a = refl

pub action_still : (a : InflightAction) → is_action a ≡ false → clear_action a ≡ a
unfolding is_action
action_still a e = λ j. action_marked (sym e j) a

pub action_at_used : (generation sequence : ℕ) (a : InflightAction)
    → action_at generation sequence (clear_action a) ≡ false
unfolding action_at
action_at_used generation sequence a = refl

pub action_toward_used : (peer : HnsrPeerId) (a : InflightAction) → action_toward peer (clear_action a) ≡ false
unfolding action_toward
action_toward_used peer a = refl

-- ---- what a revoking call asks
pub pending_revoked_used : (v : Revoking) (p : RelayPending) → pending_revoked v (clear_pending p) ≡ false
unfolding pending_revoked is_pending pending_of pending_under pending_over
pending_revoked_used Disabled p = refl
pending_revoked_used (Disconnected peer) p = refl
pending_revoked_used (Reservation id) p = refl
pending_revoked_used (Expired now) p = refl

pub circuit_revoked_used : (v : Revoking) (c : RelayCircuit) → circuit_revoked v (clear_circuit c) ≡ false
unfolding circuit_revoked is_circuit circuit_of circuit_under circuit_over
circuit_revoked_used Disabled c = refl
circuit_revoked_used (Disconnected peer) c = refl
circuit_revoked_used (Reservation id) c = refl
circuit_revoked_used (Expired now) c = refl
