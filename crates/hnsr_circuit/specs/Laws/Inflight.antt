-- Laws of the action capacity: nothing is left exactly where one of the three counts is at its limit; the tally is one
-- scan, and where nothing is replaced its total is all actions; ACCEPT's tally is the ordinary one of the table after
-- its own actions are dropped.
use Rattle.std.specs.Prelude.{ℕ, ◌-◌, min, ◌≡◌, Bool, ◌&&◌, ◌||◌, List, eqb, leb}
use Rattle.std.proofs.Common.{zero-add, arith, ◌∙◌, true≢false, leb-true, leb-false, eq-eqb, ne_eqb}
use Rattle.std.proofs.Math.Path.{refl, sym}
use Rattle.std.proofs.Math.Bool.{true, false, cond, not}
use Rattle.std.proofs.lemmas.Bool.{false≢true}
use Rattle.hnsr_circuit.specs.declared.peer.HnsrPeerId.{HnsrPeerId}
use Rattle.hnsr_circuit.specs.declared.config.OpaqueRelayConfig.{OpaqueRelayConfig}
use Rattle.hnsr_circuit.specs.declared.records.InflightAction.{InflightAction}
use Rattle.hnsr_circuit.specs.declared.tables.scan.InflightTally.{InflightTally}
use Rattle.hns_encoding.specs.Laws.Tests.{split, choose}
use Rattle.hns_encoding.specs.Loops.{fold_from}
use Rattle.hnsr_circuit.specs.Code.Turns.{no_tally, tally_turn}
use Rattle.hnsr_circuit.specs.Laws.Folds.{fold_count}
use Rattle.hns_encoding.specs.Sums.{only, one, total, count}
use Rattle.hnsr_circuit.specs.Table.{also, cleared}
use Rattle.hns_encoding.specs.Laws.Sums.{total_ext, total-map}
use Rattle.hnsr_circuit.specs.Peer.{same_peer}
use Rattle.hnsr_circuit.specs.Inflight.{is_action, action_under, action_toward, clear_action}
use Rattle.hnsr_circuit.specs.Inflight.{dropped, retained, tallied, capacity_left}

-- ---- the three tests of the Rust
least_zero : (a b c x y z : ℕ) → eqb (min (a - x) (min (b - y) (c - z))) 0 ≡ (leb a x || leb b y || leb c z)
least_zero a b c x y z =
    split (leb a x) (λ e. rw e (eq-eqb (min (a - x) (min (b - y) (c - z))) 0 (omega (arith, leb-true a x e))))
    (λ e. split (leb b y)
    (λ f. rw (e, f) (eq-eqb (min (a - x) (min (b - y) (c - z))) 0 (omega (arith, leb-true b y f))))
    (λ f. split (leb c z)
    (λ g. rw (e, f, g) (eq-eqb (min (a - x) (min (b - y) (c - z))) 0 (omega (arith, leb-true c z g))))
    (λ g. rw (e, f, g)
    (ne_eqb (min (a - x) (min (b - y) (c - z))) 0
    (λ h. omega (arith, leb-false a x e, leb-false b y f, leb-false c z g))))))

pub capacity_tests : (c : OpaqueRelayConfig) (t : InflightTally)
    → eqb (capacity_left c t) 0
    ≡ (leb c.maximum_inflight_actions t.total
    || leb c.maximum_inflight_actions_per_circuit t.for_circuit
    || leb c.maximum_inflight_actions_per_peer t.for_peer)
unfolding capacity_left
capacity_tests c t =
    least_zero c.maximum_inflight_actions c.maximum_inflight_actions_per_circuit
    c.maximum_inflight_actions_per_peer t.total t.for_circuit t.for_peer

-- ---- the tally as one scan: each turn adds what the action counts
module _ (replacing : Bool) (id : ℕ) (peer : HnsrPeerId) where
  pub tally_fold : (inflight : List InflightAction)
      → fold_from (tally_turn replacing id peer) inflight 0 no_tally ≡ tallied replacing id peer inflight
  unfolding tallied tally_turn
  tally_fold inflight =
      rw (
        ← (zero-add (count (retained replacing id) inflight)),
        ← (zero-add (count (also (retained replacing id) (action_under id)) inflight)),
        ← (zero-add (count (also (retained replacing id) (action_toward peer)) inflight)),
        ← (fold_count (tally_turn replacing id peer) (λ t. t.total) (retained replacing id) (λ b x i. refl) inflight
            0 no_tally),
        ← (fold_count (tally_turn replacing id peer) (λ t. t.for_circuit)
            (also (retained replacing id) (action_under id)) (λ b x i. refl) inflight 0 no_tally),
        ← (fold_count (tally_turn replacing id peer) (λ t. t.for_peer)
            (also (retained replacing id) (action_toward peer)) (λ b x i. refl) inflight 0 no_tally),
      )

-- ---- nothing replaced, the counts are sums over the used actions: of all, and of those that have a test
module _ (id : ℕ) (t : List InflightAction) where
  pub all-counted : count (retained false id) t ≡ count is_action t
  unfolding is_action
  all-counted = total_ext (one (retained false id)) (one (λ a. a.used)) t (λ a. each a.used)
    where
      each : (u : Bool) → cond {A = ℕ} (u && true) 1 0 ≡ cond u 1 0
      each true = refl
      each false = refl

  pub some-counted : (p : InflightAction → Bool)
      → count (also (retained false id) (λ a. a.used && p a)) t ≡ total (only is_action (one p)) t
  unfolding is_action
  some-counted p =
      total_ext (one (also (retained false id) (λ a. a.used && p a))) (only (λ a. a.used) (one p)) t
      (λ a. each a.used (p a))
    where
      each : (u b : Bool) → cond {A = ℕ} ((u && true) && (u && b)) 1 0 ≡ cond u (cond b 1 0) 0
      each true b = refl
      each false b = refl

-- ---- ACCEPT's tally
module _ (id : ℕ) (peer : HnsrPeerId) where
  -- a question of the table after the drop is the question without the actions under the id
  after : (p q : InflightAction → Bool) → ((a : InflightAction) → p a ≡ q (cleared clear_action (action_under id) a))
      → (t : List InflightAction)
      → count p t ≡ count q (dropped (action_under id) t)
  unfolding dropped
  after p q h t =
      total_ext (one p) (λ a. one q (cleared clear_action (action_under id) a)) t (λ a. rw (h a))
      ∙ sym (total-map (one q) (cleared clear_action (action_under id)) t)

  -- the three questions: of an action under the id nothing is counted, of another the same
  all : (a : InflightAction) → retained true id a ≡ retained false id (cleared clear_action (action_under id) a)
  unfolding action_under
  all a =
      choose (λ (x : InflightAction). retained true id a ≡ retained false id x) (action_under id a) (clear_action a) a
      (gone a.used (eqb a.circuit_id id)) (stays a.used (eqb a.circuit_id id))
    where
      gone : (u e : Bool) → (u && e) ≡ true → (u && not (true && e)) ≡ false
      gone true true h = refl
      gone true false h = absurd (false≢true h)
      gone false e h = refl

      stays : (u e : Bool) → (u && e) ≡ false → (u && not (true && e)) ≡ (u && not (false && e))
      stays true true h = absurd (true≢false h)
      stays true false h = refl
      stays false e h = refl

  under : (a : InflightAction)
      → also (retained true id) (action_under id) a
      ≡ also (retained false id) (action_under id) (cleared clear_action (action_under id) a)
  unfolding action_under
  under a =
      choose
      (λ (x : InflightAction).
      also (retained true id) (action_under id) a ≡ also (retained false id) (action_under id) x)
      (action_under id a) (clear_action a) a (gone a.used (eqb a.circuit_id id))
      (stays a.used (eqb a.circuit_id id))
    where
      gone : (u e : Bool) → (u && e) ≡ true → ((u && not (true && e)) && (u && e)) ≡ false
      gone true true h = refl
      gone true false h = absurd (false≢true h)
      gone false e h = refl

      stays : (u e : Bool) → (u && e) ≡ false
          → ((u && not (true && e)) && (u && e)) ≡ ((u && not (false && e)) && (u && e))
      stays true true h = absurd (true≢false h)
      stays true false h = refl
      stays false e h = refl

  toward : (a : InflightAction)
      → also (retained true id) (action_toward peer) a
      ≡ also (retained false id) (action_toward peer) (cleared clear_action (action_under id) a)
  unfolding action_under action_toward
  toward a =
      choose (λ (x : InflightAction).
      also (retained true id) (action_toward peer) a ≡ also (retained false id) (action_toward peer) x)
      (action_under id a) (clear_action a) a (gone a.used (eqb a.circuit_id id) (same_peer a.destination peer))
      (stays a.used (eqb a.circuit_id id) (same_peer a.destination peer))
    where
      gone : (u e s : Bool) → (u && e) ≡ true → ((u && not (true && e)) && (u && s)) ≡ false
      gone true true s h = refl
      gone true false s h = absurd (false≢true h)
      gone false e s h = refl

      stays : (u e s : Bool) → (u && e) ≡ false
          → ((u && not (true && e)) && (u && s)) ≡ ((u && not (false && e)) && (u && s))
      stays true true s h = absurd (true≢false h)
      stays true false s h = refl
      stays false e s h = refl

  pub replacing-tally : (t : List InflightAction)
      → tallied true id peer t ≡ tallied false id peer (dropped (action_under id) t)
  unfolding tallied
  replacing-tally t =
      rw (
        after (retained true id) (retained false id) all t,
        after (also (retained true id) (action_under id)) (also (retained false id) (action_under id)) under t,
        after (also (retained true id) (action_toward peer)) (also (retained false id) (action_toward peer)) toward t,
      )
