-- How many more actions fit. `fits_exactly`: with n left toward a peer and under a circuit, n messages for them can be
-- queued one after the other, and the next finds a 10. `one_less` and `one_more`: how the number moves when an action
-- is queued or removed, for its own peer and circuit and for any others; `dropped_more`: when actions are dropped.
use Rattle.std.specs.Prelude.{ℕ, suc, ◌+◌, ◌-◌, min, ◌≤◌, ◌<◌, ◌≡◌, Bool, true, cond, List, [], ◌∷◌, length, replicate}
use Rattle.std.specs.Prelude.{Ok, Err}
use native.Mathlib.Omega.{arith}
use Rattle.std.proofs.Math.Path.{refl}
use Rattle.std.proofs.Common.{sym, ap, ◌∙◌, subst, eq-eqb, ne_eqb}
use Rattle.std.proofs.Math.Bool.{false}
use Rattle.std.proofs.Math.Dec.{eqb}
use Rattle.hns_encoding.specs.Numbers.{top}
use Rattle.hns_encoding.specs.Sums.{only, non, total}
use Rattle.hns_encoding.specs.Laws.Tests.{both, cond-le}
use Rattle.hnsr_circuit.specs.declared.peer.HnsrPeerId.{HnsrPeerId}
use Rattle.hnsr_circuit.specs.declared.records.InflightAction.{InflightAction}
use Rattle.hnsr_circuit.specs.Answers.{HnsrAnswer}
use Rattle.hnsr_circuit.specs.declared.answer.HnsrRuntimeError.TheVariants.{Capacity}
use Rattle.hnsr_circuit.specs.Table.{any, pick}
use Rattle.hnsr_circuit.specs.Peer.{same_peer}
use Rattle.hnsr_circuit.specs.Inflight.{no_action, is_action, action_at, action_under, action_toward, clear_action}
use Rattle.hnsr_circuit.specs.Inflight.{dropped, tallied, capacity_left}
use Rattle.hnsr_circuit.specs.World.{World, Outcome, config_of, done, with_inflight}
use Rattle.hnsr_circuit.specs.Queue.{Message, action_for, generation_of, sequence_of, queued, routed, send}
use Rattle.hnsr_circuit.specs.Acknowledge.{without_action}
use Rattle.hnsr_circuit.specs.Status.{action_capacity}
use Rattle.hnsr_circuit.specs.Fits.{answers_to, sent_all, Toward, AllToward, Ready, Within, OneApart}
use Rattle.hnsr_circuit.specs.Laws.Peer.{same_refl}
use Rattle.hnsr_circuit.specs.Laws.Inflight.{all-counted, some-counted, replacing-tally}
use Rattle.hnsr_circuit.specs.Laws.Lookups.{pick-has}
use Rattle.hnsr_circuit.specs.Laws.Marks.{length-put, room, put-new-total, put-new-other, clear-le}
use Rattle.hnsr_circuit.specs.Laws.Edits.{edit-total}
use Rattle.hnsr_circuit.specs.Laws.Capacity.{capacity_passes, send_asks, can-queue, send-taken}

-- ---- the three counts as sums over the used actions
abbrev all : InflightAction → ℕ
all a = 1

abbrev under_it : (circuit : ℕ) → InflightAction → ℕ
under_it circuit a = cond (eqb a.circuit_id circuit) 1 0

abbrev toward_it : HnsrPeerId → InflightAction → ℕ
toward_it peer a = cond (same_peer a.destination peer) 1 0

-- what a table counts by its marks
abbrev held : (InflightAction → ℕ) → List InflightAction → ℕ
held f t = total (only is_action f) t

module _ (circuit : ℕ) (peer : HnsrPeerId) (t : List InflightAction) where
  total-is : (tallied false circuit peer t).total ≡ held all t
  unfolding tallied
  total-is = all-counted circuit t

  circuit-is : (tallied false circuit peer t).for_circuit ≡ held (under_it circuit) t
  unfolding tallied action_under
  circuit-is = some-counted circuit t (λ a. eqb a.circuit_id circuit)

  peer-is : (tallied false circuit peer t).for_peer ≡ held (toward_it peer) t
  unfolding tallied action_toward
  peer-is = some-counted circuit t (λ a. same_peer a.destination peer)

-- the number by these sums
capacity_is : (w : World) (peer : HnsrPeerId) (circuit : ℕ)
    → action_capacity w peer circuit
    ≡ min ((config_of w).maximum_inflight_actions - held all w.inflight)
    (min ((config_of w).maximum_inflight_actions_per_circuit - held (under_it circuit) w.inflight)
    ((config_of w).maximum_inflight_actions_per_peer - held (toward_it peer) w.inflight))
unfolding action_capacity capacity_left
capacity_is w peer circuit =
    rw (total-is circuit peer w.inflight, circuit-is circuit peer w.inflight, peer-is circuit peer w.inflight)

-- ---- numbers that are the same or one apart
apart-min : {m n k l : ℕ} → OneApart m n → OneApart k l → OneApart (min m k) (min n l)
apart-min a b = (omega (arith, a.0, b.0), omega (arith, a.1, b.1))

apart-sub : (a x b : ℕ) → b ≤ 1 → OneApart (a - (x + b)) (a - x)
apart-sub a x b l = (omega arith, omega arith)

less-min : (m n : ℕ) → min (m - 1) (n - 1) ≡ min m n - 1
less-min m n = omega arith

less-sub : (a x : ℕ) → a - (x + 1) ≡ a - x - 1
less-sub a x = omega arith

-- ---- two worlds with one limit each, whose tables are one action apart
module _ (v w : World) (same : config_of w ≡ config_of v) (x : InflightAction)
    (more : (f : InflightAction → ℕ) → held f w.inflight ≡ held f v.inflight + f x) where
  capacity_more : (peer : HnsrPeerId) (circuit : ℕ)
      → action_capacity w peer circuit
      ≡ min ((config_of v).maximum_inflight_actions - (held all v.inflight + 1))
      (min
      ((config_of v).maximum_inflight_actions_per_circuit - (held (under_it circuit) v.inflight + under_it circuit x))
      ((config_of v).maximum_inflight_actions_per_peer - (held (toward_it peer) v.inflight + toward_it peer x)))
  capacity_more peer circuit =
      capacity_is w peer circuit ∙ rw (same, more all, more (under_it circuit), more (toward_it peer))

  apart : (peer : HnsrPeerId) (circuit : ℕ) → OneApart (action_capacity w peer circuit) (action_capacity v peer circuit)
  apart peer circuit =
      rw (capacity_more peer circuit, capacity_is v peer circuit)
      (apart-min (apart-sub _ _ 1 (omega arith))
      (apart-min (apart-sub _ _ _ (cond-le (eqb x.circuit_id circuit)))
      (apart-sub _ _ _ (cond-le (same_peer x.destination peer)))))

  apart-own : action_capacity w x.destination x.circuit_id
      ≡ action_capacity v x.destination x.circuit_id - 1
  apart-own =
      let i = x.circuit_id in
      let p = x.destination in
      let c = config_of v in
      let t = v.inflight in
      let k = rw (eq-eqb i i refl, same_refl p) at (capacity_more p i) in
      k
      ∙ rw (
        less-sub c.maximum_inflight_actions (held all t),
        less-sub c.maximum_inflight_actions_per_circuit (held (under_it i) t),
        less-sub c.maximum_inflight_actions_per_peer (held (toward_it p) t),
        less-min (c.maximum_inflight_actions_per_circuit - held (under_it i) t)
            (c.maximum_inflight_actions_per_peer - held (toward_it p) t),
      ) (less-min (c.maximum_inflight_actions - held all t) _)
      ∙ ap (λ n. n - 1) (sym (capacity_is v p i))

-- ---- an action queued
-- where something is left the table has an unused place
space : (w : World) (peer : HnsrPeerId) (circuit : ℕ) → Ready w → 0 < action_capacity w peer circuit
    → any (non is_action) w.inflight ≡ true
space w peer circuit R l =
    room is_action clear_action w.inflight (omega (arith, R.places, capacity_is w peer circuit))

module _ (w : World) (m : Message) (R : Ready w) (l : 0 < action_capacity w m.destination m.circuit) where
  abbrev action : InflightAction
  action = action_for m (generation_of w) (sequence_of w)

  -- it is one more in every count that it is of
  queued-sum : (f : InflightAction → ℕ) → held f (queued m w).inflight ≡ held f w.inflight + f action
  unfolding queued is_action
  queued-sum f =
      put-new-total is_action clear_action (action_at (generation_of w) (sequence_of w)) action w.inflight
      (R.fresh (sequence_of w) (omega arith)) (space w m.destination m.circuit R l) f no_action refl

  queued-config : config_of (queued m w) ≡ config_of w
  unfolding queued
  queued-config = refl

  pub ready-after : Ready (queued m w)
  unfolding queued is_action action_at
  ready-after = record {
    places =
        omega (
          arith,
          R.places,
          length-put is_action clear_action (action_at (generation_of w) (sequence_of w)) action w.inflight,
        );
    fresh = λ s g.
        (put-new-other is_action clear_action (action_at (generation_of w) (sequence_of w)) action w.inflight
        (R.fresh (sequence_of w) (omega arith)) (space w m.destination m.circuit R l)
        (action_at (generation_of w) s) no_action
        (rw (eq-eqb (generation_of w) (generation_of w) refl) (ne_eqb (sequence_of w) s (λ e. omega arith)))
        (λ a u. rw u)).0
        ∙ R.fresh s (omega arith);
  }

  -- of its own peer and circuit one less is left
  pub one_less : action_capacity (queued m w) m.destination m.circuit
      ≡ action_capacity w m.destination m.circuit - 1
  one_less = apart-own w (queued m w) queued-config action queued-sum

  -- of any other as many, or one less
  pub one-less-at-most : (peer : HnsrPeerId) (circuit : ℕ)
      → OneApart (action_capacity (queued m w) peer circuit) (action_capacity w peer circuit)
  one-less-at-most = apart w (queued m w) queued-config action queued-sum

-- ---- an action removed
module _ (w : World) (generation sequence : ℕ) (there : any (action_at generation sequence) w.inflight ≡ true) where
  abbrev removed : InflightAction
  removed = pick (action_at generation sequence) no_action w.inflight

  removed-used : removed.used ≡ true
  unfolding action_at
  removed-used = (both removed.used _ (pick-has (action_at generation sequence) no_action w.inflight there)).0

  -- it was one in every count that it is of
  removed-sum : (f : InflightAction → ℕ)
      → held f w.inflight ≡ held f (without_action w generation sequence).inflight + f removed
  unfolding is_action
  removed-sum f =
      let k = edit-total (action_at generation sequence) clear_action (only is_action f) no_action w.inflight there in
      omega (arith, rw removed-used at k)

  -- of its own peer and circuit one more is left, where no count was over its limit
  pub one_more : Within w removed.destination removed.circuit_id
      → action_capacity (without_action w generation sequence) removed.destination removed.circuit_id
      ≡ action_capacity w removed.destination removed.circuit_id + 1
  one_more within =
      let i = removed.circuit_id in
      let p = removed.destination in
      let v = without_action w generation sequence in
      let t = v.inflight in
      let u = rw (eq-eqb i i refl) at (removed-sum (under_it i)) in
      let s = rw (same_refl p) at (removed-sum (toward_it p)) in
      let some : 0 < action_capacity v p i = rw (capacity_is v p i)
      (least (below (config_of v).maximum_inflight_actions (held all t)
      (omega (arith, within.all, total-is i p w.inflight, removed-sum all)))
      (least (below (config_of v).maximum_inflight_actions_per_circuit (held (under_it i) t)
      (omega (arith, within.under, circuit-is i p w.inflight, u)))
      (below (config_of v).maximum_inflight_actions_per_peer (held (toward_it p) t)
      (omega (arith, within.toward, peer-is i p w.inflight, s))))) in
      omega (arith, some, apart-own v w refl removed removed-sum)
    where
      least : {m n : ℕ} → 0 < m → 0 < n → 0 < min m n
      least a b = omega arith

      below : (a x : ℕ) → x < a → 0 < a - x
      below a x l = omega arith

  -- of any other as many, or one more
  pub one_more_at_most : (peer : HnsrPeerId) (circuit : ℕ)
      → OneApart (action_capacity w peer circuit) (action_capacity (without_action w generation sequence) peer circuit)
  one_more_at_most = apart (without_action w generation sequence) w refl removed removed-sum

-- ---- one after the other
-- what the first is answered and the world that it leaves, and the rest: all are taken, and so many fewer are left
pub record Taking (peer : HnsrPeerId) (circuit : ℕ) (before : ℕ) (answers : List HnsrAnswer) (after : World) (n : ℕ)
    : Type 0 where
  pub taken : answers ≡ replicate n (Ok tt)
  pub ready : Ready after
  pub left : action_capacity after peer circuit ≡ before - n

module _ (w : World) (R : Ready w) (peer : HnsrPeerId) (circuit : ℕ) (m : Message) (aimed : Toward peer circuit m) where
  own : action_capacity w m.destination m.circuit ≡ action_capacity w peer circuit
  own i = action_capacity w (aimed.destination i) (aimed.about i)

  -- the first of them
  first : sequence_of w < top 64 → 0 < action_capacity w peer circuit
      → send w m ≡ done (queued m w) (routed m w ∷ [])
  unfolding action_capacity
  first low l =
      send-taken w m
      (can-queue m w aimed.formed low
      ((capacity_passes (config_of w) (tallied false m.circuit m.destination w.inflight)).1
      (subst (λ n. 0 < n) (sym own) l)))

  -- and what it leaves
  left_after : (l : 0 < action_capacity w peer circuit)
      → action_capacity (queued m w) peer circuit ≡ action_capacity w peer circuit - 1
  left_after l =
      sym (λ i. action_capacity (queued m w) (aimed.destination i) (aimed.about i))
      ∙ one_less w m R (subst (λ n. 0 < n) (sym own) l)
      ∙ ap (λ n. n - 1) own

-- as many as are left, or fewer, are taken, and each makes it one less
pub fits : (peer : HnsrPeerId) (circuit : ℕ) (ms : List Message) (w : World) → Ready w → AllToward peer circuit ms
    → sequence_of w + length ms ≤ top 64 → length ms ≤ action_capacity w peer circuit
    → Taking peer circuit (action_capacity w peer circuit) (answers_to w ms) (sent_all w ms) (length ms)
unfolding queued
fits peer circuit [] w R aimed low enough = record { taken = refl; ready = R; left = omega arith }
fits peer circuit (m ∷ ms) w R aimed low enough =
    let n = action_capacity w peer circuit in
    let some : 0 < n = omega arith in
    let next = ready-after w m R (subst (λ k. 0 < k) (sym (own w R peer circuit m aimed.0)) some) in
    let fewer = left_after w R peer circuit m aimed.0 some in
    let rest = fits peer circuit ms (queued m w) next aimed.1 (omega arith) (omega (arith, fewer)) in
    subst (λ (o : Outcome).
    Taking peer circuit n (o.answer ∷ answers_to o.world ms) (sent_all o.world ms) (suc (length ms)))
    (sym (first w R peer circuit m aimed.0 (omega arith) some))
    (record {
      taken = ap {B = List HnsrAnswer} (λ l. Ok tt ∷ l) rest.taken;
      ready = rest.ready;
      left = omega (arith, rest.left, fewer);
    })

-- with n left exactly n are taken, and the next finds a 10
pub fits_exactly : (w : World) → Ready w → (peer : HnsrPeerId) (circuit : ℕ) (ms : List Message)
    → AllToward peer circuit ms → sequence_of w + length ms ≤ top 64 → length ms ≡ action_capacity w peer circuit
    → (m : Message) → Toward peer circuit m
    → (answers_to w ms ≡ replicate (length ms) (Ok tt)) × ((send (sent_all w ms) m).answer ≡ Err Capacity)
fits_exactly w R peer circuit ms aimed low exact m last =
    let k = fits peer circuit ms w R aimed low (omega arith) in
    let v = sent_all w ms in (
      k.taken,
      (send_asks v m last.formed).1 (own v k.ready peer circuit m last ∙ omega (arith, k.left)),
    )

-- ---- actions dropped: as many are left, or more
dropped-sum : (p : InflightAction → Bool) (f : InflightAction → ℕ) (t : List InflightAction)
    → held f (dropped p t) ≤ held f t
unfolding dropped is_action
dropped-sum p f t = clear-le is_action clear_action (λ a. refl) p f t

pub dropped_more : (w : World) (p : InflightAction → Bool) (peer : HnsrPeerId) (circuit : ℕ)
    → action_capacity w peer circuit ≤ action_capacity (with_inflight w (dropped p w.inflight)) peer circuit
dropped_more w p peer circuit =
    let c = config_of w in
    let t = w.inflight in
    rw (capacity_is w peer circuit, capacity_is (with_inflight w (dropped p t)) peer circuit)
    (least (further c.maximum_inflight_actions (dropped-sum p all t))
    (least (further c.maximum_inflight_actions_per_circuit (dropped-sum p (under_it circuit) t))
    (further c.maximum_inflight_actions_per_peer (dropped-sum p (toward_it peer) t))))
  where
    further : (a : ℕ) {x y : ℕ} → y ≤ x → a - x ≤ a - y
    further a l = omega arith

    least : {m n k l : ℕ} → m ≤ n → k ≤ l → min m k ≤ min n l
    least a b = omega arith

-- so ACCEPT, which replaces the actions of its circuit, finds as many as `status` tells, or more
pub replacing_more : (w : World) (peer : HnsrPeerId) (circuit : ℕ)
    → action_capacity w peer circuit ≤ capacity_left (config_of w) (tallied true circuit peer w.inflight)
unfolding action_capacity
replacing_more w peer circuit =
    rw (replacing-tally circuit peer w.inflight) (dropped_more w (action_under circuit) peer circuit)
