-- The two claims about a host that waits for next due hold of the definition.
use Rattle.std.specs.Prelude.{ℕ, ◌+◌, ◌*◌, ◌≤◌, ◌<◌, ◌≡◌, refl, ◌⊎◌, Bool, true, false, ◌||◌, List, leb, ltb, eqb}
use Rattle.std.specs.Prelude.{Some, Ok}
use Rattle.std.proofs.Common.{arith, ◌∙◌, subst}
use Rattle.std.proofs.Math.Path.{sym, ap}
use Rattle.std.proofs.Math.Logic.{inl, inr}
use borrow.Author.Tests.{eqb-true, eq-eqb, le-leb, lt-ltb}
use Rattle.hns_encoding.specs.Laws.Tests.{split, both, join, either, clash}
use Rattle.hns_encoding.specs.Sums.{count}
use Rattle.hnsr_body.specs.declared.values.ReservationId.{ReservationId}
use Rattle.hnsr_body.specs.Values.{same_reservation}
use Rattle.hnsr_circuit.specs.declared.config.OpaqueRelayConfig.{OpaqueRelayConfig}
use Rattle.hnsr_circuit.specs.Table.{any, pick, also}
use Rattle.hnsr_circuit.specs.Pending.{no_pending, is_pending, pending_at}
use Rattle.hnsr_circuit.specs.Circuits.{no_circuit, is_circuit, circuit_at}
use Rattle.hnsr_circuit.specs.Ledger.{no_usage, is_usage, usage_at, usage_of}
use Rattle.hnsr_circuit.specs.World.{World, Outcome}
use Rattle.hnsr_circuit.specs.Counts.{pending_count, circuit_count}
use Rattle.hnsr_circuit.specs.Entry.{closing_words}
use Rattle.hnsr_circuit.specs.Revocation.{revoke_all}
use Rattle.hnsr_circuit.specs.RevokingCalls.{expire_at}
use Rattle.hnsr_circuit.specs.NextDue.{deadline_of, expiry_of, usage_expiry_of, due_of}
use Rattle.hnsr_circuit.specs.Ends.{later, ends_at, ends_by, NoneEndsBy}
use Rattle.hnsr_circuit.specs.Call.{start, step, call_expire}
use Rattle.hnsr_circuit.specs.Laws.Keys.{reservation-refl}
use Rattle.hnsr_circuit.specs.Laws.Lookups.{pick-has, pick-also, any-also, any_imp, any-pick}
use Rattle.hnsr_circuit.specs.Laws.Due.{due-later, due-is-one}
use Rattle.hnsr_run.specs.Past.{lives}
use Rattle.hnsr_run.specs.Claim.{Run}
use Rattle.hnsr_run.specs.Waking.{KnownEnd, Waking, Awaiting}
use Rattle.hnsr_run.specs.SameRun.{same-world}
use Rattle.hnsr_run.specs.Theorem.{relay}
use Rattle.hnsr_run.specs.Facts.{left, told, run_shape, clock-is, config-is, circuit-there, circuit-known}
use Rattle.hnsr_run.specs.Facts.{open_there, open_asked, ledger-there, ledger-due, ledger-lives}
use Rattle.hnsr_run.specs.Run.Shape.{Shape, pending-used, circuit-used, pending-once, circuit-once}
use Rattle.hnsr_run.specs.Run.ShapeRuns.{run_shape as left-shape}
use Rattle.hnsr_run.specs.Run.Expiring.{due-told, expire-taken, wakes}

-- ---- any run from a taken `new`
pub waking : Waking relay
waking lent s taken calls =
    let w = (start lent s).world in
    wakes _ (subst Shape (sym (same-world w calls)) (left-shape lent s calls taken))

-- ---- a record that a lookup finds, and its end
module _ {A : Type 0} (used : A → Bool) (time : A → ℕ) (at : A → Bool) (d : A) (l : List A) (t : ℕ) where
  -- it is used and ends at t: a record ends not after t
  ends-known : any at l ≡ true → used (pick at d l) ≡ true → time (pick at d l) ≡ t → any (ends_by used time t) l ≡ true
  ends-known h u e =
      any_imp (also at (ends_by used time t)) (ends_by used time t) l (λ a x. (both (at a) (ends_by used time t a) x).1)
      (any-pick at (ends_by used time t) d l h
      (join (used (pick at d l)) (leb (time (pick at d l)) t) u (le-leb (time (pick at d l)) t (omega arith))))

  -- the one that ends at t has what the lookup asks, as one at most has: it is found, and ends at t
  ends_found : any (ends_at used time t) l ≡ true → at (pick (ends_at used time t) d l) ≡ true → count at l ≤ 1
      → (any at l ≡ true) × (time (pick at d l) ≡ t)
  ends_found h a once =
      let both-have = any_imp (also (ends_at used time t) at) (also at (λ x. eqb (time x) t)) l turned
      (any-pick (ends_at used time t) at d l h a) in (
        any-also at (λ x. eqb (time x) t) l both-have,
        eqb-true (time (pick at d l)) t (pick-also at (λ x. eqb (time x) t) d l once both-have),
      )
    where
      turned : (x : A) → also (ends_at used time t) at x ≡ true → also at (λ y. eqb (time y) t) x ≡ true
      turned x e =
          let k = both (ends_at used time t x) (at x) e in
          join (at x) (eqb (time x) t) k.1 (both (used x) (eqb (time x) t) k.0).1

-- something ends not after t, and so next due is not later
not-later : (w : World) (t : ℕ) → (NoneEndsBy w t → ⊥) → later t (due_of w) ≡ false
not-later w t some = split (later t (due_of w)) (λ e. absurd (some ((due-later w t).0 e))) (λ e. e)

-- ---- a run within the bounds, and its history
module _ (r : Run relay) where
  abbrev w : World
  w = left r

  -- what history knows is in the tables
  open_ends : (t j : ℕ) → (told r).opens.standing j ≡ true → ((told r).opens.asked j).deadline ≡ t
      → any (ends_by is_pending deadline_of t) w.pending ≡ true
  open_ends t j s e = let f = open_there r j ∙ s in
      ends-known is_pending deadline_of (pending_at j) no_pending w.pending t f (pending-used w j f).0
      ((open_asked r j s).deadline ∙ e)

  circuit-ends : (t j : ℕ) → (told r).active j ≡ true → ((told r).known j).expires ≡ t
      → any (ends_by is_circuit expiry_of t) w.circuits ≡ true
  circuit-ends t j a e = let f = circuit-there r j ∙ a in
      ends-known is_circuit expiry_of (circuit_at j) no_circuit w.circuits t f (circuit-used w j f).0
      ((circuit-known r j a).expires ∙ e)

  usage_used : (i : ReservationId) → any (usage_at i) w.ledger ≡ true → is_usage (usage_of i w.ledger) ≡ true
  unfolding is_usage usage_at
  usage_used i f = (both (usage_of i w.ledger).used (same_reservation (usage_of i w.ledger).reservation_id i)
      (pick-has (usage_at i) no_usage w.ledger f)).0

  reservation-ends : (t : ℕ) (i : ReservationId) → lives (told r).head.clock (told r).book i ≡ true
      → (told r).book.due i ≡ t
      → any (ends_by is_usage usage_expiry_of t) w.ledger ≡ true
  reservation-ends t i l e = let f = ledger-there r i l in
      ends-known is_usage usage_expiry_of (usage_at i) no_usage w.ledger t f (usage_used i f) (ledger-due r i l ∙ e)

  in_time : (t : ℕ) → KnownEnd (told r) t → later t (due_of w) ≡ false
  in_time t (inl x) = not-later w t (λ z. clash (open_ends t x.0 x.1 x.2) z.0)
  in_time t (inr (inl x)) = not-later w t (λ z. clash (circuit-ends t x.0 x.1 x.2) z.1)
  in_time t (inr (inr x)) = not-later w t (λ z. clash (reservation-ends t x.0 x.1 x.2) z.2)

  -- and what the tables hold, history knows
  by-pending : (t : ℕ) → any (ends_at is_pending deadline_of t) w.pending ≡ true → KnownEnd (told r) t
  unfolding is_pending pending_at
  by-pending t h =
      let p = pick (ends_at is_pending deadline_of t) no_pending w.pending in
      let k =
      both (is_pending p) (eqb p.deadline t) (pick-has (ends_at is_pending deadline_of t) no_pending w.pending h) in
      let j = p.circuit_id in
      let f = ends_found is_pending deadline_of (pending_at j) no_pending w.pending t h
      (join p.used (eqb j j) k.0 (eq-eqb j j refl)) (pending-once w (run_shape r) j) in
      let stands = sym (open_there r j) ∙ f.0 in
      inl (j, stands, sym (open_asked r j stands).deadline ∙ f.1)

  by-circuit : (t : ℕ) → any (ends_at is_circuit expiry_of t) w.circuits ≡ true → KnownEnd (told r) t
  unfolding is_circuit circuit_at
  by-circuit t h =
      let c = pick (ends_at is_circuit expiry_of t) no_circuit w.circuits in
      let k =
      both (is_circuit c) (eqb c.expires_at t) (pick-has (ends_at is_circuit expiry_of t) no_circuit w.circuits h) in
      let j = c.circuit_id in
      let f = ends_found is_circuit expiry_of (circuit_at j) no_circuit w.circuits t h
      (join c.used (eqb j j) k.0 (eq-eqb j j refl)) (circuit-once w (run_shape r) j) in
      let active = sym (circuit-there r j) ∙ f.0 in
      inr (inl (j, active, sym (circuit-known r j active).expires ∙ f.1))

  by_usage : (t : ℕ) → (told r).head.clock < t → any (ends_at is_usage usage_expiry_of t) w.ledger ≡ true
      → KnownEnd (told r) t
  unfolding is_usage usage_at
  by_usage t l h =
      let u = pick (ends_at is_usage usage_expiry_of t) no_usage w.ledger in
      let k =
      both (is_usage u) (eqb u.expires_at t) (pick-has (ends_at is_usage usage_expiry_of t) no_usage w.ledger h) in
      let i = u.reservation_id in
      let f = ends_found is_usage usage_expiry_of (usage_at i) no_usage w.ledger t h
      (join u.used (same_reservation i i) k.0 (reservation-refl i)) ((run_shape r).ledger.once i) in
      let clock = (told r).head.clock in
      let alive = ledger-lives r i f.0 (ap (ltb clock) f.1 ∙ lt-ltb clock t l) in
      inr (inr (i, alive, sym (ledger-due r i alive) ∙ f.1))

  is_one : (t : ℕ) → due_of w ≡ Some t → (told r).head.clock < t → KnownEnd (told r) t
  is_one t e l =
      third (either (p || c) (any (ends_at is_usage usage_expiry_of t) w.ledger) (due-is-one w t e))
    where
      p : Bool
      p = any (ends_at is_pending deadline_of t) w.pending

      c : Bool
      c = any (ends_at is_circuit expiry_of t) w.circuits

      second : (p ≡ true) ⊎ (c ≡ true) → KnownEnd (told r) t
      second (inl h) = by-pending t h
      second (inr h) = by-circuit t h

      third : ((p || c) ≡ true) ⊎ (any (ends_at is_usage usage_expiry_of t) w.ledger ≡ true) → KnownEnd (told r) t
      third (inl h) = second (either p c h)
      third (inr h) = by_usage t l h

  -- as many records as there may be
  expire-is-taken : (now room : ℕ) → (told r).head.clock ≤ now
      → closing_words * ((told r).head.config.maximum_pending + (told r).head.config.maximum_circuits) ≤ room
      → (step w (call_expire now room)).answer ≡ Ok tt
  unfolding expire_at revoke_all pending_count circuit_count
  expire-is-taken now room l m =
      let S = run_shape r in
      let pending = ap (λ (c : OpaqueRelayConfig). c.maximum_pending) (config-is r) in
      let circuits = ap (λ (c : OpaqueRelayConfig). c.maximum_circuits) (config-is r) in
      ap (λ (o : Outcome). o.answer)
      (expire-taken w S now room (omega (arith, clock-is r))
      (omega (arith, S.pending.few, S.circuits.few, pending, circuits)))

pub awaiting : Awaiting relay
awaiting r = record {
  due = due_of (left r);
  told = ap (λ (o : Outcome). o.told) (due-told (left r) (run_shape r));
  in_time = in_time r;
  is_one = is_one r;
  taken = expire-is-taken r;
}
