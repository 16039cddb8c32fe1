-- Laws of tables with a used mark: what a table counts, sums and finds after `put`, `edit` and `clear`, and that no
-- change moves the number of places. `sum` is a total over the used places.
use Rattle.std.specs.Prelude.{ℕ, suc, ◌+◌, ◌≤◌, ◌<◌, ◌≡◌, refl, Bool, true}
use Rattle.std.specs.Prelude.{false, not, List, [], ◌∷◌, length, get_or, set}
use Rattle.std.proofs.Common.{arith, sym, ap, ◌∙◌, true≢false, length-set}
use Rattle.std.proofs.lemmas.Bool.{false≢true}
use Rattle.hns_encoding.specs.Laws.Tests.{split, clash}
use Rattle.hns_encoding.specs.Sums.{only, non, total, count}
use Rattle.hnsr_circuit.specs.Table.{place_of, any, pick, put, cleared, clear}
use Rattle.hns_encoding.specs.Laws.Sums.{total_ext, total-le, total-map, total-set}
use Rattle.hnsr_circuit.specs.Laws.Totals.{only-le}
use Rattle.hnsr_circuit.specs.Laws.Lookups.{place_found, place_none, pick_at, pick-has}
use Rattle.hnsr_circuit.specs.Laws.Lookups.{count-any, set_same, set_other, map-none, map_other}

module _ {A : Type 0} (used : A → Bool) (unmark : A → A) where
  abbrev pub sum : (A → ℕ) → List A → ℕ
  sum f t = total (only used f) t

  pub length-put : (p : A → Bool) (r : A) (t : List A) → length (put used p r t) ≡ length t
  length-put p r t = simp length-set

  -- an unused place exists
  pub used-length : (t : List A) → count used t + count (non used) t ≡ length t
  used-length [] = refl
  used-length (x ∷ xs) =
      split (used x) (λ e. rw e (omega (arith, used-length xs))) (λ e. rw e (omega (arith, used-length xs)))

  pub room : (t : List A) → count used t < length t → any (non used) t ≡ true
  room t h = count-any (non used) t (omega (arith, used-length t))

  -- put of a fresh key: adds exactly the new record
  module _ (p : A → Bool) (r : A) (t : List A) (fresh : any p t ≡ false) (space : any (non used) t ≡ true) where
    put-new-place : put used p r t ≡ set t (place_of (non used) t) r
    put-new-place = rw fresh

    was-unused : (d : A) → used (get_or t (place_of (non used) t) d) ≡ false
    was-unused d = rw pick_at (not-true' _ (pick-has (non used) d t space))
      where
        not-true' : (b : Bool) → not b ≡ true → b ≡ false
        not-true' true e = sym e
        not-true' false e = refl

    pub put-new-total : (f : A → ℕ) (d : A) → used r ≡ true → sum f (put used p r t) ≡ sum f t + f r
    put-new-total f d u =
        let k = total-set (only used f) t (place_of (non used) t) r d (place_found (non used) t space) in
        rw (fresh) (omega (arith, rw (was-unused d, u) at k))

    pub put-new-same : (d : A) → p r ≡ true → (any p (put used p r t) ≡ true) × (pick p d (put used p r t) ≡ r)
    put-new-same d h = let l = place_found (non used) t space in
        rw fresh (set_same p d t (place_of (non used) t) r l (omega (arith, place_none p t fresh)) h)

    pub put-new-other : (q : A → Bool) (d : A) → q r ≡ false → ((a : A) → used a ≡ false → q a ≡ false)
        → (any q (put used p r t) ≡ any q t) × (pick q d (put used p r t) ≡ pick q d t)
    put-new-other q d h k = rw fresh (set_other q d t (place_of (non used) t) r h (k _ (was-unused d)))

  -- put where the lookup finds: replaces exactly that record
  module _ (p : A → Bool) (r : A) (t : List A) (found : any p t ≡ true) where
    pub put-old-total : (f : A → ℕ) (d : A) → total f (put used p r t) + f (pick p d t) ≡ total f t + f r
    put-old-total f d = rw (found, ← (pick_at p d t)) (total-set f t (place_of p t) r d (place_found p t found))

    pub put-old-same : (d : A) → p r ≡ true → (any p (put used p r t) ≡ true) × (pick p d (put used p r t) ≡ r)
    put-old-same d h = rw found (set_same p d t (place_of p t) r (place_found p t found) (omega arith) h)

    pub put-old-other : (q : A → Bool) (d : A) → q r ≡ false → q (pick p d t) ≡ false
        → (any q (put used p r t) ≡ any q t) × (pick q d (put used p r t) ≡ pick q d t)
    put-old-other q d h k = rw found (set_other q d t (place_of p t) r h (rw pick_at k))

  -- clear: removes exactly those that have p
  module _ (off : (a : A) → used (unmark a) ≡ false) (p : A → Bool) where
    pub clear-total : (f : A → ℕ) (t : List A) → sum f (clear unmark p t) ≡ sum (only (non p) f) t
    clear-total f t = total-map (only used f) (cleared unmark p) t ∙ total_ext _ _ t each
      where
        each : (a : A) → only used f (cleared unmark p a) ≡ only used (only (non p) f) a
        each a = split (p a) (λ e. rw (e, off a) (split (used a) (λ u. rw u) (λ u. rw u))) (λ e. rw e)

    pub clear-le : (f : A → ℕ) (t : List A) → sum f (clear unmark p t) ≤ sum f t
    clear-le f t = omega (arith, clear-total f t, total-le (only used (only (non p) f)) (only used f) t each)
      where
        each : (a : A) → only used (only (non p) f) a ≤ only used f a
        each a = split (used a) (λ u. rw u (only-le (non p) f a)) (λ u. rw u (omega arith))

    -- what p holds of is no longer found; what p does not hold of is found as before
    pub clear-same : (q : A → Bool) (t : List A) → ((a : A) → used a ≡ false → q a ≡ false)
        → ((a : A) → q a ≡ true → p a ≡ true)
        → any q (clear unmark p t) ≡ false
    clear-same q t u h = map-none q (cleared unmark p) t each
      where
        each : (a : A) → q (cleared unmark p a) ≡ false
        each a = split (p a) (λ e. rw e (u _ (off a))) (λ e. rw e (split (q a) (λ k. clash (h a k) e) (λ k. k)))

    pub clear-other : (q : A → Bool) (d : A) (t : List A) → ((a : A) → used a ≡ false → q a ≡ false)
        → ((a : A) → q a ≡ true → p a ≡ false)
        → (any q (clear unmark p t) ≡ any q t) × (pick q d (clear unmark p t) ≡ pick q d t)
    clear-other q d t u h = map_other q (cleared unmark p) d t each stay
      where
        each : (a : A) → q (cleared unmark p a) ≡ q a
        each a = split (q a) (λ k. rw (h a k)) (λ k. split (p a) (λ e. rw (e, k) (u _ (off a))) (λ e. rw e))

        stay : (a : A) → q a ≡ true → cleared unmark p a ≡ a
        stay a k = rw (h a k)

    -- the record that q finds is found again, if p does not hold of it; nothing new is found
    pub clear-pick : (q : A → Bool) (d : A) (t : List A) → ((a : A) → used a ≡ false → q a ≡ false) → any q t ≡ true
        → p (pick q d t) ≡ false
        → (any q (clear unmark p t) ≡ true) × (pick q d (clear unmark p t) ≡ pick q d t)
    clear-pick q d [] u h n = absurd (false≢true h)
    clear-pick q d (x ∷ xs) u h n = split (q x)
        (λ e. let k = rw e at n in (rw (k, e), rw (k, e)))
        (λ e. let i = clear-pick q d xs u (rw e at h) (rw e at n) in
        let z : q (cleared unmark p x) ≡ false = split (p x) (λ g. rw g (u (unmark x) (off x))) (λ g. rw g e) in
        (rw z i.0, rw (z, e) i.1))

    pub clear_none : (q : A → Bool) (t : List A) → ((a : A) → used a ≡ false → q a ≡ false) → any q t ≡ false
        → any q (clear unmark p t) ≡ false
    clear_none q [] u n = refl
    clear_none q (x ∷ xs) u n = split (q x) (λ e. absurd (true≢false (rw e at n)))
        (λ e. let z : q (cleared unmark p x) ≡ false = split (p x) (λ g. rw g (u (unmark x) (off x))) (λ g. rw g e) in
        rw z (clear_none q xs u (rw e at n)))

    pub clear-length : (t : List A) → length (clear unmark p t) ≡ length t
    clear-length [] = refl
    clear-length (x ∷ xs) = ap suc (clear-length xs)
