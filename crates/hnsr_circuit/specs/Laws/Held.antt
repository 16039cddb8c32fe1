-- Laws of `held`, over any record type with a used mark: what stands where, the loops that stop at the number, stores,
-- and the number itself raised by a store and lowered past unused places.
use Prim.Native.Nat.{ℕ, zero, suc, ◌+◌, ◌-◌, ◌≤◌, ◌<◌, min}
use Rattle.std.proofs.Common.{not-suc-le-zero, le_of_suc-le-suc, add-one, arith, sym, ◌∙◌, ltb-true}
use Rattle.std.proofs.Common.{ltb-false, leb-true, leb-false}
use Rattle.std.specs.Prelude.{◌≡◌, Bool, true, false, cond, ◌||◌, leb, ltb, length, take, drop, get_or, set}
use Rattle.std.proofs.Math.Path.{refl, ap}
use mathlib.Core.List.{List, [], ◌∷◌, ◌++◌, map, reverse}
use Rattle.std.specs.Option.{MatchOption, IfSome, option_or, unwrap_or}
use Rattle.std.specs.Prelude.{Option, None, Some}
use Rattle.std.specs.List.{AllWithin, HoldsAt, filter}
use Rattle.std.proofs.lemmas.Iterator.{index_from_first}
use Rattle.std.proofs.lemmas.List.{take_min, get_or_past, set_past, get_or-reverse, get_or-take, length-take}
use Rattle.std.proofs.lemmas.List.{length-reverse, get_or_default}
use Rattle.std.proofs.Common.{drop_of_length-le}
use Rattle.hns_encoding.specs.Laws.Tests.{split}
use Rattle.hns_encoding.specs.Loops.{fold_from, fold_done, map-done, in_range}
use Rattle.hns_encoding.specs.Sums.{one, total, count}
use Rattle.hnsr_circuit.specs.Table.{any, place_of, place_in, pick, cleared, clear, next_turn}
use Rattle.hnsr_circuit.specs.declared.tables.scan.Walked.{Walked}
use Rattle.hnsr_circuit.specs.Code.Held.{held, raised_to}
use Rattle.hnsr_circuit.specs.Laws.Scans.{fold_turn}
use Rattle.hnsr_circuit.specs.Laws.Lookups.{place_found, pick_at, any-below, any-past}

module _ {A : Type 0} (unmark : A → A) where
  -- ---- what stands where
  pub length-held : (n : ℕ) (t : List A) → length (held unmark n t) ≡ length t
  length-held n [] = refl
  length-held zero (x ∷ xs) = ap suc (length-held zero xs)
  length-held (suc n) (x ∷ xs) = ap suc (length-held n xs)

  pub held_at : (n : ℕ) (t : List A) (i : ℕ) (d : A) → i < n → get_or (held unmark n t) i d ≡ get_or t i d
  held_at n [] i d l = refl
  held_at zero (x ∷ xs) i d l = absurd (not-suc-le-zero l)
  held_at (suc n) (x ∷ xs) zero d l = refl
  held_at (suc n) (x ∷ xs) (suc i) d l = held_at n xs i d (le_of_suc-le-suc l)

  pub held-past : (n : ℕ) (t : List A) (i : ℕ) (d : A) → n ≤ i → i < length t
      → get_or (held unmark n t) i d ≡ unmark (get_or t i d)
  held-past n [] i d l h = absurd (not-suc-le-zero h)
  held-past zero (x ∷ xs) zero d l h = refl
  held-past zero (x ∷ xs) (suc i) d l h = held-past zero xs i d (omega arith) (le_of_suc-le-suc h)
  held-past (suc n) (x ∷ xs) zero d l h = absurd (not-suc-le-zero l)
  held-past (suc n) (x ∷ xs) (suc i) d l h = held-past n xs i d (le_of_suc-le-suc l) (le_of_suc-le-suc h)

  -- at or past the end every mark counts; below 0 none
  pub held_all : (n : ℕ) (t : List A) → length t ≤ n → held unmark n t ≡ t
  held_all n [] l = refl
  held_all zero (x ∷ xs) l = absurd (not-suc-le-zero l)
  held_all (suc n) (x ∷ xs) l = ap {B = List A} (λ (r : List A). x ∷ r) (held_all n xs (le_of_suc-le-suc l))

  pub held_none : (t : List A) → held unmark 0 t ≡ map unmark t
  held_none [] = refl
  held_none (x ∷ xs) = ap {B = List A} (λ (r : List A). unmark x ∷ r) (held_none xs)

  pub take-held : (n : ℕ) (t : List A) → take n (held unmark n t) ≡ take n t
  take-held zero t = refl
  take-held (suc n) [] = refl
  take-held (suc n) (x ∷ xs) = ap {B = List A} (λ (r : List A). x ∷ r) (take-held n xs)

  -- a used record's question finds only below the number, a question of unused ones at the number at most
  pub place-below : (p : A → Bool) → ((a : A) → p (unmark a) ≡ false) → (n : ℕ) (t : List A)
      → place_of p (held unmark n t) < length t → place_of p (held unmark n t) < n
  place-below p off n [] h = absurd (not-suc-le-zero h)
  place-below p off zero (x ∷ xs) h =
      let k = rw (off x) at h in absurd (not-suc-le-zero (place-below p off zero xs (le_of_suc-le-suc k)))
  place-below p off (suc n) (x ∷ xs) h = split (p x)
      (λ e. rw e (omega arith))
      (λ e. let k = rw e at h in rw e (let z = place-below p off n xs (le_of_suc-le-suc k) in omega arith))

  pub place_upto : (p : A → Bool) → ((a : A) → p (unmark a) ≡ true) → (n : ℕ) (t : List A)
      → place_of p (held unmark n t) ≤ n
  place_upto p on n [] = omega arith
  place_upto p on zero (x ∷ xs) = rw (on x) (omega arith)
  place_upto p on (suc n) (x ∷ xs) =
      split (p x) (λ e. rw e (omega arith)) (λ e. rw e (let z = place_upto p on n xs in omega arith))

  -- ---- a lookup among the first places, by what `position` says of them
  pub any-unmarked : (p : A → Bool) → ((a : A) → p (unmark a) ≡ false) → (t : List A) → any p (map unmark t) ≡ false
  any-unmarked p off [] = refl
  any-unmarked p off (x ∷ xs) = rw (off x) (any-unmarked p off xs)

  pub any_held : (p : A → Bool) → ((a : A) → p (unmark a) ≡ false) → (n : ℕ) (t : List A)
      → any p (held unmark n t) ≡ any p (take n t)
  any_held p off zero t = ap (any p) (held_none t) ∙ any-unmarked p off t
  any_held p off (suc n) [] = refl
  any_held p off (suc n) (x ∷ xs) = ap (λ (b : Bool). p x || b) (any_held p off n xs)

  place-taken : (p : A → Bool) (n : ℕ) (t : List A) → place_of p (take n t) < length (take n t)
      → place_of p (held unmark n t) ≡ place_of p (take n t)
  place-taken p zero t l = absurd (not-suc-le-zero l)
  place-taken p (suc n) [] l = absurd (not-suc-le-zero l)
  place-taken p (suc n) (x ∷ xs) l =
      split (p x) (λ e. rw e) (λ e. let k = rw e at l in rw e (ap suc (place-taken p n xs (le_of_suc-le-suc k))))

  pub place-past : (p : A → Bool) → ((a : A) → p (unmark a) ≡ false) → (n : ℕ) (t : List A)
      → place_of p (take n t) ≡ length (take n t) → place_of p (held unmark n t) ≡ length t
  place-past p off zero [] h = refl
  place-past p off (suc n) [] h = refl
  place-past p off zero (x ∷ xs) h = rw (off x) (ap suc (place-past p off zero xs refl))
  place-past p off (suc n) (x ∷ xs) h = split (p x)
      (λ e. let k = rw e at h in omega arith)
      (λ e. let k = rw e at h in rw e (ap suc (place-past p off n xs (omega arith))))

  place_first : (p : A → Bool) (xs : List A) (r : Option ℕ)
      → MatchOption r (AllWithin (λ x. p x ≡ false) xs 0 (length xs))
      (λ i. (i < length xs) × HoldsAt (λ x. p x ≡ true) xs i × AllWithin (λ x. p x ≡ false) xs 0 i)
      → place_of p xs ≡ unwrap_or r (length xs)
  place_first p xs r h =
      index_from_first (place_of p) (λ x. p x ≡ true) (λ x. p x ≡ false) refl (λ x ys e. rw e)
      (λ x ys e. rw (e, add-one)) xs r h

  place-in : (p : A → Bool) → ((a : A) → p (unmark a) ≡ false) → (n : ℕ) (t : List A)
      → place_in p (take n t) ≡ place_in p (held unmark n t)
  place-in p off n t = split (any p (take n t))
      (λ e. rw (any_held p off n t, e, place-taken p n t (place_found p (take n t) e)))
      (λ e. rw (any_held p off n t, e))

  pub found_below : (p : A → Bool) → ((a : A) → p (unmark a) ≡ false) → (n : ℕ) (t : List A)
      → any p (held unmark n t) ≡ true → place_of p (held unmark n t) < n
  found_below p off n t h = place-below p off n t (rw (length-held n t) at (place_found p (held unmark n t) h))

  -- so a record is put at the number at most: at the place that a lookup of p finds, else at the first with u
  pub put_upto : (p u : A → Bool) → ((a : A) → p (unmark a) ≡ false) → ((a : A) → u (unmark a) ≡ true)
      → (n : ℕ) (t : List A)
      → IfSome (option_or (place_in p (held unmark n t)) (place_in u (held unmark n t))) (λ place. place ≤ n)
  put_upto p u off on n t = split (any p (held unmark n t))
      (λ f. rw f (let z = found_below p off n t f in omega arith))
      (λ f. rw f (split (any u (held unmark n t)) (λ g. rw g (place_upto u on n t)) (λ g. rw g tt)))

  -- what is found stands below the number, so that it is what the table holds
  pub found_row : (p : A → Bool) (d : A) → ((a : A) → p (unmark a) ≡ false) → (n : ℕ) (t : List A) (x : A)
      → any p (held unmark n t) ≡ true → x ≡ get_or t (place_of p (held unmark n t)) x
      → pick p d (held unmark n t) ≡ x
  found_row p d off n t x h e =
      let u = held unmark n t in
      let i = place_of p u in
      let l : i < length t = rw (length-held n t) at (place_found p u h) in
      sym (pick_at p d u) ∙ held_at n t i d (found_below p off n t h) ∙ in_range t i d x l ∙ sym e

  pub found_within : (p : A → Bool) → ((a : A) → p (unmark a) ≡ false) → (n : ℕ) (t : List A) (r : Option ℕ)
      → r ≡ place_in p (held unmark n t) → IfSome r (λ place. (place < n) × (place < length t))
  found_within p off n t r e =
      rw e
      (split (any p (held unmark n t))
      (λ f. rw f (found_below p off n t f, rw (length-held n t) at (place_found p (held unmark n t) f)))
      (λ f. rw f tt))

  pub found_held : (p : A → Bool) → ((a : A) → p (unmark a) ≡ false) → (n : ℕ) (t : List A) (r : Option ℕ)
      → MatchOption r (AllWithin (λ x. p x ≡ false) (take n t) 0 (length (take n t)))
      (λ i. (i < length (take n t)) × HoldsAt (λ x. p x ≡ true) (take n t) i
      × AllWithin (λ x. p x ≡ false) (take n t) 0 i)
      → r ≡ place_in p (held unmark n t)
  found_held p off n t r h = in_first r h ∙ place-in p off n t
    where
      in_first : (r : Option ℕ)
          → MatchOption r (AllWithin (λ x. p x ≡ false) (take n t) 0 (length (take n t)))
          (λ i. (i < length (take n t)) × HoldsAt (λ x. p x ≡ true) (take n t) i
          × AllWithin (λ x. p x ≡ false) (take n t) 0 i)
          → r ≡ place_in p (take n t)
      in_first None h =
          let e = place_first p (take n t) None h in
          rw (any-past p (take n t) e)
      in_first (Some i) h =
          let e = place_first p (take n t) (Some i) h in
          rw (any-below p (take n t) (rw e h.0), e)

  -- a question of unused records stops at the number at most
  pub place-on : (p : A → Bool) → ((a : A) → p (unmark a) ≡ true) → (n : ℕ) (t : List A)
      → place_of p (take n t) ≡ place_of p (held unmark n t)
  place-on p on zero [] = refl
  place-on p on (suc n) [] = refl
  place-on p on zero (x ∷ xs) = rw (on x)
  place-on p on (suc n) (x ∷ xs) = ap (λ (m : ℕ). cond (p x) 0 (suc m)) (place-on p on n xs)

  pub spare_held : (p : A → Bool) → ((a : A) → p (unmark a) ≡ true) → (n : ℕ) (t : List A) (r : Option ℕ)
      → MatchOption r (AllWithin (λ x. p x ≡ false) (take n t) 0 (length (take n t)))
      (λ i. (i < length (take n t)) × HoldsAt (λ x. p x ≡ true) (take n t) i
      × AllWithin (λ x. p x ≡ false) (take n t) 0 i)
      → unwrap_or r (length (take n t)) ≡ place_of p (held unmark n t)
  spare_held p on n t r h = sym (place_first p (take n t) r h) ∙ place-on p on n t

  -- ---- a scan whose turn does nothing at an unmarked record
  module _ {B : Type 0} (f : B → A → ℕ → B) (idle : (b : B) (a : A) (i : ℕ) → f b (unmark a) i ≡ b) where
    pub fold_unmarked : (t : List A) (i : ℕ) (b : B) → fold_from f (map unmark t) i b ≡ b
    unfolding fold_from
    fold_unmarked [] i b = refl
    fold_unmarked (x ∷ xs) i b =
        ap (λ (c : B). fold_from f (map unmark xs) (suc i) c) (idle b x i) ∙ fold_unmarked xs (suc i) b

    pub fold_held : (n : ℕ) (t : List A) (i : ℕ) (b : B)
        → fold_from f (held unmark n t) i b ≡ fold_from f (take n t) i b
    unfolding fold_from
    fold_held zero t i b = ap (λ (l : List A). fold_from f l i b) (held_none t) ∙ fold_unmarked t i b
    fold_held (suc n) [] i b = refl
    fold_held (suc n) (x ∷ xs) i b = fold_held n xs (suc i) (f b x i)

    -- the end of such a scan over the first places
    pub fold_seen : (n : ℕ) (t seen : List A) (i : ℕ) (b b₀ : B) → seen ≡ take n t → length seen ≤ i
        → fold_from f (drop i seen) i b ≡ fold_from f seen 0 b₀ → b ≡ fold_from f (held unmark n t) 0 b₀
    fold_seen n t seen i b b₀ e l h =
        fold_done f seen i b (fold_from f seen 0 b₀) l h
        ∙ ap (λ (s : List A). fold_from f s 0 b₀) e
        ∙ sym (fold_held n t 0 b₀)

  -- a walk takes no unmarked record
  pub next-idle : (id_of : A → ℕ) (p : A → Bool) → ((a : A) → p (unmark a) ≡ false)
      → (c best : Option Walked) (a : A) (i : ℕ)
      → next_turn id_of p c best (unmark a) i ≡ best
  next-idle id_of p off c best a i = rw (off a)

  -- ---- totals and counts
  pub total-unmarked : (f : A → ℕ) → ((a : A) → f (unmark a) ≡ 0) → (t : List A) → total f (map unmark t) ≡ 0
  total-unmarked f z [] = refl
  total-unmarked f z (x ∷ xs) = omega (arith, z x, total-unmarked f z xs)

  pub total-held : (f : A → ℕ) → ((a : A) → f (unmark a) ≡ 0) → (n : ℕ) (t : List A)
      → total f (held unmark n t) ≡ total f (take n t)
  total-held f z zero t = ap (total f) (held_none t) ∙ total-unmarked f z t
  total-held f z (suc n) [] = refl
  total-held f z (suc n) (x ∷ xs) = omega (arith, total-held f z n xs)

  pub count_held : (p : A → Bool) → ((a : A) → p (unmark a) ≡ false) → (n : ℕ) (t : List A)
      → length (filter p (take n t)) ≡ count p (held unmark n t)
  count_held p off n t = many (take n t) ∙ sym (total-held (one p) (λ a. rw (off a)) n t)
    where
      many : (xs : List A) → length (filter p xs) ≡ count p xs
      many [] = refl
      many (x ∷ xs) = split (p x) (λ e. rw e (omega (arith, many xs))) (λ e. rw e (omega (arith, many xs)))

  -- the end of a count over the first places
  pub count_seen : (p : A → Bool) → ((a : A) → p (unmark a) ≡ false) → (n : ℕ) (t seen : List A) (i m : ℕ)
      → seen ≡ take n t → length seen ≤ i → m + count p (drop i seen) ≡ count p seen
      → m ≡ count p (held unmark n t)
  count_seen p off n t seen i m e l h =
      let k = rw (drop_of_length-le seen l) at h in
      let z : m ≡ count p seen = omega arith in
      z ∙ ap (count p) e ∙ sym (total-held (one p) (λ a. rw (off a)) n t)

  -- ---- lookups over the first places alone
  pub pick-held : (p : A → Bool) (d : A) → ((a : A) → p (unmark a) ≡ false) → (n : ℕ) (t : List A)
      → pick p d (held unmark n t) ≡ pick p d (take n t)
  pick-held p d off n [] = split-nil n
    where
      split-nil : (n : ℕ) → d ≡ pick p d (take n [])
      split-nil zero = refl
      split-nil (suc n) = refl
  pick-held p d off zero (x ∷ xs) = rw (off x) (pick-held p d off zero xs)
  pick-held p d off (suc n) (x ∷ xs) = ap (λ (a : A). cond (p x) x a) (pick-held p d off n xs)

  -- ---- stores
  -- below the number
  pub held-set : (n : ℕ) (t : List A) (i : ℕ) (x : A) → i < n → held unmark n (set t i x) ≡ set (held unmark n t) i x
  held-set n [] i x l = refl
  held-set zero (y ∷ ys) i x l = absurd (not-suc-le-zero l)
  held-set (suc n) (y ∷ ys) zero x l = refl
  held-set (suc n) (y ∷ ys) (suc i) x l =
      ap {B = List A} (λ (r : List A). y ∷ r) (held-set n ys i x (le_of_suc-le-suc l))

  -- at the number: it is one more
  pub held_next : (n : ℕ) (t : List A) (x : A) → held unmark (suc n) (set t n x) ≡ set (held unmark n t) n x
  held_next n [] x = refl
  held_next zero (y ∷ ys) x = refl
  held_next (suc n) (y ∷ ys) x = ap {B = List A} (λ (r : List A). y ∷ r) (held_next n ys x)

  -- a store of a record that is its own clearing, where it is done at or past the number
  pub seen_set : (n : ℕ) (t : List A) (i : ℕ) (x : A) → (n ≤ i → unmark x ≡ x)
      → held unmark n (set t i x) ≡ set (held unmark n t) i x
  seen_set n [] i x s = refl
  seen_set zero (y ∷ ys) zero x s = ap {B = List A} (λ (a : A). a ∷ held unmark zero ys) (s (omega arith))
  seen_set zero (y ∷ ys) (suc i) x s =
      ap {B = List A} (λ (r : List A). unmark y ∷ r) (seen_set zero ys i x (λ h. s (omega arith)))
  seen_set (suc n) (y ∷ ys) zero x s = refl
  seen_set (suc n) (y ∷ ys) (suc i) x s =
      ap {B = List A} (λ (r : List A). y ∷ r) (seen_set n ys i x (λ h. s (omega arith)))

  -- a record's mark cleared where it stands
  pub unmarked_held : ((a : A) → unmark (unmark a) ≡ unmark a) → (n : ℕ) (t : List A) (i : ℕ) (d : A)
      → held unmark n (set t i (unmark (get_or (held unmark n t) i d)))
      ≡ set (held unmark n t) i (unmark (get_or (held unmark n t) i d))
  unmarked_held twice n t i d = seen_set n t i (unmark (get_or (held unmark n t) i d)) (λ l. twice _)

  -- past the end
  pub set_beyond : (n : ℕ) (t : List A) (i : ℕ) (x : A) → length t ≤ i → set (held unmark n t) i x ≡ held unmark n t
  set_beyond n t i x l = set_past (held unmark n t) i x (rw length-held l)

  -- a record changed in place, by what has no regard to its mark
  pub changed_held : (f : A → A) → ((a : A) → unmark (f a) ≡ f (unmark a)) → (n : ℕ) (t : List A) (i : ℕ) (d : A)
      → held unmark n (set t i (f (get_or t i d))) ≡ set (held unmark n t) i (f (get_or (held unmark n t) i d))
  changed_held f same n [] i d = refl
  changed_held f same zero (x ∷ xs) zero d = ap {B = List A} (λ (a : A). a ∷ held unmark zero xs) (same x)
  changed_held f same zero (x ∷ xs) (suc i) d =
      ap {B = List A} (λ (r : List A). unmark x ∷ r) (changed_held f same zero xs i d)
  changed_held f same (suc n) (x ∷ xs) zero d = refl
  changed_held f same (suc n) (x ∷ xs) (suc i) d =
      ap {B = List A} (λ (r : List A). x ∷ r) (changed_held f same n xs i d)

  -- one at the number at most, which raises it
  pub put_held : (n : ℕ) (t : List A) (i : ℕ) (x : A) → (i < length t → i ≤ n)
      → held unmark (raised_to n i (length t)) (set t i x) ≡ set (held unmark n t) i x
  put_held n t i x l = split (ltb i (length t))
      (λ h. split (leb n i)
      (λ k. rw (h, k) (let z : n ≡ i = omega (arith, l (ltb-true i (length t) h), leb-true n i k) in
      rw (← z, add-one) (held_next n t x)))
      (λ k. rw (h, k) (held-set n t i x (leb-false n i k))))
      (λ h. let k = ltb-false i (length t) h in
      rw h (ap (held unmark n) (set_past t i x k) ∙ sym (set_past (held unmark n t) i x (rw (length-held n t) k))))

  -- the number may as well stop at the end
  pub held-min : (n : ℕ) (t : List A) → held unmark (min n (length t)) t ≡ held unmark n t
  held-min n t = split (leb n (length t))
      (λ e. let k = leb-true n (length t) e in let z : min n (length t) ≡ n = omega arith in rw z)
      (λ e. let k = leb-false n (length t) e in
      let z : min n (length t) ≡ length t = omega arith in
      rw z (held_all (length t) t (omega arith) ∙ sym (held_all n t (omega arith))))

  -- ---- the end of a clearing: what is left has no mark to clear
  clear-unmarked : (p : A → Bool) → ((a : A) → unmark (unmark a) ≡ unmark a) → (t : List A)
      → clear unmark p (map unmark t) ≡ map unmark t
  clear-unmarked p twice [] = refl
  clear-unmarked p twice (x ∷ xs) = λ j. one-unmarked j ∷ clear-unmarked p twice xs j
    where
      one-unmarked : cleared unmark p (unmark x) ≡ unmark x
      one-unmarked = split (p (unmark x)) (λ e. rw e (twice x)) (λ e. rw e)

  pub clear_held : (p : A → Bool) → ((a : A) → unmark (unmark a) ≡ unmark a) → (n : ℕ) (t : List A)
      → held unmark n (clear unmark p (take n t) ++ drop n t) ≡ clear unmark p (held unmark n t)
  clear_held p twice zero t =
      held_none t ∙ sym (clear-unmarked p twice t) ∙ ap (clear unmark p) (sym (held_none t))
  clear_held p twice (suc n) [] = refl
  clear_held p twice (suc n) (x ∷ xs) =
      ap {B = List A} (λ (r : List A). cleared unmark p x ∷ r) (clear_held p twice n xs)

  past_min : (n : ℕ) (t : List A) → drop (min n (length t)) t ≡ drop n t
  past_min n t = split (leb n (length t))
      (λ e. let k = leb-true n (length t) e in let z : min n (length t) ≡ n = omega arith in rw z)
      (λ e. let k = leb-false n (length t) e in
      let z : min n (length t) ≡ length t = omega arith in
      rw z (drop_of_length-le t (omega arith) ∙ sym (drop_of_length-le t (omega arith))))

  pub cleared_held : (p : A → Bool) → ((a : A) → unmark (unmark a) ≡ unmark a) → (n m : ℕ) (t : List A)
      → m ≡ min n (length t)
      → held unmark n (clear unmark p (take m t) ++ drop m t) ≡ clear unmark p (held unmark n t)
  cleared_held p twice n m t e =
      rw e ((λ j. held unmark n (clear unmark p (take_min n t j) ++ past_min n t j)) ∙ clear_held p twice n t)

  -- a table cleared as it is seen, or seen as it is cleared
  pub held-clear : (p : A → Bool) → ((a : A) → unmark (unmark a) ≡ unmark a) → (n : ℕ) (t : List A)
      → held unmark n (clear unmark p t) ≡ clear unmark p (held unmark n t)
  held-clear p twice n [] = refl
  held-clear p twice zero (x ∷ xs) = λ j. same j ∷ held-clear p twice zero xs j
    where
      same : unmark (cleared unmark p x) ≡ cleared unmark p (unmark x)
      same = split (p x)
          (λ e. split (p (unmark x)) (λ f. rw (e, f)) (λ f. rw (e, f) (twice x)))
          (λ e. split (p (unmark x)) (λ f. rw (e, f) (sym (twice x))) (λ f. rw (e, f)))
  held-clear p twice (suc n) (x ∷ xs) =
      ap {B = List A} (λ (r : List A). cleared unmark p x ∷ r) (held-clear p twice n xs)

  -- ---- a scan of the first places, and what it makes of the rest: a scan of the table as it is seen
  module _ {B : Type 0} (f : B → A → ℕ → B) (ended : B → ℕ → ℕ → B)
      (unmarked : (t : List A) (i : ℕ) (b : B) (e : ℕ) → e ≡ i + length t
      → fold_from f (map unmark t) i b ≡ ended b i e) where
    scan_held : (n : ℕ) (t : List A) (i : ℕ) (b : B) (e m : ℕ) → e ≡ i + length t → m ≡ i + length (take n t)
        → ended (fold_from f (take n t) i b) m e ≡ fold_from f (held unmark n t) i b
    unfolding fold_from
    scan_held zero t i b e m l k =
        let z : m ≡ i = omega arith in
        ap (λ (j : ℕ). ended b j e) z
        ∙ sym (ap (λ (s : List A). fold_from f s i b) (held_none t) ∙ unmarked t i b e l)
    scan_held (suc n) [] i b e m l k =
        let z : m ≡ i = omega arith in ap (λ (j : ℕ). ended b j e) z ∙ sym (unmarked [] i b e l)
    scan_held (suc n) (x ∷ xs) i b e m l k = scan_held n xs (suc i) (f b x i) e m (omega arith) (omega arith)

    pub scan_seen : (n : ℕ) (t seen : List A) (i : ℕ) (b b₀ : B) → seen ≡ take n t → length seen ≤ i
        → fold_from f (drop i seen) i b ≡ fold_from f seen 0 b₀
        → ended b (length seen) (length t) ≡ fold_from f (held unmark n t) 0 b₀
    scan_seen n t seen i b b₀ e l h =
        ap (λ (c : B). ended c (length seen) (length t)) (fold_done f seen i b (fold_from f seen 0 b₀) l h)
        ∙ ap (λ (s : List A). ended (fold_from f s 0 b₀) (length s) (length t)) e
        ∙ scan_held n t 0 b₀ (length t) (length (take n t)) (omega arith) (omega arith)

  -- ---- the number lowered past unused places, or places past the end
  module _ (used : A → Bool) (still : (a : A) → used a ≡ false → unmark a ≡ a) where
    pub lower-past : (m n : ℕ) (t : List A) → m ≤ n
        → ((j : ℕ) (d : A) → m ≤ j → j < n → j < length t → used (get_or t j d) ≡ false)
        → held unmark m t ≡ held unmark n t
    lower-past m n [] l h = refl
    lower-past zero zero (x ∷ xs) l h = refl
    lower-past zero (suc n) (x ∷ xs) l h =
        λ i. still x (h 0 x (omega arith) (omega arith) (omega arith)) i
        ∷ lower-past zero n xs (omega arith) (λ j d a b c. h (suc j) d (omega arith) (omega arith) (omega arith)) i
    lower-past (suc m) zero (x ∷ xs) l h = absurd (not-suc-le-zero l)
    lower-past (suc m) (suc n) (x ∷ xs) l h =
        ap {B = List A} (λ (r : List A). x ∷ r)
        (lower-past m n xs (le_of_suc-le-suc l)
        (λ j d a b c. h (suc j) d (omega arith) (omega arith) (omega arith)))

    -- past one
    pub lower-step : (n : ℕ) (t : List A) (d : A) (r : List A) → 0 < n → used (get_or t (n - 1) d) ≡ false
        → held unmark n t ≡ r → held unmark (n - 1) t ≡ r
    lower-step n t d r l u h =
        lower-past (n - 1) n t (omega arith)
        (λ j e a b c. let same : j ≡ n - 1 = omega arith in
        ap used (get_or_default t j e d c ∙ ap (λ (i : ℕ). get_or t i d) same) ∙ u)
        ∙ h

    -- as many as `position` finds from the end on
    pub lowered : (n : ℕ) (t : List A) (r : Option ℕ)
        → MatchOption r (AllWithin (λ x. used x ≡ false) (reverse (take n t)) 0 (length (reverse (take n t))))
        (λ i. (i < length (reverse (take n t))) × HoldsAt (λ x. used x ≡ true) (reverse (take n t)) i
        × AllWithin (λ x. used x ≡ false) (reverse (take n t)) 0 i)
        → held unmark (length (take n t) - unwrap_or r (length (take n t))) t ≡ held unmark n t
    lowered n t r h =
        let s = take n t in
        let k = unwrap_or r (length s) in
        let last = unused r h in
        lower-past (length s - k) n t (omega (arith, length-take n t)) (λ j d a b c.
        let l : j < length s = omega (arith, length-take n t) in
        let back : length s - 1 - j < length s = omega arith in
        let same : length s - 1 - (length s - 1 - j) ≡ j = omega arith in
        let there = last (length s - 1 - j) d (omega arith) (omega arith) in
        let at : get_or (reverse s) (length s - 1 - j) d ≡ get_or t j d =
        get_or-reverse s (length s - 1 - j) d back
        ∙ ap (λ (i : ℕ). get_or s i d) same
        ∙ get_or-take n t j d b in
        ap used (sym at) ∙ there)
      where
        unused : (r : Option ℕ)
            → MatchOption r (AllWithin (λ x. used x ≡ false) (reverse (take n t)) 0 (length (reverse (take n t))))
            (λ i. (i < length (reverse (take n t))) × HoldsAt (λ x. used x ≡ true) (reverse (take n t)) i
            × AllWithin (λ x. used x ≡ false) (reverse (take n t)) 0 i)
            → AllWithin (λ x. used x ≡ false) (reverse (take n t)) 0 (unwrap_or r (length (take n t)))
        unused None h = rw length-reverse at h
        unused (Some i) h = h.2

    -- all marks cleared, as `new` does
    pub held-cleared : (t : List A) → held unmark 0 t ≡ clear unmark used t
    held-cleared [] = refl
    held-cleared (x ∷ xs) = λ j. one-cleared j ∷ held-cleared xs j
      where
        one-cleared : unmark x ≡ cleared unmark used x
        one-cleared = split (used x) (λ e. rw e) (λ e. rw e (still x e))

-- what stands where, for a tactic
pub ruleset held_laws = (length-held, held_at, held-past, held-min, get_or_past)

-- the end of a clearing; a turn of a scan, and its end
pub ruleset clear_laws = (map-done, cleared_held)

pub ruleset scan_laws = (fold_turn, fold_seen)
