-- Laws of lookups, over any record type: what is found and where, what a lookup says of a count, lookups after `set`
-- and `map`, two tests at once.
use Rattle.std.specs.Prelude.{ℕ, zero, suc, ◌≤◌, ◌<◌, ◌≡◌, refl, Bool, true}
use Rattle.std.specs.Prelude.{Option, None, Some, false, List, [], ◌∷◌, map, ltb, length, get_or, set}
use Rattle.std.proofs.Common.{not-suc-le-zero, le_of_suc-le-suc, arith, sym, ap, ◌∙◌, true≢false, lt-ltb, le-ltb}
use Rattle.std.proofs.lemmas.Bool.{false≢true}
use Rattle.std.proofs.Math.Bool.{or-true}
use Rattle.hns_encoding.specs.Laws.Tests.{split, clash}
use Rattle.hns_encoding.specs.Sums.{only, one, total, count}
use Rattle.hnsr_circuit.specs.Table.{also, place_of, place_in, any, pick}
use Rattle.hnsr_circuit.specs.declared.tables.lookup.Found.{Found}
use Rattle.hnsr_circuit.specs.Code.Lookup.{looked_up}
use Rattle.hnsr_circuit.specs.Laws.Totals.{total-none, total-also}

module _ {A : Type 0} where
  -- ---- lookups and counts
  pub place_found : (p : A → Bool) (t : List A) → any p t ≡ true → place_of p t < length t
  place_found p [] h = absurd (false≢true h)
  place_found p (x ∷ xs) h =
      split (p x) (λ e. rw e (omega arith)) (λ e. rw e (omega (arith, place_found p xs (rw e at h))))

  pub place_none : (p : A → Bool) (t : List A) → any p t ≡ false → place_of p t ≡ length t
  place_none p [] h = refl
  place_none p (x ∷ xs) h =
      split (p x) (λ e. absurd (true≢false (rw e at h))) (λ e. rw e (ap suc (place_none p xs (rw e at h))))

  pub place-any : (p : A → Bool) (t : List A) → ltb (place_of p t) (length t) ≡ any p t
  place-any p t = split (any p t)
      (λ e. lt-ltb (place_of p t) (length t) (place_found p t e) ∙ sym e)
      (λ e. le-ltb (place_of p t) (length t) (let k = place_none p t e in omega arith) ∙ sym e)

  pub any-below : (p : A → Bool) (t : List A) → place_of p t < length t → any p t ≡ true
  any-below p t l = sym (place-any p t) ∙ lt-ltb (place_of p t) (length t) l

  pub any-past : (p : A → Bool) (t : List A) → place_of p t ≡ length t → any p t ≡ false
  any-past p t e = sym (place-any p t) ∙ le-ltb (place_of p t) (length t) (omega arith)

  -- the place that a lookup finds
  pub place_is : (p : A → Bool) (t : List A) (i : ℕ) → place_in p t ≡ Some i → (any p t ≡ true) × (place_of p t ≡ i)
  place_is p t i h = split (any p t)
      (λ e. let k = rw e at h in (e, cc))
      (λ e. let k = rw e at h in cc)

  pub place_misses : (p : A → Bool) (t : List A) → place_in p t ≡ None → any p t ≡ false
  place_misses p t h = split (any p t) (λ e. let k = rw e at h in cc) (λ e. e)

  pub pick_at : (p : A → Bool) (d : A) (t : List A) → get_or t (place_of p t) d ≡ pick p d t
  pick_at p d [] = refl
  pick_at p d (x ∷ xs) = split (p x) (λ e. rw e) (λ e. rw e (pick_at p d xs))

  -- what a lookup gives
  pub found_is : (p : A → Bool) (d : A) (t : List A) (f : Found A) → looked_up d p t ≡ Some f
      → (any p t ≡ true) × (f.place ≡ place_of p t) × (f.row ≡ pick p d t)
  found_is p d t f h = split (any p t)
      (λ e. let k : Some (record { place = place_of p t; row = pick p d t }) ≡ Some f = rw e at h in (e, cc, cc))
      (λ e. let k : ◌≡◌ {A = Option (Found A)} None (Some f) = rw e at h in cc)

  pub not_found : (p : A → Bool) (d : A) (t : List A) → looked_up d p t ≡ None → any p t ≡ false
  not_found p d t h = split (any p t)
      (λ e. let k : ◌≡◌ {A = Option (Found A)} (Some (record { place = place_of p t; row = pick p d t })) None =
      rw e at h in
      cc)
      (λ e. e)

  pub pick-has : (p : A → Bool) (d : A) (t : List A) → any p t ≡ true → p (pick p d t) ≡ true
  pick-has p d [] h = absurd (false≢true h)
  pick-has p d (x ∷ xs) h = split (p x) (λ e. rw e e) (λ e. rw e (pick-has p d xs (rw e at h)))

  pub pick-none : (p : A → Bool) (d : A) (t : List A) → any p t ≡ false → pick p d t ≡ d
  pick-none p d [] h = refl
  pick-none p d (x ∷ xs) h =
      split (p x) (λ e. absurd (true≢false (rw e at h))) (λ e. rw e (pick-none p d xs (rw e at h)))

  pub any-count : (p : A → Bool) (t : List A) → any p t ≡ true → 1 ≤ count p t
  any-count p [] h = absurd (false≢true h)
  any-count p (x ∷ xs) h = split (p x) (λ e. rw e (omega arith)) (λ e. rw e (omega (arith, any-count p xs (rw e at h))))

  pub none-count : (p : A → Bool) (t : List A) → any p t ≡ false → count p t ≡ 0
  none-count p [] h = refl
  none-count p (x ∷ xs) h =
      split (p x) (λ e. absurd (true≢false (rw e at h))) (λ e. rw e (omega (arith, none-count p xs (rw e at h))))

  pub count-any : (p : A → Bool) (t : List A) → 1 ≤ count p t → any p t ≡ true
  count-any p t h = split (any p t) (λ e. e) (λ e. let z = none-count p t e in absurd (omega arith))

  pub count_none : (p : A → Bool) (t : List A) → count p t ≡ 0 → any p t ≡ false
  count_none p t h = split (any p t) (λ e. let z = any-count p t e in absurd (omega arith)) (λ e. e)

  -- the record at a place has p: one has; and where one at most has, the lookup finds that place
  pub any_at : (p : A → Bool) (d : A) (t : List A) (k : ℕ) → k < length t → p (get_or t k d) ≡ true → any p t ≡ true
  any_at p d [] k l h = absurd (not-suc-le-zero l)
  any_at p d (x ∷ xs) zero l h = rw h
  any_at p d (x ∷ xs) (suc k) l h = rw (any_at p d xs k (le_of_suc-le-suc l) h, or-true)

  pub place-once : (p : A → Bool) (d : A) (t : List A) (k : ℕ) → count p t ≤ 1 → k < length t → p (get_or t k d) ≡ true
      → place_of p t ≡ k
  place-once p d [] k c l h = absurd (not-suc-le-zero l)
  place-once p d (x ∷ xs) zero c l h = rw h
  place-once p d (x ∷ xs) (suc k) c l h = split (p x)
      (λ e.
      let z = rw e at c in let n = any-count p xs (any_at p d xs k (le_of_suc-le-suc l) h) in absurd (omega arith))
      (λ e. let z = rw e at c in rw e (ap suc (place-once p d xs k (omega arith) (le_of_suc-le-suc l) h)))

  -- one record at most has p, and one has: a total of what has p is that record's
  pub total-key : (p : A → Bool) (f : A → ℕ) (d : A) (t : List A) → count p t ≤ 1 → any p t ≡ true
      → total (only p f) t ≡ f (pick p d t)
  total-key p f d [] c h = absurd (false≢true h)
  total-key p f d (x ∷ xs) c h = split (p x)
      (λ e. let k = rw e at c in rw e (omega (arith, total-none p f xs (omega arith))))
      (λ e. let k = rw e at c in rw e (omega (arith, total-key p f d xs (omega arith) (rw e at h))))

  -- none has q: the record that is found has it not
  pub pick-not : (q p : A → Bool) (d : A) (t : List A) → any q t ≡ false → any p t ≡ true → q (pick p d t) ≡ false
  pick-not q p d [] n h = absurd (false≢true h)
  pick-not q p d (x ∷ xs) n h = split (q x) (λ e. absurd (true≢false (rw e at n)))
      (λ e. split (p x) (λ k. rw k e) (λ k. rw k (pick-not q p d xs (rw e at n) (rw k at h))))

  -- ---- a lookup after `set`
  -- of a record that has q, at or before the first that had: it is found; of one without q over one without: nothing
  -- changes
  pub set_same : (q : A → Bool) (d : A) (t : List A) (i : ℕ) (r : A) → i < length t → i ≤ place_of q t → q r ≡ true
      → (any q (set t i r) ≡ true) × (pick q d (set t i r) ≡ r)
  set_same q d [] i r l b h = absurd (not-suc-le-zero l)
  set_same q d (x ∷ xs) zero r l b h = (rw h, rw h)
  set_same q d (x ∷ xs) (suc i) r l b h = split (q x) (λ e. absurd (not-suc-le-zero (rw e at b)))
      (λ e. let k = set_same q d xs i r (le_of_suc-le-suc l) (le_of_suc-le-suc (rw e at b)) h in rw e k)

  pub set_other : (q : A → Bool) (d : A) (t : List A) (i : ℕ) (r : A) → q r ≡ false → q (get_or t i d) ≡ false
      → (any q (set t i r) ≡ any q t) × (pick q d (set t i r) ≡ pick q d t)
  set_other q d [] i r h g = (refl, refl)
  set_other q d (x ∷ xs) zero r h g = (rw (h, g), rw (h, g))
  set_other q d (x ∷ xs) (suc i) r h g = let k = set_other q d xs i r h g in (rw k.0, rw k.1)

  -- ---- a lookup after `map`
  pub map-none : (q : A → Bool) (g : A → A) (t : List A) → ((a : A) → q (g a) ≡ false) → any q (map g t) ≡ false
  map-none q g [] h = refl
  map-none q g (x ∷ xs) h = rw (h x) (map-none q g xs h)

  pub map_other : (q : A → Bool) (g : A → A) (d : A) (t : List A) → ((a : A) → q (g a) ≡ q a)
      → ((a : A) → q a ≡ true → g a ≡ a)
      → (any q (map g t) ≡ any q t) × (pick q d (map g t) ≡ pick q d t)
  map_other q g d [] h k = (refl, refl)
  map_other q g d (x ∷ xs) h k = let i = map_other q g d xs h k in split (q x)
      (λ e. (rw (h x, e), rw (h x, e) (k x e)))
      (λ e. (rw (h x, e) i.0, rw (h x, e) i.1))

  -- ---- two tests at once
  pub any-also : (p q : A → Bool) (t : List A) → any (also p q) t ≡ true → any p t ≡ true
  any-also p q [] h = absurd (false≢true h)
  any-also p q (x ∷ xs) h = split (p x) (λ e. rw e) (λ e. rw e (any-also p q xs (rw e at h)))

  pub any_imp : (p q : A → Bool) (t : List A) → ((a : A) → p a ≡ true → q a ≡ true) → any p t ≡ true → any q t ≡ true
  any_imp p q [] i h = absurd (false≢true h)
  any_imp p q (x ∷ xs) i h =
      split (q x) (λ e. rw e) (λ e. rw e (any_imp p q xs i (split (p x) (λ k. clash (i x k) e) (λ k. rw k at h))))

  pub any-pick : (p q : A → Bool) (d : A) (t : List A) → any p t ≡ true → q (pick p d t) ≡ true
      → any (also p q) t ≡ true
  any-pick p q d [] h k = absurd (false≢true h)
  any-pick p q d (x ∷ xs) h k =
      split (p x) (λ e. let k' = rw e at k in rw (e, k')) (λ e. rw e (any-pick p q d xs (rw e at h) (rw e at k)))

  -- one record at most has p, and some record has both: the one that is found has q
  pub pick-also : (p q : A → Bool) (d : A) (t : List A) → count p t ≤ 1 → any (also p q) t ≡ true
      → q (pick p d t) ≡ true
  pick-also p q d t c h = split (q (pick p d t)) (λ e. e) (λ e. absurd (clash-count e))
    where
      clash-count : q (pick p d t) ≡ false → ⊥
      clash-count e =
          let k = total-key p (one q) d t c (any-also p q t h) in
          let n = any-count (also p q) t h in
          let m = total-also p q (λ a. 1) t in
          let z = rw e at k in omega arith
