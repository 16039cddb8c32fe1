-- A table as a function of the key: at most one used record has each key, a lookup by key answers as the function says,
-- and the record that it finds agrees with what the function knows. Generic over the record A, the key I (with a test
-- of equality) and what is known K.
--
use Rattle.std.specs.Prelude.{ℕ, ◌≤◌, ◌≡◌, Bool, true, false, cond, not, ◌&&◌, List}
use Rattle.std.proofs.Common.{arith, sym, ap, ◌∙◌}
use Rattle.std.proofs.Math.Bool.{and-false}
use Rattle.std.proofs.lemmas.Bool.{false≢true}
use Rattle.hns_encoding.specs.Laws.Tests.{split, join, clash, both, cond-le}
use Rattle.hns_encoding.specs.Sums.{only, one, non, total, count}
use Rattle.hnsr_circuit.specs.Table.{also, any, pick, put, clear}
use Rattle.hns_encoding.specs.Laws.Sums.{total-le, total-split}
use Rattle.hnsr_circuit.specs.Laws.Totals.{total-also}
use Rattle.hnsr_circuit.specs.Laws.Lookups.{pick-has, none-count, count_none, total-key}
use Rattle.hnsr_circuit.specs.Laws.Lookups.{any-also, any_imp, any-pick, pick-also}
use Rattle.hnsr_circuit.specs.Laws.Marks.{put-new-total, put-new-same, put-new-other, put-old-total, put-old-same}
use Rattle.hnsr_circuit.specs.Laws.Marks.{put-old-other, clear-total, clear-le, clear-pick, clear_none}

pub record Keys (A I K : Type 0) : Type 1 where
  pub used : A → Bool
  pub unmark : A → A
  pub off : (a : A) → used (unmark a) ≡ false
  pub nobody : A
  pub key : A → I
  pub same : I → I → Bool
  pub same-eq : (i j : I) → same i j ≡ true → i ≡ j
  pub same_refl : (i : I) → same i i ≡ true
  pub Agree : A → K → Type 0

module _ {A I K : Type 0} (X : Keys A I K) where
  abbrev pub key_is : I → A → Bool
  key_is i a = X.same (X.key a) i

  abbrev pub keyed : I → A → Bool
  keyed i a = X.used a && X.same (X.key a) i

  abbrev pub look : List A → I → A
  look t i = pick (keyed i) X.nobody t

  pub record Tells (t : List A) (ac : I → Bool) (kn : I → K) : Type 0 where
    pub once : (i : I) → count (keyed i) t ≤ 1
    pub found : (i : I) → any (keyed i) t ≡ ac i
    pub agree : (i : I) → ac i ≡ true → X.Agree (look t i) (kn i)

  -- ---- keys
  pub same_comm : (i j : I) → X.same i j ≡ X.same j i
  same_comm i j = split (X.same i j)
      (λ e. rw (e, X.same-eq i j e, X.same_refl j))
      (λ e. split (X.same j i) (λ f. clash (X.same_refl i) (rw (X.same-eq j i f) at e)) (λ f. rw (e, f)))

  pub keyed-at : (i j : I) (a : A) → keyed j a ≡ true → keyed i a ≡ X.same j i
  keyed-at i j a h = let k = both (X.used a) (X.same (X.key a) j) h in rw (k.0, X.same-eq (X.key a) j k.1)

  pub keyed-off : (i : I) (a : A) → X.used a ≡ false → keyed i a ≡ false
  keyed-off i a h = rw h

  -- ---- a record stored under its key: cs' answers c there, and as cs elsewhere
  pub record Looks (j : I) (c : A) (t t' : List A) : Type 0 where
    pub any_keyed : (i : I) → any (keyed i) t' ≡ cond (X.same j i) true (any (keyed i) t)
    pub pick_at : (i : I) → look t' i ≡ cond (X.same j i) c (look t i)
    pub once_at : (i : I) → count (keyed i) t ≤ 1 → count (keyed i) t' ≤ 1

  abbrev pub stored : I → A → List A → List A
  stored j c t = put X.used (keyed j) c t

  pub store_looks : (j : I) (c : A) (t : List A) → keyed j c ≡ true
      → (any (keyed j) t ≡ false → any (non X.used) t ≡ true) → Looks j c t (stored j c t)
  store_looks j c t u space = split (any (keyed j) t) old new
    where
      differ : (i : I) (x : A) → keyed j x ≡ true → X.same j i ≡ false → keyed i x ≡ false
      differ i x k e = keyed-at i j x k ∙ e

      own : X.used c ≡ true
      own = (both (X.used c) (X.same (X.key c) j) u).0

      old : any (keyed j) t ≡ true → Looks j c t (stored j c t)
      old f = let x = pick-has (keyed j) X.nobody t f in record {
        any_keyed =
            λ i. split (X.same j i)
            (λ e. rw (e, ← (X.same-eq j i e)) (put-old-same X.used X.unmark (keyed j) c t f X.nobody u).0)
            (λ e. rw e
            (put-old-other X.used X.unmark (keyed j) c t f (keyed i) X.nobody (differ i c u e)
            (differ i (look t j) x e)).0);
        pick_at =
            λ i. split (X.same j i)
            (λ e. rw (e, ← (X.same-eq j i e)) (put-old-same X.used X.unmark (keyed j) c t f X.nobody u).1)
            (λ e. rw e
            (put-old-other X.used X.unmark (keyed j) c t f (keyed i) X.nobody (differ i c u e)
            (differ i (look t j) x e)).1);
        once_at = λ i o. let k = put-old-total X.used X.unmark (keyed j) c t f (one (keyed i)) X.nobody in
            omega (arith, rw (keyed-at i j c u, keyed-at i j (look t j) x) at k);
      }

      new : any (keyed j) t ≡ false → Looks j c t (stored j c t)
      new f = let s = space f in record {
        any_keyed =
            λ i. split (X.same j i)
            (λ e. rw (e, ← (X.same-eq j i e)) (put-new-same X.used X.unmark (keyed j) c t f s X.nobody u).0)
            (λ e. rw e
            (put-new-other X.used X.unmark (keyed j) c t f s (keyed i) X.nobody (differ i c u e)
            (keyed-off i)).0);
        pick_at =
            λ i. split (X.same j i)
            (λ e. rw (e, ← (X.same-eq j i e)) (put-new-same X.used X.unmark (keyed j) c t f s X.nobody u).1)
            (λ e. rw e
            (put-new-other X.used X.unmark (keyed j) c t f s (keyed i) X.nobody (differ i c u e)
            (keyed-off i)).1);
        once_at = λ i o.
            let k = put-new-total X.used X.unmark (keyed j) c t f s (one (key_is i)) X.nobody own in
            let a = total-also X.used (key_is i) (λ x. 1) (stored j c t) in
            let b = total-also X.used (key_is i) (λ x. 1) t in
            split (X.same j i)
            (λ e.
            let z = none-count (keyed j) t f in omega (arith, a, b, k, cond-le (key_is i c), rw (X.same-eq j i e) at z))
            (λ e. let z : one (key_is i) c ≡ 0 = ap (λ x. cond {A = ℕ} x 1 0)
            (ap (λ x. X.same x i) (X.same-eq (X.key c) j (both (X.used c) (X.same (X.key c) j) u).1) ∙ e) in
            omega (arith, a, b, k));
      }

  -- ---- what the table tells after a store, and after a clear
  module _ {t : List A} {ac : I → Bool} {kn : I → K} (C : Tells t ac kn) where
    pub store_tells : (j : I) (c : A) (k : K) (t' : List A) (ac' : I → Bool) (kn' : I → K) → Looks j c t t'
        → X.Agree c k
        → ((i : I) → ac' i ≡ cond (X.same j i) true (ac i)) → ((i : I) → kn' i ≡ cond (X.same j i) k (kn i))
        → Tells t' ac' kn'
    store_tells j c k t' ac' kn' L G ea ek = record {
      once = λ i. L.once_at i (C.once i);
      found = λ i. L.any_keyed i ∙ rw (C.found i) (sym (ea i));
      agree =
          λ i a. split (X.same j i)
          (λ e. rw (L.pick_at i, ek i, e) G)
          (λ e. rw (L.pick_at i, ek i, e) (C.agree i (rw (ea i, e) at a)));
    }

    -- in place: the key stays active
    pub still : (j : I) → ac j ≡ true → (i : I) → ac i ≡ cond (X.same j i) true (ac i)
    still j a i = split (X.same j i) (λ e. rw (e, ← (X.same-eq j i e)) a) (λ e. rw e)

    module _ (p : A → Bool) (gone : I → Bool) (match : (i : I) → ac i ≡ true → p (look t i) ≡ gone i) where
      -- what stays answers as before
      pub clear-look : (i : I) → ac i ≡ true → gone i ≡ false
          → (any (keyed i) (clear X.unmark p t) ≡ true) × (look (clear X.unmark p t) i ≡ look t i)
      clear-look i a g =
          clear-pick X.used X.unmark X.off p (keyed i) X.nobody t (keyed-off i) (C.found i ∙ a)
          (match i a ∙ g)

      clear-gone : (i : I) → ac i ≡ true → gone i ≡ true → any (keyed i) (clear X.unmark p t) ≡ false
      clear-gone i a g =
          let c = total-also X.used (key_is i) (λ x. 1) (clear X.unmark p t) in
          let d = clear-total X.used X.unmark X.off p (one (key_is i)) t in
          let e = total-also X.used (key_is i) (one (non p)) t in
          let f = total-key (keyed i) (one (non p)) X.nobody t (C.once i) (C.found i ∙ a) in
          let h = total-le (only X.used (only (non p) (one (key_is i))))
          (only X.used (only (key_is i) (one (non p)))) t swap in
          count_none (keyed i) (clear X.unmark p t) (omega (arith, rw (match i a ∙ g) at f))
        where
          swap : (x : A)
              → only X.used (only (non p) (one (key_is i))) x ≤ only X.used (only (key_is i) (one (non p))) x
          swap x =
              split (X.used x)
              (λ u. split (p x) (λ v. rw (u, v) (omega arith)) (λ v. rw (u, v) (omega arith)))
              (λ u. rw u (omega arith))

      pub clear-tells : (ac' : I → Bool) → ((i : I) → ac' i ≡ (ac i && not (gone i)))
          → Tells (clear X.unmark p t) ac' kn
      clear-tells ac' ea = record {
        once =
            λ i. omega (
              arith,
              total-also X.used (key_is i) (λ x. 1) t,
              total-also X.used (key_is i) (λ x. 1) (clear X.unmark p t),
              clear-le X.used X.unmark X.off p (one (key_is i)) t,
              C.once i,
            );
        found = λ i. split (ac i)
            (λ a. split (gone i) (λ g. rw (ea i, a, g) (clear-gone i a g)) (λ g. rw (ea i, a, g) (clear-look i a g).0))
            (λ a.
            rw (ea i, a) (clear_none X.used X.unmark X.off p (keyed i) t (keyed-off i) (C.found i ∙ a)));
        agree = λ i a. let k = both (ac i) (not (gone i)) (sym (ea i) ∙ a) in
            split (gone i)
            (λ g. absurd (false≢true (rw g at k.1)))
            (λ g. rw (clear-look i k.0 g).1 (C.agree i k.0));
      }

    -- ---- questions other than the key: what a used record has, the record found under its key has
    module _ (g : A → Bool) where
      abbrev pub asking : A → Bool
      asking a = X.used a && g a

      abbrev pub key_of : I
      key_of = X.key (pick asking X.nobody t)

      both_at : any asking t ≡ true → any (also (keyed key_of) g) t ≡ true
      both_at h =
          any_imp (also asking (key_is key_of)) (also (keyed key_of) g) t each
          (any-pick asking (key_is key_of) X.nobody t h (X.same_refl key_of))
        where
          each : (a : A) → also asking (key_is key_of) a ≡ true → also (keyed key_of) g a ≡ true
          each a k =
              let x = both (asking a) (key_is key_of a) k in
              let y = both (X.used a) (g a) x.0 in
              join (keyed key_of a) (g a) (join (X.used a) (key_is key_of a) y.0 x.1) y.1

      pub seen : any asking t ≡ true → (ac key_of ≡ true) × (g (look t key_of) ≡ true)
      seen h = (
        sym (C.found key_of) ∙ any-also (keyed key_of) g t (both_at h),
        pick-also (keyed key_of) g X.nobody t (C.once key_of) (both_at h),
      )

      pub shown : (j : I) → ac j ≡ true → g (look t j) ≡ true → any asking t ≡ true
      shown j a h = any_imp (also (keyed j) g) asking t each (any-pick (keyed j) g X.nobody t (C.found j ∙ a) h)
        where
          each : (x : A) → also (keyed j) g x ≡ true → asking x ≡ true
          each x k =
              let y = both (keyed j x) (g x) k in join (X.used x) (g x) (both (X.used x) (key_is j x) y.0).0 y.1

      pub seen_none : ((j : I) → ac j ≡ true → g (look t j) ≡ false) → any asking t ≡ false
      seen_none n = split (any asking t) (λ h. let s = seen h in clash s.1 (n key_of s.0)) (λ h. h)

      one-here : (j : I) → ac j ≡ true → g (look t j) ≡ true → total (only (keyed j) (one asking)) t ≡ 1
      one-here j a h = let f = C.found j ∙ a in
          total-key (keyed j) (one asking) X.nobody t (C.once j) f
          ∙ ap (λ b. cond {A = ℕ} b 1 0)
          (join (X.used (look t j)) (g (look t j))
          (both (X.used (look t j)) (key_is j (look t j)) (pick-has (keyed j) X.nobody t f)).0 h)

      pub seen-two : (i j : I) → ac i ≡ true → ac j ≡ true → g (look t i) ≡ true → g (look t j) ≡ true
          → X.same i j ≡ false → 2 ≤ count asking t
      seen-two i j ai aj hi hj n =
          omega (
            arith,
            total-split (keyed i) (one asking) t,
            one-here i ai hi,
            one-here j aj hj,
            total-le (only (keyed j) (one asking)) (only (non (keyed i)) (one asking)) t each,
          )
        where
          each : (x : A) → only (keyed j) (one asking) x ≤ only (non (keyed i)) (one asking) x
          each x = split (keyed j x)
              (λ e. let f = keyed-at i j x e ∙ same_comm j i ∙ n in
              omega (arith, ap (λ b. cond b (one asking x) 0) e, ap (λ b. cond (not b) (one asking x) 0) f))
              (λ e. omega (arith, ap (λ b. cond b (one asking x) 0) e))

    -- one only has g: it is counted once, and found
    pub seen_one : (g : A → Bool) (j : I) → ac j ≡ true → g (look t j) ≡ true
        → ((i : I) → ac i ≡ true → g (look t i) ≡ true → i ≡ j) → (count (asking g) t ≡ 1) × (key_of g ≡ j)
    seen_one g j a h u = (
      omega (
        arith,
        total-split (keyed j) (one (asking g)) t,
        one-here g j a h,
        total-le (only (non (keyed j)) (one (asking g))) (one (asking g')) t each,
        none-count (asking g') t (seen_none g' others),
      ),
      let s = seen g (shown g j a h) in u (key_of g) s.0 s.1,
    )
      where
        g' : A → Bool
        g' x = g x && not (key_is j x)

        others : (i : I) → ac i ≡ true → g' (look t i) ≡ false
        others i ai = split (g (look t i))
            (λ e. let q = u i ai e in
            let k =
            (both (X.used (look t i)) (key_is i (look t i)) (pick-has (keyed i) X.nobody t (C.found i ∙ ai))).1 in
            ap (λ b. g (look t i) && not b) (ap (X.same (X.key (look t i))) (sym q) ∙ k) ∙ and-false (g (look t i)))
            (λ e. ap (λ b. b && not (key_is j (look t i))) e)

        each : (x : A) → only (non (keyed j)) (one (asking g)) x ≤ one (asking g') x
        each x = cases (X.used x) (key_is j x) (g x)
          where
            cases : (a b c : Bool) → cond (not (a && b)) (cond {A = ℕ} (a && c) 1 0) 0 ≤ cond (a && (c && not b)) 1 0
            cases true true true = omega arith
            cases true true false = omega arith
            cases true false true = omega arith
            cases true false false = omega arith
            cases false b c = omega arith
