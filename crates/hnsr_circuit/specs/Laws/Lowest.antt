-- The least key of the records that have p: some record with p has it, and none with p has a lesser one.
use Rattle.std.specs.Prelude.{ℕ, ◌≤◌, ◌≡◌, Bool, true, ◌&&◌, leb, ltb, eqb}
use Rattle.std.proofs.Common.{arith, sym, subst}
use Rattle.std.proofs.Math.Path.{refl}
use Rattle.std.proofs.Math.Bool.{or-true}
use Rattle.std.proofs.lemmas.Bool.{false≢true}
use mathlib.Core.List.{List, [], ◌∷◌}
use borrow.Author.Tests.{eq-eqb, leb-true, leb-false, le-ltb}
use Rattle.hns_encoding.specs.Laws.Tests.{split, clash}
use Rattle.hns_encoding.specs.Sums.{count}
use Rattle.hnsr_circuit.specs.Table.{also, any, lowest}

module _ {A : Type 0} where
  abbrev pub key_is : (A → ℕ) → ℕ → A → Bool
  key_is k n a = eqb (k a) n

  pub lowest-found : (p : A → Bool) (k : A → ℕ) (t : List A) → any p t ≡ true
      → any (also (key_is k (lowest p k t)) p) t ≡ true
  lowest-found p k [] h = absurd (false≢true h)
  lowest-found p k (x ∷ xs) h = split (p x)
      (λ e. split (any p xs)
      (λ n. split (leb (k x) (lowest p k xs))
      (λ l. rw (e, n, l, eq-eqb (k x) (k x) refl))
      (λ l. let m : lowest p k (x ∷ xs) ≡ lowest p k xs = rw (e, n, l) in
      subst (λ (b : ℕ). any (also (key_is k b) p) (x ∷ xs) ≡ true) (sym m)
      (rw (lowest-found p k xs n, or-true))))
      (λ n. rw (e, n, eq-eqb (k x) (k x) refl)))
      (λ e. let m : lowest p k (x ∷ xs) ≡ lowest p k xs = rw e in
      let v = rw e at h in
      subst (λ (b : ℕ). any (also (key_is k b) p) (x ∷ xs) ≡ true) (sym m)
      (rw (lowest-found p k xs v, or-true)))

  -- none that has p has a lesser key
  below : (A → Bool) → (A → ℕ) → ℕ → A → Bool
  below p k b a = p a && ltb (k a) b

  lowest-under : (p : A → Bool) (k : A → ℕ) (t : List A) (b : ℕ) → (any p t ≡ true → b ≤ lowest p k t)
      → count (below p k b) t ≡ 0
  unfolding below
  lowest-under p k [] b h = refl
  lowest-under p k (x ∷ xs) b h = split (p x)
      (λ e. split (any p xs)
      (λ n. split (leb (k x) (lowest p k xs))
      (λ l. let v = rw (e, n, l) at h in
      let m = v refl in
      rw (e, le-ltb (k x) b m)
      (omega (arith, lowest-under p k xs b (λ y. omega (arith, leb-true (k x) (lowest p k xs) l)))))
      (λ l. let v = rw (e, n, l) at h in
      let m = v refl in
      rw (e, le-ltb (k x) b (omega (arith, leb-false (k x) (lowest p k xs) l)))
      (omega (arith, lowest-under p k xs b (λ y. m)))))
      (λ n. let v = rw (e, n) at h in
      let m = v refl in rw (e, le-ltb (k x) b m) (omega (arith, lowest-under p k xs b (λ y. clash y n)))))
      (λ e. let v = rw e at h in rw e (omega (arith, lowest-under p k xs b v)))

  pub lowest-least : (p : A → Bool) (k : A → ℕ) (t : List A) → count (λ a. p a && ltb (k a) (lowest p k t)) t ≡ 0
  unfolding below
  lowest-least p k t = lowest-under p k t (lowest p k t) (λ e. omega arith)
