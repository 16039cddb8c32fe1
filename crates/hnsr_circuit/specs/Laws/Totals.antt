-- Laws of totals and counts, over any record type: pointwise, split by a test, appended, mapped, kept, after `set`.
use Rattle.std.specs.Prelude.{ℕ, ◌≤◌, ◌≡◌, refl, Bool, true, ◌&&◌, List, [], ◌∷◌, ◌++◌, length}
use Rattle.std.proofs.Common.{arith, ap}
use Rattle.hns_encoding.specs.Laws.Tests.{split}
use Rattle.hns_encoding.specs.Laws.Sums.{total_ext, total-le, total-split}
use Rattle.hns_encoding.specs.Sums.{only, non, total, count}
use Rattle.hnsr_circuit.specs.Table.{also, keep}

module _ {A : Type 0} where
  pub total-keep : (f : A → ℕ) (p : A → Bool) (t : List A) → total f (keep p t) ≡ total (only p f) t
  total-keep f p [] = refl
  total-keep f p (x ∷ xs) =
      split (p x) (λ e. rw e (omega (arith, total-keep f p xs))) (λ e. rw e (omega (arith, total-keep f p xs)))

  -- none has p: a total of what has p is 0, and a total is that of the others
  pub total-none : (p : A → Bool) (f : A → ℕ) (t : List A) → count p t ≡ 0 → total (only p f) t ≡ 0
  total-none p f [] h = refl
  total-none p f (x ∷ xs) h =
      split (p x)
      (λ e. let k = rw e at h in omega arith)
      (λ e. let k = rw e at h in rw e (omega (arith, total-none p f xs (omega arith))))

  pub total-others : (p : A → Bool) (f : A → ℕ) (t : List A) → count p t ≡ 0 → total f t ≡ total (only (non p) f) t
  total-others p f t h = omega (arith, total-split p f t, total-none p f t h)

  pub only-le : (p : A → Bool) (f : A → ℕ) (a : A) → only p f a ≤ f a
  only-le p f a = split (p a) (λ e. rw e (omega arith)) (λ e. rw e (omega arith))

  pub keep-le : (f : A → ℕ) (p : A → Bool) (t : List A) → total f (keep p t) ≤ total f t
  keep-le f p t = omega (arith, total-keep f p t, total-le (only p f) f t (only-le p f))

  pub ones_length : (t : List A) → total (λ a. 1) t ≡ length t
  ones_length [] = refl
  ones_length (x ∷ xs) = omega (arith, ones_length xs)

  pub total-also : (p q : A → Bool) (f : A → ℕ) (t : List A) → total (only (also p q) f) t ≡ total (only p (only q f)) t
  total-also p q f t = total_ext _ _ t (λ a. split (p a) (λ e. rw e) (λ e. rw e))

  -- ---- what is kept
  pub keep_append : (p : A → Bool) (s t : List A) → keep p (s ++ t) ≡ keep p s ++ keep p t
  keep_append p [] t = refl
  keep_append p (x ∷ s) t = split (p x) (λ e. rw (e, keep_append p s t)) (λ e. rw (e, keep_append p s t))

  pub keep-keep : (p q r : A → Bool) (t : List A) → ((a : A) → (q a && p a) ≡ r a) → keep p (keep q t) ≡ keep r t
  keep-keep p q r [] h = refl
  keep-keep p q r (x ∷ xs) h = let i = keep-keep p q r xs h in let k = h x in split (q x)
      (λ e. let k' = rw e at k in
      split (p x) (λ f. rw (e, ← k', f) (ap {B = List A} (λ l. x ∷ l) i)) (λ f. rw (e, ← k', f) i))
      (λ e. let k' = rw e at k in rw (e, ← k') i)

  pub keep-whole : (p q : A → Bool) (t : List A) → count (non q) t ≡ 0 → ((a : A) → q a ≡ true → p a ≡ true)
      → keep p t ≡ t
  keep-whole p q [] z h = refl
  keep-whole p q (x ∷ xs) z h =
      split (q x)
      (λ e. let k = rw e at z in rw (h x e) (ap {B = List A} (λ l. x ∷ l) (keep-whole p q xs (omega arith) h)))
      (λ e. let k = rw e at z in absurd (omega arith))

  pub keep_all : (p : A → Bool) (t : List A) → ((a : A) → p a ≡ true) → keep p t ≡ t
  keep_all p [] h = refl
  keep_all p (x ∷ xs) h = rw (h x) (ap {B = List A} (λ l. x ∷ l) (keep_all p xs h))
