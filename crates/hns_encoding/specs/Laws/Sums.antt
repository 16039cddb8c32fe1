-- Sums over lists: at equal, lesser and added measures; of a list put together, mapped or changed at one place; split
-- by a test.
use Rattle.std.specs.Prelude.{ℕ, zero, suc, ◌+◌, ◌≤◌, ◌<◌, ◌≡◌, refl, Bool}
use Rattle.std.specs.Prelude.{List, [], ◌∷◌, ◌++◌, map, length, get_or, set}
use Rattle.std.proofs.Common.{not-suc-le-zero, le_of_suc-le-suc, arith}
use Rattle.hns_encoding.specs.Sums.{only, non, total, count}
use Rattle.hns_encoding.specs.Laws.Tests.{split}

module _ {A : Type 0} where
  pub total_ext : (f g : A → ℕ) (t : List A) → ((a : A) → f a ≡ g a) → total f t ≡ total g t
  total_ext f g [] h = refl
  total_ext f g (x ∷ xs) h = omega (arith, h x, total_ext f g xs h)

  pub total-le : (f g : A → ℕ) (t : List A) → ((a : A) → f a ≤ g a) → total f t ≤ total g t
  total-le f g [] h = omega arith
  total-le f g (x ∷ xs) h = omega (arith, h x, total-le f g xs h)

  pub total-zero : (f : A → ℕ) (t : List A) → ((a : A) → f a ≡ 0) → total f t ≡ 0
  total-zero f [] h = refl
  total-zero f (x ∷ xs) h = omega (arith, h x, total-zero f xs h)

  pub total-append : (f : A → ℕ) (s t : List A) → total f (s ++ t) ≡ total f s + total f t
  total-append f [] t = omega arith
  total-append f (x ∷ s) t = omega (arith, total-append f s t)

  pub total_plus : (f g : A → ℕ) (t : List A) → total (λ a. f a + g a) t ≡ total f t + total g t
  total_plus f g [] = refl
  total_plus f g (x ∷ xs) = omega (arith, total_plus f g xs)

  pub total-map : (f : A → ℕ) (g : A → A) (t : List A) → total f (map g t) ≡ total (λ a. f (g a)) t
  total-map f g [] = refl
  total-map f g (x ∷ xs) = omega (arith, total-map f g xs)

  -- what has p and what has not
  pub total-split : (p : A → Bool) (f : A → ℕ) (t : List A) → total f t ≡ total (only p f) t + total (only (non p) f) t
  total-split p f [] = refl
  total-split p f (x ∷ xs) =
      split (p x) (λ e. rw e (omega (arith, total-split p f xs))) (λ e. rw e (omega (arith, total-split p f xs)))

  -- one place set: what was there goes out of the sum, what is there now comes in
  pub total-set : (f : A → ℕ) (t : List A) (i : ℕ) (r d : A) → i < length t
      → total f (set t i r) + f (get_or t i d) ≡ total f t + f r
  total-set f [] i r d h = absurd (not-suc-le-zero h)
  total-set f (x ∷ xs) zero r d h = omega arith
  total-set f (x ∷ xs) (suc i) r d h = omega (arith, total-set f xs i r d (le_of_suc-le-suc h))

  pub count-length : (p : A → Bool) (t : List A) → count p t ≤ length t
  count-length p [] = omega arith
  count-length p (x ∷ xs) =
      split (p x) (λ e. rw e (omega (arith, count-length p xs))) (λ e. rw e (omega (arith, count-length p xs)))
