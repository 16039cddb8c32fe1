-- What a loop over a list computes, and the one step of its invariant, over any element type.
--     fold_from f xs i b      the elements of xs, of which the first has the place i, folded into b
--     fold_step, fold_done   a turn of `acc = f(acc, t[i], i); i += 1;`, and the end, at the invariant `fold_from f
--                            (drop i xs) i acc ≡ r`
--     map-step, map-done     a turn of `t[i] = f(t[i]); i += 1;`, and the end, at the invariant `take i ys ++ map f
--                            (drop i ys) ≡ r`
--     in_range               an element in range does not depend on the default
use Rattle.std.specs.Prelude.{ℕ, zero, suc, ◌+◌, ◌<◌, ◌≤◌, ◌≡◌, refl, List, []}
use Rattle.std.specs.Prelude.{◌∷◌, ◌++◌, map, length, take, drop, get_or, set}
use Rattle.std.proofs.Common.{lt-suc_self, not-suc-le-zero, le_of_suc-le-suc, add-one, append_assoc}
use Rattle.std.proofs.Common.{append-nil, drop_of_length-le, take_all, drop-cons, take-suc-set, drop-set-lt}

module _ {A B : Type 0} (f : B → A → ℕ → B) where
  unfoldable pub fold_from : List A → ℕ → B → B
  fold_from [] i b = b
  fold_from (x ∷ xs) i b = fold_from xs (suc i) (f b x i)

  pub fold_step : (xs : List A) (d : A) (i : ℕ) (b b' r : B) → i < length xs → b' ≡ f b (get_or xs i d) i
      → fold_from (drop i xs) i b ≡ r → fold_from (drop (i + 1) xs) (i + 1) b' ≡ r
  unfolding fold_from
  fold_step xs d i b b' r l e h = rw (add-one, e) (rw (drop-cons xs i d l) at h)

  pub fold_done : (xs : List A) (i : ℕ) (b r : B) → length xs ≤ i → fold_from (drop i xs) i b ≡ r → b ≡ r
  unfolding fold_from
  fold_done xs i b r l h = rw (drop_of_length-le xs l) at h

module _ {A : Type 0} (f : A → A) where
  pub map-step : (ys : List A) (d : A) (i : ℕ) (y : A) (r : List A) → i < length ys → y ≡ f (get_or ys i d)
      → take i ys ++ map f (drop i ys) ≡ r
      → take (i + 1) (set ys i y) ++ map f (drop (i + 1) (set ys i y)) ≡ r
  map-step ys d i y r l e h =
      rw (add-one, take-suc-set ys i y l, drop-set-lt (suc i) ys i y (lt-suc_self i), append_assoc, e)
      (rw (drop-cons ys i d l) at h)

  pub map-done : (ys : List A) (i : ℕ) (r : List A) → length ys ≤ i → take i ys ++ map f (drop i ys) ≡ r → ys ≡ r
  map-done ys i r l h = rw (drop_of_length-le ys l, take_all i ys l, append-nil) at h

pub in_range : {A : Type 0} (xs : List A) (i : ℕ) (d e : A) → i < length xs → get_or xs i d ≡ get_or xs i e
in_range [] i d e l = absurd (not-suc-le-zero l)
in_range (x ∷ xs) zero d e l = refl
in_range (x ∷ xs) (suc i) d e l = in_range xs i d e (le_of_suc-le-suc l)
