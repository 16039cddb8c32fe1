-- Sums and counts over the elements of a list, of any type: what queued bytes, used places and outstanding actions are
-- counted by.
use Rattle.std.specs.Prelude.{ℕ, ◌+◌, Bool, cond, not, List, [], ◌∷◌}

module _ {A : Type 0} where
  -- f where p holds, else 0; 1 where p holds, else 0
  abbrev pub only : (A → Bool) → (A → ℕ) → A → ℕ
  only p f a = cond (p a) (f a) 0

  abbrev pub one : (A → Bool) → A → ℕ
  one p a = cond (p a) 1 0

  abbrev pub non : (A → Bool) → A → Bool
  non p a = not (p a)

  -- the sum of f over a list, and how many of its elements have p
  abbrev pub total : (A → ℕ) → List A → ℕ
  total f [] = 0
  total f (x ∷ xs) = f x + total f xs

  abbrev pub count : (A → Bool) → List A → ℕ
  count p t = total (one p) t
