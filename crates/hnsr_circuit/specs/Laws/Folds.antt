-- The operations on tables as loops: what a scan `acc = f(acc, t[i], i)` computes, told by how one turn moves a part of
-- the accumulator.
-- So one loop answers many questions: each part g of the accumulator that moves like a sum, a test or a first record
-- found is that sum, test or record. `put` and `edit` are one store at a place, `clear` is a `map`, `next` is a fold
-- by definition.
use Rattle.std.specs.Prelude.{ℕ, suc, ◌+◌, ◌≤◌, min, ◌≡◌, Bool, cond, ◌||◌, Option, None, Some}
use Rattle.std.specs.Option.{option_or}
use native.Mathlib.Omega.{arith}
use Rattle.std.proofs.Math.Path.{refl, ap}
use Rattle.std.proofs.Common.{◌∙◌, sym}
use mathlib.Core.List.{List, [], ◌∷◌}
use Rattle.hns_encoding.specs.Numbers.{top, saturating_add}
use Rattle.hns_encoding.specs.Laws.Tests.{split, or_assoc, or-none}
use Rattle.hns_encoding.specs.Loops.{fold_from}
use Rattle.hns_encoding.specs.Sums.{one, total, count}
use Rattle.hnsr_circuit.specs.Table.{any, pick, place_of}

pub or_nothing : {C : Type 0} (o : Option C) → option_or o None ≡ o
or_nothing None = refl
or_nothing (Some c) = refl

module _ {A B : Type 0} (f : B → A → ℕ → B) where
  -- ---- a number that each turn raises by h is raised by the total of h
  pub fold_total : (g : B → ℕ) (h : A → ℕ) → ((b : B) (x : A) (i : ℕ) → g (f b x i) ≡ g b + h x)
      → (t : List A) (i : ℕ) (b : B)
      → g (fold_from f t i b) ≡ g b + total h t
  unfolding fold_from
  fold_total g h e [] i b = omega arith
  fold_total g h e (x ∷ xs) i b = omega (arith, fold_total g h e xs (suc i) (f b x i), e b x i)

  -- a count is the total of 1 where p holds
  pub fold_count : (g : B → ℕ) (p : A → Bool) → ((b : B) (x : A) (i : ℕ) → g (f b x i) ≡ g b + one p x)
      → (t : List A) (i : ℕ) (b : B)
      → g (fold_from f t i b) ≡ g b + count p t
  fold_count g p e t i b = fold_total g (one p) e t i b

  -- a number that each turn raises by h and that stops at its top
  pub fold_stopping : (g : B → ℕ) (h : A → ℕ) → ((b : B) (x : A) (i : ℕ) → g (f b x i) ≡ saturating_add 64 (g b) (h x))
      → (t : List A) (i : ℕ) (b : B)
      → g b ≤ (top 64) → g (fold_from f t i b) ≡ min (g b + total h t) (top 64)
  unfolding fold_from
  fold_stopping g h e [] i b l = omega arith
  fold_stopping g h e (x ∷ xs) i b l =
      let k = e b x i in omega (arith, fold_stopping g h e xs (suc i) (f b x i) (omega arith))

  -- ---- what no turn moves
  pub fold_kept : {C : Type 0} (g : B → C) → ((b : B) (x : A) (i : ℕ) → g (f b x i) ≡ g b)
      → (t : List A) (i : ℕ) (b : B) → g (fold_from f t i b) ≡ g b
  unfolding fold_from
  fold_kept g e [] i b = refl
  fold_kept g e (x ∷ xs) i b = fold_kept g e xs (suc i) (f b x i) ∙ e b x i

  -- ---- a test that a record with p turns on
  pub fold_any : (g : B → Bool) (p : A → Bool) → ((b : B) (x : A) (i : ℕ) → g (f b x i) ≡ (g b || p x))
      → (t : List A) (i : ℕ) (b : B)
      → g (fold_from f t i b) ≡ (g b || any p t)
  unfolding fold_from
  fold_any g p e [] i b = or-none (g b)
  fold_any g p e (x ∷ xs) i b =
      fold_any g p e xs (suc i) (f b x i) ∙ ap (λ c. c || any p xs) (e b x i) ∙ or_assoc (g b) (p x) (any p xs)

  -- ---- what a record with p sets where nothing is set yet: what v makes of the first one and of its place
  pub fold_first : {C : Type 0} (g : B → Option C) (p : A → Bool) (v : A → ℕ → C)
      → ((b : B) (x : A) (i : ℕ) → g (f b x i) ≡ option_or (g b) (cond (p x) (Some (v x i)) None)) → (d : A)
      → (t : List A) (i : ℕ) (b : B)
      → g (fold_from f t i b) ≡ option_or (g b) (cond (any p t) (Some (v (pick p d t) (i + place_of p t))) None)
  unfolding fold_from
  fold_first g p v e d [] i b = sym (or_nothing (g b))
  fold_first {C} g p v e d (x ∷ xs) i b =
      fold_first g p v e d xs (suc i) (f b x i) ∙ ap (λ (o : Option C). option_or o rest) (e b x i) ∙ joined (g b)
    where
      rest : Option C
      rest = cond (any p xs) (Some (v (pick p d xs) (suc i + place_of p xs))) None

      joined : (o : Option C)
          → option_or (option_or o (cond (p x) (Some (v x i)) None)) rest
          ≡ option_or o (cond (any p (x ∷ xs)) (Some (v (pick p d (x ∷ xs)) (i + place_of p (x ∷ xs)))) None)
      joined (Some c) = refl
      joined None = split (p x)
          (λ q. let z : i ≡ i + 0 = omega arith in rw q (ap (λ (n : ℕ). Some (v x n)) z))
          (λ q. let z : suc i + place_of p xs ≡ i + suc (place_of p xs) = omega arith in
          rw q (ap (λ (n : ℕ). cond (any p xs) (Some (v (pick p d xs) n)) None) z))
