-- The loops over a table, over any record type: the step of a count, and the parts of what a scan folds. The step and
-- the end of a fold are `Loops`'.
use Rattle.std.specs.Prelude.{ℕ, zero, suc, ◌+◌, ◌<◌, ◌≡◌, Bool, false}
use Rattle.std.specs.Prelude.{length, take, drop, get_or}
use Rattle.std.proofs.Common.{not-suc-le-zero, le_of_suc-le-suc, add-one, arith}
use Rattle.std.proofs.Common.{◌∙◌, drop-cons}
use Rattle.std.proofs.Math.Path.{refl, ap}
use mathlib.Core.List.{List, [], ◌∷◌, ◌++◌, map}
use Rattle.hns_encoding.specs.Loops.{fold_from, fold_step}
use Rattle.hns_encoding.specs.Sums.{one, count}
use Rattle.hnsr_circuit.specs.Table.{any}

-- ---- counts: what is left of the table says the rest
module _ {A : Type 0} (p : A → Bool) (t : List A) (d : A) (i r : ℕ) where
  pub count_next : (n m : ℕ) → i < length t → m ≡ n + one p (get_or t i d) → n + count p (drop i t) ≡ r
      → m + count p (drop (i + 1) t) ≡ r
  count_next n m l e h = let k = rw (drop-cons t i d l) at h in rw (add-one i) (omega arith)

-- ---- a part of what a scan folds that moves by itself
module _ {A B C : Type 0} (f : B → A → ℕ → B) where
  pub fold_part : (g : B → C) (k : C → A → ℕ → C) → ((b : B) (x : A) (i : ℕ) → g (f b x i) ≡ k (g b) x i)
      → (t : List A) (i : ℕ) (b : B)
      → g (fold_from f t i b) ≡ fold_from k t i (g b)
  unfolding fold_from
  fold_part g k e [] i b = refl
  fold_part g k e (x ∷ xs) i b =
      fold_part g k e xs (suc i) (f b x i) ∙ ap (λ (c : C). fold_from k xs (suc i) c) (e b x i)

-- ---- a turn of a `for` over the table
module _ {A : Type 0} (t : List A) (i : ℕ) (x : A) (l : i < length t) (e : x ≡ get_or t i x) where
  pub fold_turn : {B : Type 0} (f : B → A → ℕ → B) (b b' r : B) → b' ≡ f b x i
      → fold_from f (drop i t) i b ≡ r → fold_from f (drop (i + 1) t) (i + 1) b' ≡ r
  fold_turn f b b' r h k = fold_step f t x i b b' r l (h ∙ ap (λ (y : A). f b y i) e) k

  pub count_turn : (p : A → Bool) (r n m : ℕ) → m ≡ n + one p x
      → n + count p (drop i t) ≡ r → m + count p (drop (i + 1) t) ≡ r
  count_turn p r n m h k = count_next p t x i r n m l (h ∙ ap (λ (y : A). n + one p y) e) k

-- a test that none passes
pub any-never : {A : Type 0} (t : List A) → any (λ (x : A). false) t ≡ false
any-never [] = refl
any-never (x ∷ xs) = any-never xs

-- ---- what stands at the place of a loop that maps what it has passed
pub map-here : {A : Type 0} (g : A → A) (t : List A) (d : A) (i : ℕ) → i < length t
    → get_or (take i t ++ map g (drop i t)) i d ≡ g (get_or t i d)
map-here g [] d i l = absurd (not-suc-le-zero l)
map-here g (x ∷ xs) d zero l = refl
map-here g (x ∷ xs) d (suc i) l = map-here g xs d i (le_of_suc-le-suc l)
