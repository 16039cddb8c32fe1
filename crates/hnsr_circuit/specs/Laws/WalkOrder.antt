-- Where all that has p is above the cursor, as in a walk over distinct ids, a turn of the walk takes the least key of
-- what has p: so the laws of Sweep are laws of the walk.
use Rattle.std.specs.Prelude.{ℕ, suc, min, ◌≡◌, refl, Bool, ◌&&◌, Option, None, Some, leb, ltb}
use Rattle.std.proofs.Common.{arith, sym, ◌∙◌, ltb-true, ltb-false, lt-ltb, leb-true, leb-false}
use Rattle.std.proofs.Math.Path.{ap}
use Rattle.std.proofs.Math.Bool.{true, false, cond}
use Rattle.std.proofs.lemmas.Option.{none-some, cond_some}
use mathlib.Core.List.{List, [], ◌∷◌}
use Rattle.hnsr_circuit.specs.declared.tables.scan.Walked.{Walked}
use Rattle.hns_encoding.specs.Laws.Tests.{split, join, neither}
use Rattle.hns_encoding.specs.Loops.{fold_from}
use Rattle.hnsr_circuit.specs.Table.{any, lesser, lowest, not_yet, reached, above, better, offered, next_turn, next}

least-min : (m n : ℕ) → lesser m n ≡ min m n
least-min m n =
    split (leb m n) (λ e. rw e (omega (arith, leb-true m n e))) (λ e. rw e (omega (arith, leb-false m n e)))

-- of two ids that may be there the lesser
abbrev pub least_of : Option ℕ → Option ℕ → Option ℕ
least_of None n = n
least_of (Some m) None = Some m
least_of (Some m) (Some n) = Some (lesser m n)

least-nothing : (m : Option ℕ) → m ≡ least_of m None
least-nothing None = refl
least-nothing (Some m) = refl

least-three : (a b c : Option ℕ) → least_of (least_of a b) c ≡ least_of a (least_of b c)
least-three None b c = refl
least-three (Some k) None c = refl
least-three (Some k) (Some m) None = refl
least-three (Some k) (Some m) (Some n) = ap (λ (i : ℕ). Some i) (simp least-min (omega arith))

abbrev pub id_in : Option Walked → Option ℕ
id_in None = None
id_in (Some r) = Some r.id

-- the best after its turn
least-better : (best : Option Walked) (k i : ℕ)
    → id_in (cond (better best k) (reached k i) best) ≡ least_of (id_in best) (Some k)
least-better None k i = refl
least-better (Some r) k i =
    split (ltb k r.id)
    (λ e. rw e (ap (λ (n : ℕ). Some n) (simp least-min (omega (arith, ltb-true k r.id e)))))
    (λ e. rw e (ap (λ (n : ℕ). Some n) (simp least-min (omega (arith, ltb-false k r.id e)))))

-- the ids that the cursor has passed
abbrev up_to : Option Walked → ℕ → Bool
up_to None id = false
up_to (Some c) id = leb id c.id

not-behind : (c : Option Walked) (id place : ℕ) → up_to c id ≡ false → above c id place ≡ true
not-behind None id place e = refl
not-behind (Some c) id place e = rw (lt-ltb c.id id (omega (arith, leb-false id c.id e)))

module _ {A : Type 0} (id_of : A → ℕ) (p : A → Bool) (c : Option Walked) where
  -- records with p that the cursor has passed
  abbrev pub behind : A → Bool
  behind a = p a && up_to c (id_of a)

  ahead : (x : A) (i : ℕ) → p x ≡ true → behind x ≡ false → above c (id_of x) i ≡ true
  ahead x i h n = not-behind c (id_of x) i (sym (ap (λ v. v && up_to c (id_of x)) h) ∙ n)

  -- the least id of those that have p, if one has
  abbrev pub lowest_in : List A → Option ℕ
  lowest_in t = cond (any p t) (Some (lowest p id_of t)) None

  lowest-here : (x : A) (xs : List A) → p x ≡ true → lowest_in (x ∷ xs) ≡ least_of (Some (id_of x)) (lowest_in xs)
  lowest-here x xs h = rw h (split (any p xs) (λ e. rw e) (λ e. rw e))

  pub lowest-from : (xs : List A) (i : ℕ) (best : Option Walked) → any behind xs ≡ false
      → id_in (fold_from (next_turn id_of p c) xs i best) ≡ least_of (id_in best) (lowest_in xs)
  unfolding fold_from
  lowest-from [] i best n = least-nothing (id_in best)
  lowest-from (x ∷ xs) i best n =
      let m = neither (behind x) (any behind xs) n in
      lowest-from xs (suc i) (next_turn id_of p c best x i) m.1
      ∙ split (p x) (λ h. here h m.0) rest
    where
      here : p x ≡ true → behind x ≡ false
          → least_of (id_in (next_turn id_of p c best x i)) (lowest_in xs) ≡ least_of (id_in best) (lowest_in (x ∷ xs))
      here h n =
          let turn : offered id_of p c best x i ≡ better best (id_of x) =
          ap (λ v. v && better best (id_of x)) (join (p x) (above c (id_of x) i) h (ahead x i h n)) in
          ap (λ (o : Bool). least_of (id_in (cond o (reached (id_of x) i) best)) (lowest_in xs)) turn
          ∙ ap (λ (k : Option ℕ). least_of k (lowest_in xs)) (least-better best (id_of x) i)
          ∙ least-three (id_in best) (Some (id_of x)) (lowest_in xs)
          ∙ sym (ap (least_of (id_in best)) (lowest-here x xs h))

      rest : p x ≡ false
          → least_of (id_in (next_turn id_of p c best x i)) (lowest_in xs) ≡ least_of (id_in best) (lowest_in (x ∷ xs))
      rest h = rw h

  pub next-lowest : (t : List A) → any behind t ≡ false → id_in (next id_of p c t) ≡ lowest_in t
  unfolding next
  next-lowest t n = lowest-from t 0 not_yet n

  -- what is taken has the least id, and where none is taken none has p
  pub lowest-taken : (t : List A) → any behind t ≡ false → (r : Walked) → next id_of p c t ≡ Some r
      → (any p t ≡ true) × (r.id ≡ lowest p id_of t)
  lowest-taken t n r e =
      let k = cond_some (any p t) (lowest p id_of t) r.id (sym (next-lowest t n) ∙ ap id_in e) in (k.0, sym k.1)

  pub lowest-none : (t : List A) → any behind t ≡ false → next id_of p c t ≡ None → any p t ≡ false
  lowest-none t n e =
      split (any p t)
      (λ h. absurd (none-some (lowest p id_of t)
      (sym (ap id_in e) ∙ next-lowest t n ∙ ap (λ (b : Bool). cond b (Some (lowest p id_of t)) None) h)))
      (λ h. h)
