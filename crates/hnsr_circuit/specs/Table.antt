-- A table as it is lent (TAB): a list of records, each with its mark, over any record type.
-- A question p is a Bool test on a record, the used mark among what it tests. Every table of the machine is read and
-- changed by these alone, and their laws are proved once (Totals, Lookups, Marks, Walks; Folds joins them to the loops
-- of code):
--     any p, pick p d    whether a record has p; the record at the lowest place that has it, else d (TAB.4)
--     place_of p          that lowest place, else the number of places; place_in p: the same, or none
--     count p, total f   how many records have p; the sum of f (TAB.5)
--     put used p r       r in the place that a lookup of p finds, or else in the first that is free (TAB.6)
--     edit p g           the record that the lookup of p finds, changed by g
--     clear unmark p     the mark cleared of every record that has p, and nothing else (TAB.7)
--     next id p c        of the records with p above the cursor c the one with the least (id, place) (TAB.8)
use Rattle.std.specs.Prelude.{ℕ, suc, Bool, true, false, cond, ◌&&◌, ◌||◌, Option, None, Some, List, [], ◌∷◌, map}
use Rattle.std.specs.Prelude.{leb, ltb, eqb, set}
use Rattle.hnsr_circuit.specs.declared.tables.scan.Walked.{Walked}
use Rattle.hns_encoding.specs.Sums.{non}
use Rattle.hns_encoding.specs.Loops.{fold_from}

abbrev pub lesser : ℕ → ℕ → ℕ
lesser m n = cond (leb m n) m n

module _ {A : Type 0} where
  -- where both hold
  abbrev pub also : (A → Bool) → (A → Bool) → A → Bool
  also p q a = p a && q a

  -- ---- a lookup
  abbrev pub place_of : (A → Bool) → List A → ℕ
  place_of p [] = 0
  place_of p (x ∷ xs) = cond (p x) 0 (suc (place_of p xs))

  abbrev pub any : (A → Bool) → List A → Bool
  any p [] = false
  any p (x ∷ xs) = p x || any p xs

  abbrev pub place_in : (A → Bool) → List A → Option ℕ
  place_in p t = cond (any p t) (Some (place_of p t)) None

  abbrev pub pick : (A → Bool) → A → List A → A
  pick p d [] = d
  pick p d (x ∷ xs) = cond (p x) x (pick p d xs)

  -- ---- a change
  abbrev pub put : (used p : A → Bool) → A → List A → List A
  put used p r t = set t (cond (any p t) (place_of p t) (place_of (non used) t)) r

  abbrev pub edit : (A → Bool) → (A → A) → List A → List A
  edit p g [] = []
  edit p g (x ∷ xs) = cond (p x) (g x ∷ xs) (x ∷ edit p g xs)

  abbrev pub cleared : (unmark : A → A) → (A → Bool) → A → A
  cleared unmark p a = cond (p a) (unmark a) a

  abbrev pub clear : (unmark : A → A) → (A → Bool) → List A → List A
  clear unmark p t = map (cleared unmark p) t

  -- ---- what a list keeps, and its least key: for the laws
  abbrev pub keep : (A → Bool) → List A → List A
  keep p [] = []
  keep p (x ∷ xs) = cond (p x) (x ∷ keep p xs) (keep p xs)

  -- the least key of those that have p (0 if none has)
  abbrev pub lowest : (A → Bool) → (A → ℕ) → List A → ℕ
  lowest p k [] = 0
  lowest p k (x ∷ xs) = cond (p x) (cond (any p xs) (lesser (k x) (lowest p k xs)) (k x)) (lowest p k xs)

-- ---- walks, by ascending id; equal ids by place
-- how far a walk has come is the id and place of the last record that it took, if it took one
abbrev pub not_yet : Option Walked
not_yet = None

abbrev pub reached : (id place : ℕ) → Option Walked
reached id place = Some (record { id = id; place = place })

abbrev pub above : Option Walked → (id place : ℕ) → Bool
above None id place = true
above (Some c) id place = ltb c.id id || (eqb c.id id && ltb c.place place)

-- whether a record of this id, at a place above those seen before, is better than the best of them
abbrev pub better : Option Walked → (id : ℕ) → Bool
better None id = true
better (Some best) id = ltb id best.id

module _ {A : Type 0} (id_of : A → ℕ) where
  abbrev pub offered : (A → Bool) → Option Walked → Option Walked → A → ℕ → Bool
  offered p c best r place = p r && above c (id_of r) place && better best (id_of r)

  abbrev pub next_turn : (A → Bool) → Option Walked → Option Walked → A → ℕ → Option Walked
  next_turn p c best r place = cond (offered p c best r place) (reached (id_of r) place) best

  unfoldable pub next : (A → Bool) → Option Walked → List A → Option Walked
  next p c t = fold_from (next_turn p c) t 0 not_yet
