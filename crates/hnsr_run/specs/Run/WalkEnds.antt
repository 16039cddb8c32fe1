-- What a walk leaves: no record that has the property, whatever the ids are; and where no record has it, the walk
-- changes nothing and says nothing. Over any table and any end that clears the record at its place.
use Prim.Native.Nat.{ℕ, zero, suc, ◌≤◌, ◌<◌}
use Rattle.std.proofs.Common.{arith, sym, ap, ◌∙◌, subst, length-set, get_or-set_same}
use Rattle.std.proofs.Common.{get_or-set_other, leb-true, eqb-true, lt-ltb}
use Rattle.std.specs.Prelude.{◌≡◌, Bool, true, cond, leb, ltb, eqb, length, get_or, set, Option, None, Some}
use Rattle.std.proofs.Math.Path.{refl}
use Rattle.std.proofs.Math.Bool.{false}
use mathlib.Core.List.{List, [], ◌∷◌}
use Rattle.std.proofs.lemmas.Bool.{eqb-false}
use Rattle.hns_encoding.specs.Laws.Tests.{split, both, neither, clash}
use Rattle.hns_encoding.specs.Sums.{one, count}
use Rattle.hns_encoding.specs.Laws.Sums.{total-set, count-length}
use Rattle.hnsr_circuit.specs.declared.tables.scan.Walked.{Walked}
use Rattle.hnsr_circuit.specs.Table.{any, place_of, clear, not_yet, above, next}
use Rattle.hnsr_circuit.specs.World.{World}
use Rattle.hnsr_circuit.specs.Queue.{Sent, silently}
use Rattle.hnsr_circuit.specs.Revocation.{walk_from, walk}
use Rattle.hnsr_circuit.specs.Laws.Lookups.{place_found, pick_at, pick-has, any_at, count_none}
use Rattle.hnsr_circuit.specs.Laws.Walks.{where-cases, not_after, next-stands, next-least, next-none}

module _ {A : Type 0} where
  -- ---- tables
  -- what every place has not, no record has
  no_place_lem : (p : A → Bool) (d : A) (t : List A) → ((k : ℕ) → k < length t → p (get_or t k d) ≡ false)
      → any p t ≡ false
  no_place_lem p d t h = split (any p t)
      (λ e. clash (ap p (pick_at p d t) ∙ pick-has p d t e) (h (place_of p t) (place_found p t e)))
      (λ e. e)

  -- nothing to clear
  pub nothing-cleared : (unmark : A → A) (p : A → Bool) (t : List A) → any p t ≡ false → clear unmark p t ≡ t
  nothing-cleared unmark p [] h = refl
  nothing-cleared unmark p (x ∷ xs) h = let k = neither (p x) (any p xs) h in
      rw k.0 (ap {B = List A} (λ (l : List A). x ∷ l) (nothing-cleared unmark p xs k.1))

-- what is not before the record taken, and is not it, is above it
behind_it : (r : Walked) (id place : ℕ) → not_after (Some r) id place ≡ true → (r.place ≡ place → ⊥)
    → above (Some r) id place ≡ true
behind_it r id place n other =
    split (ltb r.id id)
    (λ e. rw e)
    (λ e. let s = both (eqb r.id id) (leb r.place place) (rw e at n) in
    let l = leb-true r.place place s.1 in
    rw (e, s.0, lt-ltb r.place place (less l)))
  where
    less : r.place ≤ place → r.place < place
    less l = split (eqb r.place place) (λ e. absurd (other (eqb-true r.place place e)))
        (λ e. let f = eqb-false r.place place e in omega arith)

-- ---- walks
module _ {A : Type 0} (id_of : A → ℕ) (table : World → List A) (p : A → Bool) (d : A) (unmark : A → A)
    (end : World → (place : ℕ) → Sent)
    (ends : (w : World) (place : ℕ) → table (end w place).world
    ≡ set (table w) place (unmark (get_or (table w) place d)))
    (off : (a : A) → p (unmark a) ≡ false) where
  -- all that has p is above the cursor
  abbrev Ahead : Option Walked → List A → Type 0
  Ahead c t = (k : ℕ) → k < length t → p (get_or t k d) ≡ true → above c (id_of (get_or t k d)) k ≡ true

  none_ahead : (c : Option Walked) (t : List A) → Ahead c t → next id_of p c t ≡ None → any p t ≡ false
  none_ahead c t h e = no_place_lem p d t (λ k l. split (p (get_or t k d))
      (λ f. clash (h k l f) (next-none id_of p c t d k e l f)) (λ f. f))

  walk-from-ends : (turns : ℕ) (c : Option Walked) (w : World) → count p (table w) ≤ turns → Ahead c (table w)
      → any p (table (walk_from id_of table p end turns c w).world) ≡ false
  unfolding walk_from
  walk-from-ends zero c w l h = count_none p (table w) (omega arith)
  walk-from-ends (suc turns) c w l h =
      where-cases (λ (s : Sent). any p (table s.world) ≡ false) end (walk_from id_of table p end turns)
      (next id_of p c t) w
      (λ n e. walk-from-ends turns (Some n) (end w n.place).world (fewer n e) (ahead n e))
      (λ e. none_ahead c t h e)
    where
      t : List A
      t = table w

      fewer : (n : Walked) → next id_of p c t ≡ Some n → count p (table (end w n.place).world) ≤ turns
      fewer n e = let s = next-stands id_of p c t d n e in
          subst (λ (u : List A). count p u ≤ turns) (sym (ends w n.place))
          (omega (
            arith,
            total-set (one p) t n.place (unmark (get_or t n.place d)) d s.within,
            ap (λ b. cond {A = ℕ} b 1 0) s.has,
            ap (λ b. cond {A = ℕ} b 1 0) (off (get_or t n.place d)),
          ))

      ahead : (n : Walked) → next id_of p c t ≡ Some n → Ahead (Some n) (table (end w n.place).world)
      ahead n e = subst (Ahead (Some n)) (sym (ends w n.place)) after
        where
          after : Ahead (Some n) (set t n.place (unmark (get_or t n.place d)))
          after k l f = split (eqb n.place k) (λ x. clash f (here x)) (λ x. there x)
            where
              r : A
              r = unmark (get_or t n.place d)

              within : k < length t
              within = omega (arith, length-set t n.place r)

              here : eqb n.place k ≡ true → p (get_or (set t n.place r) k d) ≡ false
              here x = subst (λ i. p (get_or (set t n.place r) i d) ≡ false) (eqb-true n.place k x)
                  (ap p (get_or-set_same t n.place r d (next-stands id_of p c t d n e).within)
                  ∙ off (get_or t n.place d))

              there : eqb n.place k ≡ false → above (Some n) (id_of (get_or (set t n.place r) k d)) k ≡ true
              there x =
                  let same = get_or-set_other t n.place k r d (λ e. eqb-false n.place k x (sym e)) in
                  let has = ap p (sym same) ∙ f in
                  ap (λ (a : A). above (Some n) (id_of a) k) same
                  ∙ behind_it n (id_of (get_or t k d)) k
                  (ap (λ (m : Option Walked). not_after m (id_of (get_or t k d)) k) (sym e)
                  ∙ next-least id_of p c t d k within has (h k within has))
                  (eqb-false n.place k x)

  -- whatever the table holds
  pub walk_ends : (w : World) → any p (table (walk id_of table p end w).world) ≡ false
  unfolding walk
  walk_ends w = walk-from-ends (length (table w)) not_yet w (count-length p (table w)) (λ k l f. refl)

  -- no record has it
  pub walk-idle : (w : World) → any p (table w) ≡ false → walk id_of table p end w ≡ silently w
  unfolding walk walk_from
  walk-idle w h = from (length (table w))
    where
      from : (turns : ℕ) → walk_from id_of table p end turns not_yet w ≡ silently w
      from zero = refl
      from (suc turns) =
          where-cases (λ (s : Sent). s ≡ silently w) end (walk_from id_of table p end turns)
          (next id_of p not_yet (table w)) w
          (λ n e. let s = next-stands id_of p not_yet (table w) d n e in
          clash (any_at p d (table w) n.place s.within s.has) h)
          (λ e. refl)

-- ---- what no end of a walk changes, the walk does not change
module _ {A X : Type 0} (id_of : A → ℕ) (table : World → List A) (p : A → Bool) (end : World → (place : ℕ) → Sent)
    (part : World → X) (same : (w : World) (place : ℕ) → part (end w place).world ≡ part w) where
  from-keeps : (turns : ℕ) (c : Option Walked) (w : World)
      → part (walk_from id_of table p end turns c w).world ≡ part w
  unfolding walk_from
  from-keeps zero c w = refl
  from-keeps (suc turns) c w =
      where-cases (λ (s : Sent). part s.world ≡ part w) end (walk_from id_of table p end turns)
      (next id_of p c (table w)) w
      (λ n e. from-keeps turns (Some n) (end w n.place).world ∙ same w n.place) (λ e. refl)

  pub walk-keeps : (w : World) → part (walk id_of table p end w).world ≡ part w
  unfolding walk
  walk-keeps w = from-keeps (length (table w)) not_yet w
