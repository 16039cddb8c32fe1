-- Laws of `next`, a turn of a walk: what it takes stands in the table, has p and is above the cursor; nothing with p
-- above the cursor comes before it, by id and then by place; and where ids are distinct, a lookup of its id finds its
-- place.
use Prim.Native.Nat.{ℕ, zero, suc, ◌+◌, ◌≤◌, ◌<◌}
use Rattle.std.proofs.Common.{not-suc-le-zero, le_of_suc-le-suc, sym, ◌∙◌, true≢false}
use native.Mathlib.Omega.{arith}
use Rattle.std.specs.Prelude.{◌≡◌, Bool, false, ◌&&◌, ◌||◌, eqb, length, Option, None, Some}
use Rattle.std.specs.Option.{IfSome}
use Rattle.std.proofs.Math.Path.{refl, ap}
use Rattle.std.proofs.Math.Bool.{true, or-true}
use Rattle.std.proofs.lemmas.Bool.{false≢true}
use mathlib.Core.List.{List, [], ◌∷◌}
use Rattle.std.proofs.Math.Dec.{leb, ltb}
use Rattle.std.proofs.Math.ListN.{get_or}
use borrow.Author.Tests.{ltb-true, ltb-false, lt-ltb, le-leb, eq-eqb, eqb-true}
use Rattle.hnsr_circuit.specs.declared.tables.scan.Walked.{Walked}
use Rattle.hns_encoding.specs.Laws.Tests.{split, choose, both, join}
use Rattle.hns_encoding.specs.Loops.{fold_from}
use Rattle.hns_encoding.specs.Sums.{count}
use Rattle.hnsr_circuit.specs.Laws.Lookups.{place-once}
use Rattle.hnsr_circuit.specs.World.{World}
use Rattle.hnsr_circuit.specs.Queue.{Sent, silently, and_then}
use Rattle.hnsr_circuit.specs.Revocation.{where_reached}
use Rattle.hnsr_circuit.specs.Table.{place_of, not_yet, reached, above, better, offered, next_turn, next}

-- a turn of a walk: one record more, or the end
pub where-cases : (P : Sent → Type 0) (end : World → ℕ → Sent) (rest : Option Walked → World → Sent) (n : Option Walked)
    (w : World) → ((r : Walked) → n ≡ Some r → P (and_then (end w r.place) (rest (Some r))))
    → (n ≡ None → P (silently w)) → P (where_reached end rest n w)
unfolding where_reached
where-cases P end rest None w t f = f refl
where-cases P end rest (Some r) w t f = t r refl

-- a record is taken, and does not come after the id and place given
abbrev pub not_after : Option Walked → (id place : ℕ) → Bool
not_after None id place = false
not_after (Some r) id place = ltb r.id id || (eqb r.id id && leb r.place place)

module _ {A : Type 0} (id_of : A → ℕ) (p : A → Bool) (c : Option Walked) where
  -- ---- what is taken stands in the table
  pub record Stands (t : List A) (d : A) (r : Walked) : Type 0 where
    pub within : r.place < length t
    pub has : p (get_or t r.place d) ≡ true
    pub id : id_of (get_or t r.place d) ≡ r.id
    pub past : above c r.id r.place ≡ true

  stands_from : (t : List A) (d : A) (xs : List A) (i : ℕ) (best : Option Walked)
      → ((k : ℕ) → get_or t (i + k) d ≡ get_or xs k d)
      → i + length xs ≡ length t
      → IfSome best (Stands t d) → IfSome (fold_from (next_turn id_of p c) xs i best) (Stands t d)
  unfolding fold_from
  stands_from t d [] i best h l s = s
  stands_from t d (x ∷ xs) i best h l s =
      stands_from t d xs (suc i) (next_turn id_of p c best x i)
      (λ k. ap (λ n. get_or t n d) (later k) ∙ h (suc k)) (omega arith)
      (choose (λ (b : Option Walked). IfSome b (Stands t d)) (offered id_of p c best x i) (reached (id_of x) i) best
      here (λ o. s))
    where
      later : (k : ℕ) → suc i + k ≡ i + suc k
      later k = omega arith

      first : get_or t i d ≡ x
      first = ap (λ n. get_or t n d) (omega arith) ∙ h 0

      here : offered id_of p c best x i ≡ true → Stands t d (record { id = id_of x; place = i })
      here o =
          let k = both (p x && above c (id_of x) i) (better best (id_of x)) o in
          let m = both (p x) (above c (id_of x) i) k.0 in
          record { within = omega arith; has = rw first m.0; id = ap id_of first; past = m.1 }

  pub next-stands : (t : List A) (d : A) (r : Walked) → next id_of p c t ≡ Some r → Stands t d r
  unfolding next
  next-stands t d r e =
      rw e at (stands_from t d t 0 not_yet (λ k. ap (λ n. get_or t n d) (omega arith)) (omega arith) tt)

  -- ---- nothing comes before it
  keeps : (xs : List A) (i : ℕ) (best : Option Walked) (id place : ℕ) → not_after best id place ≡ true
      → not_after (fold_from (next_turn id_of p c) xs i best) id place ≡ true
  unfolding fold_from
  keeps [] i best id place h = h
  keeps (x ∷ xs) i best id place h =
      keeps xs (suc i) (next_turn id_of p c best x i) id place
      (choose (λ (b : Option Walked). not_after b id place ≡ true) (offered id_of p c best x i) (reached (id_of x) i)
      best lower (λ o. h))
    where
      under : (best : Option Walked) (a b : ℕ) (q : Bool) → better best a ≡ true → not_after best b place ≡ true
          → (ltb a b || q) ≡ true
      under None a b q o n = absurd (false≢true n)
      under (Some r) a b q o n =
          let l : a < r.id = ltb-true a r.id o in
          let m : a < b = split (ltb r.id b) (λ u. omega (arith, ltb-true r.id b u))
          (λ u. omega (arith, eqb-true r.id b (both (eqb r.id b) (leb r.place place) (rw u at n)).0)) in
          ap (λ v. v || q) (lt-ltb a b m)

      lower : offered id_of p c best x i ≡ true → not_after (reached (id_of x) i) id place ≡ true
      lower o =
          under best (id_of x) id (eqb (id_of x) id && leb i place)
          (both (p x && above c (id_of x) i) (better best (id_of x)) o).1 h

  abbrev Below : Option Walked → ℕ → Type 0
  Below best i = IfSome best (λ r. r.place < i)

  further : (best : Option Walked) (i : ℕ) → Below best i → Below best (suc i)
  further None i b = tt
  further (Some r) i b = omega (arith, b)

  least-from : (d : A) (xs : List A) (i : ℕ) (best : Option Walked) → Below best i → (k : ℕ) → k < length xs
      → p (get_or xs k d) ≡ true → above c (id_of (get_or xs k d)) (i + k) ≡ true
      → not_after (fold_from (next_turn id_of p c) xs i best) (id_of (get_or xs k d)) (i + k) ≡ true
  unfolding fold_from
  least-from d [] i best b k l h a = absurd (not-suc-le-zero l)
  least-from d (x ∷ xs) i best b zero l h a =
      keeps xs (suc i) (next_turn id_of p c best x i) (id_of x) (i + 0)
      (choose (λ (r : Option Walked). not_after r (id_of x) (i + 0) ≡ true) (offered id_of p c best x i)
      (reached (id_of x) i) best (λ o. itself) before)
    where
      itself : not_after (reached (id_of x) i) (id_of x) (i + 0) ≡ true
      itself = rw (eq-eqb (id_of x) (id_of x) refl, le-leb i (i + 0) (omega arith), or-true)

      at_i : above c (id_of x) i ≡ true
      at_i = ap (above c (id_of x)) (omega arith) ∙ a

      from : (best : Option Walked) (n : ℕ) → better best n ≡ false → Below best i → not_after best n (i + 0) ≡ true
      from None n o b = absurd (true≢false o)
      from (Some r) n o b =
          split (ltb r.id n) (λ v. rw v)
          (λ v. rw (
            v,
            eq-eqb r.id n (omega (arith, ltb-false r.id n v, ltb-false n r.id o)),
            le-leb r.place (i + 0) (omega (arith, b)),
          ))

      before : offered id_of p c best x i ≡ false → not_after best (id_of x) (i + 0) ≡ true
      before o =
          from best (id_of x)
          (sym (ap (λ v. v && better best (id_of x)) (join (p x) (above c (id_of x) i) h at_i)) ∙ o) b
  least-from d (x ∷ xs) i best b (suc k) l h a =
      ap (not_after (fold_from (next_turn id_of p c) xs (suc i) (next_turn id_of p c best x i)) (id_of (get_or xs k d)))
      later
      ∙ least-from d xs (suc i) (next_turn id_of p c best x i)
      (choose (λ (r : Option Walked). Below r (suc i)) (offered id_of p c best x i) (reached (id_of x) i) best
      (λ o. omega arith) (λ o. further best i b)) k (le_of_suc-le-suc l) h
      (ap (above c (id_of (get_or xs k d))) (sym later) ∙ a)
    where
      later : i + suc k ≡ suc i + k
      later = omega arith

  pub next-least : (t : List A) (d : A) (k : ℕ) → k < length t → p (get_or t k d) ≡ true
      → above c (id_of (get_or t k d)) k ≡ true
      → not_after (next id_of p c t) (id_of (get_or t k d)) k ≡ true
  unfolding next
  next-least t d k l h a =
      ap (not_after (fold_from (next_turn id_of p c) t 0 not_yet) (id_of (get_or t k d))) plain
      ∙ least-from d t 0 not_yet tt k l h (ap (above c (id_of (get_or t k d))) (sym plain) ∙ a)
    where
      plain : k ≡ 0 + k
      plain = omega arith

  -- nothing taken: nothing that has p is above the cursor
  pub next-none : (t : List A) (d : A) (k : ℕ) → next id_of p c t ≡ None → k < length t → p (get_or t k d) ≡ true
      → above c (id_of (get_or t k d)) k ≡ false
  next-none t d k e l h =
      split (above c (id_of (get_or t k d)) k) (λ a. absurd (false≢true (rw e at (next-least t d k l h a)))) (λ a. a)

  -- no two records share an id: the place taken is the one that a lookup of the id finds
  pub next-found : (at : ℕ → A → Bool) → ((a : A) → p a ≡ true → at (id_of a) a ≡ true) → (t : List A) (d : A)
      → ((i : ℕ) → count (at i) t ≤ 1)
      → (r : Walked) → next id_of p c t ≡ Some r → place_of (at r.id) t ≡ r.place
  next-found at named t d once r e =
      let s = next-stands t d r e in
      let a = get_or t r.place d in
      place-once (at r.id) d t r.place (once r.id) s.within (ap (λ i. at i a) (sym s.id) ∙ named a s.has)
