-- Laws of next due, without its fold: `due-none`, `due-is-one` and `due-is-least` leave no other that it could tell
-- (`due-only`), and `due-later` is what a call at a given time goes by. What they need of a table is proved once, over
-- any record type.
use Rattle.std.specs.Prelude.{ℕ, suc, min, ◌≤◌, ◌≡◌, ◌&&◌, ◌||◌, ◌↔◌, ◌⊎◌, leb, ltb, Option, None, Some}
use Rattle.std.proofs.Common.{arith, ◌∙◌, true≢false, leb-true, leb-false, ltb-true}
use Rattle.std.proofs.Common.{ltb-false, lt-ltb, le-ltb, le-leb, eqb-true, eq-eqb}
use Rattle.std.proofs.Math.Path.{refl, sym, ap}
use Rattle.std.proofs.Math.Bool.{Bool, true, false, not, and-true, or-true}
use Rattle.std.proofs.lemmas.Bool.{false≢true}
use mathlib.Core.List.{List, [], ◌∷◌}
use Rattle.std.proofs.Math.Logic.{inl, inr}
use Rattle.std.proofs.Math.Dec.{eqb}
use Rattle.hns_encoding.specs.Loops.{fold_from}
use Rattle.hns_encoding.specs.Laws.Tests.{split, both, join, neither, clash}
use Rattle.hnsr_circuit.specs.Table.{any}
use Rattle.hnsr_circuit.specs.Pending.{is_pending}
use Rattle.hnsr_circuit.specs.Circuits.{is_circuit}
use Rattle.hnsr_circuit.specs.Ledger.{is_usage}
use Rattle.hnsr_circuit.specs.World.{World}
use Rattle.hnsr_circuit.specs.NextDue.{earlier, due_turn, due_in, deadline_of, expiry_of, usage_expiry_of}
use Rattle.hnsr_circuit.specs.NextDue.{pending_due, circuit_due, due_of}
use Rattle.hnsr_circuit.specs.Ends.{later, ends_at, ends_by, NoneUsed, OneEndsAt, NoneEndsBy}
use Rattle.hnsr_circuit.specs.Laws.Lookups.{any_imp}

-- ---- never, and at a time
abbrev time_in : Option ℕ → ℕ
time_in None = 0
time_in (Some n) = n

at_same : {m n : ℕ} → Some m ≡ Some n → m ≡ n
at_same e = ap time_in e

unlike : {n : ℕ} → Some n ≡ None → true ≡ false
unlike e = cc

no_time : {P : Type 0} {n : ℕ} → Some n ≡ None → P
no_time e = absurd (true≢false (unlike e))

-- ---- one turn
later_than : (now n : ℕ) → ltb now n ≡ not (leb n now)
later_than now n =
    split (leb n now) (λ e. rw e (le-ltb now n (leb-true n now e)))
    (λ e. rw e (lt-ltb now n (let k = leb-false n now e in omega arith)))

later-earlier : (d : Option ℕ) (n now : ℕ) → later now (earlier d n) ≡ (later now d && not (leb n now))
later-earlier None n now = later_than now n
later-earlier (Some m) n now = split (leb n now)
    (λ e. rw e (let k = leb-true n now e in le-ltb now (min m n) (omega arith) ∙ sym (none (ltb now m))))
    (λ e. rw e (split (ltb now m)
    (λ f. let k = leb-false n now e in let l = ltb-true now m f in rw f (lt-ltb now (min m n) (omega arith)))
    (λ f. let l = ltb-false now m f in rw f (le-ltb now (min m n) (omega arith)))))
  where
    none : (b : Bool) → (b && false) ≡ false
    none true = refl
    none false = refl

-- ---- a table, over any record type
module _ {A : Type 0} (used : A → Bool) (time : A → ℕ) where
  pub ends-none : (n : ℕ) (t : List A) → any (ends_by used time n) t ≡ false → any (ends_at used time n) t ≡ false
  ends-none n t h =
      split (any (ends_at used time n) t)
      (λ e. clash (any_imp (ends_at used time n) (ends_by used time n) t there e) h)
      (λ e. e)
    where
      there : (a : A) → ends_at used time n a ≡ true → ends_by used time n a ≡ true
      there a e = let k = both (used a) (eqb (time a) n) e in
          join (used a) (leb (time a) n) k.0 (le-leb (time a) n (let s = eqb-true (time a) n k.1 in omega arith))

  later-from : (t : List A) (i : ℕ) (d : Option ℕ) (now : ℕ)
      → later now (fold_from (due_turn used time) t i d) ≡ (later now d && not (any (ends_by used time now) t))
  unfolding fold_from due_turn
  later-from [] i d now = sym (and-true (later now d))
  later-from (x ∷ xs) i d now = split (used x)
      (λ e. rw e
      (later-from xs (suc i) (earlier d (time x)) now
      ∙ ap (λ b. b && not (any (ends_by used time now) xs)) (later-earlier d (time x) now)
      ∙ shift (later now d) (leb (time x) now) (any (ends_by used time now) xs)))
      (λ e. rw e (later-from xs (suc i) d now))
    where
      shift : (a b c : Bool) → ((a && not b) && not c) ≡ (a && not (b || c))
      shift true true c = refl
      shift true false c = refl
      shift false b c = refl

  pub later_in : (t : List A) (d : Option ℕ) (now : ℕ)
      → later now (due_in used time t d) ≡ (later now d && not (any (ends_by used time now) t))
  later_in t d now = later-from t 0 d now

  never-from : (t : List A) (i : ℕ) (d : Option ℕ) → fold_from (due_turn used time) t i d ≡ None
      → (d ≡ None) × (any used t ≡ false)
  unfolding fold_from due_turn
  never-from [] i d h = (h, refl)
  never-from (x ∷ xs) i d h = split (used x)
      (λ e. no_time (sym (at_some d) ∙ (never-from xs (suc i) (earlier d (time x)) (rw e at h)).0))
      (λ e. let k = never-from xs (suc i) d (rw e at h) in (k.0, rw e k.1))
    where
      at_some : (d : Option ℕ) → earlier d (time x) ≡ Some (time_in (earlier d (time x)))
      at_some None = refl
      at_some (Some m) = refl

  none_from : (t : List A) (i : ℕ) (d : Option ℕ) → any used t ≡ false → fold_from (due_turn used time) t i d ≡ d
  unfolding fold_from due_turn
  none_from [] i d h = refl
  none_from (x ∷ xs) i d h = let k = neither (used x) (any used xs) h in rw k.0 (none_from xs (suc i) d k.1)

  pub never_in : (t : List A) (d : Option ℕ) → due_in used time t d ≡ None → (d ≡ None) × (any used t ≡ false)
  never_in t d h = never-from t 0 d h

  pub none_in : (t : List A) (d : Option ℕ) → any used t ≡ false → due_in used time t d ≡ d
  none_in t d h = none_from t 0 d h

  one_from : (t : List A) (i : ℕ) (d : Option ℕ) (n : ℕ) → fold_from (due_turn used time) t i d ≡ Some n
      → (d ≡ Some n) ⊎ (any (ends_at used time n) t ≡ true)
  unfolding fold_from due_turn
  one_from [] i d n h = inl h
  one_from (x ∷ xs) i d n h = split (used x)
      (λ e. rw e (turn d (one_from xs (suc i) (earlier d (time x)) n (rw e at h))))
      (λ e. rw e (one_from xs (suc i) d n (rw e at h)))
    where
      turn : (d : Option ℕ) → (earlier d (time x) ≡ Some n) ⊎ (any (ends_at used time n) xs ≡ true)
          → (d ≡ Some n) ⊎ ((eqb (time x) n || any (ends_at used time n) xs) ≡ true)
      turn d (inr h) = inr (rw h (or-true (eqb (time x) n)))
      turn None (inl h) = inr (rw (eq-eqb (time x) n (at_same h)))
      turn (Some m) (inl h) = split (eqb (time x) n) (λ e. inr (rw e))
          (λ e. inl (ap Some (let k = at_same h in let f = eqb_not e in omega arith)))
        where
          eqb_not : eqb (time x) n ≡ false → time x ≡ n → ⊥
          eqb_not e s = clash (eq-eqb (time x) n s) e

  pub one_in : (t : List A) (d : Option ℕ) (n : ℕ) → due_in used time t d ≡ Some n
      → (d ≡ Some n) ⊎ (any (ends_at used time n) t ≡ true)
  one_in t d n h = one_from t 0 d n h

-- ---- the three tables
module _ (w : World) where
  -- none exactly where no record is used
  pub due-none : (due_of w ≡ None) ↔ NoneUsed w
  unfolding due_of
  due-none = (there, back)
    where
      there : due_of w ≡ None → NoneUsed w
      there h =
          let l = never_in is_usage usage_expiry_of w.ledger (circuit_due w.circuits (pending_due w.pending None))
          h in
          let c = never_in is_circuit expiry_of w.circuits (pending_due w.pending None) l.0 in
          let p = never_in is_pending deadline_of w.pending None c.0 in
          (p.1, c.1, l.1)

      back : NoneUsed w → due_of w ≡ None
      back h = none_in is_usage usage_expiry_of w.ledger _ h.2
          ∙ none_in is_circuit expiry_of w.circuits _ h.1
          ∙ none_in is_pending deadline_of w.pending None h.0

  -- else the end of a used record
  pub due-is-one : (t : ℕ) → due_of w ≡ Some t → OneEndsAt w t
  unfolding due_of
  due-is-one t h = third (one_in is_usage usage_expiry_of w.ledger _ t h)
    where
      p : Bool
      p = any (ends_at is_pending deadline_of t) w.pending

      c : Bool
      c = any (ends_at is_circuit expiry_of t) w.circuits

      l : Bool
      l = any (ends_at is_usage usage_expiry_of t) w.ledger

      first : (None ≡ Some t) ⊎ (p ≡ true) → (p || c || l) ≡ true
      first (inl e) = no_time (sym e)
      first (inr e) = rw e

      second : (pending_due w.pending None ≡ Some t) ⊎ (c ≡ true) → (p || c || l) ≡ true
      second (inl e) = first (one_in is_pending deadline_of w.pending None t e)
      second (inr e) = rw (e, or-true)

      third : (circuit_due w.circuits (pending_due w.pending None) ≡ Some t) ⊎ (l ≡ true) → (p || c || l) ≡ true
      third (inl e) = second (one_in is_circuit expiry_of w.circuits _ t e)
      third (inr e) = rw (e, or-true)

  -- later than now exactly where no record ends by now
  pub due-later : (now : ℕ) → (later now (due_of w) ≡ true) ↔ NoneEndsBy w now
  unfolding due_of
  due-later now = (λ h. from p c l (sym same ∙ h), λ h. same ∙ rw (h.0, h.1, h.2))
    where
      p : Bool
      p = any (ends_by is_pending deadline_of now) w.pending

      c : Bool
      c = any (ends_by is_circuit expiry_of now) w.circuits

      l : Bool
      l = any (ends_by is_usage usage_expiry_of now) w.ledger

      same : later now (due_of w) ≡ (((true && not p) && not c) && not l)
      same = later_in is_usage usage_expiry_of w.ledger _ now
          ∙ ap (λ b. b && not l)
          (later_in is_circuit expiry_of w.circuits _ now
          ∙ ap (λ b. b && not c) (later_in is_pending deadline_of w.pending None now))

      from : (p c l : Bool) → (((true && not p) && not c) && not l) ≡ true
          → (p ≡ false) × (c ≡ false) × (l ≡ false)
      from false false false h = (refl, refl, refl)
      from false false true h = absurd (false≢true h)
      from false true l h = absurd (false≢true h)
      from true c l h = absurd (false≢true h)

  -- and no used record ends before it
  pub due-is-least : (t : ℕ) → due_of w ≡ Some t → (n : ℕ) → OneEndsAt w n → t ≤ n
  due-is-least t h n e = split (ltb n t)
      (λ f. clash e (none ((due-later n).0 (ap (later n) h ∙ f))))
      (λ f. ltb-false n t f)
    where
      none : NoneEndsBy w n
          → (any (ends_at is_pending deadline_of n) w.pending || any (ends_at is_circuit expiry_of n) w.circuits
          || any (ends_at is_usage usage_expiry_of n) w.ledger)
          ≡ false
      none z =
          rw (
            ends-none is_pending deadline_of n w.pending z.0,
            ends-none is_circuit expiry_of n w.circuits z.1,
            ends-none is_usage usage_expiry_of n w.ledger z.2,
          )

  -- so nothing else has these three
  pub due-only : (d : Option ℕ) → ((d ≡ None) ↔ NoneUsed w) → ((t : ℕ) → d ≡ Some t → OneEndsAt w t)
      → ((t : ℕ) → d ≡ Some t → (n : ℕ) → OneEndsAt w n → t ≤ n)
      → d ≡ due_of w
  due-only None none one least = sym (due-none.1 (none.0 refl))
  due-only (Some t) none one least = against (due_of w) refl
    where
      against : (e : Option ℕ) → due_of w ≡ e → Some t ≡ due_of w
      against None h = no_time (none.1 (due-none.0 h))
      against (Some s) h =
          let lo = least t refl s (due-is-one s h) in
          let hi = due-is-least s h t (one t refl) in
          ap Some (omega arith) ∙ sym h
