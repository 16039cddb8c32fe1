-- Laws of tables for an invariant of the tables alone: what holds at every place, and what is counted, after `set`,
-- `put`, `edit` and `clear`. Over any record type, and without keys.
use Rattle.std.specs.Prelude.{ℕ, zero, suc, ◌+◌, ◌≤◌, ◌<◌, ◌≡◌, refl, Bool, true}
use Rattle.std.specs.Prelude.{false, cond, List, [], ◌∷◌, map, length, get_or, set}
use Rattle.std.proofs.Common.{arith, ap, length-set}
use Rattle.std.proofs.lemmas.List.{length-map}
use Rattle.hns_encoding.specs.Laws.Tests.{split, choose, clash, cond-le}
use Rattle.hns_encoding.specs.Sums.{one, non, count}
use Rattle.hns_encoding.specs.Laws.Sums.{total-map, total-le}
use Rattle.hnsr_circuit.specs.Table.{place_of, any, pick, put, edit, cleared, clear}
use Rattle.hnsr_circuit.specs.Laws.Lookups.{pick_at}
use Rattle.hnsr_circuit.specs.Laws.Edits.{edit-set, length-edit}

module _ {A : Type 0} where
  -- ---- what holds at every place. Past its end a table has d
  pub every_set : (Q : A → Type 0) (d : A) (t : List A) (i : ℕ) (r : A) → ((k : ℕ) → Q (get_or t k d)) → Q r → (k : ℕ)
      → Q (get_or (set t i r) k d)
  every_set Q d [] i r h q k = h k
  every_set Q d (x ∷ xs) zero r h q zero = q
  every_set Q d (x ∷ xs) zero r h q (suc k) = h (suc k)
  every_set Q d (x ∷ xs) (suc i) r h q zero = h zero
  every_set Q d (x ∷ xs) (suc i) r h q (suc k) = every_set Q d xs i r (λ j. h (suc j)) q k

  pub every_map : (Q : A → Type 0) (d : A) (g : A → A) (t : List A) → ((k : ℕ) → Q (get_or t k d))
      → ((a : A) → Q a → Q (g a)) → (k : ℕ) → Q (get_or (map g t) k d)
  every_map Q d g [] h s k = h k
  every_map Q d g (x ∷ xs) h s zero = s x (h zero)
  every_map Q d g (x ∷ xs) h s (suc k) = every_map Q d g xs (λ j. h (suc j)) s k

  pub every_pick : (Q : A → Type 0) (d : A) (p : A → Bool) (t : List A) → ((k : ℕ) → Q (get_or t k d)) → Q (pick p d t)
  every_pick Q d p t h = rw (← (pick_at p d t)) (h (place_of p t))

  -- the record that is found changes, or d where none is
  pub every_edit : (Q : A → Type 0) (d : A) (p : A → Bool) (g : A → A) (t : List A) → ((k : ℕ) → Q (get_or t k d))
      → Q (g (pick p d t)) → (k : ℕ)
      → Q (get_or (edit p g t) k d)
  every_edit Q d p g t h q = rw (edit-set p g d t) (every_set Q d t (place_of p t) (g (get_or t (place_of p t) d)) h
      (rw (pick_at p d t) q))

  -- ---- counts
  pub count_set : (q : A → Bool) (t : List A) (i : ℕ) (r : A) → count q (set t i r) ≤ count q t + one q r
  count_set q [] i r = omega arith
  count_set q (x ∷ xs) zero r = omega arith
  count_set q (x ∷ xs) (suc i) r = omega (arith, count_set q xs i r)

  pub count-put : (q used p : A → Bool) (r : A) (t : List A) → count q (put used p r t) ≤ count q t + one q r
  count-put q used p r t = count_set q t (cond (any p t) (place_of p t) (place_of (non used) t)) r

  -- a change that q does not see
  pub count-edit : (q p : A → Bool) (g : A → A) (t : List A) → ((a : A) → q (g a) ≡ q a)
      → count q (edit p g t) ≡ count q t
  count-edit q p g [] h = refl
  count-edit q p g (x ∷ xs) h = split (p x) (λ e. rw (e, h x))
      (λ e. rw e (ap (λ n. one q x + n) (count-edit q p g xs h)))

  -- ---- v is t with some records made unused
  pub record Less (used : A → Bool) (d : A) (t v : List A) : Type 1 where
    pub places : length v ≡ length t
    pub counts : (q : A → Bool) → ((a : A) → used a ≡ false → q a ≡ false) → count q v ≤ count q t
    pub each : (Q : A → Type 0) → ((a : A) → used a ≡ false → Q a) → ((k : ℕ) → Q (get_or t k d)) → (k : ℕ)
        → Q (get_or v k d)

  pub less-set : (used : A → Bool) (d : A) (t : List A) (i : ℕ) (r : A) → used r ≡ false → Less used d t (set t i r)
  less-set used d t i r u = record {
    places = simp length-set;
    counts = λ q off. omega (arith, count_set q t i r, ap (λ b. cond {A = ℕ} b 1 0) (off r u));
    each = λ Q off h. every_set Q d t i r h (off r u);
  }

  pub less-edit : (used : A → Bool) (d : A) (p : A → Bool) (g : A → A) (t : List A) → ((a : A) → used (g a) ≡ false)
      → Less used d t (edit p g t)
  less-edit used d p g t off = rw (edit-set p g d t) (less-set used d t (place_of p t) (g (get_or t (place_of p t) d))
      (off (get_or t (place_of p t) d)))

  pub less-clear : (used : A → Bool) (d : A) (unmark : A → A) (p : A → Bool) (t : List A)
      → ((a : A) → used (unmark a) ≡ false)
      → Less used d t (clear unmark p t)
  less-clear used d unmark p t off = record {
    places = simp length-map;
    counts = λ q under. omega (
      arith,
      total-map (one q) (cleared unmark p) t,
      total-le (λ a. one q (cleared unmark p a)) (one q) t (fewer q under),
    );
    each = λ Q under h. every_map Q d (cleared unmark p) t h (λ a k. choose Q (p a) (unmark a) a
        (λ e. under (unmark a) (off a)) (λ e. k));
  }
    where
      fewer : (q : A → Bool) → ((a : A) → used a ≡ false → q a ≡ false) → (a : A) → one q (cleared unmark p a) ≤ one q a
      fewer q under a = split (p a) (λ e. rw (e, under (unmark a) (off a)) (omega arith)) (λ e. rw e (omega arith))

  -- ---- a table: at least as long as its most, not more used than that, and each used record formed
  pub record Fits (used : A → Bool) (d : A) (Form : A → Type 0) (most : ℕ) (t : List A) : Type 0 where
    pub places : most ≤ length t
    pub few : count used t ≤ most
    pub each : (place : ℕ) → used (get_or t place d) ≡ true → Form (get_or t place d)

  module _ {used : A → Bool} {d : A} {Form : A → Type 0} {most : ℕ} {t : List A} (F : Fits used d Form most t) where
    abbrev Formed : A → Type 0
    Formed a = used a ≡ true → Form a

    unused : (a : A) → used a ≡ false → Formed a
    unused a n u = clash u n

    pub less-fits : {v : List A} → Less used d t v → Fits used d Form most v
    less-fits L = record {
      places = omega (arith, F.places, L.places);
      few = omega (arith, F.few, L.counts used (λ a e. e));
      each = L.each Formed unused F.each;
    }

    -- one more
    pub put-fits : (p : A → Bool) (r : A) → count used t < most → (used r ≡ true → Form r)
        → Fits used d Form most (put used p r t)
    put-fits p r l f = let i = cond (any p t) (place_of p t) (place_of (non used) t) in record {
      places = omega (arith, F.places, length-set t i r);
      few = omega (arith, count-put used used p r t, cond-le (used r));
      each = every_set Formed d t i r F.each f;
    }

    -- in place
    pub edit-fits : (p : A → Bool) (g : A → A) → ((a : A) → used (g a) ≡ used a)
        → (used (g (pick p d t)) ≡ true → Form (g (pick p d t)))
        → Fits used d Form most (edit p g t)
    edit-fits p g same f = record {
      places = omega (arith, F.places, length-edit p g t);
      few = omega (arith, F.few, count-edit used p g t same);
      each = every_edit Formed d p g t F.each f;
    }

    pub pick-fits : (p : A → Bool) → used (pick p d t) ≡ true → Form (pick p d t)
    pick-fits p = every_pick Formed d p t F.each
