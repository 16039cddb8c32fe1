-- Laws of `edit`, the change of the one record that a lookup finds: it is one store at the place found, it is `put` of
-- the changed record, and where at most one record has p, clearing that one is clearing all.
use Rattle.std.specs.Prelude.{ℕ, suc, ◌+◌, ◌≤◌, ◌≡◌, refl, Bool, true, false, None, List, [], ◌∷◌, length}
use Rattle.std.specs.Prelude.{get_or, set}
use Rattle.std.proofs.Common.{arith, sym, ap, ◌∙◌, true≢false}
use Rattle.hns_encoding.specs.Laws.Tests.{split}
use Rattle.hns_encoding.specs.Sums.{total, count}
use Rattle.hnsr_circuit.specs.Table.{place_of, place_in, any, pick, put, edit, clear}
use Rattle.hnsr_circuit.specs.Laws.Lookups.{place_found, place_misses, pick_at, count_none}
use Rattle.hns_encoding.specs.Laws.Sums.{total-set}
use Rattle.hnsr_circuit.specs.Laws.Marks.{put-old-same, put-old-other}

module _ {A : Type 0} (p : A → Bool) (g : A → A) where
  -- one store, at the place found; past the end, none
  pub edit-set : (d : A) (t : List A) → edit p g t ≡ set t (place_of p t) (g (get_or t (place_of p t) d))
  edit-set d [] = refl
  edit-set d (x ∷ xs) = split (p x) (λ e. rw e) (λ e. rw e (ap {B = List A} (λ l. x ∷ l) (edit-set d xs)))

  pub edit-none : (t : List A) → any p t ≡ false → edit p g t ≡ t
  edit-none [] h = refl
  edit-none (x ∷ xs) h =
      split (p x)
      (λ e. absurd (true≢false (rw e at h)))
      (λ e. rw e (ap {B = List A} (λ l. x ∷ l) (edit-none xs (rw e at h))))

  -- where a lookup finds nothing, nothing is changed
  pub edit_missed : (t : List A) → place_in p t ≡ None → t ≡ edit p g t
  edit_missed t h = sym (edit-none t (place_misses p t h))

  -- what is found, changed and put back: so the laws of `put` where its lookup finds are those of `edit`
  pub edit-put : (used : A → Bool) (d : A) (t : List A) → any p t ≡ true → edit p g t ≡ put used p (g (pick p d t)) t
  edit-put used d t h = edit-set d t ∙ rw (h, pick_at p d t)

  pub length-edit : (t : List A) → length (edit p g t) ≡ length t
  length-edit [] = refl
  length-edit (x ∷ xs) = split (p x) (λ e. rw e) (λ e. rw e (ap suc (length-edit xs)))

  -- what was found goes out of the sum, what it became comes in
  pub edit-total : (f : A → ℕ) (d : A) (t : List A) → any p t ≡ true
      → total f (edit p g t) + f (pick p d t) ≡ total f t + f (g (pick p d t))
  edit-total f d t h =
      rw (edit-set d t, ← (pick_at p d t))
      (total-set f t (place_of p t) (g (get_or t (place_of p t) d)) d (place_found p t h))

  -- a lookup of p finds the changed record, if it still has p; a lookup of q that neither record has finds as before
  pub edit-same : (d : A) (t : List A) → any p t ≡ true → p (g (pick p d t)) ≡ true
      → (any p (edit p g t) ≡ true) × (pick p d (edit p g t) ≡ g (pick p d t))
  edit-same d t h k = rw (edit-put p d t h) (put-old-same p g p (g (pick p d t)) t h d k)

  pub edit-other : (q : A → Bool) (d : A) (t : List A) → any p t ≡ true → q (g (pick p d t)) ≡ false
      → q (pick p d t) ≡ false
      → (any q (edit p g t) ≡ any q t) × (pick q d (edit p g t) ≡ pick q d t)
  edit-other q d t h k l = rw (edit-put p d t h) (put-old-other p g p (g (pick p d t)) t h q d k l)

-- at most one has p: clearing it is clearing all that have it
pub edit-clear : {A : Type 0} (p : A → Bool) (unmark : A → A) (t : List A) → count p t ≤ 1
    → edit p unmark t ≡ clear unmark p t
edit-clear p unmark [] h = refl
edit-clear {A} p unmark (x ∷ xs) h = split (p x)
    (λ e. let k = rw e at h in
    rw e (ap {B = List A} (λ l. unmark x ∷ l) (sym (none p unmark xs (count_none p xs (omega arith))))))
    (λ e. let k = rw e at h in rw e (ap {B = List A} (λ l. x ∷ l) (edit-clear p unmark xs (omega arith))))
  where
    none : {A : Type 0} (p : A → Bool) (unmark : A → A) (t : List A) → any p t ≡ false → clear unmark p t ≡ t
    none p unmark [] h = refl
    none {A} p unmark (x ∷ xs) h = split (p x) (λ e. absurd (true≢false (rw e at h)))
        (λ e. rw e (ap {B = List A} (λ l. x ∷ l) (none p unmark xs (rw e at h))))
