-- A table as a bag: for every f, the total of f over the used places is the total over a list. Records are views of
-- what the list holds, each has a number, and the numbers are distinct and below the next. Generic over the record T
-- and what it views, B.
use Rattle.std.specs.Prelude.{ℕ, ◌+◌, ◌≤◌, ◌<◌, ◌≡◌, refl, Bool, true, false, ◌&&◌, List, [], ◌∷◌, ◌++◌, eqb, length}
use Rattle.std.proofs.Common.{arith, sym, ap, ◌∙◌, eqb-true, eq-eqb}
use Rattle.hns_encoding.specs.Laws.Tests.{split}
use Rattle.hns_encoding.specs.Sums.{only, one, non, total, count}
use Rattle.hnsr_circuit.specs.Table.{any, pick, put, clear, keep}
use Rattle.hns_encoding.specs.Laws.Sums.{total-append}
use Rattle.hnsr_circuit.specs.Laws.Totals.{total-keep, total-others, keep-le, total-also}
use Rattle.hnsr_circuit.specs.Laws.Lookups.{any-count, none-count, count-any, count_none, total-key}
use Rattle.hnsr_circuit.specs.Laws.Marks.{length-put, room, put-new-total, clear-total, clear-length}

pub record Bag (T B : Type 0) : Type 1 where
  pub used : T → Bool
  pub unmark : T → T
  pub off : (t : T) → used (unmark t) ≡ false
  pub blank : T
  pub view : T → B
  pub mark : B → T
  pub view-mark : (b : B) → view (mark b) ≡ b
  pub used-mark : (b : B) → used (mark b) ≡ true
  pub number : B → ℕ

module _ {T B : Type 0} (Y : Bag T B) where
  abbrev pub numbered : ℕ → B → Bool
  numbered q b = eqb (Y.number b) q

  abbrev pub holds : (B → Bool) → T → Bool
  holds p i = Y.used i && p (Y.view i)

  abbrev pub queued : B → List T → List T
  queued b t = put Y.used (holds (numbered (Y.number b))) (Y.mark b) t

  abbrev pub dropped : (B → Bool) → List T → List T
  dropped p t = clear Y.unmark (λ i. p (Y.view i)) t

  pub record Held (t : List T) (out : List B) (next : ℕ) : Type 0 where
    pub same : (f : B → ℕ) → total (only Y.used (λ i. f (Y.view i))) t ≡ total f out
    pub once : (q : ℕ) → count (numbered q) out ≤ 1
    pub below : (q : ℕ) → next ≤ q → count (numbered q) out ≡ 0

  pub queued-length : (b : B) (t : List T) → length (queued b t) ≡ length t
  queued-length b t = length-put Y.used Y.unmark (holds (numbered (Y.number b))) (Y.mark b) t

  pub dropped-length : (p : B → Bool) (t : List T) → length (dropped p t) ≡ length t
  dropped-length p t = clear-length Y.used Y.unmark Y.off (λ i. p (Y.view i)) t

  -- a list of the numbers of what is outstanding, in any order
  abbrev pub Lists : List ℕ → List B → Type 0
  Lists qs bs = (f : ℕ → ℕ) → total f qs ≡ total (λ b. f (Y.number b)) bs

  module _ {t : List T} {out : List B} {next : ℕ} (R : Held t out next) where
    pub held-count : (p : B → Bool) → count (holds p) t ≡ count p out
    held-count p = total-also Y.used (λ i. p (Y.view i)) (λ i. 1) t ∙ R.same (one p)

    pub held_any : (p : B → Bool) → any (holds p) t ≡ any p out
    held_any p = split (any p out)
        (λ e. rw e (count-any (holds p) t (omega (arith, held-count p, any-count p out e))))
        (λ e. rw e (count_none (holds p) t (held-count p ∙ none-count p out e)))

    -- f of the record of a number is the total of f over the list at that number: so the table's record and the list's
    -- are the same to every f
    pub only_list : (q : ℕ) (d : B) → any (numbered q) out ≡ true → (f : B → ℕ)
        → total (only (numbered q) f) out ≡ f (pick (numbered q) d out)
    only_list q d e f = total-key (numbered q) f d out (R.once q) e

    pub only-table : (q : ℕ) → any (numbered q) out ≡ true → (f : B → ℕ)
        → total (only (numbered q) f) out ≡ f (Y.view (pick (holds (numbered q)) Y.blank t))
    only-table q e f =
        sym (R.same (only (numbered q) f))
        ∙ sym (total-also Y.used (λ i. numbered q (Y.view i)) (λ i. f (Y.view i)) t)
        ∙ total-key (holds (numbered q)) (λ i. f (Y.view i)) Y.blank t
        (omega (arith, held-count (numbered q), R.once q)) (held_any (numbered q) ∙ e)

    pub queue-held : (b : B) → count Y.used t < length t → Y.number b ≡ next
        → Held (queued b t) (out ++ (b ∷ [])) (next + 1)
    queue-held b l e = record { same = all; once = once'; below = below' }
      where
        new : any (holds (numbered (Y.number b))) t ≡ false
        new =
            count_none (holds (numbered (Y.number b))) t
            (held-count (numbered (Y.number b)) ∙ R.below (Y.number b) (omega arith))

        all : (f : B → ℕ) → total (only Y.used (λ i. f (Y.view i))) (queued b t) ≡ total f (out ++ (b ∷ []))
        all f =
            omega (
              arith,
              put-new-total Y.used Y.unmark (holds (numbered (Y.number b))) (Y.mark b) t new
                  (room Y.used Y.unmark t l) (λ i. f (Y.view i)) Y.blank (Y.used-mark b),
              ap f (Y.view-mark b),
              total-append f out (b ∷ []),
              R.same f,
            )

        once' : (q : ℕ) → count (numbered q) (out ++ (b ∷ [])) ≤ 1
        once' q = let k = total-append (one (numbered q)) out (b ∷ []) in split (eqb (Y.number b) q)
            (λ t. omega (arith, rw t at k, R.below q (omega (arith, eqb-true (Y.number b) q t))))
            (λ t. omega (arith, rw t at k, R.once q))

        below' : (q : ℕ) → next + 1 ≤ q → count (numbered q) (out ++ (b ∷ [])) ≡ 0
        below' q g = let k = total-append (one (numbered q)) out (b ∷ []) in split (eqb (Y.number b) q)
            (λ t. absurd (omega (arith, eqb-true (Y.number b) q t)))
            (λ t. omega (arith, rw t at k, R.below q (omega arith)))

    pub drop-held : (p : B → Bool) → Held (dropped p t) (keep (non p) out) next
    drop-held p = record {
      same =
          λ f. clear-total Y.used Y.unmark Y.off (λ i. p (Y.view i)) (λ i. f (Y.view i)) t
          ∙ R.same (only (non p) f)
          ∙ sym (total-keep f (non p) out);
      once = λ q. omega (arith, keep-le (one (numbered q)) (non p) out, R.once q);
      below = λ q l. omega (arith, keep-le (one (numbered q)) (non p) out, R.below q l);
    }

    -- its first is outstanding, and the rest lists what is left without it
    pub lists_first : (q : ℕ) (qs : List ℕ) → Lists (q ∷ qs) out → any (numbered q) out ≡ true
    lists_first q qs s = count-any (numbered q) out (omega (arith, rw (eq-eqb q q refl) at (s (one (λ x. eqb x q)))))

    pub lists_rest : (q : ℕ) (qs : List ℕ) → Lists (q ∷ qs) out → Lists qs (keep (non (numbered q)) out)
    lists_rest q qs s f =
        let a = rw (eq-eqb q q refl) at (s (one (λ x. eqb x q))) in
        let b = rw (eq-eqb q q refl) at (s (only (non (λ x. eqb x q)) f)) in
        omega (
          arith,
          a,
          b,
          R.once q,
          total-others (λ x. eqb x q) f qs (omega (arith, a, R.once q)),
          total-keep (λ x. f (Y.number x)) (non (numbered q)) out,
        )
