-- Ending, one after another and by ascending key, the records that have Q: what each turn finds and leaves, and what
-- the whole does to a past that knows the records by key and the outstanding things as a list.
use Rattle.std.specs.Prelude.{ℕ, ◌≤◌, ◌<◌, ◌≡◌, Bool, true, false, cond, not, ◌&&◌, List, [], ◌++◌, eqb}
use Rattle.std.proofs.Common.{arith, sym, ◌∙◌, append-nil, append_assoc, eqb-true}
use Rattle.std.proofs.lemmas.Bool.{false≢true}
use Rattle.hnsr_circuit.specs.Laws.Keyed.{Keys, Tells, keyed, look}
use Rattle.hns_encoding.specs.Laws.Tests.{split, join, eqb_comm, both}
use Rattle.hns_encoding.specs.Sums.{only, one, non, count}
use Rattle.hnsr_circuit.specs.Table.{also, any, clear, keep, lowest}
use Rattle.hns_encoding.specs.Laws.Sums.{total-le, total-split}
use Rattle.hnsr_circuit.specs.Laws.Totals.{total-also, keep_append, keep-keep, keep-whole, keep_all}
use Rattle.hnsr_circuit.specs.Laws.Lookups.{pick-has, any-count, pick-not, any-also, any_imp, pick-also}
use Rattle.hnsr_circuit.specs.Laws.Marks.{clear-total}
use Rattle.hnsr_circuit.specs.Laws.Lowest.{lowest-found}
use Rattle.hnsr_circuit.specs.Laws.Lowest.{key_is as rank_is}

-- ---- the table
module _ {A K : Type 0} (X : Keys A ℕ K) (by : (i j : ℕ) → eqb i j ≡ X.same i j) (Q : A → Bool) where
  abbrev pub having : A → Bool
  having a = X.used a && Q a

  abbrev pub least : List A → ℕ
  least t = lowest having X.key t

  -- a turn leaves fewer
  pub fewer : (t : List A) (m : ℕ) → any (also (keyed X m) having) t ≡ true
      → count having (clear X.unmark (keyed X m) t) < count having t
  fewer t m h =
      let a = total-also X.used Q (λ c. 1) (clear X.unmark (keyed X m) t) in
      let b = clear-total X.used X.unmark X.off (keyed X m) (one Q) t in
      let c = total-split (keyed X m) (one having) t in
      let d = total-also (keyed X m) having (λ c. 1) t in
      let e = any-count (also (keyed X m) having) t h in
      let f = total-le (only X.used (only (non (keyed X m)) (one Q))) (only (non (keyed X m)) (one having)) t each in
      omega arith
    where
      each : (x : A) → only X.used (only (non (keyed X m)) (one Q)) x ≤ only (non (keyed X m)) (one having) x
      each x =
          split (X.used x)
          (λ u. split (X.same (X.key x) m) (λ v. rw (u, v) (omega arith)) (λ v. rw (u, v) (omega arith)))
          (λ u. rw u (omega arith))

  pub least_at : (t : List A) → any having t ≡ true → any (also (keyed X (least t)) having) t ≡ true
  least_at t h =
      any_imp (also (rank_is X.key (least t)) having) (also (keyed X (least t)) having) t each
      (lowest-found having X.key t h)
    where
      each : (c : A) → also (rank_is X.key (least t)) having c ≡ true → also (keyed X (least t)) having c ≡ true
      each c k = let a = both (eqb (X.key c) (least t)) (having c) k in
          join (keyed X (least t) c) (having c)
          (join (X.used c) (X.same (X.key c) (least t)) (both (X.used c) (Q c) a.1).0
          (sym (by (X.key c) (least t)) ∙ a.0)) a.1

  module _ (q : K → Bool) (same-q : (c : A) (k : K) → X.Agree c k → Q c ≡ q k) {t : List A} {st : ℕ → Bool}
      {kn : ℕ → K} (T : Tells X t st kn) where
    -- the least that has Q stands, and has q
    pub least-stands : any having t ≡ true → st (least t) ≡ true
    least-stands e = sym (T.found (least t)) ∙ any-also (keyed X (least t)) having t (least_at t e)

    pub least-has : (e : any having t ≡ true) → q (kn (least t)) ≡ true
    least-has e = sym (same-q (look X t (least t)) (kn (least t)) (T.agree (least t) (least-stands e)))
        ∙ (both (X.used (look X t (least t))) (Q (look X t (least t)))
        (pick-also (keyed X (least t)) having X.nobody t (T.once (least t)) (least_at t e))).1

    -- none has Q: of what stands, none has q
    pub none_has : any having t ≡ false → (i : ℕ) → st i ≡ true → q (kn i) ≡ false
    none_has n i a = let f = T.found i ∙ a in
        let u =
        (both (X.used (look X t i)) (X.same (X.key (look X t i)) i) (pick-has (keyed X i) X.nobody t f)).0 in
        sym (same-q (look X t i) (kn i) (T.agree i a))
        ∙ off (X.used (look X t i)) (Q (look X t i)) u (pick-not having (keyed X i) X.nobody t n f)
      where
        off : (x y : Bool) → x ≡ true → (x && y) ≡ false → y ≡ false
        off true y e f = f
        off false y e f = absurd (false≢true e)

-- ---- the past: what stands, what is known of it, and a list of things, each of a key
module _ {K B : Type 0} (place : B → ℕ) (q : K → Bool) where
  abbrev pub gone_at : (ℕ → Bool) → (ℕ → K) → B → Bool
  gone_at st kn b = st (place b) && q (kn (place b))

  abbrev pub is_at : ℕ → B → Bool
  is_at m b = eqb (place b) m

  module _ (st : ℕ → Bool) (kn : ℕ → K) where
    module _ (free : (i : ℕ) → st i ≡ true → q (kn i) ≡ false) where
      pub none-ends : (i : ℕ) → (st i && not (q (kn i))) ≡ st i
      none-ends i = split (st i) (λ e. rw (e, free i e)) (λ e. rw e)

      pub none-goes : (out : List B) → keep (non (gone_at st kn)) out ++ [] ≡ out
      none-goes out =
          append-nil (keep (non (gone_at st kn)) out)
          ∙ keep_all (non (gone_at st kn)) out (λ a. split (st (place a)) (λ e. rw (e, free (place a) e)) (λ e. rw e))

    -- m ended, its things dropped and r added, and then the rest swept: the same as all swept, and r added
    module _ (m : ℕ) (a : st m ≡ true) (s : q (kn m) ≡ true) where
      abbrev less : ℕ → Bool
      less i = cond (eqb m i) false (st i)

      pub one-ends : (i : ℕ) → (less i && not (q (kn i))) ≡ (st i && not (q (kn i)))
      one-ends i = split (eqb m i) (λ e. rw (e, ← (eqb-true m i e), a, s)) (λ e. rw e)

      pub one-goes : (out r rs : List B) → count (non (is_at m)) r ≡ 0
          → keep (non (gone_at less kn)) (keep (non (is_at m)) out ++ r) ++ rs
          ≡ keep (non (gone_at st kn)) out ++ (r ++ rs)
      one-goes out r rs z =
          rw (
            keep_append (non (gone_at less kn)) (keep (non (is_at m)) out) r,
            keep-whole (non (gone_at less kn)) (is_at m) r z mine,
            keep-keep (non (gone_at less kn)) (non (is_at m)) (non (gone_at st kn)) out same,
          ) (append_assoc (keep (non (gone_at st kn)) out) r rs)
        where
          same : (x : B) → (non (is_at m) x && non (gone_at less kn) x) ≡ non (gone_at st kn) x
          same x = split (eqb m (place x))
              (λ e. rw (eqb_comm (place x) m, e, ← (eqb-true m (place x) e), a, s))
              (λ e. rw (eqb_comm (place x) m, e))

          mine : (x : B) → is_at m x ≡ true → non (gone_at less kn) x ≡ true
          mine x e = rw (eqb_comm m (place x), e)
