-- The ledger against the reckoned reservations. A record past its expiry may be there or not: of it nothing is said, so
-- the past need not tell which call dropped it, which the answers do not tell.
use Rattle.std.specs.Prelude.{ℕ, ◌+◌, ◌≤◌, ◌≡◌, refl, Bool, ◌&&◌}
use Rattle.std.proofs.Common.{arith, ◌∙◌}
use Rattle.std.proofs.Math.Path.{sym, ap, subst}
use Rattle.std.proofs.Math.Bool.{true, false, cond, not}
use Rattle.std.proofs.lemmas.Bool.{false≢true}
use mathlib.Core.List.{List}
use Rattle.std.proofs.Math.Dec.{leb, ltb}
use borrow.Author.Tests.{ltb-true, lt-ltb, leb-false, lt-leb, not-true}
use Rattle.hns_encoding.specs.Numbers.{top}
use Rattle.hns_encoding.specs.Laws.Tests.{split, clash, both, join}
use Rattle.hns_encoding.specs.Sums.{non, count}
use Rattle.hnsr_body.specs.declared.values.ReservationId.{ReservationId}
use Rattle.hnsr_body.specs.Values.{same_reservation}
use Rattle.hnsr_circuit.specs.declared.records.ReservationUsage.{ReservationUsage}
use Rattle.hnsr_circuit.specs.Table.{any, put, edit, clear}
use Rattle.hnsr_circuit.specs.Ledger.{no_usage, is_usage, usage_at, usage_over, clear_usage, spent, lapsed, usage_of}
use Rattle.hnsr_circuit.specs.Laws.Lookups.{pick-has}
use Rattle.hnsr_circuit.specs.Laws.Edits.{edit-put, edit-clear}
use Rattle.hnsr_circuit.specs.Laws.Keyed.{Keys, Tells, Looks, same_comm, keyed-at, store_looks, clear-look, clear-tells}
use Rattle.hnsr_circuit.specs.Laws.Keys.{same-reservation, reservation-refl}
use Rattle.hnsr_run.specs.Past.{Book, lives, spent_by, unmade}

abbrev pub usage_keys : Keys ReservationUsage ReservationId ℕ
usage_keys = record {
  used = λ u. u.used;
  unmark = clear_usage;
  off = λ u. refl;
  nobody = no_usage;
  key = λ u. u.reservation_id;
  same = λ a b. same_reservation a b;
  same-eq = same-reservation;
  same_refl = reservation-refl;
  Agree = λ u k. Unit {0};
}

pub record Stands (u : ReservationUsage) (b : Book) (r : ReservationId) : Type 0 where
  pub expires : u.expires_at ≡ b.due r
  pub bytes : u.bytes ≡ b.spent r

pub record Books (t : List ReservationUsage) (now : ℕ) (b : Book) : Type 0 where
  pub once : (r : ReservationId) → count (usage_at r) t ≤ 1
  pub there : (r : ReservationId) → lives now b r ≡ true → any (usage_at r) t ≡ true
  pub stands : (r : ReservationId) → lives now b r ≡ true → Stands (usage_of r t) b r
  pub known : (r : ReservationId) → any (usage_at r) t ≡ true → ltb now (usage_of r t).expires_at ≡ true
      → lives now b r ≡ true

-- ---- two ledgers that a book cannot tell apart: of every reservation as many records, and of the one found the same
-- bytes and expiry. What else a record holds may differ
pub record SameBooks (t u : List ReservationUsage) : Type 0 where
  pub many : (r : ReservationId) → count (usage_at r) u ≡ count (usage_at r) t
  pub there : (r : ReservationId) → any (usage_at r) u ≡ any (usage_at r) t
  pub bytes : (r : ReservationId) → (usage_of r u).bytes ≡ (usage_of r t).bytes
  pub expires : (r : ReservationId) → (usage_of r u).expires_at ≡ (usage_of r t).expires_at

pub one-ledger : (t : List ReservationUsage) → SameBooks t t
one-ledger t = record { many = λ r. refl; there = λ r. refl; bytes = λ r. refl; expires = λ r. refl }

pub books_then : {t u v : List ReservationUsage} → SameBooks t u → SameBooks u v → SameBooks t v
books_then a b = record {
  many = λ r. b.many r ∙ a.many r;
  there = λ r. b.there r ∙ a.there r;
  bytes = λ r. b.bytes r ∙ a.bytes r;
  expires = λ r. b.expires r ∙ a.expires r;
}

pub same_books : {t u : List ReservationUsage} {now : ℕ} {b : Book} → SameBooks t u → Books t now b → Books u now b
same_books {now = now} s B = record {
  once = λ r. omega (arith, s.many r, B.once r);
  there = λ r e. s.there r ∙ B.there r e;
  stands = λ r e. let x = B.stands r e in
      record { expires = s.expires r ∙ x.expires; bytes = s.bytes r ∙ x.bytes };
  known = λ r f e. B.known r (sym (s.there r) ∙ f) (ap (ltb now) (sym (s.expires r)) ∙ e);
}

pub lives-earlier : (n m : ℕ) (b : Book) (r : ReservationId) → n ≤ m → lives m b r ≡ true → lives n b r ≡ true
lives-earlier n m b r l e = let k = both (b.made r) (ltb m (b.due r)) e in
    join (b.made r) (ltb n (b.due r)) k.0 (lt-ltb n (b.due r) (omega (arith, ltb-true m (b.due r) k.1)))

-- a record stored at its key
pub usage_looks : (r : ReservationId) (u : ReservationUsage) (t : List ReservationUsage) → usage_at r u ≡ true
    → (any (usage_at r) t ≡ false → any (non is_usage) t ≡ true)
    → Looks usage_keys r u t (put is_usage (usage_at r) u t)
unfolding usage_at is_usage
usage_looks r u t k space = store_looks usage_keys r u t k space

spent-at : (r : ReservationId) (n : ℕ) (t : List ReservationUsage) → any (usage_at r) t ≡ true
    → usage_at r (spent n (usage_of r t)) ≡ true
unfolding usage_at
spent-at r n t f = pick-has (usage_at r) no_usage t f

module _ {t : List ReservationUsage} {now : ℕ} {b : Book} (B : Books t now b) where
  -- the clock moves on
  pub later-books : (n : ℕ) → now ≤ n → Books t n b
  later-books n l = record {
    once = B.once;
    there = λ r e. B.there r (lives-earlier now n b r l e);
    stands = λ r e. B.stands r (lives-earlier now n b r l e);
    known =
        λ r f e. let k = B.known r f
        (lt-ltb now (usage_of r t).expires_at (omega (arith, ltb-true n (usage_of r t).expires_at e))) in
        join (b.made r) (ltb n (b.due r)) (both (b.made r) (ltb now (b.due r)) k).0
        (ap (ltb n) (sym (B.stands r k).expires) ∙ e);
  }

  bare : Tells usage_keys t (λ r. any (usage_at r) t) (λ r. 0)
  unfolding usage_at
  bare = record { once = B.once; found = λ r. refl; agree = λ r a. tt }

  -- the records past their expiry are dropped: those that live stay
  over : ReservationId → Bool
  over r = usage_over now (usage_of r t)

  stays : (r : ReservationId) → any (usage_at r) t ≡ true → over r ≡ false
      → (any (usage_at r) (lapsed now t) ≡ true) × (usage_of r (lapsed now t) ≡ usage_of r t)
  unfolding usage_at lapsed over
  stays r f e = clear-look usage_keys bare (usage_over now) (λ i. usage_over now (usage_of i t)) (λ i a. refl) r f e

  left : Tells usage_keys (lapsed now t) (λ r. any (usage_at r) t && not (over r)) (λ r. 0)
  unfolding usage_at lapsed over
  left = clear-tells usage_keys bare (usage_over now) (λ i. usage_over now (usage_of i t)) (λ i a. refl)
      (λ r. any (usage_at r) t && not (usage_over now (usage_of r t))) (λ i. refl)

  left-found : (r : ReservationId) → any (usage_at r) (lapsed now t) ≡ (any (usage_at r) t && not (over r))
  unfolding usage_at
  left-found r = left.found r

  used-at : (r : ReservationId) → any (usage_at r) t ≡ true → (usage_of r t).used ≡ true
  unfolding usage_at
  used-at r f =
      (both (usage_of r t).used (same_reservation (usage_of r t).reservation_id r)
      (pick-has (usage_at r) no_usage t f)).0

  over-is : (r : ReservationId) → any (usage_at r) t ≡ true → over r ≡ leb (usage_of r t).expires_at now
  unfolding over usage_over
  over-is r f = ap (λ u. u && leb (usage_of r t).expires_at now) (used-at r f)

  unspent : (r : ReservationId) → lives now b r ≡ true → over r ≡ false
  unspent r e = over-is r (B.there r e) ∙ ap (λ d. leb d now) (B.stands r e).expires
      ∙ lt-leb (b.due r) now (ltb-true now (b.due r) (both (b.made r) (ltb now (b.due r)) e).1)

  pub lapse_books : Books (lapsed now t) now b
  unfolding usage_at
  lapse_books = record {
    once = left.once;
    there = λ r e. (stays r (B.there r e) (unspent r e)).0;
    stands = λ r e. let s = (stays r (B.there r e) (unspent r e)).1 in let x = B.stands r e in record {
      expires = ap (λ (u : ReservationUsage). u.expires_at) s ∙ x.expires;
      bytes = ap (λ (u : ReservationUsage). u.bytes) s ∙ x.bytes;
    };
    known = λ r f e. let k = both (any (usage_at r) t) (not (over r)) (sym (left-found r) ∙ f) in
        let s = not-true (over r) k.1 in
        B.known r k.0 (ap (λ (u : ReservationUsage). ltb now u.expires_at) (sym (stays r k.0 s).1) ∙ e);
  }

  -- and then what is there lives
  pub lapsed-lives : (r : ReservationId) → any (usage_at r) (lapsed now t) ≡ lives now b r
  lapsed-lives r = split (lives now b r) (λ e. lapse_books.there r e ∙ sym e)
      (λ e. split (any (usage_at r) (lapsed now t))
      (λ f. let k = both (any (usage_at r) t) (not (over r)) (sym (left-found r) ∙ f) in
      let s = not-true (over r) k.1 in
      clash (B.known r k.0
      (lt-ltb now (usage_of r t).expires_at (leb-false (usage_of r t).expires_at now (sym (over-is r k.0) ∙ s))))
      e)
      (λ f. f ∙ sym e))

  -- a record is stored
  pub store_books : (r : ReservationId) (u : ReservationUsage) (t' : List ReservationUsage) (b' : Book)
      → Looks usage_keys r u t t'
      → ((i : ReservationId) → same_reservation r i ≡ false
      → (b'.made i ≡ b.made i) × (b'.due i ≡ b.due i) × (b'.spent i ≡ b.spent i))
      → (lives now b' r ≡ true → Stands u b' r) → (ltb now u.expires_at ≡ true → lives now b' r ≡ true)
      → Books t' now b'
  unfolding usage_at
  store_books r u t' b' L o s k = record {
    once = λ i. L.once_at i (B.once i);
    there =
        λ i e. split (same_reservation r i)
        (λ q. L.any_keyed i ∙ ap (λ x. cond x true (any (usage_at i) t)) q)
        (λ q. L.any_keyed i ∙ ap (λ x. cond x true (any (usage_at i) t)) q ∙ B.there i (back i q e));
    stands = λ i e. split (same_reservation r i)
        (λ q. let p = L.pick_at i ∙ ap (λ x. cond x u (usage_of i t)) q in let j = same-reservation r i q in
        let x = s (ap (lives now b') j ∙ e) in
        record {
          expires = ap (λ (v : ReservationUsage). v.expires_at) p ∙ x.expires ∙ ap b'.due j;
          bytes = ap (λ (v : ReservationUsage). v.bytes) p
              ∙ x.bytes ∙ ap b'.spent j;
        })
        (λ q. let p = L.pick_at i ∙ ap (λ x. cond x u (usage_of i t)) q in let x = B.stands i (back i q e) in
        record {
          expires = ap (λ (v : ReservationUsage). v.expires_at) p ∙ x.expires ∙ sym (o i q).1;
          bytes = ap (λ (v : ReservationUsage). v.bytes) p
              ∙ x.bytes ∙ sym (o i q).2;
        });
    known = λ i f e. split (same_reservation r i)
        (λ q. let p = L.pick_at i ∙ ap (λ x. cond x u (usage_of i t)) q in
        ap (lives now b') (sym (same-reservation r i q))
        ∙ k (ap (λ (v : ReservationUsage). ltb now v.expires_at) (sym p) ∙ e))
        (λ q. let p = L.pick_at i ∙ ap (λ x. cond x u (usage_of i t)) q in
        forth i q
        (B.known i (sym (L.any_keyed i ∙ ap (λ x. cond x true (any (usage_at i) t)) q) ∙ f)
        (ap (λ (v : ReservationUsage). ltb now v.expires_at) (sym p) ∙ e)));
  }
    where
      same-lives : (i : ReservationId) → same_reservation r i ≡ false → lives now b' i ≡ lives now b i
      same-lives i q = λ x. (o i q).0 x && ltb now ((o i q).1 x)

      back : (i : ReservationId) → same_reservation r i ≡ false → lives now b' i ≡ true → lives now b i ≡ true
      back i q e = sym (same-lives i q) ∙ e

      forth : (i : ReservationId) → same_reservation r i ≡ false → lives now b i ≡ true → lives now b' i ≡ true
      forth i q e = same-lives i q ∙ e

  -- DATA of n bytes
  pub spend_books : (r : ReservationId) (n : ℕ) → any (usage_at r) t ≡ true → (usage_of r t).bytes + n ≤ top 64
      → Books (edit (usage_at r) (spent n) t) now (spent_by b r n)
  spend_books r n f l = store_books r u (edit (usage_at r) (spent n) t) (spent_by b r n) L
      (λ i q. (refl, refl, ap (λ x. cond x (b.spent r + n) (b.spent i)) q))
      (λ e. let s = B.stands r e in record {
        expires = s.expires;
        bytes = omega (
          arith,
          s.bytes,
          ap
              (λ x. cond x (b.spent r + n) (b.spent r)) (reservation-refl r),
        );
      })
      (λ e. B.known r f e)
    where
      u : ReservationUsage
      u = spent n (usage_of r t)

      L : Looks usage_keys r u t (edit (usage_at r) (spent n) t)
      L =
          subst (λ t'. Looks usage_keys r u t t') (sym (edit-put (usage_at r) (spent n) is_usage no_usage t f))
          (usage_looks r u t (spent-at r n t f) (λ x. clash f x))

  -- a record is taken out
  unmake_mine : (r i : ReservationId) → any (usage_at i) t ≡ true → usage_at r (usage_of i t) ≡ same_reservation r i
  unfolding usage_at
  unmake_mine r i f =
      keyed-at usage_keys r i (usage_of i t) (pick-has (usage_at i) no_usage t f) ∙ same_comm usage_keys i r

  unmake_table : (r : ReservationId) → edit (usage_at r) clear_usage t ≡ clear clear_usage (usage_at r) t
  unmake_table r = edit-clear (usage_at r) clear_usage t (B.once r)

  gone : (r : ReservationId)
      → Tells usage_keys (edit (usage_at r) clear_usage t)
      (λ i. any (usage_at i) t && not (same_reservation r i))
      (λ i. 0)
  unfolding usage_at
  gone r =
      subst (λ (t' : List ReservationUsage).
      Tells usage_keys t' (λ i. any (usage_at i) t && not (same_reservation r i)) (λ i. 0))
      (sym (unmake_table r))
      (clear-tells usage_keys bare (usage_at r) (λ i. same_reservation r i) (unmake_mine r)
      (λ i. any (usage_at i) t && not (same_reservation r i))
      (λ i. refl))

  kept : (r i : ReservationId) → any (usage_at i) t ≡ true → same_reservation r i ≡ false
      → (any (usage_at i) (edit (usage_at r) clear_usage t) ≡ true)
      × (usage_of i (edit (usage_at r) clear_usage t) ≡ usage_of i t)
  unfolding usage_at
  kept r i f q =
      subst (λ (t' : List ReservationUsage). (any (usage_at i) t' ≡ true) × (usage_of i t' ≡ usage_of i t))
      (sym (unmake_table r)) (clear-look usage_keys bare (usage_at r) (λ i. same_reservation r i) (unmake_mine r) i f q)

  pub unmake_books : (r : ReservationId) → Books (edit (usage_at r) clear_usage t) now (unmade b r)
  unfolding usage_at
  unmake_books r = record {
    once = (gone r).once;
    there = λ i e. split (same_reservation r i) (λ q. dead i q e) (λ q. (kept r i (B.there i (alive i q e)) q).0);
    stands =
        λ i e. split (same_reservation r i)
        (λ q. dead i q e)
        (λ q. let x = B.stands i (alive i q e) in
        let p = (kept r i (B.there i (alive i q e)) q).1 in record {
          expires = ap (λ (v : ReservationUsage). v.expires_at) p ∙ x.expires;
          bytes = ap (λ (v : ReservationUsage). v.bytes) p ∙ x.bytes;
        });
    known =
        λ i f e. let k = both (any (usage_at i) t) (not (same_reservation r i)) (sym ((gone r).found i) ∙ f) in
        let q = not-true (same_reservation r i) k.1 in
        ap (λ x. cond x false (b.made i) && ltb now (b.due i)) q ∙ B.known i k.0 (ap
        (λ (v : ReservationUsage). ltb now v.expires_at) (sym (kept r i k.0 q).1) ∙ e);
  }
    where
      dead : {P : Type 0} (i : ReservationId) → same_reservation r i ≡ true → lives now (unmade b r) i ≡ true → P
      dead i q e = absurd (false≢true (sym (ap (λ x. cond x false (b.made i) && ltb now (b.due i)) q) ∙ e))

      alive : (i : ReservationId) → same_reservation r i ≡ false → lives now (unmade b r) i ≡ true
          → lives now b i ≡ true
      alive i q e = sym (ap (λ x. cond x false (b.made i) && ltb now (b.due i)) q) ∙ e
