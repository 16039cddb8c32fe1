-- What a disconnect says is about what its words and the capacity at each turn tell: the reading of history has the
-- labels that the machine gave.
use Rattle.std.specs.Prelude.{ℕ, ◌≤◌, ◌<◌, ◌≡◌, refl, Bool, true, false, cond, not}
use Rattle.std.specs.Prelude.{◌&&◌, ◌||◌, List, [], ◌∷◌, ◌++◌, map, ◌⊎◌, leb, ltb, eqb}
use Rattle.std.proofs.Common.{arith, sym, ap, ◌∙◌, subst, append_assoc, append-nil, inl}
use Rattle.std.proofs.Common.{inr, eqb-true, lt-ltb, le-ltb, le-leb, eq-eqb, ne_eqb}
use Rattle.std.proofs.Math.Bool.{and-false, or-true}
use Rattle.std.proofs.lemmas.Bool.{eqb-false, lt-leb}
use Rattle.hns_encoding.specs.Laws.Tests.{split, clash, both, join, either, eqb_comm}
use Rattle.hns_encoding.specs.Sums.{non}
use Rattle.hnsr_circuit.specs.declared.peer.HnsrPeerId.{HnsrPeerId}
use Rattle.hnsr_circuit.specs.Table.{any, keep}
use Rattle.hnsr_circuit.specs.Peer.{same_peer}
use Rattle.hnsr_circuit.specs.Inflight.{capacity_left}
use Rattle.hnsr_circuit.specs.Route.{Route}
use Rattle.hnsr_circuit.specs.Laws.Totals.{keep_append, keep-keep}
use Rattle.hnsr_run.specs.Past.{Action, Past, on_circuit, tally, heard, emit, open_ended}
use Rattle.hnsr_run.specs.History.{asked_side, known_side, by_context, gone_open, own_open, shared_id}
use Rattle.hnsr_run.specs.History.{at_turn, other_of, comes, about_close, heard_on_leaving}

-- ---- of every member of a list
abbrev pub All : {A : Type 0} → (A → Type 0) → List A → Type 0
All P [] = Unit {0}
All P (x ∷ xs) = P x × All P xs

module _ {A : Type 0} where
  pub all_append : (P : A → Type 0) (xs ys : List A) → All P xs → All P ys → All P (xs ++ ys)
  all_append P [] ys a b = b
  all_append P (x ∷ xs) ys a b = (a.0, all_append P xs ys a.1 b)

  pub all_imp : {P Q : A → Type 0} (xs : List A) → ((x : A) → P x → Q x) → All P xs → All Q xs
  all_imp [] f a = tt
  all_imp (x ∷ xs) f a = (f x a.0, all_imp xs f a.1)

  keep_same : (p q : A → Bool) (xs : List A) → All (λ x. p x ≡ q x) xs → keep p xs ≡ keep q xs
  keep_same p q [] a = refl
  keep_same p q (x ∷ xs) a = λ i. cond (a.0 i) (x ∷ keep_same p q xs a.1 i) (keep_same p q xs a.1 i)

  keep_every : (p q : A → Bool) (xs : List A) → ((x : A) → p x ≡ q x) → keep p xs ≡ keep q xs
  keep_every p q [] e = refl
  keep_every p q (x ∷ xs) e = λ i. cond (e x i) (x ∷ keep_every p q xs e i) (keep_every p q xs e i)

  keep-true : (p : A → Bool) (xs : List A) → All (λ x. p x ≡ true) xs → keep p xs ≡ xs
  keep-true p [] a = refl
  keep-true p (x ∷ xs) a = ap (λ b. cond b (x ∷ keep p xs) (keep p xs)) a.0 ∙ ap (λ l. x ∷ l) (keep-true p xs a.1)

  keep-false : (p : A → Bool) (xs : List A) → All (λ x. p x ≡ false) xs → keep p xs ≡ []
  keep-false p [] a = refl
  keep-false p (x ∷ xs) a = ap (λ b. cond b (x ∷ keep p xs) (keep p xs)) a.0 ∙ keep-false p xs a.1

  any_append : (p : A → Bool) (xs ys : List A) → any p (xs ++ ys) ≡ (any p xs || any p ys)
  any_append p [] ys = refl
  any_append p (x ∷ xs) ys = split (p x) (λ e. rw e) (λ e. rw (e, any_append p xs ys))

  any_false : (p : A → Bool) (xs : List A) → All (λ x. p x ≡ false) xs → any p xs ≡ false
  any_false p [] a = refl
  any_false p (x ∷ xs) a = ap (λ b. b || any p xs) a.0 ∙ any_false p xs a.1

-- ---- the labels that the machine gave
abbrev pub own : Route → Action
own = heard (λ r. r.circuit)

pub or-one : (x y : Bool) → y ≡ true → (x || y) ≡ true
or-one x y e = ap (λ b. x || b) e ∙ or-true x

-- an id whose turn comes after that of the OPEN m
abbrev pub After : Past → ℕ → ℕ → Type 0
After h m i = (eqb m i ≡ false) × ((h.opens.standing i && ltb i m) ≡ false)

module _ (p : HnsrPeerId) where
  -- a label that fits the words: the id of a record that its peer shares with p, or the peer's own OPEN toward p
  abbrev pub Fits : Past → Route → Type 0
  Fits h r =
      ((r.circuit ≡ r.context) × (shared_id h p r.destination r.context ≡ true))
      ⊎ ((own_open h p r ≡ true) × (r.circuit ≡ h.opens.named r.destination r.context))

  -- the turn of the OPEN m
  pub record Turn (h : Past) (m : ℕ) : Type 0 where
    pub stands : h.opens.standing m ≡ true
    pub side : asked_side p (h.opens.asked m) ≡ true
    pub least : (i : ℕ) → h.opens.standing i ≡ true → asked_side p (h.opens.asked i) ≡ true → m ≤ i
    pub disjoint : (i : ℕ) → h.opens.standing i ≡ true → h.active i ≡ false

  -- what is outstanding at the turn of m, whatever comes after
  pub own_turn : {h : Past} {m : ℕ} → Turn h m → (e : List Action) → All (λ (a : Action). After h m a.circuit) e
      → at_turn h p m e ≡ keep (non (on_circuit m)) h.out
  own_turn {h} {m} t e after =
      (λ i. keep_every (λ a. not (gone a)) (non (on_circuit m)) h.out (λ a. ap not (gone-is a)) i
      ++ keep-false (λ a. h.opens.standing a.circuit && ltb a.circuit m) e (all_imp e (λ a f. f.1) after) i)
      ∙ append-nil (keep (non (on_circuit m)) h.out)
    where
      gone : Action → Bool
      gone a = gone_open h (asked_side p) a && leb a.circuit m

      gone-is : (a : Action) → gone a ≡ on_circuit m a
      gone-is a = split (eqb a.circuit m)
          (λ y. subst (λ i. ((h.opens.standing i && asked_side p (h.opens.asked i)) && leb i m) ≡ true)
          (sym (eqb-true a.circuit m y))
          (join _ (leb m m) (join (h.opens.standing m) (asked_side p (h.opens.asked m)) t.stands t.side)
          (le-leb m m (omega arith)))
          ∙ sym y)
          (λ y. split (gone_open h (asked_side p) a)
          (λ z. let k = both (h.opens.standing a.circuit) (asked_side p (h.opens.asked a.circuit)) z in
          ap (λ b. b && leb a.circuit m) z
          ∙ lt-leb a.circuit m (omega (arith, t.least a.circuit k.0 k.1, eqb-false a.circuit m y))
          ∙ sym y)
          (λ z. ap (λ b. b && leb a.circuit m) z ∙ sym y))

  -- an own OPEN toward p stands, and p is a side of it
  pub own-stands : (h : Past) (r : Route) → own_open h p r ≡ true
      → let j = h.opens.named r.destination r.context in
      (h.opens.standing j ≡ true) × (asked_side p (h.opens.asked j) ≡ true)
  own-stands h r o = let j = h.opens.named r.destination r.context in let k = h.opens.asked j in
      let a = both (by_context h r.destination r.context) (same_peer k.endpoint p) o in (
        (both (h.opens.standing j)
            (same_peer k.requester r.destination && eqb k.context r.context) a.0).0,
        or-one (same_peer k.requester p) _ a.1,
      )

  module _ {h : Past} {m : ℕ} (t : Turn h m) (ms : List Route)
      (on-m : All (λ (a : Action). a.circuit ≡ m) (map own ms)) where
    abbrev g : Past
    g = emit (open_ended h m) own ms

    still-stands : (i : ℕ) → eqb m i ≡ false → g.opens.standing i ≡ h.opens.standing i
    still-stands i e = ap (λ b. cond b false (h.opens.standing i)) e

    fewer_stand : (i : ℕ) → g.opens.standing i ≡ true → (eqb m i ≡ false) × (h.opens.standing i ≡ true)
    fewer_stand i e =
        split (eqb m i)
        (λ y. clash e (ap (λ b. cond b false (h.opens.standing i)) y))
        (λ y. (y, sym (still-stands i y) ∙ e))

    not-active : h.active m ≡ false
    not-active = t.disjoint m t.stands

    active-other : (i : ℕ) → h.active i ≡ true → eqb m i ≡ false
    active-other i a = split (eqb m i) (λ y. clash (ap h.active (eqb-true m i y) ∙ a) not-active) (λ y. y)

    -- ---- ids that come later
    after-circuit : (i : ℕ) → h.active i ≡ true → After h m i
    after-circuit i a = (
      active-other i a,
      split (h.opens.standing i) (λ y. clash a (t.disjoint i y)) (λ y. ap (λ b. b && ltb i m) y),
    )

    after_open : (i : ℕ) → g.opens.standing i ≡ true → asked_side p (h.opens.asked i) ≡ true → After h m i
    after_open i a s = let k = fewer_stand i a in (
      k.0,
      ap (λ b. h.opens.standing i && b) (le-ltb i m (t.least i k.1 s)) ∙ and-false (h.opens.standing i),
    )

    fits_after : (r : Route) → Fits g r → After h m r.circuit
    fits_after r (inl (e, s)) =
        subst (After h m) (sym e)
        (shared (either (h.active x && (known_side p (h.known x) && known_side d (h.known x)))
        (g.opens.standing x && (asked_side p (h.opens.asked x) && asked_side d (h.opens.asked x))) s))
      where
        x : ℕ
        x = r.context

        d : HnsrPeerId
        d = r.destination

        shared : ((h.active x && (known_side p (h.known x) && known_side d (h.known x))) ≡ true)
            ⊎ ((g.opens.standing x && (asked_side p (h.opens.asked x) && asked_side d (h.opens.asked x))) ≡ true)
            → After h m x
        shared (inl a) =
            after-circuit x (both (h.active x) (known_side p (h.known x) && known_side d (h.known x)) a).0
        shared (inr a) =
            let k =
            both (g.opens.standing x) (asked_side p (h.opens.asked x) && asked_side d (h.opens.asked x)) a in
            after_open x k.0 (both (asked_side p (h.opens.asked x)) (asked_side d (h.opens.asked x)) k.1).0
    fits_after r (inr (o, e)) =
        let k = own-stands g r o in
        subst (After h m) (sym e) (after_open (h.opens.named r.destination r.context) k.0 k.1)

    -- ---- what is outstanding at a later turn, seen from this one and from the next
    later-turn : (k : ℕ) → m < k → (e : List Action) → All (λ (a : Action). After h m a.circuit) e
        → at_turn h p k (map own ms ++ e) ≡ at_turn g p k e
    later-turn k l e after =
        ap (λ z. keep kept_h h.out ++ z) (keep_append came_h (map own ms) e ∙ (λ i. these_came i ++ others_came i))
        ∙ sym (append_assoc (keep kept_h h.out) (map own ms) (keep came_g e))
        ∙ sym (ap (λ z. z ++ keep came_g e)
        (keep_append kept-g (keep (non (on_circuit m)) h.out) (map own ms) ∙ (λ i. old-kept i ++ these_kept i)))
      where
        kept_h : Action → Bool
        kept_h a = not (gone_open h (asked_side p) a && leb a.circuit k)

        kept-g : Action → Bool
        kept-g a = not (gone_open g (asked_side p) a && leb a.circuit k)

        came_h : Action → Bool
        came_h a = h.opens.standing a.circuit && ltb a.circuit k

        came_g : Action → Bool
        came_g a = g.opens.standing a.circuit && ltb a.circuit k

        these_came : keep came_h (map own ms) ≡ map own ms
        these_came =
            keep-true came_h (map own ms)
            (all_imp (map own ms)
            (λ a c. subst (λ i. (h.opens.standing i && ltb i k) ≡ true) (sym c)
            (join (h.opens.standing m) (ltb m k) t.stands (lt-ltb m k l))) on-m)

        others_came : keep came_h e ≡ keep came_g e
        others_came =
            keep_same came_h came_g e
            (all_imp e (λ a f. ap (λ b. b && ltb a.circuit k) (sym (still-stands a.circuit f.0))) after)

        these_kept : keep kept-g (map own ms) ≡ map own ms
        these_kept =
            keep-true kept-g (map own ms)
            (all_imp (map own ms)
            (λ a c. subst (λ i. not ((g.opens.standing i && asked_side p (h.opens.asked i)) && leb i k) ≡ true)
            (sym c)
            (ap (λ b. not ((cond b false (h.opens.standing m) && asked_side p (h.opens.asked m)) && leb m k))
            (eq-eqb m m refl))) on-m)

        old-kept : keep kept-g (keep (non (on_circuit m)) h.out) ≡ keep kept_h h.out
        old-kept =
            keep-keep kept-g (non (on_circuit m)) kept_h h.out
            (λ a. split (eqb m a.circuit)
            (λ y. ap (λ b. not b && kept-g a) (eqb_comm a.circuit m ∙ y)
            ∙ sym (ap not
            (subst (λ i. ((h.opens.standing i && asked_side p (h.opens.asked i)) && leb i k) ≡ true)
            (eqb-true m a.circuit y)
            (join _ (leb m k) (join (h.opens.standing m) (asked_side p (h.opens.asked m)) t.stands t.side)
            (le-leb m k (omega arith))))))
            (λ y. ap (λ b. not b && kept-g a) (eqb_comm a.circuit m ∙ y)
            ∙ ap (λ b. not ((b && asked_side p (h.opens.asked a.circuit)) && leb a.circuit k))
            (still-stands a.circuit y)))

    later-comes : (k : ℕ) → m < k → (e : List Action) → All (λ (a : Action). After h m a.circuit) e
        → comes p h (map own ms ++ e) k ≡ comes p g e k
    later-comes k l e after =
        λ i. not (heard-of i)
        && not
        (eqb (capacity_left h.head.config (tally k (other_of p (h.opens.asked k)) (later-turn k l e after i))) 0)
      where
        heard-of : any (on_circuit k) (map own ms ++ e) ≡ any (on_circuit k) e
        heard-of =
            any_append (on_circuit k) (map own ms) e
            ∙ ap (λ b. b || any (on_circuit k) e)
            (any_false (on_circuit k) (map own ms)
            (all_imp (map own ms) (λ a c. ne_eqb a.circuit k (λ y. omega (arith, sym c ∙ y))) on-m))

    -- ---- so a later route is about the same, seen from this turn and from the next; the CLOSE of m itself is over
    module _ (e : List Action) (after : All (λ (a : Action). After h m a.circuit) e)
        (over : comes p h (map own ms ++ e) m ≡ false) (r : Route) (fits : Fits g r) where
      abbrev x : ℕ
      x = r.context

      abbrev d : HnsrPeerId
      d = r.destination

      abbrev j : ℕ
      j = h.opens.named d x

      abbrev read : (own shared low : Bool) → (fx fj : Bool) → ℕ
      read o s l fx fj = cond o (cond s (cond l (cond fx x j) (cond fj j x)) j) x

      -- about_close, by its five tests
      abbrev read_in : Past → List Action → ℕ
      read_in k es =
          read (own_open k p r) (shared_id k p d x) (k.opens.standing x && ltb x j) (comes p k es x) (comes p k es j)

      own_same : eqb m j ≡ false → own_open h p r ≡ own_open g p r
      own_same e =
          ap (λ b. (b && (same_peer (h.opens.asked j).requester d && eqb (h.opens.asked j).context x))
          && same_peer (h.opens.asked j).endpoint p) (sym (still-stands j e))

      shared_same : eqb m x ≡ false → shared_id h p d x ≡ shared_id g p d x
      shared_same e =
          ap (λ b. (h.active x && (known_side p (h.known x) && known_side d (h.known x)))
          || (b && (asked_side p (h.opens.asked x) && asked_side d (h.opens.asked x)))) (sym (still-stands x e))

      -- an id that is shared, and stands, has p as a side
      shared-side : shared_id h p d x ≡ true → h.opens.standing x ≡ true → asked_side p (h.opens.asked x) ≡ true
      shared-side s a =
          either_side (either (h.active x && (known_side p (h.known x) && known_side d (h.known x)))
          (h.opens.standing x && (asked_side p (h.opens.asked x) && asked_side d (h.opens.asked x))) s)
        where
          either_side : ((h.active x && (known_side p (h.known x) && known_side d (h.known x))) ≡ true)
              ⊎ ((h.opens.standing x && (asked_side p (h.opens.asked x) && asked_side d (h.opens.asked x))) ≡ true)
              → asked_side p (h.opens.asked x) ≡ true
          either_side (inl c) =
              clash (both (h.active x) (known_side p (h.known x) && known_side d (h.known x)) c).0 (t.disjoint x a)
          either_side (inr c) =
              (both (asked_side p (h.opens.asked x)) (asked_side d (h.opens.asked x))
              (both (h.opens.standing x) (asked_side p (h.opens.asked x) && asked_side d (h.opens.asked x)) c).1).0

      past-m : (i : ℕ) → h.opens.standing i ≡ true → asked_side p (h.opens.asked i) ≡ true → eqb m i ≡ false → m < i
      past-m i a s n = omega (arith, t.least i a s, eqb-false m i n)

      -- the peer's own OPEN stands on: it is about that one, or about x, as before
      own-stays : own_open g p r ≡ true → read_in h (map own ms ++ e) ≡ read_in g e
      own-stays o = split (eqb m x) is_m not-m
        where
          k : (g.opens.standing j ≡ true) × (asked_side p (h.opens.asked j) ≡ true)
          k = own-stands g r o

          f : (eqb m j ≡ false) × (h.opens.standing j ≡ true)
          f = fewer_stand j k.0

          m-first : m < j
          m-first = past-m j f.1 k.1 f.0

          -- x is m: its turn came first, and is over
          is_m : eqb m x ≡ true → read_in h (map own ms ++ e) ≡ read_in g e
          is_m y = let q = eqb-true m x y in
              let low : (h.opens.standing x && ltb x j) ≡ true = subst (λ i. (h.opens.standing i && ltb i j) ≡ true)
              q (join (h.opens.standing m) (ltb m j) t.stands (lt-ltb m j m-first)) in
              let none : shared_id g p d x ≡ false = subst (λ i. shared_id g p d i ≡ false) q
              (ap (λ b. (b && (known_side p (h.known m) && known_side d (h.known m)))
              || (cond (eqb m m) false (h.opens.standing m)
              && (asked_side p (h.opens.asked m) && asked_side d (h.opens.asked m)))) not-active
              ∙ ap (λ b. cond b false (h.opens.standing m)
              && (asked_side p (h.opens.asked m) && asked_side d (h.opens.asked m))) (eq-eqb m m refl)) in
              let past : comes p h (map own ms ++ e) x ≡ false =
              subst (λ i. comes p h (map own ms ++ e) i ≡ false) q over in
              (λ i. read (own_open h p r) (shared_id h p d x) (low i) (past i) (comes p h (map own ms ++ e) j))
              ∙ (λ i. read ((own_same f.0 ∙ o) i) (shared_id h p d x) true false (comes p h (map own ms ++ e) j))
              ∙ split (shared_id h p d x) (λ z. ap (λ b. cond b j j) z) (λ z. ap (λ b. cond b j j) z)
              ∙ sym (λ i. read (o i) (none i) (g.opens.standing x && ltb x j) (comes p g e x) (comes p g e j))

          -- else the same tests, at a later turn
          not-m : eqb m x ≡ false → read_in h (map own ms ++ e) ≡ read_in g e
          not-m y =
              (λ i. read (own_same f.0 i) (shared_same y i) (sym (still-stands x y) i && ltb x j)
              (comes p h (map own ms ++ e) x) (later-comes j m-first e after i))
              ∙ split (shared_id g p d x && (g.opens.standing x && ltb x j)) x-first x_last
            where
              x-first : (shared_id g p d x && (g.opens.standing x && ltb x j)) ≡ true
                  → read (own_open g p r) (shared_id g p d x) (g.opens.standing x && ltb x j)
                  (comes p h (map own ms ++ e) x) (comes p g e j) ≡ read_in g e
              x-first z =
                  let a = both (shared_id g p d x) (g.opens.standing x && ltb x j) z in
                  let s = fewer_stand x (both (g.opens.standing x) (ltb x j) a.1).0 in
                  λ i. read (own_open g p r) (shared_id g p d x) (g.opens.standing x && ltb x j)
                  (later-comes x (past-m x s.1 (shared-side (shared_same y ∙ a.0) s.1) y) e after i)
                  (comes p g e j)

              x_last : (shared_id g p d x && (g.opens.standing x && ltb x j)) ≡ false
                  → read (own_open g p r) (shared_id g p d x) (g.opens.standing x && ltb x j)
                  (comes p h (map own ms ++ e) x) (comes p g e j) ≡ read_in g e
              x_last z =
                  unread (own_open g p r) (shared_id g p d x) (g.opens.standing x && ltb x j)
                  (comes p h (map own ms ++ e) x) (comes p g e x) (comes p g e j) z
                where
                  unread : (o s l a b c : Bool) → (s && l) ≡ false → read o s l a c ≡ read o s l b c
                  unread o true true a b c z = clash refl z
                  unread o true false a b c z = refl
                  unread o false l a b c z = refl

      -- the peer has no own OPEN any more: the id is meant; if it had one, that was m, and its turn is over
      own-gone : own_open g p r ≡ false → read_in h (map own ms ++ e) ≡ read_in g e
      own-gone o =
          split (own_open h p r) was
          (λ y. (λ i. read (y i) (shared_id h p d x) (h.opens.standing x && ltb x j) (comes p h (map own ms ++ e) x)
          (comes p h (map own ms ++ e) j))
          ∙ sym to-x)
        where
          to-x : read_in g e ≡ x
          to-x = λ i. read (o i) (shared_id g p d x) (g.opens.standing x && ltb x j) (comes p g e x) (comes p g e j)

          shared : shared_id g p d x ≡ true
          shared = meant fits
            where
              meant : Fits g r → shared_id g p d x ≡ true
              meant (inl (c, s)) = s
              meant (inr (c, s)) = clash c o

          was : own_open h p r ≡ true → read_in h (map own ms ++ e) ≡ read_in g e
          was y = let is : m ≡ j = split (eqb m j) (λ q. eqb-true m j q) (λ q. clash (sym (own_same q) ∙ y) o) in
              let past : comes p h (map own ms ++ e) j ≡ false =
              subst (λ i. comes p h (map own ms ++ e) i ≡ false) is over in
              (λ i. read (y i) (all-shared i) (not_lower is i) (comes p h (map own ms ++ e) x) (past i)) ∙ sym to-x
            where
              other : eqb m x ≡ false
              other = split (eqb m x) (λ q. clash shared (none q)) (λ q. q)
                where
                  none : eqb m x ≡ true → shared_id g p d x ≡ false
                  none q =
                      subst (λ i. shared_id g p d i ≡ false) (eqb-true m x q)
                      (ap (λ b. (b && (known_side p (h.known m) && known_side d (h.known m)))
                      || (cond (eqb m m) false (h.opens.standing m)
                      && (asked_side p (h.opens.asked m) && asked_side d (h.opens.asked m)))) not-active
                      ∙ ap (λ b. cond b false (h.opens.standing m)
                      && (asked_side p (h.opens.asked m) && asked_side d (h.opens.asked m))) (eq-eqb m m refl))

              all-shared : shared_id h p d x ≡ true
              all-shared = shared_same other ∙ shared

              not_lower : m ≡ j → (h.opens.standing x && ltb x j) ≡ false
              not_lower is = split (h.opens.standing x)
                  (λ a.
                  ap (λ b. b && ltb x j) a ∙ le-ltb x j (omega (arith, t.least x a (shared-side all-shared a), is)))
                  (λ a. ap (λ b. b && ltb x j) a)

      same-about : about_close p h (map own ms ++ e) r ≡ about_close p g e r
      same-about = split (own_open g p r) own-stays own-gone

    -- ---- all later routes
    pub later : (over : (e : List Action) → All (λ (a : Action). After h m a.circuit) e
        → comes p h (map own ms ++ e) m ≡ false) (rs : List Route) (e : List Action)
        → All (λ (a : Action). After h m a.circuit) e → All (Fits g) rs → heard_on_leaving p g e rs ≡ map own rs
        → heard_on_leaving p h (map own ms ++ e) rs ≡ map own rs
    later over [] e after fits q = refl
    later over (r ∷ rs) e after fits q =
        let a = same-about e after (over e after) r fits.0 in
        let first : heard (about_close p g e) r ≡ own r = ap (first_of (own r)) q in
        let here : heard (about_close p h (map own ms ++ e)) r ≡ own r = (λ i. heard (λ z. a i) r) ∙ first in
        let rest : heard_on_leaving p g (e ++ (own r ∷ [])) rs ≡ map own rs =
        (λ i. heard_on_leaving p g (e ++ (sym first i ∷ [])) rs) ∙ ap rest_of q in
        let more = later over rs (e ++ (own r ∷ []))
        (all_append (λ (a : Action). After h m a.circuit) e (own r ∷ []) after (fits_after r fits.0, tt))
        fits.1 rest in
        (λ i. here i ∷ heard_on_leaving p h ((map own ms ++ e) ++ (here i ∷ [])) rs)
        ∙ ap {B = List Action} (λ l. own r ∷ l)
        ((λ i. heard_on_leaving p h (append_assoc (map own ms) e (own r ∷ []) i) rs) ∙ more)
      where
        first_of : Action → List Action → Action
        first_of z [] = z
        first_of z (y ∷ ys) = y

        rest_of : List Action → List Action
        rest_of [] = []
        rest_of (y ∷ ys) = ys
