-- A walk of the machine ends, by ascending id, every record that has a property: so what it does to an invariant is
-- what one end does, over and over, and what it does to the past is one sweep. Generic over the table and the end. No
-- two used records share an id, so the record at the walk's place is the one of its id.
use Prim.Native.Nat.{ℕ, zero, suc, ◌≤◌, ◌<◌}
use Rattle.std.proofs.Common.{arith, sym, ap, ◌∙◌, leb-true, lt-ltb, ltb-false}
use Rattle.std.specs.Prelude.{◌≡◌, Bool, cond, ◌&&◌, ◌||◌, ltb, eqb, length, Option, Some}
use Rattle.std.proofs.Math.Path.{refl, subst}
use Rattle.std.proofs.Math.Bool.{true, false}
use Rattle.std.proofs.lemmas.Bool.{false≢true, eqb-false}
use mathlib.Core.List.{List, [], ◌∷◌, ◌++◌}
use Rattle.std.proofs.Math.Dec.{leb}
use Rattle.hns_encoding.specs.Laws.Tests.{split, both, join, clash}
use Rattle.hns_encoding.specs.Sums.{count}
use Rattle.hns_encoding.specs.Laws.Sums.{count-length}
use Rattle.hnsr_circuit.specs.declared.tables.scan.Walked.{Walked}
use Rattle.hnsr_circuit.specs.Table.{any, place_of, clear, lowest, not_yet, next}
use Rattle.hnsr_circuit.specs.Route.{Route}
use Rattle.hnsr_circuit.specs.World.{World}
use Rattle.hnsr_circuit.specs.Queue.{Sent, silently, and_then, when}
use Rattle.hnsr_circuit.specs.Revocation.{walk_from, walk}
use Rattle.hnsr_circuit.specs.Laws.Lookups.{pick-has, count_none, any_imp}
use Rattle.hnsr_circuit.specs.Laws.Lowest.{lowest-least}
use Rattle.hnsr_circuit.specs.Laws.Walks.{where-cases, next-found}
use Rattle.hnsr_circuit.specs.Laws.WalkOrder.{behind, lowest-taken, lowest-none}
use Rattle.hnsr_circuit.specs.Laws.Keyed.{Keys, Tells, keyed, look, seen, shown, key_of}
use Rattle.hnsr_circuit.specs.Laws.Sweep.{having, least, least_at, least-stands, least-has, none_has, fewer}
use Rattle.hnsr_run.specs.Past.{Past}

pub when-cases : (P : Sent → Type 0) (b : Bool) (part : World → Sent) (w : World) → (b ≡ true → P (part w))
    → (b ≡ false → P (silently w)) → P (when b part w)
unfolding when
when-cases P true part w t f = t refl
when-cases P false part w t f = f refl

module _ {A K : Type 0} (X : Keys A ℕ K) (by : (i j : ℕ) → eqb i j ≡ X.same i j) (Q : A → Bool) (q : K → Bool)
    (same-q : (a : A) (k : K) → X.Agree a k → Q a ≡ q k) where
  -- the least one ended: all that still has Q is above it
  passed : {t t' : List A} {st st' : ℕ → Bool} {kn : ℕ → K} → Tells X t st kn → Tells X t' st' kn → (m : ℕ)
      → m ≡ least X by Q t
      → ((i : ℕ) → st' i ≡ cond (eqb m i) false (st i)) → (c : Walked) → c.id ≡ m
      → any (behind X.key (having X by Q) (Some c)) t' ≡ false
  passed {t} {t'} {st} {st'} {kn} T T' m e es c ec =
      split (any (behind X.key (having X by Q) (Some c)) t') (λ h. absurd (no h)) (λ h. h)
    where
      g : A → Bool
      g a = Q a && leb (X.key a) c.id

      low : A → Bool
      low a = Q a && ltb (X.key a) m

      no : any (behind X.key (having X by Q) (Some c)) t' ≡ true → ⊥
      no h =
          clash
          (any_imp (λ a. X.used a && low a) (λ a. having X by Q a && ltb (X.key a) (least X by Q t)) t under there)
          (count_none (λ a. having X by Q a && ltb (X.key a) (least X by Q t)) t
          (lowest-least (having X by Q) X.key t))
        where
          into : (a : A) → behind X.key (having X by Q) (Some c) a ≡ true → (X.used a && g a) ≡ true
          into a k =
              let x = both (having X by Q a) (leb (X.key a) c.id) k in
              let y = both (X.used a) (Q a) x.0 in
              join (X.used a) (g a) y.0 (join (Q a) (leb (X.key a) c.id) y.1 x.1)

          i : ℕ
          i = key_of X T' g

          s : (st' i ≡ true) × (g (look X t' i) ≡ true)
          s = seen X T' g (any_imp (behind X.key (having X by Q) (Some c)) (λ a. X.used a && g a) t' into h)

          own : (t : List A) → any (keyed X i) t ≡ true → X.key (look X t i) ≡ i
          own t f =
              X.same-eq (X.key (look X t i)) i
              (both (X.used (look X t i)) (X.same (X.key (look X t i)) i) (pick-has (keyed X i) X.nobody t f)).1

          stood : st i ≡ true
          stood =
              split (eqb m i)
              (λ x. absurd (false≢true (sym (ap (λ b. cond b false (st i)) x) ∙ sym (es i) ∙ s.0)))
              (λ x. sym (ap (λ b. cond b false (st i)) x) ∙ sym (es i) ∙ s.0)

          other : eqb m i ≡ false
          other =
              split (eqb m i)
              (λ x. absurd (false≢true (sym (ap (λ b. cond b false (st i)) x) ∙ sym (es i) ∙ s.0)))
              (λ x. x)

          k : (Q (look X t' i) ≡ true) × (leb (X.key (look X t' i)) c.id ≡ true)
          k = both (Q (look X t' i)) (leb (X.key (look X t' i)) c.id) s.1

          less : i < m
          less =
              omega (
                arith,
                leb-true (X.key (look X t' i)) c.id k.1,
                own t' (T'.found i ∙ s.0),
                ec,
                eqb-false m i other,
              )

          has : low (look X t i) ≡ true
          has = join (Q (look X t i)) (ltb (X.key (look X t i)) m)
              (same-q (look X t i) (kn i) (T.agree i stood)
              ∙ sym (same-q (look X t' i) (kn i) (T'.agree i s.0))
              ∙ k.0) (lt-ltb (X.key (look X t i)) m (omega (arith, own t (T.found i ∙ stood), less)))

          there : any (λ a. X.used a && low a) t ≡ true
          there = shown X T low i stood has

          under : (a : A) → (X.used a && low a) ≡ true → (having X by Q a && ltb (X.key a) (least X by Q t)) ≡ true
          under a u = let x = both (X.used a) (low a) u in let y = both (Q a) (ltb (X.key a) m) x.1 in
              join (having X by Q a) (ltb (X.key a) (least X by Q t)) (join (X.used a) (Q a) x.0 y.0)
              (ap (ltb (X.key a)) (sym e) ∙ y.1)

  -- and nothing that has Q is below it
  least-of : {t : List A} {st : ℕ → Bool} {kn : ℕ → K} → Tells X t st kn → (m : ℕ) → m ≡ least X by Q t → (i : ℕ)
      → st i ≡ true → q (kn i) ≡ true → m ≤ i
  least-of {t} {st} {kn} T m e i stood s =
      split (ltb i m) (λ l. clash (shown X T low i stood (has l)) none-lower) (λ l. ltb-false i m l)
    where
      low : A → Bool
      low a = Q a && ltb (X.key a) m

      none-lower : any (λ a. X.used a && low a) t ≡ false
      none-lower = split (any (λ a. X.used a && low a) t)
          (λ h. clash
          (any_imp (λ a. X.used a && low a) (λ a. having X by Q a && ltb (X.key a) (least X by Q t)) t under h)
          (count_none (λ a. having X by Q a && ltb (X.key a) (least X by Q t)) t
          (lowest-least (having X by Q) X.key t)))
          (λ h. h)
        where
          under : (a : A) → (X.used a && low a) ≡ true → (having X by Q a && ltb (X.key a) (least X by Q t)) ≡ true
          under a u = let x = both (X.used a) (low a) u in let y = both (Q a) (ltb (X.key a) m) x.1 in
              join (having X by Q a) (ltb (X.key a) (least X by Q t)) (join (X.used a) (Q a) x.0 y.0)
              (ap (ltb (X.key a)) (sym e) ∙ y.1)

      own : X.key (look X t i) ≡ i
      own =
          X.same-eq (X.key (look X t i)) i
          (both (X.used (look X t i)) (X.same (X.key (look X t i)) i)
          (pick-has (keyed X i) X.nobody t (T.found i ∙ stood))).1

      has : ltb i m ≡ true → low (look X t i) ≡ true
      has l =
          join (Q (look X t i)) (ltb (X.key (look X t i)) m) (same-q (look X t i) (kn i) (T.agree i stood) ∙ s)
          (ap (λ n. ltb n m) own ∙ l)

  module _ (table : World → List A) (there end : World → ℕ → Sent) (I : World → Past → Type 0) (st : Past → ℕ → Bool)
      (kn : Past → ℕ → K) (fin : Past → ℕ → List Route → Past) (swept : Past → List Route → Past)
      (J : World → Past → List Route → Type 0)
      (tells : (w : World) (h : Past) → I w h → Tells X (table w) (st h) (kn h))
      (same_end : (w : World) (h : Past) (m : ℕ) → I w h → st h m ≡ true
      → there w (place_of (keyed X m) (table w)) ≡ end w m)
      (turn : (w : World) (h : Past) (m : ℕ) → I w h → st h m ≡ true → q (kn h m) ≡ true
      → I (end w m).world (fin h m (end w m).routes))
      (turn-table : (w : World) (h : Past) (m : ℕ) → I w h → st h m ≡ true
      → table (end w m).world ≡ clear X.unmark (keyed X m) (table w))
      (fin-st : (h : Past) (m : ℕ) (rs : List Route) (i : ℕ) → st (fin h m rs) i ≡ cond (eqb m i) false (st h i))
      (fin-kn : (h : Past) (m : ℕ) (rs : List Route) → kn (fin h m rs) ≡ kn h)
      (none : (h : Past) → ((i : ℕ) → st h i ≡ true → q (kn h i) ≡ false) → swept h [] ≡ h)
      (more : (w : World) (h : Past) (m : ℕ) (rs : List Route) → I w h → st h m ≡ true → q (kn h m) ≡ true
      → swept (fin h m (end w m).routes) rs ≡ swept h ((end w m).routes ++ rs))
      (J-none : (w : World) (h : Past) → I w h → ((i : ℕ) → st h i ≡ true → q (kn h i) ≡ false) → J w h [])
      (J-more : (w : World) (h : Past) (m : ℕ) (rs : List Route) → I w h → st h m ≡ true → q (kn h m) ≡ true
      → ((i : ℕ) → st h i ≡ true → q (kn h i) ≡ true → m ≤ i) → J (end w m).world (fin h m (end w m).routes) rs
      → J w h ((end w m).routes ++ rs)) where
    abbrev goes : ℕ → Option Walked → World → Sent
    goes turns c w = walk_from X.key table (having X by Q) there turns c w

    stop : (w : World) (h : Past) → I w h → any (having X by Q) (table w) ≡ false → I w (swept h []) × J w h []
    stop w h R n =
        let free = none_has X by Q q same-q (tells w h R) n in
        (subst (λ g. I w g) (sym (none h free)) R, J-none w h R free)

    abbrev Goes : ℕ → Type 0
    Goes turns =
        (c : Option Walked) (w : World) (h : Past) → I w h → count (having X by Q) (table w) ≤ turns
        → any (behind X.key (having X by Q) c) (table w) ≡ false
        → I (goes turns c w).world (swept h (goes turns c w).routes) × J w h (goes turns c w).routes

    walk_from_lem : (turns : ℕ) (c : Option Walked) (w : World) (h : Past) → I w h
        → count (having X by Q) (table w) ≤ turns
        → any (behind X.key (having X by Q) c) (table w) ≡ false
        → I (goes turns c w).world (swept h (goes turns c w).routes) × J w h (goes turns c w).routes
    unfolding walk_from
    walk_from_lem zero c w h R l b = stop w h R (count_none (having X by Q) (table w) (omega arith))
    walk_from_lem (suc turns) c w h R l b =
        where-cases (λ (s : Sent). I s.world (swept h s.routes) × J w h s.routes) there (goes turns)
        (next X.key (having X by Q) c (table w)) w
        (λ n e. subst (Turned n) (sym (same n e)) (one-turn n e (walk_from_lem turns)))
        (λ e. stop w h R (lowest-none X.key (having X by Q) c (table w) b e))
      where
        Taken : Walked → Type 0
        Taken n = next X.key (having X by Q) c (table w) ≡ Some n

        nl : (n : Walked) → Taken n
            → (any (having X by Q) (table w) ≡ true) × (n.id ≡ lowest (having X by Q) X.key (table w))
        nl n e = lowest-taken X.key (having X by Q) c (table w) b n e

        Turned : Walked → Sent → Type 0
        Turned n s = let r = and_then s (goes turns (Some n)) in I r.world (swept h r.routes) × J w h r.routes

        -- what stands at the walk's place is the record of its id
        named : (a : A) → having X by Q a ≡ true → keyed X (X.key a) a ≡ true
        named a k =
            join (X.used a) (X.same (X.key a) (X.key a)) (both (X.used a) (Q a) k).0 (X.same_refl (X.key a))

        stands : (n : Walked) → Taken n → st h n.id ≡ true
        stands n e = ap (st h) (nl n e).1 ∙ least-stands X by Q q same-q (tells w h R) (nl n e).0

        same : (n : Walked) → Taken n → there w n.place ≡ end w n.id
        same n e =
            ap (there w)
            (sym (next-found X.key (having X by Q) c (keyed X) named (table w) X.nobody (tells w h R).once n e))
            ∙ same_end w h n.id R (stands n e)

        one-turn : (n : Walked) → Taken n → Goes turns
            → I (goes turns (Some n) (end w n.id).world).world
            (swept h ((end w n.id).routes ++ (goes turns (Some n) (end w n.id).world).routes))
            × J w h ((end w n.id).routes ++ (goes turns (Some n) (end w n.id).world).routes)
        one-turn n e ih =
            let some = (nl n e).0 in
            let m = n.id in
            let lo : m ≡ least X by Q (table w) = (nl n e).1 in
            let T = tells w h R in
            let a : st h m ≡ true = stands n e in
            let s : q (kn h m) ≡ true = ap (λ i. q (kn h i)) lo ∙ least-has X by Q q same-q T some in
            let R₁ = turn w h m R a s in
            let rs = (end w m).routes in
            let T₁ : Tells X (table (end w m).world) (st (fin h m rs)) (kn h) = subst
            (λ (k : ℕ → K). Tells X (table (end w m).world) (st (fin h m rs)) k) (fin-kn h m rs)
            (tells (end w m).world (fin h m rs) R₁) in
            let f = least_at X by Q (table w) some in
            let l₁ : count (having X by Q) (table (end w m).world) ≤ turns =
            subst (λ (t : List A). count (having X by Q) t ≤ turns) (sym (turn-table w h m R a)) (subst
            (λ j. count (having X by Q) (clear X.unmark (keyed X j) (table w)) ≤ turns) (sym lo) (omega (
              arith,
              fewer X by Q (table w) (least X by Q
                  (table w)) f,
            ))) in
            let b₁ = passed T T₁ m lo (fin-st h m rs) n refl in
            let r = ih (Some n) (end w m).world (fin h m rs) R₁ l₁ b₁ in (
              subst (λ g. I (goes turns (Some n) (end w m).world).world g)
                  (more w h m (goes turns (Some n) (end w m).world).routes R a s) r.0,
              J-more w h m (goes turns (Some n)
                  (end w m).world).routes R a s (least-of T m lo) r.1,
            )

    pub walked : (p : A → Bool) → ((a : A) → p a ≡ having X by Q a) → (w : World) (h : Past) → I w h
        → I (walk X.key table p there w).world (swept h (walk X.key table p there w).routes)
        × J w h (walk X.key table p there w).routes
    unfolding walk
    walked p same w h R =
        subst (λ (p : A → Bool). I (walk_from X.key table p there (length (table w)) not_yet w).world
        (swept h (walk_from X.key table p there (length (table w)) not_yet w).routes)
        × J w h (walk_from X.key table p there (length (table w)) not_yet w).routes)
        (sym (λ i a. same a i))
        (walk_from_lem (length (table w)) not_yet w h R (count-length (having X by Q) (table w))
        (nothing-behind (table w)))
      where
        nothing-behind : (t : List A) → any (behind X.key (having X by Q) not_yet) t ≡ false
        nothing-behind [] = refl
        nothing-behind (x ∷ xs) =
            off (having X by Q x) (any (behind X.key (having X by Q) not_yet) xs) ∙ nothing-behind xs
          where
            off : (u r : Bool) → ((u && false) || r) ≡ r
            off true r = refl
            off false r = refl
