-- Revocation of all records that have a property: pending records, then circuits. Turn by turn in the machine, at once
-- in the past.
use Rattle.std.specs.Prelude.{ℕ, ◌≤◌, ◌≡◌, refl, Bool, true, cond, not, ◌&&◌, List, [], ◌++◌, map, eqb}
use Rattle.std.proofs.Common.{arith, ap, ◌∙◌, subst, append_assoc, eqb-true}
use Rattle.std.proofs.Math.Path.{sym}
use Rattle.std.proofs.Math.Bool.{false}
use Rattle.std.proofs.lemmas.Bool.{false≢true, not-true}
use Rattle.hns_encoding.specs.Laws.Tests.{split, clash, both, eqb_comm, cond-le}
use Rattle.hns_encoding.specs.Sums.{one, non, count}
use Rattle.hns_encoding.specs.Laws.Sums.{total-le, total-append}
use Rattle.hnsr_body.specs.declared.messages.Notice.{Notice}
use Rattle.hnsr_circuit.specs.declared.records.RelayPending.{RelayPending}
use Rattle.hnsr_circuit.specs.declared.records.RelayCircuit.{RelayCircuit}
use Rattle.hnsr_circuit.specs.Table.{keep}
use Rattle.hnsr_circuit.specs.Pending.{pending_id, pending_at}
use Rattle.hnsr_circuit.specs.Circuits.{circuit_id, circuit_at}
use Rattle.hnsr_circuit.specs.Route.{Route}
use Rattle.hnsr_circuit.specs.World.{World}
use Rattle.hnsr_circuit.specs.Queue.{Sent}
use Rattle.hnsr_circuit.specs.Revocation.{revoke_circuit_there, revoke_circuit, walk}
use Rattle.hnsr_circuit.specs.Revocation.{pending_table, circuit_table, revoke_all}
use Rattle.hnsr_circuit.specs.Laws.Revocation.{revoked-found}
use Rattle.hnsr_circuit.specs.Laws.Totals.{keep_append, keep-whole}
use Rattle.hnsr_circuit.specs.Laws.Sweep.{none-ends, none-goes, one-ends, one-goes}
use Rattle.hnsr_run.specs.Past.{Known, Asked, Action, Past, at, on_circuit, heard}
use Rattle.hnsr_run.specs.Past.{with_records, fewer, emit, open_ended, circuit_ended}
use Rattle.hnsr_run.specs.History.{gone_open, gone_circuit, revoked}
use Rattle.hnsr_run.specs.Run.Circuits.{Agrees, circuit_keys, none}
use Rattle.hnsr_run.specs.Run.Walks.{walked}
use Rattle.hnsr_run.specs.Run.ByLookup.{by_id}
use Rattle.hnsr_run.specs.Run.Ended.{at-false}
use Rattle.hnsr_run.specs.Run.Full.{AgreesP, pending_keys, Keeps, map-append, suspending}
use Rattle.hnsr_run.specs.Run.Ends.{Labelled, still-labelled, quiet-to, pending-table, circuit-table}
use Rattle.hnsr_run.specs.Run.Ends.{circuit-there, EndsOne, revoke-circuit, circuit-about, circuit-ended}

-- ---- the walk over the pending records: routes are about ids that are no circuits
abbrev pub parted_opens : (Route → Action) → Past → (Asked → Bool) → List Route → Past
parted_opens f h q rs =
    fewer h h.active (λ j. h.opens.standing j && not (q (h.opens.asked j)))
    (keep (non (gone_open h q)) h.out ++ map f rs)

abbrev pub active_on : Past → Action → Bool
active_on h a = h.active a.circuit

abbrev placed : Action → ℕ
placed a = a.circuit

module _ (qc : Known → Bool) (T : ℕ → Asked → Bool) (Q : RelayPending → Bool) (q : Asked → Bool)
    (same-q : (x : RelayPending) (k : Asked) → AgreesP x k → Q x ≡ q k) (end : World → ℕ → Sent) (E : EndsOne q T end)
    (f : Route → Action) (S : ℕ → Bool) (u : World) where
  abbrev J : Past → List Route → Type 0
  J h rs = count (active_on h) (map f rs) ≡ 0

  -- what the walk keeps
  abbrev Told : World → Past → Type 0
  Told w h = Keeps S u w h × Labelled q qc T f h

  none_open : (h : Past) → ((i : ℕ) → h.opens.standing i ≡ true → q (h.opens.asked i) ≡ false)
      → parted_opens f h q [] ≡ h
  none_open h free = λ i.
      fewer h h.active (λ j. none-ends placed q h.opens.standing h.opens.asked free j i)
      (none-goes placed q h.opens.standing h.opens.asked free h.out i)

  more_open : (w : World) (h : Past) (m : ℕ) (rs : List Route) → Told w h → h.opens.standing m ≡ true
      → q (h.opens.asked m) ≡ true
      → parted_opens f (emit (open_ended h m) f (by_id end w m).routes) q rs
      ≡ parted_opens f h q ((by_id end w m).routes ++ rs)
  more_open w h m rs K a s = λ i.
      fewer h h.active (λ j. one-ends placed q h.opens.standing h.opens.asked m a s j i) (outs i)
    where
      outs : (parted_opens f (emit (open_ended h m) f (by_id end w m).routes) q rs).out
          ≡ (parted_opens f h q ((by_id end w m).routes ++ rs)).out
      outs =
          one-goes placed q h.opens.standing h.opens.asked m a s h.out (map f (by_id end w m).routes)
          (map f rs) (E.about w h m K.1 K.0.full a s)
          ∙ ap (λ l. keep (non (gone_open h q)) h.out ++ l) (sym (map-append f (by_id end w m).routes rs))

  J_open : (w : World) (h : Past) (m : ℕ) (rs : List Route) → Told w h → h.opens.standing m ≡ true
      → q (h.opens.asked m) ≡ true
      → J (emit (open_ended h m) f (by_id end w m).routes) rs → J h ((by_id end w m).routes ++ rs)
  J_open w h m rs K a s j =
      let r = map f (by_id end w m).routes in
      let y = total-le (one (active_on h)) (one (non (on_circuit m))) r
      (λ x. split (eqb m x.circuit)
      (λ g. let z =
      ap (λ b. cond {A = ℕ} b 1 0) (ap h.active (sym (eqb-true m x.circuit g)) ∙ K.0.full.disjoint m a) in
      omega arith)
      (λ g. let z = ap (λ b. cond {A = ℕ} (not b) 1 0) (eqb_comm x.circuit m ∙ g) in
      omega (arith, cond-le (active_on h x)))) in
      ap (count (active_on h)) (map-append f (by_id end w m).routes rs)
      ∙ omega (arith, total-append (one (active_on h)) r (map f rs), E.about w h m K.1 K.0.full a s)

  -- N: what else is to be known of the routes
  pub walk-pending : (N : World → Past → List Route → Type 0)
      → ((w : World) (h : Past) → Told w h
      → ((i : ℕ) → h.opens.standing i ≡ true → q (h.opens.asked i) ≡ false) → N w h [])
      → ((w : World) (h : Past) (m : ℕ) (rs : List Route) → Told w h → h.opens.standing m ≡ true
      → q (h.opens.asked m) ≡ true → ((i : ℕ) → h.opens.standing i ≡ true → q (h.opens.asked i) ≡ true → m ≤ i)
      → N (by_id end w m).world (emit (open_ended h m) f (by_id end w m).routes) rs
      → N w h ((by_id end w m).routes ++ rs))
      → (p : RelayPending → Bool) → ((x : RelayPending) → p x ≡ (x.used && Q x)) → (w : World) (h : Past) → Told w h
      → Told (walk pending_id pending_table p end w).world
      (parted_opens f h q (walk pending_id pending_table p end w).routes)
      × (J h (walk pending_id pending_table p end w).routes × N w h (walk pending_id pending_table p end w).routes)
  unfolding pending_at
  walk-pending N N-none N-more p same w h K =
      walked pending_keys (λ i j. refl) Q q same-q pending_table end (by_id end) Told
      (λ h. h.opens.standing)
      (λ h. h.opens.asked)
      (λ h m rs. emit (open_ended h m) f rs)
      (λ h rs. parted_opens f h q rs)
      (λ w h rs. J h rs × N w h rs)
      (λ w h K. K.0.full.pends) (λ w h m K a. refl)
      (λ w h m K a s. (
        E.keeps S u w h m K.1 K.0 a s,
        still-labelled K.1 h.active (at m false h.opens.standing) _ (λ i x. x)
            (at-false m h.opens.standing),
      ))
      (λ w h m K a. E.table w h m K.0.full a ∙ pending-table w h K.0.full m)
      (λ h m rs i. refl) (λ h m rs. refl) none_open more_open (λ w h K free. (refl, N-none w h K free))
      (λ w h m rs K a s l j. (J_open w h m rs K a s j.0, N-more w h m rs K a s l j.1)) p same w h K

-- ---- the walk over the circuits: those that will end are in suspense
abbrev pub parted_circuits : (Route → Action) → Past → (Known → Bool) → List Route → Past
parted_circuits f h q rs =
    with_records h (λ j. h.active j && not (q (h.known j))) h.known h.opens
    (keep (non (gone_circuit h q)) h.out ++ map f rs)

module _ (qo : Asked → Bool) (T : ℕ → Asked → Bool) (n : Notice) (Q : RelayCircuit → Bool) (q : Known → Bool)
    (same-q : (x : RelayCircuit) (k : Known) → Agrees x k → Q x ≡ q k) (f : Route → Action) (u : World) where
  abbrev Going : World → Past → Type 0
  Going w h = Keeps (λ i. q (h.known i)) u w h × Labelled qo q T f h

  none-circuit : (h : Past) → ((i : ℕ) → h.active i ≡ true → q (h.known i) ≡ false) → parted_circuits f h q [] ≡ h
  none-circuit h free = λ i.
      with_records h (λ j. none-ends placed q h.active h.known free j i) h.known h.opens
      (none-goes placed q h.active h.known free h.out i)

  more_circuit : (w : World) (h : Past) (m : ℕ) (rs : List Route) → Going w h → h.active m ≡ true
      → q (h.known m) ≡ true
      → parted_circuits f (emit (circuit_ended h m) f (revoke_circuit n w m).routes) q rs
      ≡ parted_circuits f h q ((revoke_circuit n w m).routes ++ rs)
  more_circuit w h m rs K a s = λ i.
      with_records h (λ j. one-ends placed q h.active h.known m a s j i) h.known h.opens (outs i)
    where
      outs : (parted_circuits f (emit (circuit_ended h m) f (revoke_circuit n w m).routes) q rs).out
          ≡ (parted_circuits f h q ((revoke_circuit n w m).routes ++ rs)).out
      outs =
          one-goes placed q h.active h.known m a s h.out (map f (revoke_circuit n w m).routes) (map f rs)
          (circuit-about n w m (quiet-to K.1 n w m K.0.full a s))
          ∙ ap (λ l. keep (non (gone_circuit h q)) h.out ++ l) (sym (map-append f (revoke_circuit n w m).routes rs))

  pub walk-circuits : (N : Past → List Route → Type 0) → ((h : Past) → N h [])
      → ((w : World) (h : Past) (m : ℕ) (rs : List Route) → Going w h → h.active m ≡ true → q (h.known m) ≡ true
      → N (emit (circuit_ended h m) f (revoke_circuit n w m).routes) rs → N h ((revoke_circuit n w m).routes ++ rs))
      → (p : RelayCircuit → Bool) → ((x : RelayCircuit) → p x ≡ (x.used && Q x)) → (w : World) (h : Past) → Going w h
      → Keeps (λ i. q (h.known i)) u (walk circuit_id circuit_table p (revoke_circuit_there n) w).world
      (parted_circuits f h q (walk circuit_id circuit_table p (revoke_circuit_there n) w).routes)
      × N h (walk circuit_id circuit_table p (revoke_circuit_there n) w).routes
  unfolding circuit_at
  walk-circuits N N-none N-more p same w h K =
      let r = walked circuit_keys (λ i j. refl) Q q same-q circuit_table (revoke_circuit_there n) (revoke_circuit n)
      Going (λ h. h.active)
      (λ h. h.known)
      (λ h m rs. emit (circuit_ended h m) f rs)
      (λ h rs. parted_circuits f h q rs)
      (λ w h rs. N h rs)
      (λ w h K. K.0.full.circs) (λ w h m K a. sym (revoked-found n w m (circuit-there w h K.0.full m ∙ a)))
      (λ w h m K a s. (
        revoke-circuit n w h m (λ i. q (h.known i)) (λ i t e. t) (quiet-to K.1 n w m K.0.full a s) K.0 a,
        still-labelled K.1 (at m false h.active) h.opens.standing _ (at-false m h.active) (λ i x. x),
      ))
      (λ w h m K a. circuit-ended n w h m K.0.full a ∙ circuit-table w h K.0.full m)
      (λ h m rs i. refl) (λ h m rs. refl) none-circuit more_circuit (λ w h K free. N-none h)
      (λ w h m rs K a s l j. N-more w h m rs K a s j) p same w h K in
      (r.0.0, r.1)

-- ---- both
both_path : (told : Route → ℕ) (h : Past) (qo : Asked → Bool) (qc : Known → Bool) (r rs : List Route)
    → count (active_on h) (map (heard told) r) ≡ 0
    → parted_circuits (heard told) (parted_opens (heard told) h qo r) qc rs
    ≡ revoked h qo qc (map (heard told) (r ++ rs))
both_path told h qo qc r rs z = λ i.
    fewer h (λ j. h.active j && not (qc (h.known j)))
    (λ j. h.opens.standing j && not (qo (h.opens.asked j))) (outs i)
  where
    f : Route → Action
    f = heard told

    stays : List Action
    stays = keep (non (gone_open h qo)) h.out

    idle : count (non (non (active_on h))) (map f r) ≡ 0
    idle =
        let y = total-le (one (non (non (active_on h)))) (one (active_on h)) (map f r) (λ a. twice (active_on h a)) in
        omega arith
      where
        twice : (b : Bool) → cond {A = ℕ} (not (not b)) 1 0 ≤ cond b 1 0
        twice true = omega arith
        twice false = omega arith

    unmoved : (a : Action) → non (active_on h) a ≡ true → non (gone_circuit h qc) a ≡ true
    unmoved a e = off (active_on h a) (qc (h.known a.circuit)) e
      where
        off : (x y : Bool) → not x ≡ true → not (x && y) ≡ true
        off true y e = absurd (false≢true e)
        off false y e = refl

    outs : (parted_circuits f (parted_opens f h qo r) qc rs).out ≡ (revoked h qo qc (map f (r ++ rs))).out
    outs =
        ap (λ l. l ++ map f rs)
        (keep_append (non (gone_circuit h qc)) stays (map f r)
        ∙ ap (λ l. keep (non (gone_circuit h qc)) stays ++ l)
        (keep-whole (non (gone_circuit h qc)) (non (active_on h)) (map f r) idle unmoved))
        ∙ append_assoc (keep (non (gone_circuit h qc)) stays) (map f r) (map f rs)
        ∙ ap (λ l. keep (non (gone_circuit h qc)) stays ++ l) (sym (map-append f r rs))

pub revoke-all : {S : ℕ → Bool} {u : World} (T : ℕ → Asked → Bool) (told : Route → ℕ) (w : World) (h : Past)
    (end : World → ℕ → Sent) (n : Notice)
    → (p : RelayPending → Bool) (Q : RelayPending → Bool) (qo : Asked → Bool)
    → ((x : RelayPending) → p x ≡ (x.used && Q x)) → ((x : RelayPending) (k : Asked) → AgreesP x k → Q x ≡ qo k)
    → (c : RelayCircuit → Bool) (C : RelayCircuit → Bool) (qc : Known → Bool)
    → ((x : RelayCircuit) → c x ≡ (x.used && C x)) → ((x : RelayCircuit) (k : Known) → Agrees x k → C x ≡ qc k)
    → ((i : ℕ) → S i ≡ true → h.active i ≡ true → qc (h.known i) ≡ true) → EndsOne qo T end
    → Labelled qo qc T (heard told) h → Keeps S u w h
    → Keeps none u (revoke_all end p (revoke_circuit_there n) c w).world
    (revoked h qo qc (map (heard told) (revoke_all end p (revoke_circuit_there n) c w).routes))
unfolding revoke_all
revoke-all {S} {u} T told w h end n p Q qo ep sp c C qc ec sc sus E L K =
    let f = heard told in
    let a = walk-pending qc T Q qo sp end E f S u (λ w h rs. Unit {0}) (λ w h K n. tt) (λ w h m rs K a s l j. tt) p ep w
    h (K, L) in
    let first = walk pending_id pending_table p end w in
    let g = parted_opens f h qo first.routes in
    let b = walk-circuits qo T n C qc sc f u (λ h rs. Unit {0}) (λ h. tt) (λ w h m rs K a s j. tt) c ec first.world
    g (
      record {
        full = suspending (λ j s t. split (S j) (λ x. clash (sus j x t) s) (λ x. x)) a.0.0.full;
        rest = a.0.0.rest;
      },
      a.0.1,
    ) in
    let second = walk circuit_id circuit_table c (revoke_circuit_there n) first.world in
    subst (λ k. Keeps none u second.world k) (both_path told h qo qc first.routes second.routes a.1.0)
    (record {
      full = suspending
          (λ j s t. not-true (qc (h.known j)) (both (h.active j) (not (qc (h.known j))) t).1) b.0.full;
      rest = b.0.rest;
    })
