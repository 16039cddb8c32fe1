-- CLOSE and ERROR keep the invariant: the OPEN that is named, or else the circuit, ends, and then the other side is
-- told or the call refused with 10.
use Rattle.std.specs.Prelude.{ℕ, ◌≤◌, ◌<◌, ◌≡◌, refl, Bool, true, false, cond, ◌&&◌, ◌||◌, List, [], ◌∷◌, leb}
use Rattle.std.proofs.Common.{arith, ap, ◌∙◌, subst}
use Rattle.std.proofs.Math.Path.{sym}
use Rattle.std.proofs.lemmas.Bool.{false≢true}
use Rattle.std.proofs.Math.Bool.{or-true}
use Rattle.std.proofs.Math.Dec.{eqb}
use borrow.Author.Tests.{eqb-true, eq-eqb, leb-false}
use Rattle.hns_encoding.specs.Numbers.{top}
use Rattle.hns_encoding.specs.Laws.Tests.{split, clash, both, join}
use Rattle.hns_encoding.specs.Sums.{count}
use Rattle.hnsr_circuit.specs.declared.peer.HnsrPeerId.{HnsrPeerId}
use Rattle.hnsr_circuit.specs.declared.records.RelayPending.{RelayPending}
use Rattle.hnsr_circuit.specs.Table.{also, any, pick, edit}
use Rattle.hnsr_circuit.specs.Peer.{same_peer}
use Rattle.hnsr_circuit.specs.Pending.{no_pending, pending_at, requester_names, endpoint_names, named_by, clear_pending}
use Rattle.hnsr_circuit.specs.World.{World, Outcome}
use Rattle.hnsr_circuit.specs.Queue.{Message, sequence_of, send}
use Rattle.hnsr_circuit.specs.Revocation.{pending_in}
use Rattle.hnsr_circuit.specs.Laws.Lookups.{pick-has, any-count, any-pick, any_imp}
use Rattle.hnsr_circuit.specs.Laws.Keyed.{seen, shown, seen-two}
use Rattle.hnsr_run.specs.Past.{Action, Past, fewer, emit, open_ended, circuit_ended}
use Rattle.hnsr_run.specs.History.{ends, by_context, by_id, end_in, ended_by}
use Rattle.hnsr_circuit.specs.Route.{Route}
use Rattle.hnsr_run.specs.Run.Circuits.{none}
use Rattle.hnsr_run.specs.Run.Full.{pending_keys, Keeps, Quiet, rest_then, queued-rest, can-room, queue-full}
use Rattle.hnsr_run.specs.Run.Rel.{Rel, send-cases, emit-nothing, shrink}

-- ---- two lookups that find the same record, where at most one has the second
same_record : {A : Type 0} (p q : A → Bool) (d : A) (g : A → A) (t : List A) → count q t ≤ 1 → any p t ≡ true
    → q (pick p d t) ≡ true
    → (pick p d t ≡ pick q d t) × (edit p g t ≡ edit q g t)
same_record p q d g [] c h k = absurd (false≢true h)
same_record {A} p q d g (x ∷ xs) c h k = split (p x)
    (λ e. let f = rw e at k in (rw (e, f), rw (e, f)))
    (λ e. let h' = rw e at h in
    let k' = rw e at k in
    split (q x)
    (λ f. let c' = rw f at c in
    let n = any-count q xs (any_imp (also p q) q xs (λ a u. (both (p a) (q a) u).1) (any-pick p q d xs h' k')) in
    absurd (omega arith))
    (λ f. let c' = rw f at c in
    let i = same_record p q d g xs (omega arith) h' k' in
    (rw (e, f) i.0, rw (e, f) (ap {B = List A} (λ l. x ∷ l) i.1))))

-- ---- a record ended, and then the message: told, or refused with 10
pub sends-after : {f : Route → Action} {w : World} {h : Past} → Rel w h
    → {v : World} (ac st : ℕ → Bool) (out : List Action) → Keeps none w v (fewer h ac st out)
    → ((i : ℕ) → ac i ≡ true → h.active i ≡ true) → ((i : ℕ) → st i ≡ true → h.opens.standing i ≡ true)
    → (m : Message) → Quiet f m → eqb m.context 0 ≡ false → sequence_of v < top 64
    → (ends (send v m).answer ≡ true) × Rel (send v m).world (emit (fewer h ac st out) f (send v m).routes)
sends-after {f} {w} {h} R {v} ac st out K la ls m Q some low = send-cases
    (λ (o : Outcome). (ends o.answer ≡ true) × Rel o.world (emit (fewer h ac st out) f o.routes)) v m some low
    (λ e. (
      refl,
      shrink R ac st _ (record {
        full = queue-full v (fewer h ac st out) m K.full Q (can-room m v e);
        rest = rest_then K.rest (queued-rest m v);
      }) la ls,
    ))
    (refl, emit-nothing (shrink R ac st out K la ls))

-- ---- what the past says of an OPEN's names
abbrev says : Past → HnsrPeerId → ℕ → ℕ → Bool
says h p x j =
    (same_peer (h.opens.asked j).requester p && eqb (h.opens.asked j).context x)
    || (same_peer (h.opens.asked j).endpoint p && eqb j x)

abbrev naming : HnsrPeerId → ℕ → RelayPending → Bool
naming p x r = requester_names p x r || endpoint_names p x r

module _ {w : World} {h : Past} (R : Rel w h) (p : HnsrPeerId) (x : ℕ) where
  match_at : (j : ℕ) → h.opens.standing j ≡ true → naming p x (pending_in w j) ≡ says h p x j
  unfolding pending_at
  match_at j a = let A = R.base.full.pends.agree j a in
      let i = eqb-true (pending_in w j).circuit_id j
      (both (pending_in w j).used (eqb (pending_in w j).circuit_id j)
      (pick-has (pending_at j) no_pending w.pending (R.base.full.pends.found j ∙ a))).1 in
      λ k. (same_peer (A.requester k) p && eqb (A.context k) x) || (same_peer (A.endpoint k) p && eqb (i k) x)

  -- by its requester's context
  context-meant : (j : ℕ) → h.opens.standing j ≡ true
      → (same_peer (h.opens.asked j).requester p && eqb (h.opens.asked j).context x) ≡ true
      → h.opens.named p x ≡ j
  context-meant j a e =
      let k = both (same_peer (h.opens.asked j).requester p) (eqb (h.opens.asked j).context x) e in
      ap (h.opens.named p) (sym (eqb-true (h.opens.asked j).context x k.1)) ∙ R.base.names j a p k.0

  by-context : by_context h p x ≡ true
      → (h.opens.standing (h.opens.named p x) ≡ true) × (says h p x (h.opens.named p x) ≡ true)
  by-context e = let j = h.opens.named p x in
      let k =
      both (h.opens.standing j) (same_peer (h.opens.asked j).requester p && eqb (h.opens.asked j).context x) e in
      (k.0, ap (λ b. b || (same_peer (h.opens.asked j).endpoint p && eqb j x)) k.1)

  by-id : by_id h p x ≡ true → (h.opens.standing x ≡ true) × (says h p x x ≡ true)
  by-id e = let k = both (h.opens.standing x) (same_peer (h.opens.asked x).endpoint p) e in (
    k.0,
    ap (λ b. (same_peer (h.opens.asked x).requester p && eqb (h.opens.asked x).context x) || b)
        (join (same_peer (h.opens.asked x).endpoint p) (eqb x x) k.1 (eq-eqb x x refl))
        ∙ or-true (same_peer (h.opens.asked x).requester p && eqb (h.opens.asked x).context x),
  )

  -- named at all: some record of the table says so
  is-shown : (j : ℕ) → h.opens.standing j ≡ true → says h p x j ≡ true → any (named_by p x) w.pending ≡ true
  unfolding named_by pending_at
  is-shown j a s = shown pending_keys R.base.full.pends (naming p x) j a (match_at j a ∙ s)

  two-shown : (i j : ℕ) → h.opens.standing i ≡ true → h.opens.standing j ≡ true → says h p x i ≡ true
      → says h p x j ≡ true → eqb i j ≡ false
      → 2 ≤ count (named_by p x) w.pending
  unfolding named_by pending_at
  two-shown i j a b s t n =
      seen-two pending_keys R.base.full.pends (naming p x) i j a b (match_at i a ∙ s) (match_at j b ∙ t) n

  -- the record found, by its id
  abbrev record_found : RelayPending
  record_found = pick (named_by p x) no_pending w.pending

  pub is_seen : any (named_by p x) w.pending ≡ true
      → (h.opens.standing record_found.circuit_id ≡ true) × (says h p x record_found.circuit_id ≡ true)
  unfolding named_by pending_at
  is_seen e =
      let s = seen pending_keys R.base.full.pends (naming p x) e in
      (s.0, sym (match_at record_found.circuit_id s.0) ∙ s.1)

  pub found-same : any (named_by p x) w.pending ≡ true
      → (record_found ≡ pending_in w record_found.circuit_id)
      × (edit (named_by p x) clear_pending w.pending
      ≡ edit (pending_at record_found.circuit_id) clear_pending w.pending)
  unfolding named_by pending_at
  found-same e =
      same_record (named_by p x) (pending_at record_found.circuit_id) no_pending clear_pending w.pending
      (R.base.full.pends.once record_found.circuit_id) e
      (join record_found.used (eqb record_found.circuit_id record_found.circuit_id)
      (both record_found.used (naming p x record_found) (pick-has (named_by p x) no_pending w.pending e)).0
      (eq-eqb record_found.circuit_id record_found.circuit_id refl))

  -- what the past ends is what the machine ends
  pub ends_open : any (named_by p x) w.pending ≡ true → leb 2 (count (named_by p x) w.pending) ≡ false
      → end_in p x h ≡ open_ended h record_found.circuit_id
  ends_open e l = split (by_context h p x)
      (λ c. let i = by-context c in
      let n = h.opens.named p x in
      split (eqb n j)
      (λ q. ap (λ b. cond b (open_ended h n) rest) c ∙ ap (open_ended h) (eqb-true n j q))
      (λ q. absurd (let k = two-shown n j i.0 s.0 i.1 s.1 q in
      let m = leb-false 2 (count (named_by p x) w.pending) l in omega arith)))
      (λ c. ap (λ b. cond b (open_ended h (h.opens.named p x)) rest) c
      ∙ ap (λ b. cond b (open_ended h x) (circuit_ended h x)) (only-id c).0
      ∙ ap (open_ended h) (sym (only-id c).1))
    where
      j : ℕ
      j = record_found.circuit_id

      s : (h.opens.standing j ≡ true) × (says h p x j ≡ true)
      s = is_seen e

      rest : Past
      rest = cond (by_id h p x) (open_ended h x) (circuit_ended h x)

      only-id : by_context h p x ≡ false → (by_id h p x ≡ true) × (j ≡ x)
      only-id c = split (same_peer (h.opens.asked j).requester p && eqb (h.opens.asked j).context x)
          (λ u. clash (subst (λ y. (h.opens.standing y
          && (same_peer (h.opens.asked y).requester p && eqb (h.opens.asked y).context x)) ≡ true)
          (sym (context-meant j s.0 u))
          (join (h.opens.standing j) (same_peer (h.opens.asked j).requester p && eqb (h.opens.asked j).context x)
          s.0 u)) c)
          (λ u. let k = both (same_peer (h.opens.asked j).endpoint p) (eqb j x)
          (sym (ap (λ b. b || (same_peer (h.opens.asked j).endpoint p && eqb j x)) u) ∙ s.1) in
          let q = eqb-true j x k.1 in (
            subst (λ y. (h.opens.standing y && same_peer (h.opens.asked y).endpoint p) ≡ true) q
                (join (h.opens.standing j) (same_peer (h.opens.asked j).endpoint p) s.0 k.0),
            q,
          ))

  -- and its id
  pub ended_open : any (named_by p x) w.pending ≡ true → leb 2 (count (named_by p x) w.pending) ≡ false
      → ended_by p x h ≡ record_found.circuit_id
  ended_open e l = split (by_context h p x)
      (λ c. let i = by-context c in
      let n = h.opens.named p x in
      split (eqb n j)
      (λ q. ap (λ b. cond b n x) c ∙ eqb-true n j q)
      (λ q. absurd (let k = two-shown n j i.0 s.0 i.1 s.1 q in
      let m = leb-false 2 (count (named_by p x) w.pending) l in omega arith)))
      (λ c. ap (λ b. cond b (h.opens.named p x) x) c
      ∙ split (same_peer (h.opens.asked j).requester p && eqb (h.opens.asked j).context x)
      (λ u. clash (subst (λ y. (h.opens.standing y
      && (same_peer (h.opens.asked y).requester p && eqb (h.opens.asked y).context x)) ≡ true)
      (sym (context-meant j s.0 u))
      (join (h.opens.standing j) (same_peer (h.opens.asked j).requester p && eqb (h.opens.asked j).context x)
      s.0 u)) c)
      (λ u. sym (eqb-true j x
      (both (same_peer (h.opens.asked j).endpoint p) (eqb j x)
      (sym (ap (λ b. b || (same_peer (h.opens.asked j).endpoint p && eqb j x)) u) ∙ s.1)).1)))
    where
      j : ℕ
      j = record_found.circuit_id

      s : (h.opens.standing j ≡ true) × (says h p x j ≡ true)
      s = is_seen e

  pub ended-circuit : any (named_by p x) w.pending ≡ false → ended_by p x h ≡ x
  ended-circuit e =
      split (by_context h p x)
      (λ c. let i = by-context c in clash (is-shown (h.opens.named p x) i.0 i.1) e)
      (λ c. ap (λ b. cond b (h.opens.named p x) x) c)

  pub ends-circuit : any (named_by p x) w.pending ≡ false → end_in p x h ≡ circuit_ended h x
  ends-circuit e = split (by_context h p x)
      (λ c. let i = by-context c in clash (is-shown (h.opens.named p x) i.0 i.1) e)
      (λ c. ap
      (λ b. cond b (open_ended h (h.opens.named p x)) (cond (by_id h p x) (open_ended h x) (circuit_ended h x))) c
      ∙ split (by_id h p x)
      (λ d. let i = by-id d in clash (is-shown x i.0 i.1) e)
      (λ d. ap (λ b. cond b (open_ended h x) (circuit_ended h x)) d))
