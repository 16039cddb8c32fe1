-- OPEN once its rows have passed: the pending record is written under a fresh id, and INCOMING queued.
use Rattle.std.specs.Prelude.{ℕ, ◌<◌, ◌≡◌, false, ◌&&◌, ◌||◌, [], ◌∷◌, Ok}
use Rattle.std.proofs.Common.{arith, ◌∙◌, true≢false}
use Rattle.std.proofs.Math.Path.{refl, sym, ap, subst}
use Rattle.std.proofs.Math.Bool.{true, cond, or-true}
use Rattle.std.proofs.Math.Dec.{ltb, eqb}
use borrow.Author.Tests.{eqb-true, eq-eqb}
use Rattle.hns_encoding.specs.Numbers.{top}
use Rattle.hns_encoding.specs.Laws.Tests.{split, choose, clash, both, join}
use Rattle.hns_encoding.specs.Sums.{count, non}
use Rattle.hnsr_circuit.specs.declared.peer.HnsrPeerId.{HnsrPeerId}
use Rattle.hnsr_circuit.specs.Table.{any, pick, put}
use Rattle.hnsr_circuit.specs.Peer.{peer_bytes, same_peer}
use Rattle.hnsr_circuit.specs.Pending.{no_pending, is_pending, pending_at, clear_pending, requester_names, requested_by}
use Rattle.hnsr_circuit.specs.Inflight.{tallied, capacity_answer}
use Rattle.hnsr_circuit.specs.World.{World, config_of, done}
use Rattle.hnsr_circuit.specs.Queue.{Message, sequence_of, queued, routed, send}
use Rattle.hnsr_circuit.specs.Open.{Opening, pending_for, incoming_message, with_open}
use Rattle.hnsr_circuit.specs.Laws.Marks.{room}
use Rattle.hnsr_circuit.specs.Laws.Peer.{same_names, names_same}
use Rattle.hnsr_circuit.specs.Laws.Keyed.{Looks, store_looks, store_tells, shown}
use Rattle.hnsr_circuit.specs.Laws.Capacity.{can-queue, send-taken}
use Rattle.hnsr_run.specs.Past.{Asked, Past, at, heard, emit, stood}
use Rattle.hnsr_run.specs.Run.Actions.{room_of_lem}
use Rattle.hnsr_run.specs.Run.Circuits.{none}
use Rattle.hnsr_run.specs.Run.Full.{AgreesP, pending_keys, Full, Quiet, queue-full}
use Rattle.hnsr_run.specs.Run.Rel.{Live, Rel, Places}

-- ---- all is written, and INCOMING queued
module _ {w : World} {h : Past} (R : Rel w h) (H : Places w) (low : sequence_of w < top 64) (o : Opening) (k : Asked)
    (A : AgreesP (pending_for o) k) (on : h.head.enabled ≡ true)
    (unpending : any (pending_at o.id) w.pending ≡ false) (inactive : h.active o.id ≡ false)
    (some : eqb o.id 0 ≡ false) (few : count is_pending w.pending < (config_of w).maximum_pending)
    (new : any (requested_by o.requester o.context) w.pending ≡ false)
    (has_room : capacity_answer (config_of w) (tallied false o.id o.endpoint w.inflight) ≡ Ok tt)
    (live : Live h.head.clock h.book k.ticket.reservation_id k.ticket.expires_at) where
  abbrev pub j : ℕ
  j = o.id

  space : any (non is_pending) w.pending ≡ true
  space = room is_pending clear_pending w.pending (omega (arith, H.pending))

  looks : Looks pending_keys o.id (pending_for o) w.pending
      (put is_pending (pending_at o.id) (pending_for o) w.pending)
  unfolding is_pending pending_at
  looks = store_looks pending_keys o.id (pending_for o) w.pending (eq-eqb o.id o.id refl) (λ x. space)

  pub full : Full none (with_open w o) (stood h o.id k)
  unfolding with_open
  full = let F = R.base.full in record {
    acts = F.acts;
    circs = F.circs;
    queue = F.queue;
    pends =
        store_tells pending_keys F.pends j (pending_for o) k
        (put is_pending (pending_at o.id) (pending_for o) w.pending) (at j true h.opens.standing)
        (at j k h.opens.asked) looks A
        (λ i. refl)
        (λ i. refl);
    disjoint =
        λ i s. split (eqb j i)
        (λ e. ap h.active (sym (eqb-true j i e)) ∙ inactive)
        (λ e. F.disjoint i (sym (ap (λ b. cond b true (h.opens.standing i)) e) ∙ s));
    real = F.real;
    real_p =
        λ i s. split (eqb j i)
        (λ e. ap (λ x. eqb x 0) (sym (eqb-true j i e)) ∙ some)
        (λ e. F.real_p i (sym (ap (λ b. cond b true (h.opens.standing i)) e) ∙ s));
  }

  -- the names of the other OPENs lead where they led
  other_name : (i : ℕ) → h.opens.standing i ≡ true → (p : HnsrPeerId)
      → same_peer (h.opens.asked i).requester p ≡ true
      → cond (same_peer k.requester p && eqb k.context (h.opens.asked i).context) j
      (h.opens.named p (h.opens.asked i).context) ≡ i
  unfolding requested_by pending_at
  other_name i a p s =
      choose (λ (x : ℕ). x ≡ i) (same_peer k.requester p && eqb k.context (h.opens.asked i).context) j
      (h.opens.named p (h.opens.asked i).context)
      (λ e. let c = both (same_peer k.requester p) (eqb k.context (h.opens.asked i).context) e in
      let B = R.base.full.pends.agree i a in
      let x = pick (pending_at i) no_pending w.pending in
      clash (shown pending_keys R.base.full.pends (requester_names o.requester o.context) i a
      (join (same_peer x.requester o.requester) (eqb x.requester_context o.context)
      (names_same x.requester o.requester
      (ap peer_bytes B.requester
      ∙ same_names (h.opens.asked i).requester p s
      ∙ sym (same_names k.requester p c.0)
      ∙ sym (ap peer_bytes A.requester)))
      (eq-eqb x.requester_context o.context
      (B.context ∙ sym (eqb-true k.context (h.opens.asked i).context c.1) ∙ sym A.context)))) new)
      (λ e. R.base.names i a p s)

  unfoldable pub message : Message
  message = incoming_message o

  quiet-incoming : Quiet (heard (λ r. j)) message
  unfolding message incoming_message
  quiet-incoming = record { plain = refl; same = λ g s. refl }

  some-context : eqb message.context 0 ≡ false
  unfolding message incoming_message
  some-context = some

  can-room : capacity_answer (config_of (with_open w o))
      (tallied false message.circuit message.destination (with_open w o).inflight) ≡ Ok tt
  unfolding with_open message incoming_message
  can-room = has_room

  same-sequence : sequence_of (with_open w o) ≡ sequence_of w
  unfolding with_open
  same-sequence = refl

  pub can : send (with_open w o) message ≡ done (queued message (with_open w o)) (routed message (with_open w o) ∷ [])
  can =
      send-taken (with_open w o) message
      (can-queue message (with_open w o) some-context (subst (λ n. n < top 64) (sym same-sequence) low) can-room)

  pub rel : Rel (queued message (with_open w o))
      (emit (stood h o.id k) (heard (λ r. o.id)) (routed message (with_open w o) ∷ []))
  unfolding queued with_open
  rel = record {
    base = record {
      full =
          queue-full (with_open w o) (stood h o.id k) message full quiet-incoming
          (room_of_lem (config_of w) message.circuit message.destination (with_open w o).inflight can-room);
      books = R.base.books;
      kept = R.base.kept;
      kept_p = λ i a e. split (eqb j i)
          (λ x. subst
          (λ (y : Asked). Live h.head.clock h.book y.ticket.reservation_id y.ticket.expires_at)
          (sym (ap (λ b. cond b k (h.opens.asked i)) x)) live)
          (λ x. subst
          (λ (y : Asked). Live h.head.clock h.book y.ticket.reservation_id y.ticket.expires_at)
          (sym (ap (λ b. cond b k (h.opens.asked i)) x))
          (R.base.kept_p i (sym (ap (λ b. cond b true (h.opens.standing i)) x) ∙ a)
          (ap (λ (y : Asked). ltb h.head.clock y.ticket.expires_at)
          (sym (ap (λ b. cond b k (h.opens.asked i)) x))
          ∙ e)));
      heads = R.base.heads;
      names = λ i a p s. split (eqb j i)
          (λ x. let y = ap (λ b. cond b k (h.opens.asked i)) x in
          subst (λ (z : Asked). same_peer z.requester p ≡ true
          → cond (same_peer k.requester p && eqb k.context z.context) j (h.opens.named p z.context) ≡ i)
          (sym y)
          (λ t. ap (λ b. cond b j (h.opens.named p k.context))
          (join (same_peer k.requester p) (eqb k.context k.context) t (eq-eqb k.context k.context refl))
          ∙ eqb-true j i x) s)
          (λ x. let y = ap (λ b. cond b k (h.opens.asked i)) x in
          subst (λ (z : Asked). same_peer z.requester p ≡ true
          → cond (same_peer k.requester p && eqb k.context z.context) j (h.opens.named p z.context) ≡ i)
          (sym y) (λ t. other_name i (sym (ap (λ b. cond b true (h.opens.standing i)) x) ∙ a) p t) s);
      drawn = λ i a. ap (λ b. eqb j i || b) (R.base.drawn i a) ∙ or-true (eqb j i);
      drawn_p = λ i a. split (eqb j i) (λ x. ap (λ b. b || any (λ m. eqb m i) h.opens.ids) x)
          (λ x. ap (λ b. eqb j i || b) (R.base.drawn_p i (sym (ap (λ b. cond b true (h.opens.standing i)) x) ∙ a))
          ∙ or-true (eqb j i));
      good = R.base.good;
      below = R.base.below;
    };
    quiet = λ e. absurd (true≢false (sym on ∙ e));
    quiet_p = λ e. absurd (true≢false (sym on ∙ e));
  }
