-- Disconnect, revoke_reservation and expire keep the invariant.
use Rattle.std.specs.Prelude.{ℕ, ◌+◌, ◌≤◌, ◌<◌, ◌≡◌, refl, Bool, true, false, Ok}
use Rattle.std.specs.Prelude.{cond, not, ◌&&◌, ◌||◌, List, [], leb, ltb, length}
use Rattle.std.proofs.Common.{arith, sym, ap, ◌∙◌, subst, true≢false, eqb-true, ltb-false}
use Rattle.std.proofs.lemmas.Bool.{false≢true, not-true}
use Rattle.std.proofs.Math.Bool.{or-true}
use Rattle.hns_encoding.specs.Numbers.{top}
use Rattle.hns_encoding.specs.Laws.Tests.{both}
use Rattle.hns_encoding.specs.Sums.{only, non, total}
use Rattle.hns_encoding.specs.Laws.Sums.{total-zero}
use Rattle.hnsr_body.specs.declared.values.ReservationId.{ReservationId}
use Rattle.hnsr_body.specs.Values.{same_reservation}
use Rattle.hnsr_body.specs.declared.messages.Notice.TheVariants.{PeerDisconnected, ReservationRevoked}
use Rattle.hnsr_body.specs.declared.messages.Notice.TheVariants.{AcceptanceExpired, TicketExpired}
use Rattle.hnsr_circuit.specs.declared.peer.HnsrPeerId.{HnsrPeerId}
use Rattle.hnsr_circuit.specs.declared.records.RelaySide.{RelaySide}
use Rattle.hnsr_circuit.specs.declared.records.RelaySide.TheVariants.{Requester, Endpoint}
use Rattle.hnsr_circuit.specs.declared.answer.HnsrRuntimeError.TheVariants.{ClockRollback}
use Rattle.hnsr_circuit.specs.Answers.{◌then◌}
use Rattle.hnsr_circuit.specs.Peer.{peer_of, same_peer}
use Rattle.hnsr_circuit.specs.Pending.{pending_of, pending_under, pending_over, overdue}
use Rattle.hnsr_circuit.specs.Circuits.{circuit_of, circuit_under, circuit_over, is_side}
use Rattle.hnsr_circuit.specs.Ledger.{lapsed}
use Rattle.hnsr_circuit.specs.Inflight.{action_toward, dropped}
use Rattle.hnsr_circuit.specs.World.{World, Outcome, at_time}
use Rattle.hnsr_circuit.specs.Queue.{sequence_of}
use Rattle.hnsr_circuit.specs.Entry.{room_answer, revoking_words, peer_answer, clock_answer}
use Rattle.hnsr_circuit.specs.Revocation.{revoke_pending, revoke_all}
use Rattle.hnsr_circuit.specs.RevokingCalls.{without_actions_toward, disconnect_pending}
use Rattle.hnsr_circuit.specs.RevokingCalls.{disconnect_peer, disconnect, without_usage, revoke_under}
use Rattle.hnsr_circuit.specs.RevokingCalls.{revoke_reservation, without_lapsed, expire_at, expire}
use Rattle.hnsr_circuit.specs.Call.{call_disconnect, call_revoke_reservation, call_expire}
use Rattle.hnsr_circuit.specs.Laws.Totals.{total-others}
use Rattle.hnsr_circuit.specs.Laws.Peer.{same_names, names_same}
use Rattle.hnsr_circuit.specs.Laws.Answers.{then_taken, check-taken}
use Rattle.hnsr_circuit.specs.Laws.Keyed.{same_comm}
use Rattle.hnsr_run.specs.Past.{Known, Book, Action, Past, peer_on, is_data, on_circuit, toward}
use Rattle.hnsr_run.specs.Past.{toward_side, weight, without, with_book, moved_to, unmade}
use Rattle.hnsr_run.specs.History.{asked_side, known_side, revoked, about, heard_on_leaving}
use Rattle.hnsr_run.specs.History.{asked_under, known_under, asked_over, known_over, after}
use Rattle.hnsr_run.specs.Run.Actions.{drop-acts}
use Rattle.hnsr_run.specs.Run.Circuits.{stray, side_to, none, suspend, drop-queue}
use Rattle.hnsr_run.specs.Run.Full.{Full, Keeps, rest-same}
use Rattle.hnsr_run.specs.Run.Ends.{by_error, labelled, labelled-own, revoking, disconnecting}
use Rattle.hnsr_run.specs.Run.Revocations.{revoke-all}
use Rattle.hnsr_run.specs.Run.Disconnecting.{leaving_heard}
use Rattle.hnsr_run.specs.Run.Books.{usage_keys, one-ledger, same_books, lapse_books, unmake_books}
use Rattle.hnsr_run.specs.Run.Rel.{Live, Rel, proceed-cases, if-taken, shrink, moved-rel, reledger, heads-rest}

-- ---- disconnect
side-known : (side : RelaySide) (k : Known) (p : HnsrPeerId) → same_peer (peer_on side k) p ≡ true
    → known_side p k ≡ true
side-known Requester k p e = ap (λ b. b || same_peer k.endpoint p) e
side-known Endpoint k p e = ap (λ b. same_peer k.requester p || b) e ∙ or-true (same_peer k.requester p)

-- DATA that goes to p is on a circuit of which p is a side
others_untouched : {S : ℕ → Bool} (w : World) (h : Past) → Full S w h → (p : HnsrPeerId) (j : ℕ)
    → known_side p (h.known j) ≡ false → (side : RelaySide)
    → total (only (toward p) (weight j side)) h.out ≡ 0
others_untouched w h F p j n side = total-others st (only (toward p) (weight j side)) h.out F.queue.honest
    ∙ total-zero (only (non st) (only (toward p) (weight j side))) h.out each
  where
    st : Action → Bool
    st = stray h.active h.known

    tests : (tw d oc ts x : Bool) (b : ℕ) → (d ≡ true → oc ≡ true → tw ≡ true → x ≡ true → ⊥)
        → cond (not (d && not x)) (cond tw (cond (d && (oc && ts)) b 0) 0) 0 ≡ 0
    tests true true true ts true b deny = absurd (deny refl refl refl refl)
    tests true true true ts false b deny = refl
    tests true true false ts true b deny = refl
    tests true true false ts false b deny = refl
    tests true false oc ts x b deny = refl
    tests false true oc ts true b deny = refl
    tests false true oc ts false b deny = refl
    tests false false oc ts x b deny = refl

    each : (a : Action) → only (non st) (only (toward p) (weight j side)) a ≡ 0
    each a =
        tests (toward p a) (is_data a) (on_circuit j a) (toward_side side a)
        (h.active a.circuit && same_peer a.destination (peer_on (side_to a) (h.known a.circuit))) a.bytes
        (λ d oc tw x. let P = peer_on (side_to a) (h.known a.circuit) in
        let s = (both (h.active a.circuit) (same_peer a.destination P) x).1 in
        let k = side-known (side_to a) (h.known a.circuit) p
        (names_same P p (sym (same_names a.destination P s) ∙ same_names a.destination p tw)) in
        true≢false (sym k ∙ ap (λ i. known_side p (h.known i)) (eqb-true a.circuit j oc) ∙ n))

toward-keeps : (w : World) (h : Past) (p : HnsrPeerId) → Full none w h
    → Keeps (λ i. known_side p (h.known i)) w (without_actions_toward w p) (without h (toward p))
unfolding dropped action_toward
toward-keeps w h p F = record {
  full = record {
    acts = drop-acts F.acts (toward p);
    circs = F.circs;
    queue =
        drop-queue (suspend F.queue (λ i. known_side p (h.known i)) (λ i s. refl)) (toward p)
        (λ j s a side. others_untouched w h F p j s side);
    pends = F.pends;
    disjoint = F.disjoint;
    real = F.real;
    real_p = F.real_p;
  };
  rest = record { ledger = one-ledger w.ledger; clock = refl; generation = refl; enabled = refl; config = refl };
}

pub less : (f g : ℕ → Bool) (i : ℕ) → (f i && g i) ≡ true → f i ≡ true
less f g i e = (both (f i) (g i) e).0

pub disconnect-keeps : {w : World} {h : Past} → Rel w h → (peer : List ℕ) (room : ℕ)
    → let o = disconnect w peer room in sequence_of w + length o.routes < top 64
    → Rel o.world (after h (call_disconnect peer room) o.answer o.routes)
unfolding disconnect disconnect_peer revoke_all pending_of circuit_of
disconnect-keeps {w} {h} R peer room next = proceed-cases
    (λ (o : Outcome). sequence_of w + length o.routes < top 64
    → Rel o.world (after h (call_disconnect peer room) o.answer o.routes)) w
    (room_answer w room (revoking_words w) then peer_answer (length peer)) (disconnect_peer w p)
    (λ e low. left-keeps low)
    (λ e f low. if-taken (λ (g : Past). Rel w g) e _ h R) next
  where
    p : HnsrPeerId
    p = peer_of peer

    left-keeps : let o = disconnect_peer w p in sequence_of w + length o.routes < top 64
        → Rel o.world
        (revoked (without h (toward p)) (asked_side p) (known_side p)
        (heard_on_leaving p (without h (toward p)) [] o.routes))
    left-keeps low = let K = toward-keeps w h p R.base.full in
        subst
        (λ told. Rel (disconnect_peer w p).world (revoked (without h (toward p)) (asked_side p) (known_side p) told))
        (sym (leaving_heard p (without_actions_toward w p) (without h (toward p)) K R.base.names
        R.base.heads.config low))
        (shrink R _ _ _
        (revoke-all (λ opcode k. true) (λ r. r.circuit) (without_actions_toward w p) (without h (toward p))
        (disconnect_pending p) PeerDisconnected (pending_of p)
        (λ x. same_peer x.requester p || same_peer x.endpoint p) (asked_side p) (λ x. refl)
        (λ x k A i. same_peer (A.requester i) p || same_peer (A.endpoint i) p) (circuit_of p) (is_side p) (known_side p)
        (λ x. refl) (λ x k A i. same_peer (A.requester i) p || same_peer (A.endpoint i) p) (λ i s a. s)
        (disconnecting p) (labelled-own (asked_side p) (known_side p) (without h (toward p))) K)
        (λ i. less h.active (λ j. not (known_side p (h.known j))) i)
        (λ i. less h.opens.standing (λ j. not (asked_side p (h.opens.asked j))) i))

-- ---- revoke_reservation
unmade-live : (now : ℕ) (b : Book) (id r : ReservationId) (e : ℕ) → not (same_reservation r id) ≡ true → Live now b r e
    → Live now (unmade b id) r e
unmade-live now b id r e n L = record {
  lives = ap (λ x. cond x false (b.made r) && ltb now (b.due r)) (same_comm usage_keys id r
      ∙ not-true (same_reservation r id) n) ∙ L.lives;
  due = L.due;
}

pub revoke-keeps : {w : World} {h : Past} → Rel w h → (id : ReservationId) (room : ℕ)
    → let o = revoke_reservation w id room in
    Rel o.world (after h (call_revoke_reservation id room) o.answer o.routes)
unfolding revoke_reservation revoke_under revoke_all pending_under circuit_under
revoke-keeps {w} {h} R id room =
    proceed-cases (λ (o : Outcome). Rel o.world (after h (call_revoke_reservation id room) o.answer o.routes)) w
    (room_answer w room (revoking_words w)) (revoke_under w id)
    (λ e. let K = revoke-all by_error (about h) (without_usage w id) (with_book h (unmade h.book id))
    (revoke_pending ReservationRevoked) ReservationRevoked (pending_under id)
    (λ x. same_reservation x.ticket.reservation_id id) (asked_under id) (λ x. refl)
    (λ x k A i. same_reservation (A.ticket i).reservation_id id) (circuit_under id)
    (λ x. same_reservation x.reservation_id id) (known_under id) (λ x. refl)
    (λ x k A i. same_reservation (A.reservation i) id) (λ i s a. absurd (false≢true s))
    (revoking (asked_under id) ReservationRevoked)
    (labelled (asked_under id) (known_under id) (with_book h (unmade h.book id)) R.base.names)
    (record { full = R.base.full; rest = rest-same (without_usage w id) }) in record {
      base = record {
        full = K.full;
        books = same_books K.rest.ledger (unmake_books R.base.books id);
        kept = λ j a x. let k = both (h.active j) (not (known_under id (h.known j))) a in
            unmade-live h.head.clock h.book id (h.known j).reservation (h.known j).expires k.1
            (R.base.kept j k.0 x);
        kept_p = λ j a x. let k = both (h.opens.standing j) (not (asked_under id (h.opens.asked j))) a in
            unmade-live h.head.clock h.book id (h.opens.asked j).ticket.reservation_id
            (h.opens.asked j).ticket.expires_at k.1 (R.base.kept_p j k.0 x);
        heads = heads-rest K.rest R.base.heads;
        names = λ j a. R.base.names j (both (h.opens.standing j) (not (asked_under id (h.opens.asked j))) a).0;
        drawn = λ j a. R.base.drawn j (both (h.active j) (not (known_under id (h.known j))) a).0;
        drawn_p = λ j a. R.base.drawn_p j (both (h.opens.standing j) (not (asked_under id (h.opens.asked j))) a).0;
        good = R.base.good;
        below = R.base.below;
      };
      quiet = λ x j. ap (λ b. b && not (known_under id (h.known j))) (R.quiet x j);
      quiet_p = λ x j. ap (λ b. b && not (asked_under id (h.opens.asked j))) (R.quiet_p x j);
    })
    (λ e f. if-taken (λ (g : Past). Rel w g) e _ h R)

-- ---- expire
pub clock-taken : (high now : ℕ) → clock_answer high now ≡ Ok tt → high ≤ now
unfolding clock_answer
clock-taken high now e = ltb-false now high (check-taken (ltb now high) ClockRollback e)

pub expire-keeps : {w : World} {h : Past} → Rel w h → (now room : ℕ)
    → let o = expire w now room in Rel o.world (after h (call_expire now room) o.answer o.routes)
unfolding expire expire_at revoke_all pending_over circuit_over
expire-keeps {w} {h} R now room =
    proceed-cases (λ (o : Outcome). Rel o.world (after h (call_expire now room) o.answer o.routes)) w
    (room_answer w room (revoking_words w) then clock_answer w.runtime.trusted_time_high_water now) (expire_at w now)
    (λ e. let l = clock-taken w.runtime.trusted_time_high_water now
    (then_taken (room_answer w room (revoking_words w)) (clock_answer w.runtime.trusted_time_high_water now) e).1 in
    let R₁ = moved-rel R now (omega (arith, R.base.heads.clock)) in
    let R₂ = reledger R₁ (lapsed now w.ledger) (lapse_books R₁.base.books) in
    shrink R₂ _ _ _
    (revoke-all by_error (about h) (without_lapsed (at_time w now) now) (moved_to h now)
    (revoke_pending AcceptanceExpired) TicketExpired (pending_over now) (overdue now) (asked_over now) (λ x. refl)
    (λ x k A i. leb (A.deadline i) now || leb (A.ticket i).expires_at now) (circuit_over now)
    (λ x. leb x.expires_at now) (known_over now) (λ x. refl) (λ x k A i. leb (A.expires i) now)
    (λ i s a. absurd (false≢true s)) (revoking (asked_over now) AcceptanceExpired)
    (labelled (asked_over now) (known_over now) (moved_to h now) R.base.names)
    (record { full = R₂.base.full; rest = rest-same (without_lapsed (at_time w now) now) }))
    (λ i. less h.active (λ j. not (known_over now (h.known j))) i)
    (λ i. less h.opens.standing (λ j. not (asked_over now (h.opens.asked j))) i))
    (λ e f. if-taken (λ (g : Past). Rel w g) e _ h R)
