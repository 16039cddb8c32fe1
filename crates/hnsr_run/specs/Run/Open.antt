-- OPEN keeps the invariant: refused, it may have dropped or made a ledger record; taken, an OPEN stands and INCOMING is
-- queued.
use Rattle.std.specs.Prelude.{ℕ, ◌+◌, ◌<◌, ◌≡◌, refl, Bool, true, false, cond, Ok, Err}
use Rattle.std.specs.Prelude.{not, ◌&&◌, ◌||◌, is_none, [], leb, ltb, eqb, length}
use Rattle.std.proofs.Common.{sym, ap, ◌∙◌, leb-false}
use Rattle.std.proofs.lemmas.Bool.{not-false}
use Rattle.hns_encoding.specs.Numbers.{top}
use Rattle.hns_encoding.specs.Laws.Tests.{split, choose, clash, neither}
use Rattle.hns_encoding.specs.Sums.{count, non}
use Rattle.hnsr_body.specs.declared.values.ReservationId.{ReservationId}
use Rattle.hnsr_body.specs.Values.{same_reservation}
use Rattle.hnsr_body.specs.declared.error.HnsrProtocolError.{HnsrProtocolError}
use Rattle.std.specs.Prelude.{Result}
use Rattle.hnsr_body.specs.declared.error.HnsrProtocolError.TheVariants.{Admission}
use Rattle.hnsr_body.specs.Open.{decode_open}
use Rattle.hnsr_circuit.specs.declared.records.RelayTicket.{RelayTicket}
use Rattle.hnsr_circuit.specs.declared.answer.HnsrRuntimeError.{HnsrRuntimeError}
use Rattle.hnsr_circuit.specs.declared.answer.HnsrRuntimeError.TheVariants.{Protocol, Capacity, Deadline}
use Rattle.hnsr_circuit.specs.declared.answer.HnsrRuntimeError.TheVariants.{InvalidPeer, Randomness, LedgerFull}
use Rattle.hnsr_circuit.specs.Answers.{HnsrAnswer, error_number, number, check, body_answer, ◌then◌}
use Rattle.hnsr_circuit.specs.Table.{any}
use Rattle.hnsr_circuit.specs.Peer.{peer_good, same_peer}
use Rattle.hnsr_circuit.specs.Pending.{requested_by}
use Rattle.hnsr_circuit.specs.Ledger.{is_usage, clear_usage, has_usage, booked, ledger_answer}
use Rattle.hnsr_circuit.specs.Inflight.{tallied, capacity_left, capacity_answer}
use Rattle.hnsr_circuit.specs.World.{World, config_of, with_ledger}
use Rattle.hnsr_circuit.specs.Counts.{pending_count, circuit_count, peer_work, reservation_work}
use Rattle.hnsr_circuit.specs.Entry.{peer_answer}
use Rattle.hnsr_circuit.specs.Packet.{Packet, sender}
use Rattle.hnsr_circuit.specs.Draw.{drawn, draw_answer}
use Rattle.hnsr_circuit.specs.Open.{open_answer, admission_answer, endpoint_answer}
use Rattle.hnsr_circuit.specs.Open.{deadline_answer, Opening, open_admitted, open_placed}
use Rattle.hnsr_circuit.specs.Laws.Answers.{then_taken, check-taken}
use Rattle.hnsr_circuit.specs.Laws.Marks.{room}
use Rattle.hnsr_circuit.specs.Laws.Keys.{same-reservation}
use Rattle.hnsr_run.specs.Past.{Book, Past, with_book, lives, anew, remade}
use Rattle.hnsr_run.specs.History.{taken, open_in}
use Rattle.hnsr_run.specs.Run.Booking.{book-found, book-made}
use Rattle.hnsr_run.specs.Run.Rel.{Live, Rel, if-not, not_taken, reledger}

-- ---- the rows

pub record Admitted (w : World) (q : Packet) : Type 0 where
  pub pending : pending_count w < (config_of w).maximum_pending
  pub new : any (requested_by (sender q) q.context) w.pending ≡ false
  pub granted : q.admission.admitted ≡ true
  pub unexpired : q.now < q.admission.ticket.expires_at

pub admitted-rows : (w : World) (q : Packet) → open_admitted w q ≡ Ok tt → Admitted w q
unfolding open_admitted open_answer admission_answer
admitted-rows w q e =
    let a = leb (config_of w).maximum_pending (pending_count w) in
    let b = leb (config_of w).maximum_circuits (circuit_count w) in
    let c = leb (config_of w).maximum_circuits_per_peer (peer_work w (sender q)) in
    let d = any (requested_by (sender q) q.context) w.pending in
    let first = check (a || b || c || d) Capacity in
    let body = body_answer (decode_open q.key_valid q.body).result in
    let x = not q.admission.admitted in
    let y = leb q.admission.ticket.expires_at q.now in
    let last = check (x || y) (Protocol Admission) in
    let f = then_taken first (body then last) e in
    let g = then_taken body last f.1 in
    let h = neither (a || b || c) d (check-taken (a || b || c || d) Capacity f.0) in
    let i = neither a b (neither (a || b) c h.0).0 in
    let j = neither x y (check-taken (x || y) (Protocol Admission) g.1) in
    record {
      pending = leb-false (config_of w).maximum_pending (pending_count w) i.0;
      new = h.1;
      granted = not-false q.admission.admitted j.0;
      unexpired = leb-false q.admission.ticket.expires_at q.now j.1;
    }

pub record Placed (w : World) (q : Packet) (o : Opening) : Type 0 where
  pub apart : same_peer o.endpoint o.requester ≡ false
  pub drawn : is_none (drawn w q.random) ≡ false
  pub room : capacity_answer (config_of w) (tallied false o.id o.endpoint w.inflight) ≡ Ok tt
  pub ledger : (not (has_usage o.ticket.reservation_id w.ledger)
      && leb (length w.ledger) (count is_usage w.ledger)) ≡ false

pub placed-rows : (w : World) (q : Packet) (o : Opening) → open_placed w q o ≡ Ok tt → Placed w q o
unfolding open_placed endpoint_answer draw_answer ledger_answer
placed-rows w q o e =
    let peer = peer_answer (length q.admission.endpoint) in
    let s = same_peer o.endpoint o.requester in
    let t = leb (config_of w).maximum_circuits_per_peer (peer_work w o.endpoint) in
    let u = leb o.ticket.max_active_circuits (reservation_work w o.body.reservation_id) in
    let ends = check (s || t || u) Capacity in
    let f = is_none (drawn w q.random) in
    let draw = check f Randomness in
    let cap = capacity_answer (config_of w) (tallied false o.id o.endpoint w.inflight) in
    let late = deadline_answer (config_of w) q.now in
    let l =
    not (has_usage o.ticket.reservation_id w.ledger) && leb (length w.ledger) (count is_usage w.ledger) in
    let full = check l LedgerFull in
    let a = then_taken peer (ends then draw then cap then late then full) e in
    let b = then_taken ends (draw then cap then late then full) a.1 in
    let c = then_taken draw (cap then late then full) b.1 in
    let d = then_taken cap (late then full) c.1 in
    let g = then_taken late full d.1 in record {
      apart = (neither s t (neither (s || t) u (check-taken (s || t || u) Capacity b.0)).0).0;
      drawn = check-taken f Randomness c.0;
      room = d.0;
      ledger = check-taken l LedgerFull g.1;
    }

-- neither row answers 18
admitted-never : (x z : Bool) (b : Result Unit HnsrProtocolError)
    → eqb (number (check x Capacity then body_answer b then check z (Protocol Admission))) 18 ≡ false
admitted-never true z b = refl
admitted-never false z (Err c) = refl
admitted-never false true (Ok done) = refl
admitted-never false false (Ok done) = refl

pub never-admitted : (w : World) (q : Packet) → eqb (number (open_admitted w q)) 18 ≡ false
unfolding open_admitted open_answer admission_answer
never-admitted w q =
    admitted-never
    (leb (config_of w).maximum_pending (pending_count w) || leb (config_of w).maximum_circuits (circuit_count w)
    || leb (config_of w).maximum_circuits_per_peer (peer_work w (sender q))
    || any (requested_by (sender q) q.context) w.pending)
    (not q.admission.admitted || leb q.admission.ticket.expires_at q.now)
    (decode_open q.key_valid q.body).result

placed-never : (a b c d e f : Bool)
    → eqb (number (check a InvalidPeer
    then check b Capacity
    then check c Randomness
    then check d Capacity
    then check e Deadline
    then check f LedgerFull)) 18 ≡ false
placed-never true b c d e f = refl
placed-never false true c d e f = refl
placed-never false false true d e f = refl
placed-never false false false true e f = refl
placed-never false false false false true f = refl
placed-never false false false false false true = refl
placed-never false false false false false false = refl

pub never_placed : (w : World) (q : Packet) (o : Opening) → eqb (number (open_placed w q o)) 18 ≡ false
unfolding open_placed peer_answer endpoint_answer draw_answer capacity_answer deadline_answer ledger_answer
never_placed w q o = placed-never (not (peer_good (length q.admission.endpoint)))
    (same_peer o.endpoint o.requester || leb (config_of w).maximum_circuits_per_peer (peer_work w o.endpoint)
    || leb o.ticket.max_active_circuits (reservation_work w o.body.reservation_id))
    (is_none (drawn w q.random))
    (eqb (capacity_left (config_of w) (tallied false o.id o.endpoint w.inflight)) 0)
    (ltb (top 64) (q.now + (config_of w).accept_timeout_seconds))
    (not (has_usage o.ticket.reservation_id w.ledger) && leb (length w.ledger) (count is_usage w.ledger))

-- a refusal that is neither: the past stays
pub stays : (w : World) (q : Packet) (h : Past) (a : HnsrAnswer) (e : HnsrRuntimeError) → a ≡ Err e
    → eqb (number a) 18 ≡ false → Rel w h
    → Rel w (open_in q (Err e) [] h)
stays w q h a e f n R =
    if-not (λ (g : Past). Rel w g) (taken (Err e)) _ _ (not_taken e)
    (if-not (λ (g : Past). Rel w g) (eqb (error_number e) 18) _ h
    (ap (λ (x : HnsrAnswer). eqb (number x) 18) (sym f) ∙ n) R)

-- ---- the ledger record
module _ {w : World} {h : Past} (R : Rel w h) (t : RelayTicket) (l : ltb h.head.clock t.expires_at ≡ true)
    (same : has_usage t.reservation_id w.ledger ≡ lives h.head.clock h.book t.reservation_id)
    (space : (not (has_usage t.reservation_id w.ledger) && leb (length w.ledger) (count is_usage w.ledger))
    ≡ false) where
  made-live : (r : ReservationId) (e : ℕ) → lives h.head.clock h.book t.reservation_id ≡ false
      → Live h.head.clock h.book r e
      → Live h.head.clock (anew h.book t) r e
  made-live r e n L = split (same_reservation t.reservation_id r)
      (λ q.
      clash L.lives (ap (lives h.head.clock h.book) (sym (same-reservation t.reservation_id r q)) ∙ n))
      (λ q. record {
        lives =
            ap (λ x. cond x true (h.book.made r) && ltb h.head.clock (cond x t.expires_at (h.book.due r)))
            q
            ∙ L.lives;
        due = ap
            (λ x. cond x t.expires_at (h.book.due r)) q ∙ L.due;
      })

  has-space : has_usage t.reservation_id w.ledger ≡ false → any (non is_usage) w.ledger ≡ true
  has-space f = room is_usage clear_usage w.ledger (leb-false (length w.ledger) (count is_usage w.ledger) (sym (ap
      (λ b. not b && leb (length w.ledger) (count is_usage w.ledger)) f) ∙ space))

  pub booked-rel : Rel (with_ledger w (booked t w.ledger)) (with_book h (remade h.head.clock h.book t))
  booked-rel =
      choose (λ (b : Book). Rel (with_ledger w (booked t w.ledger)) (with_book h b))
      (lives h.head.clock h.book t.reservation_id) h.book (anew h.book t)
      (λ y. reledger R (booked t w.ledger) (book-found R.base.books t (same ∙ y)))
      (λ y. record {
        base = record {
          full = R.base.full;
          books = book-made R.base.books t (same ∙ y) (has-space (same ∙ y)) l;
          kept = λ j a x. made-live (h.known j).reservation (h.known j).expires y (R.base.kept j a x);
          kept_p =
              λ j a x. made-live (h.opens.asked j).ticket.reservation_id (h.opens.asked j).ticket.expires_at
              y (R.base.kept_p j a x);
          heads = R.base.heads;
          names = R.base.names;
          drawn = R.base.drawn;
          drawn_p = R.base.drawn_p;
          good = R.base.good;
          below = R.base.below;
        };
        quiet = R.quiet;
        quiet_p = R.quiet_p;
      })
