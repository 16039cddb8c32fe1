-- OPEN keeps the invariant: its rows in order, what each refusal leaves, and the rest.
use Rattle.std.specs.Prelude.{ℕ, ◌<◌, ◌≡◌, refl, Bool, true, false, cond, not, ◌||◌, List, [], ◌∷◌, leb, ltb, eqb}
use Rattle.std.specs.Prelude.{Ok, Err, Option, is_none, unwrap_or}
use Rattle.std.proofs.Common.{arith, sym, ap, ◌∙◌, true≢false, eqb-true, eq-eqb, lt-ltb}
use Rattle.std.proofs.Math.Path.{subst}
use Rattle.std.proofs.lemmas.Bool.{not-false}
use Rattle.hns_encoding.specs.Numbers.{top}
use Rattle.hns_encoding.specs.Laws.Tests.{neither}
use Rattle.hns_encoding.specs.Sums.{count}
use Rattle.hnsr_circuit.specs.declared.config.OpaqueRelayConfig.{OpaqueRelayConfig}
use Rattle.hnsr_circuit.specs.declared.records.RelayTicket.{RelayTicket}
use Rattle.hnsr_circuit.specs.declared.records.ReservationUsage.{ReservationUsage}
use Rattle.hnsr_circuit.specs.declared.answer.HnsrRuntimeError.{HnsrRuntimeError}
use Rattle.hnsr_circuit.specs.declared.answer.HnsrRuntimeError.TheVariants.{ByteLimit}
use Rattle.hnsr_circuit.specs.Answers.{HnsrAnswer, error_number, number, check}
use Rattle.hnsr_circuit.specs.Table.{any}
use Rattle.hnsr_circuit.specs.Peer.{peer_of}
use Rattle.hnsr_circuit.specs.Pending.{is_pending, pending_at}
use Rattle.hnsr_circuit.specs.Circuits.{circuit_at}
use Rattle.hnsr_circuit.specs.Ledger.{lapsed, has_usage, usage_of, booked, usage_answer}
use Rattle.hnsr_circuit.specs.World.{World, Outcome, config_of, with_ledger}
use Rattle.hnsr_circuit.specs.Queue.{sequence_of, queued, routed, send}
use Rattle.hnsr_circuit.specs.Counts.{pending_count}
use Rattle.hnsr_circuit.specs.Packet.{Packet, sender}
use Rattle.hnsr_circuit.specs.Draw.{draws, id_taken, draw_all, drawn}
use Rattle.hnsr_circuit.specs.Open.{deadline_for, Opening, pending_for, incoming_message, with_open, opening}
use Rattle.hnsr_circuit.specs.Open.{open_admitted, open_placed, open_booked, open_granted, open_lapsed, handle_open}
use Rattle.hnsr_circuit.specs.Laws.Answers.{check-taken}
use Rattle.hnsr_circuit.specs.Laws.Peer.{same_comm}
use Rattle.hnsr_run.specs.Past.{Asked, Book, Past, heard, emit, stood, with_book, lives, remade}
use Rattle.hnsr_run.specs.History.{taken, drawn_in, asked_for, open_in}
use Rattle.hnsr_run.specs.Run.Full.{AgreesP, Full}
use Rattle.hnsr_run.specs.Run.Circuits.{none}
use Rattle.hnsr_run.specs.Run.Ends.{pending-there, circuit-there}
use Rattle.hnsr_run.specs.Run.Books.{lapse_books, lapsed-lives}
use Rattle.hnsr_run.specs.Run.Booking.{lives-remade, Free, draw_free}
use Rattle.hnsr_run.specs.Run.Open.{Admitted, admitted-rows, Placed, placed-rows}
use Rattle.hnsr_run.specs.Run.Open.{never-admitted, never_placed, stays, booked-rel}
use Rattle.hnsr_run.specs.Run.Rel.{Live, Rel, Places, proceed-cases, if-not, not_taken, reledger}
use Rattle.hnsr_run.specs.Run.Opening.{message, can, rel}

-- ---- the call
check-number : (b : Bool) (x e : HnsrRuntimeError) → check b x ≡ Err e
    → eqb (error_number e) (error_number x) ≡ true
check-number true x e f = eq-eqb (error_number e) (error_number x) (sym (ap number f))
check-number false x e f = eq-eqb (error_number e) (error_number x) (absurd (true≢false (unlike f)))
  where
    unlike : ◌≡◌ {A = HnsrAnswer} (Ok tt) (Err e) → true ≡ false
    unlike h = cc

usage_number : (t : RelayTicket) (u : ReservationUsage) (e : HnsrRuntimeError) → usage_answer t u ≡ Err e
    → eqb (error_number e) 18 ≡ true
unfolding usage_answer
usage_number t u e f =
    check-number (not (eqb u.expires_at t.expires_at) || leb t.max_total_bytes u.bytes) ByteLimit e f

usage_expiry : (t : RelayTicket) (u : ReservationUsage) → usage_answer t u ≡ Ok tt → u.expires_at ≡ t.expires_at
unfolding usage_answer
usage_expiry t u e =
    eqb-true u.expires_at t.expires_at
    (not-false (eqb u.expires_at t.expires_at)
    (neither (not (eqb u.expires_at t.expires_at)) (leb t.max_total_bytes u.bytes)
    (check-taken (not (eqb u.expires_at t.expires_at) || leb t.max_total_bytes u.bytes)
    ByteLimit e)).0)

same_draw : (w : World) (h : Past) → Full none w h → (random : List ℕ)
    → drawn w random ≡ draw_all (λ j. h.opens.standing j || h.active j) 0 0 (draws random)
unfolding drawn id_taken
same_draw w h F random = λ i. draw_all (λ j. pending-there w h F j i || circuit-there w h F j i) 0 0 (draws random)

drawn-free : (w : World) (random : List ℕ) → is_none (drawn w random) ≡ false
    → Free (id_taken w) (unwrap_or (drawn w random) 0)
unfolding drawn
drawn-free w random e = draw_free (id_taken w) 0 0 (draws random) e

untaken : (w : World) (id : ℕ) → id_taken w id ≡ false
    → (any (pending_at id) w.pending ≡ false) × (any (circuit_at id) w.circuits ≡ false)
unfolding id_taken
untaken w id e = neither (any (pending_at id) w.pending) (any (circuit_at id) w.circuits) e

few-pending : (w : World) (q : Packet) → Admitted w q → count is_pending w.pending < (config_of w).maximum_pending
unfolding pending_count
few-pending w q D = D.pending

module _ {w : World} {h : Past} (R : Rel w h) (H : Places w) (low : sequence_of w < top 64) (q : Packet)
    (clock : h.head.clock ≡ q.now) (on : h.head.enabled ≡ true) (ctx : eqb q.context 0 ≡ false)
    (tot : q.admission.admitted ≡ true → q.admission.ticket.max_total_bytes < top 64) where
  abbrev ticket : RelayTicket
  ticket = q.admission.ticket

  abbrev w₁ : World
  w₁ = with_ledger w (lapsed q.now w.ledger)

  abbrev o₁ : Opening
  o₁ = opening w₁ q

  abbrev w₂ : World
  w₂ = with_ledger w₁ (booked ticket w₁.ledger)

  R₁ : Rel w₁ h
  R₁ =
      subst (λ n. Rel (with_ledger w (lapsed n w.ledger)) h) clock
      (reledger R (lapsed h.head.clock w.ledger) (lapse_books R.base.books))

  module _ (D : Admitted w q) (E : Placed w₁ q o₁) where
    unexpired : ltb h.head.clock ticket.expires_at ≡ true
    unexpired = lt-ltb h.head.clock ticket.expires_at (omega (arith, clock, D.unexpired))

    alive : has_usage ticket.reservation_id w₁.ledger
        ≡ lives h.head.clock h.book ticket.reservation_id
    alive =
        subst (λ n. has_usage ticket.reservation_id (lapsed n w.ledger)
        ≡ lives h.head.clock h.book ticket.reservation_id) clock
        (lapsed-lives R.base.books ticket.reservation_id)

    abbrev book₂ : Book
    book₂ = remade h.head.clock h.book ticket

    R₂ : Rel w₂ (with_book h book₂)
    R₂ = booked-rel R₁ ticket unexpired alive E.ledger

    later : book₂ ≡ remade q.now h.book ticket
    later = ap (λ n. remade n h.book ticket) clock

    free : Free (id_taken w₁) o₁.id
    free = drawn-free w₁ q.random E.drawn

    agrees : AgreesP (pending_for o₁) (asked_for h.head.config q)
    agrees = record {
      requester = refl;
      endpoint = refl;
      apart = same_comm (sender q) (peer_of q.admission.endpoint) ∙ E.apart;
      context = refl;
      some = ctx;
      ticket = refl;
      deadline = ap (λ (c : OpaqueRelayConfig). deadline_for c ticket q.now) R.base.heads.config;
      totalled = tot D.granted;
    }

    finish : usage_answer ticket (usage_of ticket.reservation_id w₂.ledger) ≡ Ok tt
        → let o = send (with_open w₂ o₁) (incoming_message o₁) in Rel o.world (open_in q o.answer o.routes h)
    unfolding message
    finish y =
        subst (λ (o : Outcome). Rel o.world (open_in q o.answer o.routes h))
        (sym (can R₂ H₂ low o₁ k agrees on u.0 inactive free.some (few-pending w q D) D.new E.room live))
        (into-past
        (rel R₂ H₂ low o₁ k agrees on u.0 inactive free.some (few-pending w q D) D.new E.room live))
      where
        k : Asked
        k = asked_for h.head.config q

        H₂ : Places w₂
        H₂ = record { pending = H.pending; circuits = H.circuits; inflight = H.inflight }

        u : (any (pending_at o₁.id) w.pending ≡ false) × (any (circuit_at o₁.id) w.circuits ≡ false)
        u = untaken w₁ o₁.id free.untaken

        inactive : h.active o₁.id ≡ false
        inactive = sym (circuit-there w h R.base.full o₁.id) ∙ u.1

        up : lives h.head.clock book₂ ticket.reservation_id ≡ true
        up = lives-remade h.head.clock h.book ticket unexpired

        live : Live h.head.clock book₂ ticket.reservation_id ticket.expires_at
        live = record {
          lives = up;
          due = sym (R₂.base.books.stands ticket.reservation_id up).expires
              ∙ usage_expiry ticket (usage_of ticket.reservation_id w₂.ledger) y;
        }

        same_id_lem : o₁.id ≡ drawn_in h q
        same_id_lem = ap (λ (d : Option ℕ). unwrap_or d 0) (same_draw w₁ h R₁.base.full q.random)

        into-past : Rel (queued (incoming_message o₁) (with_open w₂ o₁))
            (emit (stood (with_book h book₂) o₁.id k) (heard (λ r. o₁.id))
            (routed (incoming_message o₁) (with_open w₂ o₁) ∷ []))
            → Rel (queued (incoming_message o₁) (with_open w₂ o₁))
            (emit (stood (with_book h (remade q.now h.book ticket)) (drawn_in h q) k) (heard (λ r. drawn_in h q))
            (routed (incoming_message o₁) (with_open w₂ o₁) ∷ []))
        into-past r =
            subst (λ j. Rel (queued (incoming_message o₁) (with_open w₂ o₁))
            (emit (stood (with_book h (remade q.now h.book ticket)) j k) (heard (λ r. j))
            (routed (incoming_message o₁) (with_open w₂ o₁) ∷ []))) same_id_lem
            (subst (λ b. Rel (queued (incoming_message o₁) (with_open w₂ o₁))
            (emit (stood (with_book h b) o₁.id k) (heard (λ r. o₁.id))
            (routed (incoming_message o₁) (with_open w₂ o₁) ∷ []))) later r)

    booked_refused : (e : HnsrRuntimeError)
        → usage_answer ticket (usage_of ticket.reservation_id w₂.ledger) ≡ Err e
        → Rel w₂ (open_in q (Err e) [] h)
    booked_refused e f = if-not (λ (g : Past). Rel w₂ g) (taken (Err e)) _ _ (not_taken e)
        (subst (λ b. Rel w₂ (cond b (with_book h (remade q.now h.book ticket)) h))
        (sym (usage_number ticket (usage_of ticket.reservation_id w₂.ledger) e f))
        (subst (λ b. Rel w₂ (with_book h b)) later R₂))

  pub open_keeps : let o = handle_open w q in Rel o.world (open_in q o.answer o.routes h)
  unfolding handle_open open_lapsed open_granted open_booked
  open_keeps = proceed-cases P w (open_admitted w q) (open_lapsed w₁ q)
      (λ a. let D = admitted-rows w q a in
      proceed-cases P w₁ (open_placed w₁ q o₁) (open_booked w₂ o₁)
      (λ b. let E = placed-rows w₁ q o₁ b in
      proceed-cases P w₂ (usage_answer ticket (usage_of ticket.reservation_id w₂.ledger))
      (send (with_open w₂ o₁) (incoming_message o₁)) (finish D E) (booked_refused D E))
      (λ e f. stays w₁ q h (open_placed w₁ q o₁) e f (never_placed w₁ q o₁) R₁))
      (λ e f. stays w q h (open_admitted w q) e f (never-admitted w q) R)
    where
      P : Outcome → Type 0
      P o = Rel o.world (open_in q o.answer o.routes h)
