-- ACCEPT keeps the invariant: the OPEN ends with its actions, the circuit starts, and OPENED is queued.
use Prim.Native.Nat.{ℕ, ◌<◌, min}
use Rattle.std.proofs.Common.{arith, ◌∙◌}
use Rattle.std.specs.Prelude.{◌≡◌, ◌||◌, [], ◌∷◌, leb, Ok, Err}
use Rattle.std.proofs.Math.Path.{refl, sym, ap, subst}
use Rattle.std.proofs.Math.Bool.{true, false, cond}
use Rattle.std.proofs.lemmas.Bool.{false≢true}
use Rattle.std.proofs.Math.Dec.{ltb, eqb}
use borrow.Author.Tests.{eqb-true, eq-eqb, leb-false, lt-ltb}
use Rattle.hns_encoding.specs.Numbers.{top}
use Rattle.hns_encoding.specs.Laws.Tests.{split, clash, neither}
use Rattle.hns_encoding.specs.Sums.{non}
use Rattle.hnsr_body.specs.declared.accept_body.AcceptBody.{AcceptBody}
use Rattle.hnsr_body.specs.Accept.{accept_fields}
use Rattle.hnsr_circuit.specs.declared.records.RelayTicket.{RelayTicket}
use Rattle.hnsr_circuit.specs.declared.records.RelayPending.{RelayPending}
use Rattle.hnsr_circuit.specs.declared.records.RelayCircuit.{RelayCircuit}
use Rattle.hnsr_circuit.specs.declared.records.RelaySide.{RelaySide}
use Rattle.hnsr_circuit.specs.declared.records.RelaySide.TheVariants.{Requester, Endpoint}
use Rattle.hnsr_circuit.specs.declared.tables.scan.InflightTally.{InflightTally}
use Rattle.hnsr_circuit.specs.Answers.{HnsrAnswer, error_number, number}
use Rattle.hnsr_circuit.specs.Table.{any, pick, put, edit, keep}
use Rattle.hnsr_circuit.specs.Pending.{pending_at, clear_pending}
use Rattle.hnsr_circuit.specs.Circuits.{no_circuit, is_circuit, circuit_at, clear_circuit, queued_to}
use Rattle.hnsr_circuit.specs.declared.records.InflightKind.TheVariants.{Opened}
use Rattle.hnsr_circuit.specs.Inflight.{kind_number, action_under, dropped, tallied, capacity_answer}
use Rattle.hnsr_circuit.specs.World.{World, Outcome, config_of, done}
use Rattle.hnsr_circuit.specs.Queue.{Message, route_for, generation_of, sequence_of, queued, routed, send}
use Rattle.hnsr_circuit.specs.Counts.{circuit_count}
use Rattle.hnsr_circuit.specs.Packet.{Packet}
use Rattle.hnsr_circuit.specs.Revocation.{without_actions, without_pending, end_pending, pending_in}
use Rattle.hnsr_circuit.specs.Accept.{circuit_for, with_accept, opened_message}
use Rattle.hnsr_circuit.specs.Accept.{accept_taken, accept_with, handle_accept}
use Rattle.hnsr_circuit.specs.Laws.Inflight.{replacing-tally}
use Rattle.hnsr_circuit.specs.Laws.Marks.{room}
use Rattle.hnsr_circuit.specs.Laws.Keyed.{Looks, store_looks, store_tells}
use Rattle.hnsr_circuit.specs.Laws.Capacity.{can-queue, send-taken}
use Rattle.hnsr_run.specs.Past.{Known, Past, at, on_circuit, of_route, heard, emit, open_ended, begun}
use Rattle.hnsr_run.specs.History.{written, started_by, accept_in}
use Rattle.hnsr_run.specs.Run.Actions.{room_of_lem}
use Rattle.hnsr_run.specs.Run.Circuits.{Agrees, circuit_keys, none, suspend, store_queue, idle}
use Rattle.hnsr_run.specs.Run.Full.{AgreesP, Body, Full, Keeps, Quiet, rest-same, queue-full}
use Rattle.hnsr_run.specs.Run.Ended.{at-false, end_pending_lem}
use Rattle.hnsr_run.specs.Run.Ends.{pending-id, pending-there}
use Rattle.hnsr_run.specs.Run.InPlace.{resume-at}
use Rattle.hnsr_run.specs.Run.Rel.{Live, Rel, Places, proceed-cases, if-not, not_taken}
use Rattle.hnsr_run.specs.Run.AcceptRows.{AcceptRows, accept_rows_lem, never_six}

-- ---- the circuit starts
module _ {w : World} {h : Past} (R : Rel w h) (H : Places w) (low : sequence_of w < top 64) (q : Packet)
    (clock : h.head.clock ≡ q.now) (D : AcceptRows w q (pending_in w q.context)) where
  abbrev j : ℕ
  j = q.context

  abbrev p : RelayPending
  p = pending_in w q.context

  abbrev body : AcceptBody
  body = accept_fields q.body

  stands : h.opens.standing j ≡ true
  stands = sym (pending-there w h R.base.full j) ∙ D.found

  own : p.circuit_id ≡ j
  own = eqb-true p.circuit_id j (pending-id w h R.base.full j stands)

  A : AgreesP p (h.opens.asked j)
  unfolding pending_at
  A = R.base.full.pends.agree j stands

  started : Known
  started = started_by h.head.config (h.opens.asked j) body.accepted_window

  circuit : RelayCircuit
  circuit = circuit_for (config_of w) p body

  agrees : Agrees circuit started
  unfolding circuit started
  agrees = record {
    requester = A.requester;
    endpoint = A.endpoint;
    apart = A.apart;
    reservation = ap (λ (t : RelayTicket). t.reservation_id) A.ticket;
    expires = ap (λ (t : RelayTicket). t.expires_at) A.ticket;
    maximum = λ i. min (A.ticket i).max_bytes_per_circuit (R.base.heads.config i).maximum_bytes_per_circuit;
    total = ap (λ (t : RelayTicket). t.max_total_bytes) A.ticket;
    credit_r = omega arith;
    credit_e = omega arith;
    forwarded = refl;
    limited = omega (arith, R.base.below);
    totalled = A.totalled;
  }

  apart : h.active j ≡ false
  apart = R.base.full.disjoint j stands

  ended : Keeps none w (end_pending w (pending_at j) j) (open_ended h j)
  ended = end_pending_lem w h j stands (record { full = R.base.full; rest = rest-same w })

  queue-none : (s : RelaySide) → queued_to s circuit ≡ 0
  unfolding circuit
  queue-none Requester = refl
  queue-none Endpoint = refl

  circuit-key : circuit_at j circuit ≡ true
  unfolding circuit_at circuit
  circuit-key = ap (λ x. eqb x j) own ∙ eq-eqb j j refl

  space : any (non is_circuit) w.circuits ≡ true
  unfolding circuit_count
  space = room is_circuit clear_circuit w.circuits (omega (arith, D.circuits, H.circuits))

  looks : Looks circuit_keys j circuit w.circuits (put is_circuit (circuit_at j) circuit w.circuits)
  unfolding is_circuit circuit_at
  looks = store_looks circuit_keys j circuit w.circuits circuit-key (λ x. space)

  found-put : pick (circuit_at j) no_circuit (put is_circuit (circuit_at j) circuit w.circuits) ≡ circuit
  unfolding circuit_at
  found-put = looks.pick_at j ∙ ap (λ b. cond b circuit (pick (circuit_at j) no_circuit w.circuits)) (eq-eqb j j refl)

  begins : Full none (with_accept w p body) (begun (open_ended h j) j started)
  unfolding with_accept end_pending without_pending without_actions circuit
  begins =
      subst
      (λ i. Body none (config_of w) (generation_of w) (sequence_of w) (edit (pending_at i) clear_pending w.pending)
      (put is_circuit (circuit_at i) (circuit_for (config_of w) p body) w.circuits)
      (dropped (action_under i) w.inflight) (at j true h.active) (at j started h.known) (at j false h.opens.standing)
      h.opens.asked (keep (non (on_circuit j)) h.out)) (sym own)
      (resume-at j
      (record {
        acts = E.acts;
        circs =
            store_tells circuit_keys E.circs j circuit started (put is_circuit (circuit_at j) circuit w.circuits)
            (at j true h.active) (at j started h.known) looks agrees
            (λ i. refl)
            (λ i. refl);
        queue =
            store_queue (suspend E.queue (λ i. eqb j i) (λ i e. refl)) j circuit started
            (put is_circuit (circuit_at j) circuit w.circuits) (at j true h.active) (at j started h.known) looks
            (eq-eqb j j refl)
            (λ a. clash a apart)
            (λ i. refl)
            (λ i. refl);
        pends = E.pends;
        disjoint =
            λ i s. split (eqb j i)
            (λ e. absurd (false≢true (sym (ap (λ b. cond b false (h.opens.standing i)) e) ∙ s)))
            (λ e. ap (λ b. cond b true (h.active i)) e ∙ E.disjoint i s);
        real =
            λ i a. split (eqb j i)
            (λ e. ap (λ x. eqb x 0) (sym (eqb-true j i e)) ∙ R.base.full.real_p j stands)
            (λ e. E.real i (sym (ap (λ b. cond b true (h.active i)) e) ∙ a));
        real_p = E.real_p;
      }) (λ s. idle E.queue j apart s ∙ sym (ap (queued_to s) (found-circuit) ∙ queue-none s)))
    where
      E : Full none (end_pending w (pending_at j) j) (open_ended h j)
      E = ended.full

      found-circuit : pick (circuit_at j) no_circuit (put is_circuit (circuit_at j) circuit w.circuits) ≡ circuit
      found-circuit = found-put

  message : Message
  message = opened_message p body

  quiet-opened : Quiet (heard (λ r. j)) message
  unfolding message opened_message
  quiet-opened = record {
    plain = refl;
    same = λ g s i. of_route (route_for message g s) (sym own i) (kind_number Opened) false 0;
  }

  some : eqb message.context 0 ≡ false
  unfolding message opened_message
  some = ap (λ x. eqb x 0) A.context ∙ A.some

  has_room : capacity_answer (config_of (with_accept w p body))
      (tallied false message.circuit message.destination (with_accept w p body).inflight) ≡ Ok tt
  unfolding with_accept message opened_message
  has_room =
      subst (λ i.
      capacity_answer (config_of w) (tallied false i p.requester (dropped (action_under i) w.inflight)) ≡ Ok tt)
      (sym own)
      (subst (λ (t : InflightTally). capacity_answer (config_of w) t ≡ Ok tt)
      (replacing-tally j p.requester w.inflight) D.room)

  same-sequence : sequence_of (with_accept w p body) ≡ sequence_of w
  unfolding with_accept
  same-sequence = refl

  can : send (with_accept w p body) message
      ≡ done (queued message (with_accept w p body)) (routed message (with_accept w p body) ∷ [])
  can =
      send-taken (with_accept w p body) message
      (can-queue message (with_accept w p body) some (subst (λ n. n < top 64) (sym same-sequence) low) has_room)

  live : Live h.head.clock h.book (h.opens.asked j).ticket.reservation_id
      (h.opens.asked j).ticket.expires_at
  live = R.base.kept_p j stands (lt-ltb h.head.clock (h.opens.asked j).ticket.expires_at (omega (
    arith,
    clock,
    ap
        (λ (t : RelayTicket). t.expires_at) A.ticket,
    leb-false p.ticket.expires_at q.now (neither (leb p.deadline q.now) (leb
        p.ticket.expires_at q.now) D.fresh).1,
  )))

  rel : Rel (queued message (with_accept w p body))
      (emit (begun (open_ended h j) j started) (heard (λ r. j)) (routed message (with_accept w p body) ∷ []))
  unfolding queued with_accept started
  rel = record {
    base = record {
      full =
          queue-full (with_accept w p body) (begun (open_ended h j) j started) message begins quiet-opened
          (room_of_lem (config_of w) message.circuit message.destination (with_accept w p body).inflight has_room);
      books = R.base.books;
      kept = λ i a e. split (eqb j i)
          (λ x. subst (λ (k : Known). Live h.head.clock h.book k.reservation k.expires)
          (sym (ap (λ b. cond b started (h.known i)) x)) own-live)
          (λ x. subst (λ (k : Known). Live h.head.clock h.book k.reservation k.expires)
          (sym (ap (λ b. cond b started (h.known i)) x))
          (R.base.kept i (sym (ap (λ b. cond b true (h.active i)) x) ∙ a)
          (ap (λ (k : Known). ltb h.head.clock k.expires) (sym (ap (λ b. cond b started (h.known i)) x)) ∙ e)));
      kept_p = λ i a. R.base.kept_p i (at-false j h.opens.standing i a);
      heads = R.base.heads;
      names = λ i a. R.base.names i (at-false j h.opens.standing i a);
      drawn = λ i a. split (eqb j i)
          (λ x. subst (λ n. any (λ m. eqb m n) h.opens.ids ≡ true) (eqb-true j i x) (R.base.drawn_p j stands))
          (λ x. R.base.drawn i (sym (ap (λ b. cond b true (h.active i)) x) ∙ a));
      drawn_p = λ i a. R.base.drawn_p i (at-false j h.opens.standing i a);
      good = R.base.good;
      below = R.base.below;
    };
    quiet = λ e i. clash stands (R.quiet_p e j);
    quiet_p = λ e i. clash stands (R.quiet_p e j);
  }
    where
      own-live : Live h.head.clock h.book started.reservation started.expires
      own-live = live

pub accept_keeps : {w : World} {h : Past} → Rel w h → Places w → sequence_of w < top 64 → (q : Packet)
    → h.head.clock ≡ q.now
    → let o = handle_accept w q in Rel o.world (accept_in q o.answer o.routes h)
unfolding handle_accept accept_with message started
accept_keeps {w} {h} R H low q clock =
    proceed-cases P w (accept_taken w q x b) (send (with_accept w x b) (opened_message x b))
    (λ e. let D = accept_rows_lem w q x b e in subst P (sym (can R H low q clock D)) (rel R H low q clock D))
    (λ e f. if-not (λ (g : Past). Rel w g) (written (Err e)) _ h
    (ap (λ c. c || eqb (error_number e) 6) (not_taken e)
    ∙ ap (λ (a : HnsrAnswer). eqb (number a) 6) (sym f)
    ∙ never_six w q x b) R)
  where
    P : Outcome → Type 0
    P o = Rel o.world (accept_in q o.answer o.routes h)

    x : RelayPending
    x = pending_in w q.context

    b : AcceptBody
    b = accept_fields q.body
