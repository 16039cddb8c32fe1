-- `handle` keeps the invariant of the world alone, whatever it answers: OPEN, ACCEPT, DATA, WINDOW, CLOSE and ERROR.
use Rattle.std.specs.Prelude.{ℕ, ◌+◌, ◌≤◌, ◌<◌, ◌≡◌, refl, Bool, true, false, cond, not, ◌&&◌, List, leb, ltb, length}
use Rattle.std.specs.Prelude.{Ok, is_none, unwrap_or}
use Rattle.std.proofs.Common.{arith, sym, ap, subst, length-set, leb-true, ltb-false, eqb-true}
use Rattle.std.proofs.lemmas.Bool.{not-false}
use Rattle.hns_encoding.specs.Laws.Tests.{split, choose, both, neither, cond-le}
use Rattle.hns_encoding.specs.Sums.{one, count}
use Rattle.hnsr_body.specs.declared.values.ReservationId.{ReservationId}
use Rattle.hnsr_body.specs.declared.error.HnsrProtocolError.{HnsrProtocolError}
use Rattle.std.specs.Prelude.{Result, Err}
use Rattle.hnsr_body.specs.declared.error.HnsrInvalid.{HnsrInvalid}
use Rattle.hnsr_body.specs.declared.error.HnsrInvalid.TheVariants.{AcceptResponse}
use Rattle.hnsr_body.specs.declared.accept_body.AcceptBody.{AcceptBody}
use Rattle.hnsr_body.specs.Causes.{answer}
use Rattle.hnsr_body.specs.Values.{least_window, most_window, some_byte}
use Rattle.hnsr_body.specs.Layout.{laid_out}
use Rattle.hnsr_body.specs.Data.{window_fields, decode_window}
use Rattle.hnsr_body.specs.Accept.{accept_widths, accept_fields, accept_good, decode_accept}
use Rattle.hnsr_circuit.specs.declared.records.RelayTicket.{RelayTicket}
use Rattle.hnsr_circuit.specs.declared.records.RelayPending.{RelayPending}
use Rattle.hnsr_circuit.specs.declared.records.RelayCircuit.{RelayCircuit}
use Rattle.hnsr_circuit.specs.declared.records.RelaySide.{RelaySide}
use Rattle.hnsr_circuit.specs.declared.records.RelaySide.TheVariants.{Requester, Endpoint}
use Rattle.hnsr_circuit.specs.declared.records.ReservationUsage.{ReservationUsage}
use Rattle.hnsr_circuit.specs.declared.answer.HnsrRuntimeError.TheVariants.{FlowControl, InvalidPeer}
use Rattle.hnsr_circuit.specs.Answers.{body_answer}
use Rattle.hnsr_circuit.specs.Table.{any, pick, put, edit}
use Rattle.hnsr_circuit.specs.Peer.{peer_good, peer_of}
use Rattle.hnsr_circuit.specs.Pending.{no_pending, is_pending, pending_at, named_by, clear_pending}
use Rattle.hnsr_circuit.specs.Circuits.{is_circuit, circuit_at, other_side, credit_of, charged, raised, side_of}
use Rattle.hnsr_circuit.specs.Ledger.{no_usage, is_usage, usage_at, clear_usage}
use Rattle.hnsr_circuit.specs.Ledger.{usage_over, fresh_usage, spent, lapsed, booked}
use Rattle.hnsr_circuit.specs.Inflight.{action_under, tallied, capacity_answer}
use Rattle.hnsr_circuit.specs.World.{World, Outcome, config_of, with_ledger, at_time}
use Rattle.hnsr_circuit.specs.Counts.{pending_count, circuit_count}
use Rattle.hnsr_circuit.specs.Entry.{handle_words, room_answer, peer_answer}
use Rattle.hnsr_circuit.specs.Packet.{Packet, sender, has_circuit, named_circuit, circuit_answer, receiver}
use Rattle.hnsr_circuit.specs.Draw.{draws, id_taken, drawn}
use Rattle.hnsr_circuit.specs.Open.{Opening, pending_for, with_open, opening, open_placed}
use Rattle.hnsr_circuit.specs.Open.{open_booked, open_granted, open_lapsed, handle_open}
use Rattle.hnsr_circuit.specs.Accept.{request_answer, circuit_for, with_accept}
use Rattle.hnsr_circuit.specs.Accept.{accept_taken, accept_with, handle_accept}
use Rattle.hnsr_circuit.specs.Data.{with_data, data_with, handle_data}
use Rattle.hnsr_circuit.specs.Window.{credit_answer, with_window, window_taken, window_with, handle_window}
use Rattle.hnsr_circuit.specs.Close.{close_pending, close_circuit, handle_close}
use Rattle.hnsr_circuit.specs.Handle.{Handling, OPEN, ACCEPT, DATA, WINDOW, CLOSE, ERROR}
use Rattle.hnsr_circuit.specs.Handle.{other, dispatch, entry_answer, handle_gate, handle}
use Rattle.hnsr_circuit.specs.Revocation.{pending_in}
use Rattle.hnsr_circuit.specs.Laws.Answers.{then_taken, check-taken}
use Rattle.hnsr_circuit.specs.Laws.Lookups.{pick-none, none-count}
use Rattle.hnsr_circuit.specs.Laws.Edits.{edit-total, length-edit}
use Rattle.hnsr_circuit.specs.Laws.Marks.{put-old-total}
use Rattle.hnsr_circuit.specs.Laws.Keys.{same-reservation}
use Rattle.hnsr_circuit.specs.Laws.Places.{length-dropped}
use Rattle.hnsr_run.specs.Run.Booking.{Free, draw_free}
use Rattle.hnsr_run.specs.Run.Open.{Admitted, admitted-rows, placed-rows}
use Rattle.hnsr_run.specs.Run.AcceptRows.{AcceptRows, accept_rows_lem}
use Rattle.hnsr_run.specs.Run.ShapeTables.{count-put, count-edit, less-edit}
use Rattle.hnsr_run.specs.Run.ShapeTables.{less-clear, less-fits, put-fits, pick-fits}
use Rattle.hnsr_run.specs.Run.Shape.{Named, Shape, pending-used}
use Rattle.hnsr_run.specs.Run.ShapeParts.{Recounted, recounted_shape, ledger_shape, less-ledger, proceed_shape}
use Rattle.hnsr_run.specs.Run.ShapeParts.{send_shape, pending-unmarked, end_pending_shape, end_circuit_shape}

-- ---- names that were tested
good-name : (n : ℕ) → peer_answer n ≡ Ok tt → peer_good n ≡ true
unfolding peer_answer
good-name n e = not-false (peer_good n) (check-taken (not (peer_good n)) InvalidPeer e)

named-by : (name : List ℕ) → peer_good (length name) ≡ true → Named (peer_of name)
named-by name e = record { name = name; good = e; stored = refl }

-- ---- the ledger
pub usage_unmarked : (u : ReservationUsage) → is_usage (clear_usage u) ≡ false
unfolding is_usage
usage_unmarked u = refl

pub lapsed_shape : (w : World) (now : ℕ) → Shape w → Shape (with_ledger w (lapsed now w.ledger))
unfolding lapsed
lapsed_shape w now S = less-ledger S (less-clear is_usage no_usage clear_usage (usage_over now) w.ledger usage_unmarked)

fresh-is : (r : ReservationId) (t : RelayTicket) → usage_at r (fresh_usage t) ≡ true → t.reservation_id ≡ r
unfolding usage_at
fresh-is r t e = same-reservation t.reservation_id r e

-- the record that is found is put back; one that is missing is the first of its id
booked-once : (t : RelayTicket) (ls : List ReservationUsage) → ((r : ReservationId) → count (usage_at r) ls ≤ 1)
    → (r : ReservationId) → count (usage_at r) (booked t ls) ≤ 1
unfolding booked
booked-once t ls once r =
    let p = usage_at t.reservation_id in
    let u = fresh_usage t in
    split (any p ls)
    (λ f. omega (arith, once r, put-old-total is_usage clear_usage p (pick p u ls) ls f (one (usage_at r)) u))
    (λ f. subst (λ (v : ReservationUsage). count (usage_at r) (put is_usage p v ls) ≤ 1) (sym (pick-none p u ls f))
    (made f))
  where
    made : any (usage_at t.reservation_id) ls ≡ false
        → count (usage_at r) (put is_usage (usage_at t.reservation_id) (fresh_usage t) ls) ≤ 1
    made f = split (usage_at r (fresh_usage t))
        (λ e. omega (
          arith,
          count-put (usage_at r) is_usage (usage_at t.reservation_id) (fresh_usage t) ls,
          cond-le (usage_at r (fresh_usage t)),
          subst (λ (i : ReservationId). count (usage_at i) ls ≡ 0) (fresh-is r t e) (none-count _ ls f),
        ))
        (λ e. omega (
          arith,
          once r,
          count-put (usage_at r) is_usage (usage_at t.reservation_id) (fresh_usage t) ls,
          ap (λ b. cond {A = ℕ} b 1 0) e,
        ))

booked-places : (t : RelayTicket) (ls : List ReservationUsage) → length (booked t ls) ≡ length ls
unfolding booked
booked-places t ls = simp length-set

booked_shape : (w : World) (t : RelayTicket) → Shape w → Shape (with_ledger w (booked t w.ledger))
booked_shape w t S = ledger_shape S (record {
  places = omega (arith, booked-places t w.ledger, S.ledger.places);
  once = booked-once t w.ledger S.ledger.once;
})

-- ---- OPEN
drawn-free : (w : World) (random : List ℕ) → is_none (drawn w random) ≡ false
    → Free (id_taken w) (unwrap_or (drawn w random) 0)
unfolding drawn
drawn-free w random e = draw_free (id_taken w) 0 0 (draws random) e

none-taken : (w : World) (id : ℕ) → id_taken w id ≡ false
    → (count (pending_at id) w.pending ≡ 0) × (count (circuit_at id) w.circuits ≡ 0)
unfolding id_taken
none-taken w id e = let k = neither (any (pending_at id) w.pending) (any (circuit_at id) w.circuits) e in
    (none-count (pending_at id) w.pending k.0, none-count (circuit_at id) w.circuits k.1)

open_id : (id : ℕ) (o : Opening) → pending_at id (pending_for o) ≡ true → o.id ≡ id
unfolding pending_at
open_id id o e = eqb-true o.id id e

endpoint-good : (w : World) (q : Packet) (o : Opening) → open_placed w q o ≡ Ok tt
    → peer_good (length q.admission.endpoint) ≡ true
unfolding open_placed
endpoint-good w q o e = good-name (length q.admission.endpoint)
    (then_taken (peer_answer (length q.admission.endpoint)) _ e).0

pending-few : (w : World) (q : Packet) → Admitted w q → count is_pending w.pending < (config_of w).maximum_pending
unfolding pending_count
pending-few w q D = D.pending

open_with_shape : (w : World) (o : Opening) → Shape w → count is_pending w.pending < (config_of w).maximum_pending
    → Free (id_taken w) o.id → Named o.requester → Named o.endpoint → o.deadline ≤ o.ticket.expires_at
    → Shape (with_open w o)
unfolding with_open
open_with_shape w o S few free asker endpoint deadline = record {
  runtime = S.runtime;
  pending = put-fits S.pending (pending_at o.id) (pending_for o) few
      (λ u. record { some = free.some; requester = asker; endpoint = endpoint; deadline = deadline });
  circuits = S.circuits;
  once = λ id. split (pending_at id (pending_for o))
      (λ e. let z = subst (λ i. id_taken w i ≡ false) (open_id id o e) free.untaken in let k = none-taken w id z in
      omega (
        arith,
        count-put (pending_at id) is_pending (pending_at o.id) (pending_for o) w.pending,
        cond-le (pending_at id (pending_for o)),
        k.0,
        k.1,
      ))
      (λ e. omega (
        arith,
        S.once id,
        count-put (pending_at id) is_pending (pending_at o.id) (pending_for o) w.pending,
        ap (λ b. cond {A = ℕ} b 1 0) e,
      ));
  ledger = S.ledger;
  actions = S.actions;
}

sender-named : (q : Packet) → peer_good (length q.source) ≡ true → Named (sender q)
unfolding sender
sender-named q e = named-by q.source e

open_shape : (w : World) (q : Packet) → peer_good (length q.source) ≡ true → Shape w → Shape (handle_open w q).world
unfolding handle_open open_lapsed open_granted open_booked id_taken
open_shape w q good S =
    let v = with_ledger w (lapsed q.now w.ledger) in
    let o = opening v q in
    let u = with_ledger v (booked o.ticket v.ledger) in
    let T = lapsed_shape w q.now S in
    let U = booked_shape v o.ticket T in
    proceed_shape w _ _ S
    (λ a. proceed_shape v _ _ T
    (λ b. proceed_shape u _ _ U
    (λ c. send_shape (with_open u o) _
    (open_with_shape u o U (pending-few w q (admitted-rows w q a))
    (drawn-free v q.random (placed-rows v q o b).drawn) (sender-named q good)
    (named-by q.admission.endpoint (endpoint-good v q o b)) (omega arith)))))

-- ---- ACCEPT
body-good : (laid : Result Unit HnsrProtocolError) (good : Bool) (text : HnsrInvalid)
    → body_answer (answer laid good text) ≡ Ok tt
    → good ≡ true
body-good (Err cause) good text h = cc
body-good (Ok done) true text h = refl
body-good (Ok done) false text h = cc

-- the window that is accepted is a window (BODY.5)
accepted_most : (w : World) (q : Packet) (p : RelayPending) → accept_taken w q p (accept_fields q.body) ≡ Ok tt
    → (accept_fields q.body).accepted_window ≤ most_window
unfolding accept_taken decode_accept accept_good
accepted_most w q p e =
    let b = accept_fields q.body in
    let n = b.accepted_window in
    let request = request_answer (any (pending_at q.context) w.pending) p (sender q) q.now in
    let body = body_answer (answer (laid_out accept_widths q.body) (accept_good b) AcceptResponse) in
    let read = (then_taken body _ (then_taken request _ e).1).0 in
    let good = body-good (laid_out accept_widths q.body) (accept_good b) AcceptResponse read in
    let window = (both (leb least_window n && leb n most_window) (some_byte b.endpoint_nonce) good).0 in
    leb-true n most_window (both (leb least_window n) (leb n most_window) window).1

-- the circuit takes the id that the pending record gives up
accept_same : (w : World) (p : RelayPending) (b : AcceptBody) (id : ℕ) → is_pending p ≡ true
    → circuit_at id (circuit_for (config_of w) p b) ≡ pending_at id p
unfolding is_pending pending_at circuit_at
accept_same w p b id u = rw u

accept_cleared : (p : RelayPending) (id : ℕ) → pending_at id (clear_pending p) ≡ false
unfolding pending_at
accept_cleared p id = refl

circuits-few : (w : World) (q : Packet) (p : RelayPending) → AcceptRows w q p
    → count is_circuit w.circuits < (config_of w).maximum_circuits
unfolding circuit_count
circuits-few w q p D = D.circuits

accept_with_shape : (w : World) (id : ℕ) (b : AcceptBody) → Shape w → any (pending_at id) w.pending ≡ true
    → count is_circuit w.circuits < (config_of w).maximum_circuits → b.accepted_window ≤ most_window
    → Shape (with_accept w (pending_in w id) b)
unfolding with_accept
accept_with_shape w id b S f few most =
    let p = pending_in w id in
    let u = (pending-used w id f).0 in
    let F = pick-fits S.pending (pending_at id) u in
    let c = circuit_for (config_of w) p b in
    record {
      runtime = S.runtime;
      pending = less-fits S.pending
          (less-edit is_pending no_pending (pending_at p.circuit_id) clear_pending w.pending pending-unmarked);
      circuits = put-fits S.circuits (circuit_at p.circuit_id) c few
          (λ x. record { some = F.some; requester = F.requester; endpoint = F.endpoint; credits = windows });
      once = λ j. omega (
        arith,
        S.once j,
        ended j,
        count-put (circuit_at j) is_circuit (circuit_at p.circuit_id) c w.circuits,
        ap (λ x. cond {A = ℕ} x 1 0) (accept_same w p b j u),
      );
      ledger = S.ledger;
      actions = omega (arith, S.actions, length-dropped (action_under p.circuit_id) w.inflight);
    }
  where
    windows : (side : RelaySide) → credit_of side (circuit_for (config_of w) (pending_in w id) b) ≤ most_window
    windows Requester = most
    windows Endpoint = most

    ended : (j : ℕ)
        → count (pending_at j) (edit (pending_at (pending_in w id).circuit_id) clear_pending w.pending)
        + one (pending_at j) (pending_in w id)
        ≡ count (pending_at j) w.pending
    ended j =
        subst
        (λ i. count (pending_at j) (edit (pending_at i) clear_pending w.pending) + one (pending_at j) (pending_in w id)
        ≡ count (pending_at j) w.pending)
        (sym (pending-used w id f).1)
        (omega (
          arith,
          edit-total (pending_at id) clear_pending (one (pending_at j)) no_pending w.pending f,
          ap (λ x. cond {A = ℕ} x 1 0) (accept_cleared (pending_in w id) j),
        ))

accept_shape : (w : World) (q : Packet) → Shape w → Shape (handle_accept w q).world
unfolding handle_accept accept_with
accept_shape w q S =
    let p = pending_in w q.context in
    let b = accept_fields q.body in
    proceed_shape w _ _ S (λ e. let D = accept_rows_lem w q p b e in
    send_shape (with_accept w p b) _
    (accept_with_shape w q.context b S D.found (circuits-few w q p D) (accepted_most w q p e)))

-- ---- DATA lowers a credit
charged-moves : (side : RelaySide) (n : ℕ) (c : RelayCircuit) → Recounted c (charged side n c)
charged-moves Requester n c = record { used = refl; id = refl; requester = refl; endpoint = refl }
charged-moves Endpoint n c = record { used = refl; id = refl; requester = refl; endpoint = refl }

charged-credit : (from side : RelaySide) (n : ℕ) (c : RelayCircuit)
    → credit_of side (charged from n c) ≤ credit_of side c
charged-credit Requester Requester n c = omega arith
charged-credit Requester Endpoint n c = omega arith
charged-credit Endpoint Requester n c = omega arith
charged-credit Endpoint Endpoint n c = omega arith

spent-at : (r : ReservationId) (n : ℕ) (u : ReservationUsage) → usage_at r (spent n u) ≡ usage_at r u
unfolding usage_at
spent-at r n u = refl

data_shape : (w : World) (q : Packet) → Shape w → Shape (handle_data w q).world
unfolding handle_data data_with with_data
data_shape w q S =
    let c = named_circuit w q in
    let from = side_of (sender q) c in
    let n = length q.body in
    let p = usage_at c.reservation_id in
    let T = recounted_shape w (circuit_at q.context) (charged from n) S (charged-moves from n)
    (λ C side. omega (arith, C.credits side, charged-credit from side n c)) in
    proceed_shape w _ _ S (λ e. send_shape _ _ (ledger_shape T (record {
      places = omega (arith, T.ledger.places, length-edit p (spent n) w.ledger);
      once = λ r. omega (arith, T.ledger.once r, count-edit (usage_at r) p (spent n) w.ledger (spent-at r n));
    })))

-- ---- WINDOW raises one, and its last row keeps it within the most
raised-moves : (side : RelaySide) (n : ℕ) (c : RelayCircuit) → Recounted c (raised side n c)
raised-moves Requester n c = record { used = refl; id = refl; requester = refl; endpoint = refl }
raised-moves Endpoint n c = record { used = refl; id = refl; requester = refl; endpoint = refl }

raised-credit : (from side : RelaySide) (n most : ℕ) (c : RelayCircuit) → credit_of (other_side from) c + n ≤ most
    → credit_of side c ≤ most → credit_of side (raised from n c) ≤ most
raised-credit Requester Requester n most c new old = old
raised-credit Requester Endpoint n most c new old = new
raised-credit Endpoint Requester n most c new old = new
raised-credit Endpoint Endpoint n most c new old = old

credit-most : (w : World) (q : Packet) (c : RelayCircuit) (from : RelaySide) (delta : ℕ)
    → window_taken w q c from delta ≡ Ok tt → credit_of (other_side from) c + delta ≤ most_window
unfolding window_taken credit_answer
credit-most w q c from delta e =
    let body = body_answer (decode_window q.body).result in
    let circuit = circuit_answer (has_circuit w q.context) c (sender q) in
    let capacity = capacity_answer (config_of w) (tallied false q.context (receiver c (sender q)) w.inflight) in
    let credit = credit_of (other_side from) c + delta in
    let last = (then_taken capacity _ (then_taken circuit _ (then_taken body _ e).1).1).1 in
    ltb-false most_window credit (check-taken (ltb most_window credit) FlowControl last)

window_shape : (w : World) (q : Packet) → Shape w → Shape (handle_window w q).world
unfolding handle_window window_with with_window
window_shape w q S =
    let c = named_circuit w q in
    let from = side_of (sender q) c in
    let n = (window_fields q.body).credit_delta in
    proceed_shape w _ _ S (λ e. send_shape _ _
    (recounted_shape w (circuit_at q.context) (raised from n) S (raised-moves from n)
    (λ C side. raised-credit from side n most_window c (credit-most w q c from n e) (C.credits side))))

-- ---- CLOSE, ERROR and the dispatch
close_shape : (w : World) (q : Packet) → Shape w → Shape (handle_close w q).world
unfolding handle_close close_pending close_circuit
close_shape w q S = proceed_shape w _ _ S (λ e.
    choose (λ (o : Outcome). Shape o.world) (any (named_by (sender q) q.context) w.pending) _ _
    (λ a. send_shape _ _ (end_pending_shape w _ _ S)) (λ a. send_shape _ _ (end_circuit_shape w _ S)))

dispatch_shape : (k : Handling) (w : World) (q : Packet) → peer_good (length q.source) ≡ true → Shape w
    → Shape (dispatch k w q).world
unfolding dispatch
dispatch_shape OPEN w q good S = open_shape w q good S
dispatch_shape ACCEPT w q good S = accept_shape w q S
dispatch_shape DATA w q good S = data_shape w q S
dispatch_shape WINDOW w q good S = window_shape w q S
dispatch_shape CLOSE w q good S = close_shape w q S
dispatch_shape ERROR w q good S = close_shape w q S
dispatch_shape other w q good S = S

entry-good : (w : World) (q : Packet) (room : ℕ) → entry_answer w q room ≡ Ok tt → peer_good (length q.source) ≡ true
unfolding entry_answer
entry-good w q room e =
    good-name (length q.source) (then_taken (peer_answer (length q.source)) _
    (then_taken (room_answer w room handle_words) _ e).1).0

pub handle_shape : (w : World) (q : Packet) (room : ℕ) → Shape w → Shape (handle w q room).world
unfolding handle handle_gate
handle_shape w q room S = proceed_shape w _ _ S (λ e. proceed_shape (at_time w q.now) _ _ S (λ a.
    dispatch_shape _ (at_time w q.now) q (entry-good w q room (then_taken (entry_answer w q room) _ e).0) S))
