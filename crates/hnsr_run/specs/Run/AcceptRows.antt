-- ACCEPT's rows one by one; none answers 6.
use Rattle.std.specs.Prelude.{◌<◌, ◌≡◌, refl, Bool, true, false, not, ◌||◌, leb, ltb, eqb, Ok}
use Rattle.std.proofs.Common.{leb-false}
use Rattle.std.proofs.lemmas.Bool.{not-false}
use Rattle.hns_encoding.specs.Laws.Tests.{neither}
use Rattle.hnsr_body.specs.declared.error.HnsrProtocolError.{HnsrProtocolError}
use Rattle.std.specs.Prelude.{Result, Err}
use Rattle.hnsr_body.specs.declared.accept_body.AcceptBody.{AcceptBody}
use Rattle.hnsr_body.specs.Accept.{decode_accept}
use Rattle.hnsr_circuit.specs.declared.records.RelayPending.{RelayPending}
use Rattle.hnsr_circuit.specs.declared.answer.HnsrRuntimeError.TheVariants.{Capacity, InvalidAdmission}
use Rattle.hnsr_circuit.specs.declared.answer.HnsrRuntimeError.TheVariants.{UnknownRequest, WrongPeer}
use Rattle.hnsr_circuit.specs.Answers.{number, check, body_answer, ◌then◌}
use Rattle.hnsr_circuit.specs.Table.{any}
use Rattle.hnsr_circuit.specs.Peer.{same_peer}
use Rattle.hnsr_circuit.specs.Pending.{pending_at, overdue}
use Rattle.hnsr_circuit.specs.Inflight.{tallied, capacity_left, capacity_answer}
use Rattle.hnsr_circuit.specs.World.{World, config_of}
use Rattle.hnsr_circuit.specs.Counts.{circuit_count, reservation_work}
use Rattle.hnsr_circuit.specs.Packet.{Packet, sender}
use Rattle.hnsr_circuit.specs.Accept.{request_answer, accept_answer, accept_taken}
use Rattle.hnsr_circuit.specs.Laws.Answers.{then_taken, check-taken}

-- ---- the rows
pub record AcceptRows (w : World) (q : Packet) (p : RelayPending) : Type 0 where
  pub found : any (pending_at q.context) w.pending ≡ true
  pub fresh : overdue q.now p ≡ false
  pub circuits : circuit_count w < (config_of w).maximum_circuits
  pub room : capacity_answer (config_of w) (tallied true q.context p.requester w.inflight) ≡ Ok tt

pub accept_rows_lem : (w : World) (q : Packet) (p : RelayPending) (b : AcceptBody) → accept_taken w q p b ≡ Ok tt
    → AcceptRows w q p
unfolding accept_taken request_answer accept_answer
accept_rows_lem w q p b e =
    let f = any (pending_at q.context) w.pending in
    let r = request_answer f p (sender q) q.now in
    let body = body_answer (decode_accept q.body).result in
    let under = reservation_work w p.ticket.reservation_id in
    let ten = accept_answer (config_of w) p b (circuit_count w) under in
    let cap = capacity_answer (config_of w) (tallied true q.context p.requester w.inflight) in
    let a = then_taken r (body then ten then cap) e in
    let c = then_taken body (ten then cap) a.1 in
    let d = then_taken ten cap c.1 in
    let first = check (not f) UnknownRequest in
    let second = check (not (same_peer p.endpoint (sender q))) WrongPeer in
    let third = check (overdue q.now p) InvalidAdmission in
    let g = then_taken first (second then third) a.0 in
    let h = then_taken second third g.1 in
    let over = ltb p.initial_window b.accepted_window in
    let full = leb (config_of w).maximum_circuits (circuit_count w) in
    let most = ltb p.ticket.max_active_circuits under in
    let i = neither over full (neither (over || full) most (check-taken (over || full || most) Capacity d.0)).0 in
    record {
      found = not-false f (check-taken (not f) UnknownRequest g.0);
      fresh = check-taken (overdue q.now p) InvalidAdmission h.1;
      circuits = leb-false (config_of w).maximum_circuits (circuit_count w) i.1;
      room = d.1;
    }

six_rows : (x y z u v : Bool) (b : Result Unit HnsrProtocolError)
    → eqb (number ((check x UnknownRequest then check y WrongPeer then check z InvalidAdmission)
    then body_answer b
    then check u Capacity
    then check v Capacity)) 6 ≡ false
six_rows true y z u v b = refl
six_rows false true z u v b = refl
six_rows false false true u v b = refl
six_rows false false false u v (Err c) = refl
six_rows false false false true v (Ok done) = refl
six_rows false false false false true (Ok done) = refl
six_rows false false false false false (Ok done) = refl

pub never_six : (w : World) (q : Packet) (p : RelayPending) (b : AcceptBody)
    → eqb (number (accept_taken w q p b)) 6 ≡ false
unfolding accept_taken request_answer accept_answer capacity_answer
never_six w q p b =
    six_rows (not (any (pending_at q.context) w.pending)) (not (same_peer p.endpoint (sender q)))
    (overdue q.now p)
    (ltb p.initial_window b.accepted_window || leb (config_of w).maximum_circuits (circuit_count w)
    || ltb p.ticket.max_active_circuits (reservation_work w p.ticket.reservation_id))
    (eqb (capacity_left (config_of w) (tallied true q.context p.requester w.inflight)) 0)
    (decode_accept q.body).result
