-- Who asks for the action capacity: what is sent, what is told, DATA, WINDOW, ACCEPT and OPEN. Where the rows in front
-- pass, each finds none exactly where nothing is left: then the answer is a 10, or a revocation leaves its message out.
use Rattle.std.specs.Prelude.{ℕ, ◌+◌, ◌<◌, ◌≡◌, Bool, ◌&&◌, ◌||◌, [], ◌∷◌, ◌↔◌, leb, ltb, Ok, Err}
use Rattle.std.proofs.Common.{arith, ◌∙◌, true≢false}
use Rattle.std.proofs.Math.Path.{refl, sym, ap, subst}
use Rattle.std.proofs.Math.Bool.{true, false, not}
use Rattle.std.proofs.Math.Dec.{eqb}
use Rattle.std.proofs.Math.ListN.{length}
use borrow.Author.Tests.{eqb-true, eqb-false, eq-eqb, ne_eqb}
use Rattle.hns_encoding.specs.Numbers.{top, saturating_add}
use Rattle.hns_encoding.specs.Laws.Tests.{split, both}
use Rattle.hnsr_body.specs.declared.accept_body.AcceptBody.{AcceptBody}
use Rattle.hnsr_body.specs.declared.error.HnsrInvalid.TheVariants.{ContextZero}
use Rattle.hnsr_body.specs.declared.error.HnsrProtocolError.TheVariants.{Invalid}
use Rattle.hnsr_body.specs.Accept.{accept_fields, decode_accept}
use Rattle.hnsr_body.specs.Values.{most_window}
use Rattle.hnsr_body.specs.Data.{data_checked, window_fields, decode_window}
use Rattle.hnsr_circuit.specs.declared.config.OpaqueRelayConfig.{OpaqueRelayConfig}
use Rattle.hnsr_circuit.specs.declared.records.RelayPending.{RelayPending}
use Rattle.hnsr_circuit.specs.declared.records.RelayCircuit.{RelayCircuit}
use Rattle.hnsr_circuit.specs.declared.records.RelaySide.{RelaySide}
use Rattle.hnsr_circuit.specs.declared.records.RelayTicket.{RelayTicket}
use Rattle.hnsr_circuit.specs.declared.records.ReservationUsage.{ReservationUsage}
use Rattle.hnsr_circuit.specs.declared.tables.scan.InflightTally.{InflightTally}
use Rattle.hnsr_circuit.specs.declared.answer.HnsrRuntimeError.TheVariants.{Protocol, Capacity}
use Rattle.hnsr_circuit.specs.declared.answer.HnsrRuntimeError.TheVariants.{GenerationExhausted}
use Rattle.hnsr_circuit.specs.declared.answer.HnsrRuntimeError.TheVariants.{UnknownRequest, InvalidAdmission}
use Rattle.hnsr_circuit.specs.declared.answer.HnsrRuntimeError.TheVariants.{Deadline, ByteLimit}
use Rattle.hnsr_circuit.specs.declared.answer.HnsrRuntimeError.TheVariants.{FlowControl, LedgerFull}
use Rattle.hns_encoding.specs.Sums.{count}
use Rattle.hnsr_circuit.specs.declared.records.InflightKind.TheVariants.{Control}
use Rattle.hnsr_circuit.specs.Answers.{HnsrAnswer, number, check, body_answer, ◌then◌}
use Rattle.hnsr_circuit.specs.Table.{any, pick}
use Rattle.hnsr_circuit.specs.Peer.{same_peer}
use Rattle.hnsr_circuit.specs.Pending.{no_pending, pending_at}
use Rattle.hnsr_circuit.specs.Inflight.{action_under, dropped, tallied, capacity_left, capacity_answer}
use Rattle.hnsr_circuit.specs.Circuits.{side_of, other_side, credit_of, queued_to}
use Rattle.hnsr_circuit.specs.Ledger.{is_usage, has_usage, usage_of, lapsed, booked, ledger_answer, usage_answer}
use Rattle.hnsr_circuit.specs.World.{World, Outcome, config_of, done, proceed, with_ledger}
use Rattle.hnsr_circuit.specs.Queue.{Message, Sent, sequence_of, queue_answer, can_queue, queued, routed, send}
use Rattle.hnsr_circuit.specs.Queue.{silently, tell_if, tell}
use Rattle.hnsr_circuit.specs.Counts.{circuit_count, peer_work, reservation_work}
use Rattle.hnsr_circuit.specs.Entry.{peer_answer}
use Rattle.hnsr_circuit.specs.Packet.{Packet, sender, has_circuit, named_circuit}
use Rattle.hnsr_circuit.specs.Packet.{circuit_answer, receiver, forwarded}
use Rattle.hnsr_circuit.specs.Draw.{drawn, draw_answer}
use Rattle.hnsr_circuit.specs.Open.{Opening, opening, open_admitted, endpoint_answer, deadline_answer}
use Rattle.hnsr_circuit.specs.Open.{with_open, incoming_message, open_placed, open_booked, open_granted, open_lapsed}
use Rattle.hnsr_circuit.specs.Open.{handle_open}
use Rattle.hnsr_circuit.specs.Accept.{request_answer, accept_answer, with_accept, opened_message, accept_taken}
use Rattle.hnsr_circuit.specs.Accept.{accept_with, handle_accept}
use Rattle.hnsr_circuit.specs.Data.{bytes_answer, flow_answer, with_data}
use Rattle.hnsr_circuit.specs.Data.{data_message, data_taken, data_with, handle_data}
use Rattle.hnsr_circuit.specs.Window.{credit_answer, with_window, window_taken, window_with, handle_window}
use Rattle.hnsr_circuit.specs.Status.{action_capacity}
use Rattle.hnsr_circuit.specs.Laws.Answers.{check-never, then_never, then_taken, check-taken}
use Rattle.hnsr_circuit.specs.Laws.Lookups.{pick-has}
use Rattle.hnsr_circuit.specs.Laws.Inflight.{replacing-tally}

-- ---- answers that are no 10
abbrev Other : HnsrAnswer → Type 0
Other a = eqb (number a) 10 ≡ false

no_ten : {P : Type 0} (a : HnsrAnswer) → Other a → a ≡ Err Capacity → P
no_ten a o e = absurd (true≢false (sym (ap (λ (x : HnsrAnswer). eqb (number x) 10) e) ∙ o))

then_other : (a b : HnsrAnswer) → Other a → Other b → Other (a then b)
then_other a b = then_never 10 a b

-- ---- the row, in front of whatever else
asked : (n : ℕ) (rest : HnsrAnswer) → (eqb n 0 ≡ false → Other rest)
    → ((check (eqb n 0) Capacity then rest) ≡ Err Capacity) ↔ (n ≡ 0)
asked n rest other = (
  λ h. split (eqb n 0) (λ e. eqb-true n 0 e) (λ e. no_ten rest (other e) (rw e at h)),
  λ e. rw (eq-eqb n 0 e),
)

-- the same of an answer that is that row and the rest
asked_by : (a : HnsrAnswer) (n : ℕ) (rest : HnsrAnswer) → a ≡ (check (eqb n 0) Capacity then rest)
    → (eqb n 0 ≡ false → Other rest) → (a ≡ Err Capacity) ↔ (n ≡ 0)
asked_by a n rest e other =
    let k = asked n rest other in
    (λ h. k.0 (sym e ∙ h), λ z. e ∙ k.1 z)

-- ---- a step's answer is that of its rows
proceed-answer : (w : World) (a : HnsrAnswer) (o : Outcome) → (proceed w a o).answer ≡ (a then o.answer)
unfolding proceed
proceed-answer w (Ok _) o = refl
proceed-answer w (Err e) o = refl

row_first : (n : ℕ) (b c : HnsrAnswer)
    → ((check (eqb n 0) Capacity then b) then c) ≡ (check (eqb n 0) Capacity then b then c)
row_first n b c = split (eqb n 0) (λ e. rw e) (λ e. rw e)

then_nothing : (a : HnsrAnswer) → (a then Ok tt) ≡ a
then_nothing (Ok _) = refl
then_nothing (Err e) = refl

send-answer : (w : World) (m : Message) → (send w m).answer ≡ can_queue m w
unfolding send
send-answer w m = proceed-answer w (can_queue m w) _ ∙ then_nothing (can_queue m w)

-- ---- capacity is taken exactly where something is left
pub capacity_exactly : (c : OpaqueRelayConfig) (t : InflightTally)
    → (capacity_answer c t ≡ Err Capacity) ↔ (capacity_left c t ≡ 0)
unfolding capacity_answer
capacity_exactly c t =
    asked_by (check (eqb (capacity_left c t) 0) Capacity) (capacity_left c t) (Ok tt) (sym (then_nothing _)) (λ e. refl)

pub capacity_passes : (c : OpaqueRelayConfig) (t : InflightTally)
    → (capacity_answer c t ≡ Ok tt) ↔ (0 < capacity_left c t)
unfolding capacity_answer
capacity_passes c t = let n = capacity_left c t in (
  λ h. omega (arith, eqb-false n 0 (check-taken (eqb n 0) Capacity h)),
  λ l. rw (ne_eqb n 0 (λ z. omega arith)),
)

-- ---- where something is left, queueing is refused for other reasons
queue-other : (c : OpaqueRelayConfig) (t : InflightTally) (sequence context : ℕ) → eqb (capacity_left c t) 0 ≡ false
    → Other (queue_answer c t sequence context)
unfolding queue_answer capacity_answer
queue-other c t sequence context e =
    then_other (check (eqb context 0) (Protocol (Invalid ContextZero))) _
    (check-never 10 (eqb context 0) (Protocol (Invalid ContextZero)) refl refl)
    (rw e (check-never 10 (eqb sequence (top 64)) GenerationExhausted refl refl))

send-other : (w : World) (m : Message)
    → eqb (capacity_left (config_of w) (tallied false m.circuit m.destination w.inflight)) 0 ≡ false
    → Other (send w m).answer
unfolding can_queue
send-other w m e = subst Other (sym (send-answer w m)) (queue-other (config_of w) _ (sequence_of w) m.context e)

-- ---- a message can be queued, and then it is sent
pub can-queue : (m : Message) (w : World) → eqb m.context 0 ≡ false → sequence_of w < top 64
    → capacity_answer (config_of w) (tallied false m.circuit m.destination w.inflight) ≡ Ok tt
    → can_queue m w ≡ Ok tt
unfolding can_queue queue_answer
can-queue m w e l c = rw (e, c, ne_eqb (sequence_of w) (top 64) (λ q. omega arith))

pub send-taken : (w : World) (m : Message) → can_queue m w ≡ Ok tt → send w m ≡ done (queued m w) (routed m w ∷ [])
unfolding send proceed
send-taken w m h = rw h

-- ---- what is sent, and what is told
pub send_asks : (w : World) (m : Message) → eqb m.context 0 ≡ false
    → ((send w m).answer ≡ Err Capacity) ↔ (action_capacity w m.destination m.circuit ≡ 0)
unfolding action_capacity can_queue queue_answer capacity_answer
send_asks w m formed =
    asked_by (send w m).answer (action_capacity w m.destination m.circuit)
    (check (eqb (sequence_of w) (top 64)) GenerationExhausted) (send-answer w m ∙ rw formed)
    (λ e. check-never 10 (eqb (sequence_of w) (top 64)) GenerationExhausted refl refl)

pub tell_asks : (m : Message) (w : World) → eqb m.context 0 ≡ false → sequence_of w < top 64
    → (tell m w ≡ silently w) ↔ (action_capacity w m.destination m.circuit ≡ 0)
unfolding tell tell_if action_capacity can_queue queue_answer capacity_answer
tell_asks m w formed low = let n = action_capacity w m.destination m.circuit in (
  λ h. split (eqb n 0) (λ e. eqb-true n 0 e)
      (λ e. let k : ◌≡◌ {A = ℕ} 1 0 = sym (spoken e) ∙ ap (λ (s : Sent). length s.routes) h in absurd (omega arith)),
  λ z. rw (formed, eq-eqb n 0 z),
)
  where
    spoken : eqb (action_capacity w m.destination m.circuit) 0 ≡ false → length (tell m w).routes ≡ 1
    spoken e = rw (formed, e, ne_eqb (sequence_of w) (top 64) (λ q. omega arith))

-- ---- the rows behind it
bytes-other : (b : Bool) (u : ReservationUsage) (c : RelayCircuit) (n : ℕ) → Other (bytes_answer b u c n)
unfolding bytes_answer
bytes-other b u c n =
    let over = ltb c.maximum_bytes (saturating_add 64 c.forwarded_bytes n)
    || ltb c.maximum_total_bytes (saturating_add 64 u.bytes n) in
    then_other (check (not b) InvalidAdmission) (check over ByteLimit)
    (check-never 10 (not b) InvalidAdmission refl refl) (check-never 10 over ByteLimit refl refl)

flow_other : (k : OpaqueRelayConfig) (c : RelayCircuit) (side : RelaySide) (n : ℕ) → Other (flow_answer k c side n)
unfolding flow_answer
flow_other k c side n =
    check-never 10
    (ltb (credit_of side c) n || ltb k.maximum_queue_bytes (saturating_add 64 (queued_to (other_side side) c) n))
    FlowControl refl refl

credit-other : (c : RelayCircuit) (side : RelaySide) (delta : ℕ) → Other (credit_answer c side delta)
unfolding credit_answer
credit-other c side delta =
    check-never 10 (ltb most_window (credit_of (other_side side) c + delta)) FlowControl refl refl

late_other : (c : OpaqueRelayConfig) (now : ℕ) → Other (deadline_answer c now)
unfolding deadline_answer
late_other c now = check-never 10 (ltb (top 64) (now + c.accept_timeout_seconds)) Deadline refl refl

ledger-other : (found : Bool) (used places : ℕ) → Other (ledger_answer found used places)
unfolding ledger_answer
ledger-other found used places = check-never 10 (not found && leb places used) LedgerFull refl refl

usage_other : (t : RelayTicket) (u : ReservationUsage) → Other (usage_answer t u)
unfolding usage_answer
usage_other t u =
    check-never 10 (not (eqb u.expires_at t.expires_at) || leb t.max_total_bytes u.bytes) ByteLimit
    refl refl

-- ---- DATA: its size and the circuit are in front
module _ (w : World) (q : Packet) where
  abbrev circuit : RelayCircuit
  circuit = named_circuit w q

  abbrev side : RelaySide
  side = side_of (sender q) circuit

  passed-other : (n : ℕ) → eqb (action_capacity w (receiver circuit (sender q)) q.context) 0 ≡ false
      → Other (send (with_data w q.context circuit.reservation_id side n) (data_message q circuit side n)).answer
  unfolding action_capacity with_data data_message
  passed-other n e = send-other _ _ e

  pub data_asks : body_answer (data_checked (length q.body)) ≡ Ok tt
      → circuit_answer (has_circuit w q.context) circuit (sender q) ≡ Ok tt
      → ((handle_data w q).answer ≡ Err Capacity) ↔ (action_capacity w (receiver circuit (sender q)) q.context ≡ 0)
  unfolding handle_data data_with data_taken action_capacity capacity_answer
  data_asks sized named =
      let n = length q.body in
      let u = usage_of circuit.reservation_id w.ledger in
      let bytes = bytes_answer (has_usage circuit.reservation_id w.ledger) u circuit n in
      let flow = flow_answer (config_of w) circuit side n in
      let o = send (with_data w q.context circuit.reservation_id side n) (data_message q circuit side n) in
      let left = action_capacity w (receiver circuit (sender q)) q.context in
      asked_by (handle_data w q).answer left ((bytes then flow) then o.answer)
      (proceed-answer w (data_taken w q circuit side n) o
      ∙ rw (sized, named) (row_first left (bytes then flow) o.answer))
      (λ e. then_other (bytes then flow) o.answer
      (then_other bytes flow (bytes-other _ u circuit n) (flow_other (config_of w) circuit side n)) (passed-other n e))

  -- ---- WINDOW: its body and the circuit
  granted-other : (delta : ℕ) → eqb (action_capacity w (receiver circuit (sender q)) q.context) 0 ≡ false
      → Other (send (with_window w q.context side delta) (forwarded q circuit Control)).answer
  unfolding action_capacity with_window
  granted-other delta e = send-other _ _ e

  pub window_asks : body_answer (decode_window q.body).result ≡ Ok tt
      → circuit_answer (has_circuit w q.context) circuit (sender q) ≡ Ok tt
      → ((handle_window w q).answer ≡ Err Capacity)
      ↔ (action_capacity w (receiver circuit (sender q)) q.context ≡ 0)
  unfolding handle_window window_with window_taken action_capacity capacity_answer
  window_asks read named =
      let delta = (window_fields q.body).credit_delta in
      let credit = credit_answer circuit side delta in
      let o = send (with_window w q.context side delta) (forwarded q circuit Control) in
      let left = action_capacity w (receiver circuit (sender q)) q.context in
      asked_by (handle_window w q).answer left (credit then o.answer)
      (proceed-answer w (window_taken w q circuit side delta) o ∙ rw (read, named) (row_first left credit o.answer))
      (λ e. then_other credit o.answer (credit-other circuit side delta) (granted-other delta e))

-- ---- ACCEPT: the pending record, its body, and what else is a 10. Its own actions are counted nowhere
module _ (w : World) (q : Packet) where
  abbrev waiting : RelayPending
  waiting = pick (pending_at q.context) no_pending w.pending

  abbrev body : AcceptBody
  body = accept_fields q.body

  waiting-id : request_answer (any (pending_at q.context) w.pending) waiting (sender q) q.now ≡ Ok tt
      → waiting.circuit_id ≡ q.context
  unfolding request_answer pending_at
  waiting-id h =
      let found = any (pending_at q.context) w.pending in
      let k = (then_taken (check (not found) UnknownRequest) _ h).0 in
      let there = not-false found (check-taken (not found) UnknownRequest k) in
      eqb-true waiting.circuit_id q.context
      (both waiting.used _ (pick-has (pending_at q.context) no_pending w.pending there)).1
    where
      not-false : (b : Bool) → not b ≡ false → b ≡ true
      not-false true e = refl
      not-false false e = sym e

  opened-other : waiting.circuit_id ≡ q.context
      → eqb (capacity_left (config_of w) (tallied true q.context waiting.requester w.inflight)) 0 ≡ false
      → Other (send (with_accept w waiting body) (opened_message waiting body)).answer
  unfolding with_accept opened_message
  opened-other own e = send-other _ _
      (ap (λ i. eqb (capacity_left (config_of w)
      (tallied false i waiting.requester (dropped (action_under i) w.inflight))) 0) own
      ∙ ap (λ (t : InflightTally). eqb (capacity_left (config_of w) t) 0)
      (sym (replacing-tally q.context waiting.requester w.inflight))
      ∙ e)

  pub accept_asks : request_answer (any (pending_at q.context) w.pending) waiting (sender q) q.now ≡ Ok tt
      → body_answer (decode_accept q.body).result ≡ Ok tt
      → accept_answer (config_of w) waiting body (circuit_count w) (reservation_work w waiting.ticket.reservation_id)
      ≡ Ok tt
      → ((handle_accept w q).answer ≡ Err Capacity)
      ↔ (capacity_left (config_of w) (tallied true q.context waiting.requester w.inflight) ≡ 0)
  unfolding handle_accept accept_with accept_taken capacity_answer
  accept_asks there read fits =
      let o = send (with_accept w waiting body) (opened_message waiting body) in
      asked_by (handle_accept w q).answer
      (capacity_left (config_of w) (tallied true q.context waiting.requester w.inflight)) o.answer
      (proceed-answer w (accept_taken w q waiting body) o ∙ rw (there, read, fits))
      (opened-other (waiting-id there))

-- ---- OPEN: what is admitted, its endpoint and its draws. Lapsed ledger records are gone by then
module _ (w : World) (q : Packet) where
  abbrev begun : World
  begun = with_ledger w (lapsed q.now w.ledger)

  abbrev asking : Opening
  asking = opening begun q

  abbrev booking : World
  booking = with_ledger begun (booked asking.ticket begun.ledger)

  incoming-other : eqb (action_capacity w asking.endpoint asking.id) 0 ≡ false
      → Other (send (with_open booking asking) (incoming_message asking)).answer
  unfolding action_capacity with_open incoming_message
  incoming-other e = send-other _ _ e

  booked-other : eqb (action_capacity w asking.endpoint asking.id) 0 ≡ false
      → Other (open_booked booking asking).answer
  unfolding open_booked usage_answer
  booked-other e =
      let row = usage_answer asking.ticket (usage_of asking.ticket.reservation_id booking.ledger) in
      let o = send (with_open booking asking) (incoming_message asking) in
      subst Other (sym (proceed-answer booking row o))
      (then_other row o.answer
      (usage_other asking.ticket (usage_of asking.ticket.reservation_id booking.ledger)) (incoming-other e))

  pub open_asks : open_admitted w q ≡ Ok tt → peer_answer (length q.admission.endpoint) ≡ Ok tt
      → endpoint_answer (config_of w) asking.ticket (same_peer asking.endpoint asking.requester)
      (peer_work begun asking.endpoint) (reservation_work begun asking.body.reservation_id) ≡ Ok tt
      → draw_answer (drawn begun q.random) ≡ Ok tt
      → ((handle_open w q).answer ≡ Err Capacity) ↔ (action_capacity w asking.endpoint asking.id ≡ 0)
  unfolding handle_open open_lapsed open_granted open_placed action_capacity capacity_answer
  open_asks admitted named placed drew =
      let late = deadline_answer (config_of begun) q.now in
      let full = ledger_answer (has_usage asking.ticket.reservation_id begun.ledger)
      (count is_usage begun.ledger) (length begun.ledger) in
      let o = open_booked booking asking in
      let left = action_capacity w asking.endpoint asking.id in
      asked_by (handle_open w q).answer left ((late then full) then o.answer)
      (proceed-answer w (open_admitted w q) (open_lapsed begun q)
      ∙ rw admitted (proceed-answer begun (open_placed begun q asking) o
      ∙ rw (named, placed, drew) (row_first left (late then full) o.answer)))
      (λ e. then_other (late then full) o.answer
      (then_other late full (late_other (config_of begun) q.now) (ledger-other _ _ _)) (booked-other e))
