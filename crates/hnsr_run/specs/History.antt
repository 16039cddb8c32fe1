-- What each event changes (RUN.3 to RUN.8), and what the whole list of events tells. What a call ends or drops is its
-- rule applied to what is known; what a refused call left behind shows in its number; what a route is about follows
-- from the call and the route's words (`Words.words-alone`).
use Rattle.std.specs.Prelude.{ℕ, ◌+◌, min, Bool, true, false, cond, not, ◌&&◌, ◌||◌, unwrap_or}
use Rattle.std.specs.Prelude.{List, [], ◌∷◌, ◌++◌, map, leb, ltb, eqb, length}
use Rattle.std.specs.Bool.{beq}
use Rattle.hns_encoding.specs.Sums.{non}
use Rattle.hnsr_body.specs.declared.values.ReservationId.{ReservationId}
use Rattle.hnsr_body.specs.Values.{same_reservation}
use Rattle.hnsr_body.specs.Accept.{accept_fields}
use Rattle.hnsr_body.specs.Data.{window_fields}
use Rattle.hnsr_circuit.specs.declared.peer.HnsrPeerId.{HnsrPeerId}
use Rattle.hnsr_circuit.specs.declared.config.OpaqueRelayConfig.{OpaqueRelayConfig}
use Rattle.hnsr_circuit.specs.declared.answer.HnsrRuntimeError.{HnsrRuntimeError}
use Rattle.hnsr_circuit.specs.declared.answer.HnsrRuntimeError.TheVariants.{Short, Capacity}
use Rattle.hnsr_circuit.specs.declared.answer.HnsrRuntimeError.TheVariants.{GenerationExhausted, ByteLimit}
use Rattle.hnsr_circuit.specs.declared.records.RelaySide.{RelaySide}
use Rattle.hnsr_circuit.specs.declared.records.RelaySide.TheVariants.{Requester, Endpoint}
use Rattle.hnsr_circuit.specs.Answers.{HnsrAnswer, error_number, number, check, ◌then◌}
use Rattle.hnsr_circuit.specs.Table.{any, pick, keep}
use Rattle.hnsr_circuit.specs.Peer.{peer_of, same_peer}
use Rattle.hnsr_circuit.specs.declared.records.InflightKind.TheVariants.{Incoming, Close}
use Rattle.hnsr_circuit.specs.Inflight.{kind_number, capacity_left}
use Rattle.hnsr_circuit.specs.Route.{Route}
use Rattle.hnsr_circuit.specs.Opcode.{op_error}
use Rattle.hnsr_circuit.specs.Entry.{handle_words, peer_answer, packet_answer, clock_answer}
use Rattle.hnsr_circuit.specs.Packet.{Packet, sender}
use Rattle.hnsr_circuit.specs.Draw.{draws, draw_all}
use Rattle.hnsr_circuit.specs.Open.{deadline_for}
use Rattle.hnsr_circuit.specs.Handle.{Handling, OPEN, ACCEPT, DATA, WINDOW, CLOSE, ERROR, other, handling_of}
use Rattle.hnsr_circuit.specs.Call.{Start, Call, call_status, call_next_due, call_observe_time, call_replace_enabled}
use Rattle.hnsr_circuit.specs.Call.{call_handle, call_acknowledge, call_disconnect}
use Rattle.hnsr_circuit.specs.Call.{call_revoke_reservation, call_expire}
use Rattle.hnsr_run.specs.Past.{Known, Asked, Action, Past, starting, counted, on_circuit, numbered, toward}
use Rattle.hnsr_run.specs.Past.{tally, heard, carried_once, nothing, no_one, no_opens, no_book, head_at, with_head}
use Rattle.hnsr_run.specs.Past.{with_book, with_out, fewer, emit, without, moved_to, numbering, stood, unstood}
use Rattle.hnsr_run.specs.Past.{open_ended, begun, learnt, circuit_ended, remade, spent_by, unmade}

pub record Event : Type 0 where
  pub call : Call
  pub answer : HnsrAnswer
  pub routes : List Route

-- after a taken `new`
abbrev pub begin : Start → Past
begin s = record {
  head = record { generation = s.generation; enabled = true; clock = s.now; config = s.config; next = 1 };
  active = λ j. false;
  known = λ j. no_one;
  opens = no_opens;
  book = no_book;
  out = [];
}

-- ---- what an answer tells
abbrev pub taken : HnsrAnswer → Bool
taken a = eqb (number a) 0

abbrev pub refused_by : HnsrRuntimeError → HnsrAnswer → Bool
refused_by e a = eqb (number a) (error_number e)

-- refused with 10 after a record was ended or an action removed (CLOSE, ERROR, acknowledge), or with 6 by the queueing:
-- everything earlier stays. A 1 ends nothing: that of a body comes before the end, and that of the queueing needs a
-- stored context of zero, which no run makes
abbrev pub ends : HnsrAnswer → Bool
ends a = taken a || (refused_by Capacity a || refused_by GenerationExhausted a)

-- ACCEPT, refused with all written: 6 alone, since the entry refuses an OPEN without a context
abbrev pub written : HnsrAnswer → Bool
written a = taken a || refused_by GenerationExhausted a

-- ---- sides
abbrev pub asked_side : HnsrPeerId → Asked → Bool
asked_side p k = same_peer k.requester p || same_peer k.endpoint p

abbrev pub known_side : HnsrPeerId → Known → Bool
known_side p k = same_peer k.requester p || same_peer k.endpoint p

abbrev pub side_in : HnsrPeerId → Known → RelaySide
side_in p k = cond (same_peer k.requester p) Requester Endpoint

-- ---- OPEN: the id is the one that is drawn of those that neither stand nor are active, and a refusal with 18 has made
-- the missing ledger record (RUN.14)
abbrev pub drawn_in : Past → Packet → ℕ
drawn_in h q = unwrap_or (draw_all (λ j. h.opens.standing j || h.active j) 0 0 (draws q.random)) 0

abbrev pub asked_for : OpaqueRelayConfig → Packet → Asked
asked_for c q = record {
  requester = sender q;
  endpoint = peer_of q.admission.endpoint;
  context = q.context;
  ticket = q.admission.ticket;
  deadline = deadline_for c q.admission.ticket q.now;
}

abbrev pub open_in : Packet → HnsrAnswer → List Route → Past → Past
open_in q a rs h =
    let b = remade q.now h.book q.admission.ticket in
    cond (taken a)
    (emit (stood (with_book h b) (drawn_in h q) (asked_for h.head.config q)) (heard (λ r. drawn_in h q)) rs)
    (cond (refused_by ByteLimit a) (with_book h b) h)

-- ---- ACCEPT (ACCEPT.9): the OPEN ends, and the circuit is active
abbrev pub started_by : OpaqueRelayConfig → Asked → (window : ℕ) → Known
started_by c k window = starting k (min k.ticket.max_bytes_per_circuit c.maximum_bytes_per_circuit) window

abbrev pub accept_in : Packet → HnsrAnswer → List Route → Past → Past
accept_in q a rs h =
    let j = q.context in
    cond (written a)
    (emit (begun (open_ended h j) j
    (started_by h.head.config (h.opens.asked j) (accept_fields q.body).accepted_window)) (heard (λ r. j)) rs)
    h

-- ---- DATA and WINDOW
abbrev pub sent : RelaySide → ℕ → Known → Known
sent Requester n k = counted k (k.bytes + n) (k.data_r + n) k.data_e k.window_r k.window_e
sent Endpoint n k = counted k (k.bytes + n) k.data_r (k.data_e + n) k.window_r k.window_e

abbrev pub granted : RelaySide → ℕ → Known → Known
granted Requester n k = counted k k.bytes k.data_r k.data_e (k.window_r + n) k.window_e
granted Endpoint n k = counted k k.bytes k.data_r k.data_e k.window_r (k.window_e + n)

-- from neither side: the circuit's bytes alone (and the reservation's)
abbrev pub strange : ℕ → Known → Known
strange n k = counted k (k.bytes + n) k.data_r k.data_e k.window_r k.window_e

abbrev pub data_in : Packet → HnsrAnswer → List Route → Past → Past
data_in q a rs h =
    let j = q.context in
    let k = h.known j in
    let n = length q.body in
    let side = side_in (sender q) k in
    let g = with_book (learnt h j (cond (known_side (sender q) k) (sent side n k) (strange n k)))
    (spent_by h.book k.reservation n) in
    cond (taken a) (with_out g (g.out ++ carried_once j side n rs)) h

abbrev pub window_in : Packet → HnsrAnswer → List Route → Past → Past
window_in q a rs h =
    let j = q.context in
    let k = h.known j in
    cond (taken a)
    (emit (learnt h j
    (cond (known_side (sender q) k) (granted (side_in (sender q) k) (window_fields q.body).credit_delta k) k))
    (heard (λ r. j)) rs) h

-- ---- CLOSE, ERROR: the OPEN that the sender names (CLOSE.9); else the circuit
abbrev pub by_context : Past → HnsrPeerId → ℕ → Bool
by_context h p x =
    let k = h.opens.asked (h.opens.named p x) in
    h.opens.standing (h.opens.named p x) && (same_peer k.requester p && eqb k.context x)

abbrev pub by_id : Past → HnsrPeerId → ℕ → Bool
by_id h p x = h.opens.standing x && same_peer (h.opens.asked x).endpoint p

abbrev pub end_in : HnsrPeerId → ℕ → Past → Past
end_in p x h =
    cond (by_context h p x) (open_ended h (h.opens.named p x))
    (cond (by_id h p x) (open_ended h x) (circuit_ended h x))

-- the id of what is ended
abbrev pub ended_by : HnsrPeerId → ℕ → Past → ℕ
ended_by p x h = cond (by_context h p x) (h.opens.named p x) x

abbrev pub close_in : Packet → HnsrAnswer → List Route → Past → Past
close_in q a rs h =
    cond (ends a) (emit (end_in (sender q) q.context h) (heard (λ r. ended_by (sender q) q.context h)) rs) h

-- ---- acknowledge: the action goes (ACK.3). What was not delivered ends an OPEN and no other action (ACK.6), or a
-- circuit (ACK.8), or nothing (ACK.9)
abbrev pub failed_in : Action → Past → Past
failed_in x h =
    cond (eqb x.kind (kind_number Incoming)) (cond (h.opens.standing x.circuit) (unstood h x.circuit) h)
    (cond (leb (kind_number Close) x.kind) h (cond (h.active x.circuit) (circuit_ended h x.circuit) h))

abbrev pub acknowledge_in : (generation sequence : ℕ) → (delivered : Bool) → HnsrAnswer → List Route → Past → Past
acknowledge_in g s delivered a rs h =
    let x = pick (numbered g s) nothing h.out in
    let rest = without h (numbered g s) in
    cond (ends a) (emit (cond delivered rest (failed_in x rest)) (heard (λ r. x.circuit)) rs) h

-- ---- the revoking calls: OPENs and circuits of which a test holds end, and their actions are dropped
abbrev pub gone_open : Past → (Asked → Bool) → Action → Bool
gone_open h q a = h.opens.standing a.circuit && q (h.opens.asked a.circuit)

abbrev pub gone_circuit : Past → (Known → Bool) → Action → Bool
gone_circuit h q a = h.active a.circuit && q (h.known a.circuit)

abbrev pub revoked : Past → (Asked → Bool) → (Known → Bool) → List Action → Past
revoked h qo qc told =
    fewer h
    (λ j. h.active j && not (qc (h.known j)))
    (λ j. h.opens.standing j && not (qo (h.opens.asked j)))
    (keep (non (gone_circuit h qc)) (keep (non (gone_open h qo)) h.out) ++ told)

-- ---- what a revocation says is about: ERROR, to the requester of an OPEN, goes under its own context; CLOSE goes
-- under the id
abbrev pub about : Past → Route → ℕ
about h r = cond (eqb r.opcode op_error) (h.opens.named r.destination r.context) r.context

-- ---- what a disconnect of p says: of an OPEN the one that is left hears CLOSE, a requester under its own context
-- (DISC.4). So one number can be a context and an id: a peer has an OPEN toward p under the number of another record
-- that it shares with p
abbrev pub own_open : Past → HnsrPeerId → Route → Bool
own_open h p r =
    by_context h r.destination r.context
    && same_peer (h.opens.asked (h.opens.named r.destination r.context)).endpoint p

abbrev pub shared_id : Past → HnsrPeerId → (peer : HnsrPeerId) → ℕ → Bool
shared_id h p peer j =
    (h.active j && (known_side p (h.known j) && known_side peer (h.known j)))
    || (h.opens.standing j && (asked_side p (h.opens.asked j) && asked_side peer (h.opens.asked j)))

-- then it is the record whose turn comes first, if its CLOSE found capacity then and was not heard yet; else the other.
-- OPENs come before circuits, by ascending id; at the turn of the OPEN k its own actions and those of the OPENs before
-- it are dropped, and what these said came on top
abbrev pub at_turn : Past → HnsrPeerId → (k : ℕ) → (earlier : List Action) → List Action
at_turn h p k earlier =
    keep (λ a. not (gone_open h (asked_side p) a && leb a.circuit k)) h.out
    ++ keep (λ a. h.opens.standing a.circuit && ltb a.circuit k) earlier

abbrev pub other_of : HnsrPeerId → Asked → HnsrPeerId
other_of p k = cond (same_peer k.requester p) k.endpoint k.requester

abbrev pub comes : HnsrPeerId → Past → (earlier : List Action) → (k : ℕ) → Bool
comes p h earlier k =
    not (any (on_circuit k) earlier)
    && not (eqb (capacity_left h.head.config (tally k (other_of p (h.opens.asked k)) (at_turn h p k earlier))) 0)

abbrev pub in_turn : HnsrPeerId → Past → (earlier : List Action) → (first last : ℕ) → ℕ
in_turn p h earlier first last = cond (comes p h earlier first) first last

abbrev pub about_close : HnsrPeerId → Past → (earlier : List Action) → Route → ℕ
about_close p h earlier r =
    let x = r.context in
    let j = h.opens.named r.destination x in
    cond (own_open h p r)
    (cond (shared_id h p r.destination x)
    (cond (h.opens.standing x && ltb x j) (in_turn p h earlier x j) (in_turn p h earlier j x))
    j)
    x

abbrev pub heard_on_leaving : HnsrPeerId → Past → (earlier : List Action) → List Route → List Action
heard_on_leaving p h earlier [] = []
heard_on_leaving p h earlier (r ∷ rs) =
    let a = heard (about_close p h earlier) r in
    a ∷ heard_on_leaving p h (earlier ++ (a ∷ [])) rs

abbrev pub asked_under : ReservationId → Asked → Bool
asked_under r k = same_reservation k.ticket.reservation_id r

abbrev pub known_under : ReservationId → Known → Bool
known_under r k = same_reservation k.reservation r

abbrev pub asked_over : (now : ℕ) → Asked → Bool
asked_over now k = leb k.deadline now || leb k.ticket.expires_at now

abbrev pub known_over : (now : ℕ) → Known → Bool
known_over now k = leb k.expires now

abbrev pub every_open : Asked → Bool
every_open k = true

abbrev pub every_circuit : Known → Bool
every_circuit k = true

-- replace_enabled (SWITCH.3 to SWITCH.6)
abbrev pub switched_to : Past → Bool → Past
switched_to h on = let d = h.head in with_out (with_head h (head_at d (d.generation + 1) on d.clock 1)) []

abbrev pub enable_in : Bool → List Route → Past → Past
enable_in on rs h =
    cond (beq h.head.enabled on) h
    (cond on
    (emit (switched_to h on) (heard (λ r. r.context)) rs)
    (revoked (switched_to h on) every_open every_circuit (map (heard (about h)) rs)))

-- ---- handle: entry and clock, which then has moved; the gate; and by the opcode (HANDLE.1 to HANDLE.4)
abbrev pub entered : Past → Packet → (room : ℕ) → HnsrAnswer
entered h q room =
    (check (ltb room handle_words) Short
    then peer_answer (length q.source)
    then packet_answer q.opcode q.context (length q.body))
    then clock_answer h.head.clock q.now

abbrev pub handled_as : Handling → Packet → HnsrAnswer → List Route → Past → Past
handled_as OPEN q a rs h = open_in q a rs h
handled_as ACCEPT q a rs h = accept_in q a rs h
handled_as DATA q a rs h = data_in q a rs h
handled_as WINDOW q a rs h = window_in q a rs h
handled_as CLOSE q a rs h = close_in q a rs h
handled_as ERROR q a rs h = close_in q a rs h
handled_as other q a rs h = h

abbrev pub handle_in : Packet → (room : ℕ) → HnsrAnswer → List Route → Past → Past
handle_in q room a rs h =
    let g = moved_to h q.now in
    cond (taken (entered h q room)) (cond h.head.enabled (handled_as (handling_of q.opcode) q a rs g) g) h

-- ---- what a call changes
abbrev pub after : Past → Call → HnsrAnswer → List Route → Past
after h (call_status peer circuit) a rs = h
after h call_next_due a rs = h
after h (call_observe_time now) a rs = cond (taken a) (moved_to h now) h
after h (call_replace_enabled expected on room) a rs = cond (taken a) (enable_in on rs h) h
after h (call_handle q room) a rs = handle_in q room a rs h
after h (call_acknowledge g s delivered room) a rs = acknowledge_in g s delivered a rs h
after h (call_disconnect peer room) a rs =
    let p = peer_of peer in
    let left = without h (toward p) in
    cond (taken a) (revoked left (asked_side p) (known_side p) (heard_on_leaving p left [] rs)) h
after h (call_revoke_reservation id room) a rs =
    cond (taken a)
    (revoked (with_book h (unmade h.book id)) (asked_under id) (known_under id) (map (heard (about h)) rs)) h
after h (call_expire now room) a rs =
    cond (taken a) (revoked (moved_to h now) (asked_over now) (known_over now) (map (heard (about h)) rs)) h

-- ---- one event: what its call changes, and one number for each route; and all of them
abbrev pub after_event : Past → Event → Past
after_event h e = numbering (after h e.call e.answer e.routes) (length e.routes)

abbrev pub reckon : Past → List Event → Past
reckon h [] = h
reckon h (e ∷ es) = reckon (after_event h e) es
