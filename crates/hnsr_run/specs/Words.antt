-- History reads of a route what its output words tell: other labels, the same words, the same history.
use Rattle.std.specs.Prelude.{ℕ, ◌≡◌, refl, cond, List, [], ◌∷◌, ◌++◌, map, length}
use Rattle.std.proofs.Common.{ap, ◌∙◌}
use Rattle.std.specs.Bool.{beq}
use Rattle.hnsr_body.specs.Accept.{accept_fields}
use Rattle.hnsr_body.specs.Data.{window_fields}
use Rattle.hnsr_circuit.specs.Answers.{HnsrAnswer}
use Rattle.hnsr_circuit.specs.declared.answer.HnsrRuntimeError.TheVariants.{ByteLimit}
use Rattle.hnsr_circuit.specs.declared.records.RelaySide.{RelaySide}
use Rattle.hnsr_circuit.specs.declared.peer.HnsrPeerId.{HnsrPeerId}
use Rattle.std.proofs.lemmas.List.{length-map}
use Rattle.hnsr_circuit.specs.Table.{pick}
use Rattle.hnsr_circuit.specs.Peer.{peer_of}
use Rattle.hnsr_circuit.specs.Route.{Route, peer_words, packet_words, route_words}
use Rattle.hnsr_circuit.specs.Packet.{Packet, sender}
use Rattle.hnsr_circuit.specs.Handle.{Handling, OPEN, ACCEPT, DATA, WINDOW, CLOSE, ERROR, other, handling_of}
use Rattle.hnsr_circuit.specs.Call.{Call, call_status, call_next_due, call_observe_time}
use Rattle.hnsr_circuit.specs.Call.{call_replace_enabled, call_handle}
use Rattle.hnsr_circuit.specs.Call.{call_acknowledge, call_disconnect, call_revoke_reservation, call_expire}
use Rattle.hnsr_run.specs.Past.{Action, Past, numbered, toward, nothing, carried, carried_once}
use Rattle.hnsr_run.specs.Past.{heard, with_book, with_out, emit, without, moved_to, numbering}
use Rattle.hnsr_run.specs.Past.{stood, open_ended, begun, learnt, remade, spent_by, unmade}
use Rattle.hnsr_run.specs.History.{Event, taken, refused_by, ends, written, asked_side, known_side, side_in}
use Rattle.hnsr_run.specs.History.{drawn_in, asked_for, started_by, sent, granted, strange, failed_in, end_in}
use Rattle.hnsr_run.specs.History.{ended_by, close_in, revoked, about, about_close, heard_on_leaving}
use Rattle.hnsr_run.specs.History.{asked_under, known_under, asked_over, known_over, every_open, every_circuit}
use Rattle.hnsr_run.specs.History.{switched_to, entered, handled_as, after, after_event, reckon}

-- a route without the label, which is no word of it
abbrev pub unlabelled : Route → Route
unlabelled r = record {
  circuit = 0;
  destination = r.destination;
  generation = r.generation;
  sequence = r.sequence;
  opcode = r.opcode;
  context = r.context;
  body = r.body;
}

pub same-words : (r : Route) → route_words (unlabelled r) ≡ route_words r
unfolding route_words peer_words packet_words
same-words r = refl

-- ---- a list of routes, heard
same_map : (f : Route → Action) → ((r : Route) → f (unlabelled r) ≡ f r) → (rs : List Route)
    → map f (map unlabelled rs) ≡ map f rs
same_map f e [] = refl
same_map f e (r ∷ rs) = λ i. e r i ∷ same_map f e rs i

same_once : (j : ℕ) (side : RelaySide) (n : ℕ) (rs : List Route)
    → carried_once j side n (map unlabelled rs) ≡ carried_once j side n rs
same_once j side n [] = refl
same_once j side n (r ∷ rs) =
    ap {B = List Action} (λ l. carried j side n r ∷ l) (same_map (carried j side 0) (λ r. refl) rs)

same_leaving : (p : HnsrPeerId) (h : Past) (e : List Action) (rs : List Route)
    → heard_on_leaving p h e (map unlabelled rs) ≡ heard_on_leaving p h e rs
same_leaving p h e [] = refl
same_leaving p h e (r ∷ rs) =
    let a = heard (about_close p h e) r in ap {B = List Action} (λ l. a ∷ l) (same_leaving p h (e ++ (a ∷ [])) rs)

-- ---- one event
same-emit : (h : Past) (j : ℕ) (rs : List Route)
    → emit h (heard (λ r. j)) (map unlabelled rs) ≡ emit h (heard (λ r. j)) rs
same-emit h j rs = ap (λ l. with_out h (h.out ++ l)) (same_map (heard (λ r. j)) (λ r. refl) rs)

same_close : (q : Packet) (a : HnsrAnswer) (rs : List Route) (h : Past)
    → close_in q a (map unlabelled rs) h ≡ close_in q a rs h
same_close q a rs h =
    ap (λ (g : Past). cond (ends a) g h)
    (same-emit (end_in (sender q) q.context h) (ended_by (sender q) q.context h) rs)

same-handled : (k : Handling) (q : Packet) (a : HnsrAnswer) (rs : List Route) (h : Past)
    → handled_as k q a (map unlabelled rs) h ≡ handled_as k q a rs h
same-handled OPEN q a rs h =
    let b = remade q.now h.book q.admission.ticket in
    let g = stood (with_book h b) (drawn_in h q) (asked_for h.head.config q) in
    ap (λ (x : Past). cond (taken a) x (cond (refused_by ByteLimit a) (with_book h b) h))
    (same-emit g (drawn_in h q) rs)
same-handled ACCEPT q a rs h =
    let j = q.context in
    let g = begun (open_ended h j) j
    (started_by h.head.config (h.opens.asked j) (accept_fields q.body).accepted_window) in
    ap (λ (x : Past). cond (written a) x h) (same-emit g j rs)
same-handled DATA q a rs h =
    let j = q.context in
    let k = h.known j in
    let n = length q.body in
    let side = side_in (sender q) k in
    let g = with_book (learnt h j (cond (known_side (sender q) k) (sent side n k) (strange n k)))
    (spent_by h.book k.reservation n) in
    ap (λ l. cond (taken a) (with_out g (g.out ++ l)) h) (same_once j side n rs)
same-handled WINDOW q a rs h =
    let j = q.context in
    let k = h.known j in
    let g = learnt h j
    (cond (known_side (sender q) k) (granted (side_in (sender q) k) (window_fields q.body).credit_delta k) k) in
    ap (λ (x : Past). cond (taken a) x h) (same-emit g j rs)
same-handled CLOSE q a rs h = same_close q a rs h
same-handled ERROR q a rs h = same_close q a rs h
same-handled other q a rs h = refl

pub words-alone : (h : Past) (c : Call) (a : HnsrAnswer) (rs : List Route)
    → after h c a (map unlabelled rs) ≡ after h c a rs
words-alone h (call_status peer circuit) a rs = refl
words-alone h call_next_due a rs = refl
words-alone h (call_observe_time now) a rs = refl
words-alone h (call_replace_enabled expected on room) a rs =
    λ i. cond (taken a)
    (cond (beq h.head.enabled on) h
    (cond on
    (with_out (switched_to h on) ((switched_to h on).out ++ same_map (heard (λ r. r.context)) (λ r. refl) rs i))
    (revoked (switched_to h on) every_open every_circuit (same_map (heard (about h)) (λ r. refl) rs i)))) h
words-alone h (call_handle q room) a rs =
    ap (λ (g : Past). cond (taken (entered h q room)) (cond h.head.enabled g (moved_to h q.now)) h)
    (same-handled (handling_of q.opcode) q a rs (moved_to h q.now))
words-alone h (call_acknowledge g s delivered room) a rs =
    let x = pick (numbered g s) nothing h.out in
    let rest = without h (numbered g s) in
    ap (λ (k : Past). cond (ends a) k h) (same-emit (cond delivered rest (failed_in x rest)) x.circuit rs)
words-alone h (call_disconnect peer room) a rs =
    ap (λ l. cond (taken a)
    (revoked (without h (toward (peer_of peer))) (asked_side (peer_of peer)) (known_side (peer_of peer)) l) h)
    (same_leaving (peer_of peer) (without h (toward (peer_of peer))) [] rs)
words-alone h (call_revoke_reservation id room) a rs =
    ap (λ l. cond (taken a) (revoked (with_book h (unmade h.book id)) (asked_under id) (known_under id) l) h)
    (same_map (heard (about h)) (λ r. refl) rs)
words-alone h (call_expire now room) a rs =
    ap (λ l. cond (taken a) (revoked (moved_to h now) (asked_over now) (known_over now) l) h)
    (same_map (heard (about h)) (λ r. refl) rs)

-- ---- a run
abbrev pub unlabelled_event : Event → Event
unlabelled_event e = record { call = e.call; answer = e.answer; routes = map unlabelled e.routes }

event_alone : (h : Past) (e : Event) → after_event h (unlabelled_event e) ≡ after_event h e
event_alone h e = λ i. numbering (words-alone h e.call e.answer e.routes i)
    (length-map e.routes unlabelled i)

pub reckoned_by_words : (h : Past) (es : List Event) → reckon h (map unlabelled_event es) ≡ reckon h es
reckoned_by_words h [] = refl
reckoned_by_words h (e ∷ es) = ap (λ (g : Past). reckon g (map unlabelled_event es)) (event_alone h e)
    ∙ reckoned_by_words (after_event h e) es
