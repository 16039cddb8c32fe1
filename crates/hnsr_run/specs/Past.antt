-- What is known from the events of a run alone, that is from calls, answers, and of routes what their output words
-- tell: circuits, OPENs that stand, reservations, outstanding actions, and how each small change leaves it. No table of
-- the machine is looked at, and no label of a route. Circuits and OPENs are functions of the id, reservations of
-- theirs; the actions are one list.
use Rattle.std.specs.Prelude.{ℕ, ◌+◌, ◌-◌, Bool, true, false, cond, not, ◌&&◌}
use Rattle.std.specs.Prelude.{List, [], ◌∷◌, ◌++◌, map, ltb, eqb, length}
use Rattle.hns_encoding.specs.Sums.{only, non, count}
use Rattle.hnsr_body.specs.declared.values.ReservationId.{ReservationId}
use Rattle.hnsr_body.specs.Values.{same_reservation}
use Rattle.hnsr_circuit.specs.declared.peer.HnsrPeerId.{HnsrPeerId}
use Rattle.hnsr_circuit.specs.declared.config.OpaqueRelayConfig.{OpaqueRelayConfig}
use Rattle.hnsr_circuit.specs.declared.records.RelayTicket.{RelayTicket}
use Rattle.hnsr_circuit.specs.declared.tables.scan.InflightTally.{InflightTally}
use Rattle.hnsr_circuit.specs.declared.records.RelaySide.{RelaySide}
use Rattle.hnsr_circuit.specs.declared.records.RelaySide.TheVariants.{Requester, Endpoint}
use Rattle.hnsr_circuit.specs.Table.{keep}
use Rattle.hnsr_circuit.specs.Peer.{no_peer, same_peer}
use Rattle.hnsr_circuit.specs.Pending.{no_ticket}
use Rattle.hnsr_circuit.specs.declared.records.InflightKind.TheVariants.{Incoming, Opened, Data, Control, Close}
use Rattle.hnsr_circuit.specs.Inflight.{kind_number, to_endpoint}
use Rattle.hnsr_circuit.specs.Circuits.{other_side}
use Rattle.hnsr_circuit.specs.Opcode.{op_incoming, op_opened, op_data, op_window}
use Rattle.hnsr_circuit.specs.Route.{Route}

-- ---- what is known
-- a circuit, from its ACCEPT on: its sides and limits, the accepted window, and DATA and WINDOW taken from each side, R
-- from the requester and E from the endpoint
pub record Known : Type 0 where
  pub requester : HnsrPeerId
  pub endpoint : HnsrPeerId
  pub reservation : ReservationId
  pub expires : ℕ
  pub limit : ℕ
  pub total : ℕ
  pub window : ℕ
  pub bytes : ℕ
  pub data_r : ℕ
  pub data_e : ℕ
  pub window_r : ℕ
  pub window_e : ℕ

-- an OPEN that stands: who asked whom under which context, the grant's ticket, and until when it may be accepted
pub record Asked : Type 0 where
  pub requester : HnsrPeerId
  pub endpoint : HnsrPeerId
  pub context : ℕ
  pub ticket : RelayTicket
  pub deadline : ℕ

-- by id; the id of the last OPEN that a requester sent under a context; every id that a taken OPEN drew, newest first
pub record Opens : Type 0 where
  pub standing : ℕ → Bool
  pub asked : ℕ → Asked
  pub named : HnsrPeerId → ℕ → ℕ
  pub ids : List ℕ

-- reservations (RUN.6): whether an OPEN made the ledger record, its expiry, and the DATA since then
pub record Book : Type 0 where
  pub made : ReservationId → Bool
  pub due : ReservationId → ℕ
  pub spent : ReservationId → ℕ

-- an outstanding action: the numbers of its route, the circuit that it is about, to whom, its kind, and of DATA the
-- direction and the bytes
pub record Action : Type 0 where
  pub generation : ℕ
  pub sequence : ℕ
  pub circuit : ℕ
  pub destination : HnsrPeerId
  pub kind : ℕ
  pub to_endpoint : Bool
  pub bytes : ℕ

-- `next` is the action sequence: the number that the next action gets
pub record Head : Type 0 where
  pub generation : ℕ
  pub enabled : Bool
  pub clock : ℕ
  pub config : OpaqueRelayConfig
  pub next : ℕ

pub record Past : Type 0 where
  pub head : Head
  pub active : ℕ → Bool
  pub known : ℕ → Known
  pub opens : Opens
  pub book : Book
  pub out : List Action

-- ---- a function changed at one place
abbrev pub at : {B : Type 0} → ℕ → B → (ℕ → B) → ℕ → B
at j v g i = cond (eqb j i) v (g i)

abbrev pub under : {B : Type 0} → ReservationId → B → (ReservationId → B) → ReservationId → B
under r v g i = cond (same_reservation r i) v (g i)

-- ---- what is reckoned
-- RUN.4: what a side may still send
abbrev pub credit : RelaySide → Known → ℕ
credit Requester k = k.window + k.window_e - k.data_r
credit Endpoint k = k.window + k.window_r - k.data_e

-- RUN.5: what the circuit has left
abbrev pub circuit_left : Known → ℕ
circuit_left k = k.limit - k.bytes

-- RUN.6: what the reservation has left, for this circuit
abbrev pub total_left : Book → Known → ℕ
total_left b k = k.total - b.spent k.reservation

abbrev pub peer_on : RelaySide → Known → HnsrPeerId
peer_on Requester k = k.requester
peer_on Endpoint k = k.endpoint

-- ---- actions
abbrev pub is_data : Action → Bool
is_data a = eqb a.kind (kind_number Data)

abbrev pub on_circuit : ℕ → Action → Bool
on_circuit j a = eqb a.circuit j

abbrev pub toward : HnsrPeerId → Action → Bool
toward p a = same_peer a.destination p

abbrev pub numbered : (generation sequence : ℕ) → Action → Bool
numbered g s a = eqb a.generation g && eqb a.sequence s

-- DATA of a circuit toward a side
abbrev pub toward_side : RelaySide → Action → Bool
toward_side Requester a = not a.to_endpoint
toward_side Endpoint a = a.to_endpoint

abbrev pub weight : ℕ → RelaySide → Action → ℕ
weight j side a = only (λ x. is_data x && (on_circuit j x && toward_side side x)) (λ x. x.bytes) a

-- the three counts that the action capacity goes by: all, those of a circuit, those toward a peer
abbrev pub tally : ℕ → HnsrPeerId → List Action → InflightTally
tally j peer out =
    record { total = length out; for_circuit = count (on_circuit j) out; for_peer = count (toward peer) out }

-- QUEUE.2: the kind by the opcode
abbrev pub kind_for : (opcode : ℕ) → ℕ
kind_for n =
    cond (eqb n op_incoming) (kind_number Incoming)
    (cond (eqb n op_opened) (kind_number Opened)
    (cond (eqb n op_data) (kind_number Data)
    (cond (eqb n op_window) (kind_number Control) (kind_number Close))))

-- its numbers and its destination are among the route's words
abbrev pub of_route : Route → (circuit kind : ℕ) → (to_endpoint : Bool) → (bytes : ℕ) → Action
of_route r circuit kind to_endpoint bytes = record {
  generation = r.generation;
  sequence = r.sequence;
  circuit = circuit;
  destination = r.destination;
  kind = kind;
  to_endpoint = to_endpoint;
  bytes = bytes;
}

-- the action of a route: its kind is among the words too; `about` tells the circuit, from the call and the words
abbrev pub heard : (about : Route → ℕ) → Route → Action
heard about r = of_route r (about r) (kind_for r.opcode) false 0

-- the action of DATA taken: its circuit, its direction and its bytes are those of the packet, whatever the route has
abbrev pub carried : (circuit : ℕ) → (from : RelaySide) → (bytes : ℕ) → Route → Action
carried j from n r = of_route r j (kind_number Data) (to_endpoint (other_side from)) n

-- the bytes of one DATA are taken once, however many routes it has
abbrev pub carried_once : (circuit : ℕ) → (from : RelaySide) → (bytes : ℕ) → List Route → List Action
carried_once j from n [] = []
carried_once j from n (r ∷ rs) = carried j from n r ∷ map (carried j from 0) rs

-- a circuit of which nothing was taken yet
abbrev pub starting : Asked → (limit window : ℕ) → Known
starting k limit window = record {
  requester = k.requester;
  endpoint = k.endpoint;
  reservation = k.ticket.reservation_id;
  expires = k.ticket.expires_at;
  limit = limit;
  total = k.ticket.max_total_bytes;
  window = window;
  bytes = 0;
  data_r = 0;
  data_e = 0;
  window_r = 0;
  window_e = 0;
}

-- DATA and WINDOW taken, replaced
abbrev pub counted : Known → (bytes data_r data_e window_r window_e : ℕ) → Known
counted k bytes data_r data_e window_r window_e = record {
  requester = k.requester;
  endpoint = k.endpoint;
  reservation = k.reservation;
  expires = k.expires;
  limit = k.limit;
  total = k.total;
  window = k.window;
  bytes = bytes;
  data_r = data_r;
  data_e = data_e;
  window_r = window_r;
  window_e = window_e;
}

-- ---- nothing yet
abbrev pub no_asked : Asked
no_asked = record { requester = no_peer; endpoint = no_peer; context = 0; ticket = no_ticket; deadline = 0 }

abbrev pub no_one : Known
no_one = starting no_asked 0 0

abbrev pub no_opens : Opens
no_opens = record { standing = λ j. false; asked = λ j. no_asked; named = λ p x. 0; ids = [] }

abbrev pub no_book : Book
no_book = record { made = λ r. false; due = λ r. 0; spent = λ r. 0 }

abbrev pub nothing : Action
nothing = record {
  generation = 0;
  sequence = 0;
  circuit = 0;
  destination = no_peer;
  kind = 0;
  to_endpoint = false;
  bytes = 0;
}

-- ---- parts replaced, the others staying. Every other change goes by these, so that a new part is copied here alone
-- all but the configuration, which no call changes
abbrev pub head_at : Head → (generation : ℕ) → (enabled : Bool) → (clock next : ℕ) → Head
head_at d generation enabled clock next =
    record { generation = generation; enabled = enabled; clock = clock; config = d.config; next = next }

-- which OPENs stand
abbrev pub still_standing : Opens → (ℕ → Bool) → Opens
still_standing o st = record { standing = st; asked = o.asked; named = o.named; ids = o.ids }

abbrev pub with_head : Past → Head → Past
with_head h d = record { head = d; active = h.active; known = h.known; opens = h.opens; book = h.book; out = h.out }

abbrev pub with_book : Past → Book → Past
with_book h b = record { head = h.head; active = h.active; known = h.known; opens = h.opens; book = b; out = h.out }

-- circuits, OPENs and actions
abbrev pub with_records : Past → (ℕ → Bool) → (ℕ → Known) → Opens → List Action → Past
with_records h ac kn o out = record { head = h.head; active = ac; known = kn; opens = o; book = h.book; out = out }

abbrev pub with_circuit : Past → (ℕ → Bool) → (ℕ → Known) → Past
with_circuit h ac kn = with_records h ac kn h.opens h.out

abbrev pub with_opens : Past → Opens → Past
with_opens h o = with_records h h.active h.known o h.out

abbrev pub with_out : Past → List Action → Past
with_out h out = with_records h h.active h.known h.opens out

-- which circuits are active, which OPENs stand, and the actions
abbrev pub fewer : Past → (active standing : ℕ → Bool) → List Action → Past
fewer h ac st out = with_records h ac h.known (still_standing h.opens st) out

-- ---- small changes
-- routes written are outstanding actions
abbrev pub emit : Past → (Route → Action) → List Route → Past
emit h f rs = with_out h (h.out ++ map f rs)

abbrev pub without : Past → (Action → Bool) → Past
without h p = with_out h (keep (non p) h.out)

abbrev pub moved_to : Past → (now : ℕ) → Past
moved_to h now = let d = h.head in with_head h (head_at d d.generation d.enabled now d.next)

-- so many actions more have got their numbers
abbrev pub numbering : Past → ℕ → Past
numbering h n = let d = h.head in with_head h (head_at d d.generation d.enabled d.clock (d.next + n))

-- an OPEN stands; it no longer stands; it ends, and its actions are dropped
abbrev pub stood : Past → ℕ → Asked → Past
stood h j k = with_opens h (record {
  standing = at j true h.opens.standing;
  asked = at j k h.opens.asked;
  named = λ p x. cond (same_peer k.requester p && eqb k.context x) j (h.opens.named p x);
  ids = j ∷ h.opens.ids;
})

abbrev pub unstood : Past → ℕ → Past
unstood h j = with_opens h (still_standing h.opens (at j false h.opens.standing))

abbrev pub open_ended : Past → ℕ → Past
open_ended h j = unstood (without h (on_circuit j)) j

-- a circuit is active; more is known of it; it ends, and its actions are dropped
abbrev pub begun : Past → ℕ → Known → Past
begun h j k = with_circuit h (at j true h.active) (at j k h.known)

abbrev pub learnt : Past → ℕ → Known → Past
learnt h j k = with_circuit h h.active (at j k h.known)

abbrev pub circuit_ended : Past → ℕ → Past
circuit_ended h j = with_circuit (without h (on_circuit j)) (at j false h.active) h.known

-- ---- reservations
-- of a ledger record past its expiry nothing is said: which call drops it does not show in the answers. What next due
-- tells would show it, but what is told is no part of an event
abbrev pub lives : (now : ℕ) → Book → ReservationId → Bool
lives now b r = b.made r && ltb now (b.due r)

-- made anew; and so, unless it lives
abbrev pub anew : Book → RelayTicket → Book
anew b t = record {
  made = under t.reservation_id true b.made;
  due = under t.reservation_id t.expires_at b.due;
  spent = under t.reservation_id 0 b.spent;
}

abbrev pub remade : (now : ℕ) → Book → RelayTicket → Book
remade now b t = cond (lives now b t.reservation_id) b (anew b t)

abbrev pub with_spent : Book → (ReservationId → ℕ) → Book
with_spent b spent = record { made = b.made; due = b.due; spent = spent }

abbrev pub spent_by : Book → ReservationId → ℕ → Book
spent_by b r n = with_spent b (under r (b.spent r + n) b.spent)

abbrev pub unmade : Book → ReservationId → Book
unmade b r = record { made = under r false b.made; due = b.due; spent = b.spent }
