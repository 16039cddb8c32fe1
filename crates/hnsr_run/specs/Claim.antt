-- The run theorem (RUN.10): one claim about any list of calls from a taken `new`, refused ones included, over a
-- machine: its `new` and its step.
use Rattle.std.specs.Prelude.{ℕ, ◌≤◌, ◌<◌, ◌≡◌, ◌↔◌, Bool, true, not, ◌&&◌, ◌||◌, Ok}
use Rattle.std.specs.Prelude.{List, [], ◌∷◌, map, ltb, eqb, length, replicate}
use Rattle.hns_encoding.specs.Numbers.{top}
use Rattle.hns_encoding.specs.Sums.{total}
use Rattle.hnsr_body.specs.Data.{most_data}
use Rattle.hnsr_circuit.specs.declared.runtime.HnsrRuntimeStatus.{HnsrRuntimeStatus}
use Rattle.hnsr_circuit.specs.declared.records.RelaySide.{RelaySide}
use Rattle.hnsr_circuit.specs.World.{World, Outcome, status_is}
use Rattle.hnsr_circuit.specs.Peer.{peer_good, peer_of, same_peer}
use Rattle.hnsr_circuit.specs.Circuits.{other_side, queued_to}
use Rattle.hnsr_circuit.specs.Inflight.{capacity_left}
use Rattle.hnsr_circuit.specs.Route.{Route}
use Rattle.hnsr_circuit.specs.Opcode.{op_open, op_data}
use Rattle.hnsr_circuit.specs.Entry.{handle_words, acknowledge_words}
use Rattle.hnsr_circuit.specs.Packet.{Packet, sender, circuit_in}
use Rattle.hnsr_circuit.specs.Call.{Start, Call, call_status, call_handle, call_acknowledge, on_handle}
use Rattle.hnsr_run.specs.Past.{Action, Past, peer_on, credit, circuit_left, total_left, weight, tally}
use Rattle.hnsr_run.specs.History.{Event, begin, after_event, reckon}

-- the total that the grant of an admitted OPEN brings is below 2^64 − 1. Its bytes per circuit need no bound: the
-- configuration's stands above them
abbrev pub limits_below : Call → Bool
limits_below c =
    on_handle true
    (λ q room. not (eqb q.opcode op_open && q.admission.admitted)
    || ltb q.admission.ticket.max_total_bytes (top 64))
    c

-- every total and the action sequence are below 2^64 − 1 throughout
abbrev pub below : Past → List Event → Bool
below h [] = ltb h.head.next (top 64)
below h (e ∷ es) = ltb h.head.next (top 64) && (limits_below e.call && below (after_event h e) es)

-- a list in any order: whatever is summed over its members, the sum is the same
abbrev pub Reordered : List Action → List Action → Type 0
Reordered order out = (f : Action → ℕ) → total f order ≡ total f out

-- RUN.12: DATA from a side of a circuit, neither longer than a DATA may be nor than the queue, at a time not behind the
-- clock and before the circuit's expiry, output long enough
pub record Sends (h : Past) (j : ℕ) (side : RelaySide) (q : Packet) (room : ℕ) : Type 0 where
  pub opcode : q.opcode ≡ op_data
  pub context : q.context ≡ j
  pub named : peer_good (length q.source) ≡ true
  pub from : same_peer (peer_on side (h.known j)) (sender q) ≡ true
  pub some : 0 < length q.body
  pub fits : length q.body ≤ most_data
  pub queue : length q.body ≤ h.head.config.maximum_queue_bytes
  pub forward : h.head.clock ≤ q.now
  pub unexpired : q.now < (h.known j).expires
  pub words : handle_words ≤ room

-- it passes unchanged (RUN.9)
pub record Passes (o : Outcome) (h : Past) (j : ℕ) (side : RelaySide) (q : Packet) : Type 0 where
  pub taken : o.answer ≡ Ok tt
  pub route : Route
  pub one : o.routes ≡ route ∷ []
  pub to : route.destination ≡ peer_on (other_side side) (h.known j)
  pub opcode : route.opcode ≡ q.opcode
  pub context : route.context ≡ q.context
  pub body : route.body ≡ q.body

-- a machine: what `new` does to the tables lent to it, and what each other call does to what it finds
pub record Machine : Type 0 where
  pub new : World → Start → Outcome
  pub step : World → Call → Outcome

module _ (step : World → Call → Outcome) where
  abbrev pub left_by : World → List Call → World
  left_by w [] = w
  left_by w (c ∷ cs) = left_by (step w c).world cs

  abbrev pub events : World → List Call → List Event
  events w [] = []
  events w (c ∷ cs) =
      record { call = c; answer = (step w c).answer; routes = (step w c).routes } ∷ events (step w c).world cs

  abbrev pub delivered : (rooms : Action → ℕ) → Action → Call
  delivered rooms a = call_acknowledge a.generation a.sequence true (rooms a)

  -- a world and what the events tell
  pub record Holds (w : World) (h : Past) : Type 0 where
    -- (a) `status`, for every name and circuit, answers as many actions as are outstanding, and as many further ones as
    -- these leave room for
    pub status : (peer : List ℕ) (circuit : ℕ) → peer_good (length peer) ≡ true
        → (s : HnsrRuntimeStatus)
        × (capacity : ℕ)
        × ((step w (call_status peer circuit)).answer ≡ Ok tt)
        × ((step w (call_status peer circuit)).told ≡ status_is s capacity)
        × (s.queued_actions ≡ length h.out)
        × (capacity ≡ capacity_left h.head.config (tally circuit (peer_of peer) h.out))
    -- (b) in every active circuit each direction's queued count equals the bytes of DATA taken and unacknowledged there
    pub queued : (j : ℕ) → h.active j ≡ true → (side : RelaySide)
        → queued_to side (circuit_in w j) ≡ total (weight j side) h.out
    -- (c) for every order of the outstanding actions, acknowledging each once as delivered is taken each time; and then
    -- DATA from either side of any active circuit passes unchanged if and only if it is within credit and what circuit
    -- and reservation have left
    pub acknowledged : (order : List Action) → Reordered order h.out → (rooms : Action → ℕ)
        → ((a : Action) → acknowledge_words ≤ rooms a)
        → (map (λ e. e.answer) (events w (map (delivered rooms) order)) ≡ replicate (length order) (Ok tt))
        × ((j : ℕ) → h.active j ≡ true → (side : RelaySide) (q : Packet) (room : ℕ) → Sends h j side q room
        → Passes (step (left_by w (map (delivered rooms) order)) (call_handle q room)) h j side q
        ↔ ((length q.body ≤ credit side (h.known j))
        × (length q.body ≤ circuit_left (h.known j))
        × (length q.body ≤ total_left h.book (h.known j))))

-- a run of a machine (RUN.1): tables lent, a taken `new`, and calls; all limits below 2^64 − 1 (RUN.11)
pub record Run (m : Machine) : Type 0 where
  pub lent : World
  pub began : Start
  pub new-taken : (m.new lent began).answer ≡ Ok tt
  pub limit : began.config.maximum_bytes_per_circuit < top 64
  pub calls : List Call
  pub bounded : below (begin began) (events m.step (m.new lent began).world calls) ≡ true

-- the world that it leaves, and what its events tell
abbrev pub world_at : (m : Machine) → Run m → World
world_at m r = left_by m.step (m.new r.lent r.began).world r.calls

abbrev pub past_at : (m : Machine) → Run m → Past
past_at m r = reckon (begin r.began) (events m.step (m.new r.lent r.began).world r.calls)

abbrev pub Claim : Machine → Type 0
Claim m = (r : Run m) → Holds m.step (world_at m r) (past_at m r)
