-- A run, computed. It shows that the claim speaks of something: every kind of call, taken and refused; every way in
-- which an OPEN or a circuit ends; then several circuits on a shared reservation, both directions queued, a relay
-- switched off and on, an id drawn again, an expired OPEN, a disconnect.
use Rattle.std.specs.Prelude.{ℕ, ◌≡◌, refl, true, false, List, [], ◌∷◌, ◌++◌, map}
use Rattle.hns_encoding.specs.Sums.{total}
use Rattle.hnsr_circuit.specs.declared.records.RelaySide.TheVariants.{Requester, Endpoint}
use Rattle.hnsr_circuit.specs.Answers.{number}
use Rattle.hnsr_circuit.specs.World.{World}
use Rattle.hnsr_circuit.specs.Opcode.{op_error}
use Rattle.hnsr_circuit.specs.Entry.{handle_words, acknowledge_words}
use Rattle.hnsr_circuit.specs.Worked.Cases.{lent, not_admitted}
use Rattle.hnsr_circuit.specs.Code.Told.{capacity_in}
use Rattle.hnsr_circuit.specs.Call.{Call, start, step, call_status, call_next_due}
use Rattle.hnsr_circuit.specs.Call.{call_observe_time, call_replace_enabled}
use Rattle.hnsr_circuit.specs.Call.{call_handle, call_disconnect, call_revoke_reservation, call_expire}
use Rattle.hnsr_circuit.specs.Worked.All.{machine}
use Rattle.hnsr_run.specs.Past.{Action, credit, circuit_left, total_left, weight}
use Rattle.hnsr_run.specs.History.{begin}
use Rattle.hnsr_run.specs.Claim.{left_by, events, below, delivered}
use Rattle.hnsr_run.specs.Talk.{tables, fresh, grant, opens, packet, accepts, sends, widens, closes, fails}
use Rattle.hnsr_run.specs.Talk.{acked, lost, ample, leaves, revokes, world_after, past_after, number_of}

-- every way in which an OPEN or a circuit ends, and every kind of call taken and refused, as far as a run can refuse
-- it: `status` and `next_due` are always taken. `lost` and `acked` name a route by its generation and number; an end
-- drops what is outstanding under its id
abbrev endings : List Call
endings =
    -- an OPEN: CLOSE by its endpoint, by id; ERROR by its requester, by its own context; INCOMING lost
    opens 1 2 9 (7 ∷ []) (grant 4 5000) 100
    ∷ closes 2 7 100
    ∷ opens 1 2 9 (7 ∷ []) (grant 4 5000) 100
    ∷ fails 1 9 100
    ∷ opens 1 2 9 (8 ∷ []) (grant 4 5000) 100
    ∷ lost 1 5
    -- a circuit: OPENED lost, and then a CLOSE; DATA lost; WINDOW lost
    ∷ opens 1 2 9 (10 ∷ []) (grant 4 5000) 100
    ∷ accepts 2 10 100
    ∷ lost 1 8
    ∷ lost 1 9
    ∷ opens 1 2 9 (11 ∷ []) (grant 4 5000) 100
    ∷ accepts 2 11 100
    ∷ sends 1 11 100 100
    ∷ lost 1 13
    ∷ opens 1 2 9 (12 ∷ []) (grant 4 5000) 100
    ∷ accepts 2 12 100
    ∷ widens 2 12 1000 100
    ∷ lost 1 18
    -- CLOSE by the requester, ERROR by the endpoint
    ∷ opens 1 2 9 (13 ∷ []) (grant 4 5000) 100
    ∷ accepts 2 13 100
    ∷ closes 1 13 100
    ∷ opens 1 2 9 (14 ∷ []) (grant 4 5000) 100
    ∷ accepts 2 14 100
    ∷ fails 2 14 100
    -- refused while a circuit stands
    ∷ opens 1 2 9 (15 ∷ []) (grant 4 5000) 100
    ∷ accepts 2 15 100
    ∷ opens 1 1 8 (16 ∷ []) (grant 4 5000) 100
    ∷ accepts 2 16 100
    ∷ widens 2 15 1048576 100
    ∷ closes 1 16 100
    ∷ call_handle (packet 1 op_error 15 (0 ∷ 0 ∷ 1 ∷ []) 100) handle_words
    ∷ acked 1 99
    ∷ call_replace_enabled 2 false ample
    ∷ call_disconnect [] ample
    ∷ call_status [] 15
    ∷ call_revoke_reservation (record { high = 0; low = 4 }) 0
    ∷ call_expire 99 ample
    ∷ call_observe_time 99
    -- taken: the same state, nobody's peer, nothing over; then the reservation, whose ledger record goes too
    ∷ call_replace_enabled 1 true ample
    ∷ leaves 9
    ∷ call_expire 100 ample
    ∷ call_observe_time 100
    ∷ call_next_due
    ∷ call_status (2 ∷ []) 15
    ∷ revokes 4
    ∷ []

-- a relay switched off and on, the id 7 drawn once more, several circuits on a shared reservation
abbrev sharing : List Call
sharing =
    opens 1 2 9 (7 ∷ []) (grant 5 5800) 100
    ∷ accepts 2 7 100
    ∷ sends 1 7 1000 100
    ∷ call_replace_enabled 1 false ample
    ∷ opens 1 2 9 (7 ∷ []) (grant 5 5800) 100
    ∷ call_replace_enabled 2 true ample
    ∷ opens 1 2 9 (0 ∷ 7 ∷ []) (grant 5 5800) 101
    ∷ accepts 2 7 101
    ∷ opens 3 2 9 (7 ∷ 8 ∷ []) (grant 5 5800) 101
    ∷ accepts 2 8 101
    ∷ opens 4 2 1 (11 ∷ []) (grant 5 5800) 101
    ∷ opens 4 3 2 (12 ∷ []) (grant 6 0) 101
    ∷ sends 1 7 500 102
    ∷ sends 2 7 300 102
    ∷ sends 3 8 200 102
    ∷ sends 2 8 100 102
    ∷ sends 4 8 100 102
    ∷ sends 1 7 0 102
    ∷ widens 2 7 1000 103
    ∷ acked 3 6
    ∷ acked 3 6
    ∷ acked 2 7
    ∷ call_expire 111 ample
    ∷ opens 1 4 2 (7 ∷ 8 ∷ 12 ∷ []) (grant 5 5800) 112
    ∷ accepts 4 12 112
    ∷ sends 4 12 50 112
    ∷ leaves 4
    ∷ closes 3 7 113
    ∷ sends 2 7 10 99
    ∷ call_status (2 ∷ []) 7
    ∷ []

abbrev pub rich_calls : List Call
rich_calls = endings ++ sharing

pub answers-endings : map number_of (events step (start tables fresh).world endings)
    ≡ 0 ∷ 0 ∷ 0 ∷ 0 ∷ 0 ∷ 0 ∷ 0 ∷ 0 ∷ 0 ∷ 0 ∷ 0 ∷ 0 ∷ 0 ∷ 0 ∷ 0 ∷ 0 ∷ 0 ∷ 0 ∷ 0 ∷ 0 ∷ 0 ∷ 0 ∷ 0 ∷ 0 ∷ 0 ∷ 0
    ∷ 10 ∷ 13 ∷ 17 ∷ 14 ∷ 1 ∷ 20 ∷ 5 ∷ 4 ∷ 4 ∷ 22 ∷ 7 ∷ 7 ∷ 0 ∷ 0 ∷ 0 ∷ 0 ∷ 0 ∷ 0 ∷ 0 ∷ []
unfolding machine lent not_admitted
answers-endings = refl

-- after which only what the relay said of the ends is outstanding: ERRORs 4, 6 and 26, CLOSEs
pub said-of-endings : map (λ a. a.sequence) (past_after endings).out
    ≡ 4 ∷ 6 ∷ 10 ∷ 14 ∷ 15 ∷ 19 ∷ 20 ∷ 23 ∷ 26 ∷ 29 ∷ 30 ∷ []
unfolding machine lent not_admitted
said-of-endings = refl

pub answers-sharing : map number_of (events step (world_after endings) sharing)
    ≡ 0 ∷ 0 ∷ 0 ∷ 0 ∷ 9 ∷ 0 ∷ 0 ∷ 0 ∷ 0 ∷ 0 ∷ 0 ∷ 18 ∷ 0 ∷ 0 ∷ 0 ∷ 0 ∷ 15 ∷ 1 ∷ 0 ∷ 0 ∷ 20 ∷ 5 ∷ 0 ∷ 0 ∷ 0 ∷ 0 ∷ 0 ∷ 15
    ∷ 7 ∷ 0 ∷ []
unfolding machine lent not_admitted
answers-sharing = refl

-- ---- the claim's premises hold of it
pub new-taken : number (start tables fresh).answer ≡ 0
unfolding machine lent
new-taken = refl

pub bounded : below (begin fresh) (events step (start tables fresh).world rich_calls) ≡ true
unfolding machine lent not_admitted
bounded = refl

-- ---- what is reckoned: the circuits 7 and 8 are active, both under reservation 5, on which 2,150 bytes were taken,
-- 1,000 of them before the relay was switched off; the OPEN 11 and the circuit 12 have ended; OPENED, INCOMING, DATA,
-- WINDOW and CLOSE are outstanding
pub circuits : map (past_after rich_calls).active (7 ∷ 8 ∷ 11 ∷ 12 ∷ []) ≡ true ∷ true ∷ false ∷ false ∷ []
unfolding machine lent not_admitted
circuits = refl

pub spent : (past_after rich_calls).book.spent (record { high = 0; low = 5 }) ≡ 2150
unfolding machine lent not_admitted
spent = refl

pub outstanding : map (λ a. a.sequence) (past_after rich_calls).out ≡ 2 ∷ 4 ∷ 7 ∷ 8 ∷ 9 ∷ 10 ∷ 12 ∷ 16 ∷ 17 ∷ []
unfolding machine lent not_admitted
outstanding = refl

-- the ids that OPENs drew, the last first
pub drawn : (past_after rich_calls).opens.ids ≡ 12 ∷ 11 ∷ 8 ∷ 7 ∷ 7 ∷ 15 ∷ 14 ∷ 13 ∷ 12 ∷ 11 ∷ 10 ∷ 8 ∷ 7 ∷ 7 ∷ []
unfolding machine lent not_admitted
drawn = refl

-- the sequence started again at each of the two switches
pub next-number : (past_after rich_calls).head.next ≡ 18
unfolding machine lent not_admitted
next-number = refl

-- how many further actions `status` tells: nine of sixteen are outstanding, three of them on each circuit, of which
-- eight may be
abbrev fitting : (circuit : ℕ) → ℕ
fitting circuit = capacity_in (step (world_after rich_calls) (call_status (2 ∷ []) circuit)).told

pub fit : map fitting (7 ∷ 8 ∷ 0 ∷ []) ≡ 5 ∷ 5 ∷ 7 ∷ []
unfolding machine lent not_admitted
fit = refl

-- bytes of DATA taken and unacknowledged toward the requester and the endpoint of each circuit: of circuit 7 the 500
-- toward the endpoint are acknowledged
pub unacknowledged : total (weight 7 Requester) (past_after rich_calls).out
    ∷ total (weight 7 Endpoint) (past_after rich_calls).out ∷ total (weight 8 Requester) (past_after rich_calls).out
    ∷ total (weight 8 Endpoint) (past_after rich_calls).out ∷ []
    ≡ 300 ∷ 0 ∷ 100 ∷ 200 ∷ []
unfolding machine lent not_admitted
unacknowledged = refl

-- the requester of 7 has its window, 1,000 more from the endpoint, less 500; 7 has 3,200 bytes left of its own, 8 has
-- 3,700, and the reservation 3,650
pub left : credit Requester ((past_after rich_calls).known 7) ∷ circuit_left ((past_after rich_calls).known 7)
    ∷ circuit_left ((past_after rich_calls).known 8)
    ∷ total_left (past_after rich_calls).book ((past_after rich_calls).known 8) ∷ []
    ≡ 16884 ∷ 3200 ∷ 3700 ∷ 3650 ∷ []
unfolding machine lent not_admitted
left = refl

-- ---- the outstanding actions acknowledged, last first: all taken; then DATA passes up to what is left, and fails by
-- one byte
abbrev backward : List Action → List Action
backward [] = []
backward (a ∷ more) = backward more ++ (a ∷ [])

abbrev acks_of : List Call → List Call
acks_of calls = map (delivered step (λ a. acknowledge_words)) (backward (past_after calls).out)

abbrev after_acks : List Call → World
after_acks calls = left_by step (world_after calls) (acks_of calls)

pub all-acknowledged : map number_of (events step (world_after rich_calls) (acks_of rich_calls))
    ≡ 0 ∷ 0 ∷ 0 ∷ 0 ∷ 0 ∷ 0 ∷ 0 ∷ 0 ∷ 0 ∷ []
unfolding machine lent not_admitted
all-acknowledged = refl

pub circuit-full : number (step (after_acks rich_calls) (sends 2 7 3200 200)).answer
    ∷ number (step (after_acks rich_calls) (sends 2 7 3201 200)).answer ∷ [] ≡ 0 ∷ 18 ∷ []
unfolding machine lent not_admitted
circuit-full = refl

pub reservation-full : number (step (after_acks rich_calls) (sends 3 8 3650 200)).answer
    ∷ number (step (after_acks rich_calls) (sends 3 8 3651 200)).answer ∷ [] ≡ 0 ∷ 18 ∷ []
unfolding machine lent not_admitted
reservation-full = refl
