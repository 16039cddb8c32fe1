-- Tables as a host may lend them (TAB): examples that no trace of the Rust reaches, by computation. Here 22, 23, equal
-- ids and records that replace; the rest is in LentMore. Above each stands the rule that it reads.
use Rattle.std.specs.Prelude.{ℕ, suc, ◌-◌, ◌≡◌, refl, true, false, [], ◌∷◌, replicate, Ok, Err, None, Some}
use Rattle.hnsr_circuit.specs.Answers.{HnsrAnswer}
use Rattle.hnsr_circuit.specs.declared.answer.HnsrRuntimeError.TheVariants.{InvalidAdmission, UnknownAction}
use Rattle.hnsr_circuit.specs.declared.answer.HnsrRuntimeError.TheVariants.{InvalidPeer, Short, LedgerFull}
use Rattle.hnsr_circuit.specs.Peer.{maximum_peer}
use Rattle.hnsr_circuit.specs.Pending.{no_pending}
use Rattle.hnsr_circuit.specs.Circuits.{no_circuit}
use Rattle.hnsr_circuit.specs.Ledger.{no_usage, usage_for}
use Rattle.hnsr_circuit.specs.declared.records.InflightKind.TheVariants.{Close}
use Rattle.hnsr_circuit.specs.Inflight.{kind_number, clear_action}
use Rattle.hnsr_circuit.specs.World.{World, due_is}
use Rattle.hnsr_circuit.specs.Opcode.{op_close, op_error}
use Rattle.hnsr_circuit.specs.Call.{call_status, call_next_due, call_observe_time}
use Rattle.hnsr_circuit.specs.Call.{call_acknowledge, call_disconnect, call_expire, start}
use Rattle.hnsr_circuit.specs.Worked.All.{machine}
use Rattle.hnsr_circuit.specs.Worked.Cases.{lent, new_at, requester_peer, endpoint_peer}
use Rattle.hnsr_circuit.specs.Worked.Cases.{open_call, accept_call, packet_call}
use Rattle.hnsr_circuit.specs.Worked.LentWorlds.{peer, pending_between, pending_on, until, circuit_on}
use Rattle.hnsr_circuit.specs.Worked.LentWorlds.{usage_on, action_on, found, free, limits}
use Rattle.hnsr_circuit.specs.Worked.LentWorlds.{limited, answer_of, told_of, capacity_of}
use Rattle.hnsr_circuit.specs.Worked.LentWorlds.{due_after, routes, pending_after, first_circuit, first_action}

-- ---- ENTRY.1: words and tables
unfoldable pub quiet : World
unfolding found free
quiet = found (replicate 2 no_pending) (replicate 2 no_circuit) (no_usage ∷ []) (free 8)

unfoldable pub few_pending : World
unfolding found free
few_pending = found (no_pending ∷ []) (replicate 2 no_circuit) (no_usage ∷ []) (free 8)

unfoldable pub few_actions : World
unfolding found free
few_actions = found (replicate 2 no_pending) (replicate 2 no_circuit) (no_usage ∷ []) (free 7)

-- OUT.8: 96 words
pub acknowledge_wants_96 : answer_of quiet (call_acknowledge 1 9 true 95) ≡ Err Short
unfolding answer_of quiet
acknowledge_wants_96 = refl

pub acknowledge_has_96 : answer_of quiet (call_acknowledge 1 9 true 96) ≡ Err UnknownAction
unfolding answer_of quiet
acknowledge_has_96 = refl

pub status_wants_its_tables : answer_of few_pending (call_status (1 ∷ []) 7) ≡ Err Short
unfolding answer_of few_pending
status_wants_its_tables = refl

-- STATUS.5: then a name, of 1 to 128 bytes
pub status-tables-first : answer_of few_pending (call_status [] 7) ≡ Err Short
unfolding answer_of few_pending
status-tables-first = refl

pub status_wants_a_name : answer_of quiet (call_status [] 7) ≡ Err InvalidPeer
unfolding answer_of quiet
status_wants_a_name = refl

pub status_of_the_longest : answer_of quiet (call_status (replicate maximum_peer 9) 7) ≡ Ok tt
unfolding answer_of quiet
status_of_the_longest = refl

pub status_wants_no_longer : answer_of quiet (call_status (replicate (suc maximum_peer) 9) 7) ≡ Err InvalidPeer
unfolding answer_of quiet
status_wants_no_longer = refl

-- STATUS.6: three actions toward the peer 2, two of them on circuit 7 and one on 8, and one that is unused
unfoldable pub busy : (all circuit peer : ℕ) → World
unfolding found limited limits action_on free
busy all circuit peer =
    limited (limits all circuit peer)
    (found (replicate 2 no_pending) (replicate 2 no_circuit) (no_usage ∷ [])
    (action_on 1 7 (kind_number Close) 0 ∷ action_on 2 8 (kind_number Close) 0 ∷ clear_action
    (action_on 3 7 (kind_number Close) 0) ∷ action_on 4 7 (kind_number Close) 0 ∷ free 5))

-- the peer's limit is the least, then the circuit's, then that of all
pub peer-is-least : capacity_of (busy 9 5 4) 2 7 ≡ 1
unfolding capacity_of busy
peer-is-least = refl

pub circuit-is-least : capacity_of (busy 9 5 8) 2 7 ≡ 3
unfolding capacity_of busy
circuit-is-least = refl

pub all-is-least : capacity_of (busy 5 5 8) 2 7 ≡ 2
unfolding capacity_of busy
all-is-least = refl

-- an unknown peer, an unknown circuit, neither known, and circuit 0
pub unknown_peer_fits : capacity_of (busy 9 5 4) 3 7 ≡ 3
unfolding capacity_of busy
unknown_peer_fits = refl

pub unknown_circuit_fits : capacity_of (busy 9 5 8) 2 9 ≡ 5
unfolding capacity_of busy
unknown_circuit_fits = refl

pub neither-known-fits : capacity_of (busy 9 5 4) 3 9 ≡ 4
unfolding capacity_of busy
neither-known-fits = refl

pub no-circuit-fits : capacity_of (busy 9 5 4) 3 0 ≡ 4
unfolding capacity_of busy
no-circuit-fits = refl

-- a table may hold as many as a limit allows, or more: nothing is left
pub at_the_limit : capacity_of (busy 9 5 3) 2 9 ≡ 0
unfolding capacity_of busy
at_the_limit = refl

pub over_the_limit : capacity_of (busy 2 1 1) 2 7 ≡ 0
unfolding capacity_of busy
over_the_limit = refl

pub due_wants_its_tables : answer_of few_actions call_next_due ≡ Err Short
unfolding answer_of few_actions
due_wants_its_tables = refl

-- observe_time is lent neither
pub observe_wants_none : answer_of few_pending (call_observe_time 100) ≡ Ok tt
unfolding answer_of few_pending
observe_wants_none = refl

-- ENTRY.1 before ENTRY.2: the peer has no byte
pub short-before-peer : answer_of few_actions (call_disconnect [] 0) ≡ Err Short
unfolding answer_of few_actions
short-before-peer = refl

-- NEW.3: a ledger without a place
unfoldable pub new_answer_on : World → HnsrAnswer
unfolding machine new_at
new_answer_on w = (start w (new_at 65536)).answer

pub new_wants_a_ledger : new_answer_on (lent 2 2 8 0) ≡ Err Short
unfolding new_answer_on lent
new_wants_a_ledger = refl

pub new-has-a-ledger : new_answer_on (lent 2 2 8 1) ≡ Ok tt
unfolding new_answer_on lent
new-has-a-ledger = refl

-- OUT.8: 96 words for each of two records
unfoldable pub one-of-each : World
unfolding found pending_on circuit_on usage_on free peer
one-of-each =
    found (no_pending ∷ pending_on 7 9 ∷ []) (circuit_on 8 (peer 1) (peer 3) 0 0 ∷ no_circuit ∷ [])
    (usage_on 5 0 ∷ []) (free 8)

pub revoking_wants_192 : answer_of one-of-each (call_expire 100 191) ≡ Err Short
unfolding answer_of one-of-each
revoking_wants_192 = refl

pub revoking_has_192 : answer_of one-of-each (call_expire 100 192) ≡ Ok tt
unfolding answer_of one-of-each
revoking_has_192 = refl

-- DUE.5: what ends first, of the three tables
pub due-of-each : told_of one-of-each call_next_due ≡ due_is (Some 110)
unfolding told_of one-of-each
due-of-each = refl

-- a ledger record alone, behind an unused place whose expiry is 0
unfoldable pub ledger_alone : World
unfolding found usage_on free
ledger_alone = found (replicate 2 no_pending) (replicate 2 no_circuit) (no_usage ∷ usage_on 5 40 ∷ []) (free 8)

pub due_of_the_ledger : told_of ledger_alone call_next_due ≡ due_is (Some 1000)
unfolding told_of ledger_alone
due_of_the_ledger = refl

-- no record of the three, and an action outstanding
unfoldable pub action_alone : World
unfolding found action_on free
action_alone =
    found (replicate 2 no_pending) (replicate 2 no_circuit) (no_usage ∷ [])
    (action_on 3 7 (kind_number Close) 0 ∷ free 7)

pub nothing-is-due : told_of action_alone call_next_due ≡ due_is None
unfolding told_of action_alone
nothing-is-due = refl

-- DUE.7: a ledger record past its expiry is due until it is dropped
unfoldable pub ledger_lapsed : World
unfolding found free
ledger_lapsed =
    found (replicate 2 no_pending) (replicate 2 no_circuit) (usage_for (record { high = 0; low = 5 }) 90 ∷ []) (free 8)

pub lapsed-is-due : told_of ledger_lapsed call_next_due ≡ due_is (Some 90)
unfolding told_of ledger_lapsed
lapsed-is-due = refl

pub lapsed-is-dropped : due_after ledger_lapsed (call_expire 100 0) ≡ due_is None
unfolding due_after ledger_lapsed
lapsed-is-dropped = refl

-- ---- OPEN.9: with the record there the OPEN goes on
unfoldable pub other_ledger : World
unfolding found usage_on free
other_ledger = found (replicate 2 no_pending) (replicate 2 no_circuit) (usage_on 6 0 ∷ []) (free 8)

unfoldable pub same_ledger : World
unfolding found usage_on free
same_ledger = found (replicate 2 no_pending) (replicate 2 no_circuit) (usage_on 5 29999 ∷ []) (free 8)

pub ledger-full : answer_of other_ledger open_call ≡ Err LedgerFull
unfolding answer_of other_ledger open_call
ledger-full = refl

pub ledger_has_it : answer_of same_ledger open_call ≡ Ok tt
unfolding answer_of same_ledger open_call
ledger_has_it = refl

-- ---- lookups, counts and walks (TAB.4, TAB.5, TAB.8)
unfoldable pub twins : World
unfolding found pending_on usage_on free
twins = found (pending_on 7 9 ∷ pending_on 7 11 ∷ []) (replicate 2 no_circuit) (usage_on 5 0 ∷ []) (free 8)

pub accept_takes_the_lower : pending_after twins (accept_call 100) ≡ false ∷ true ∷ []
unfolding pending_after twins accept_call
accept_takes_the_lower = refl

pub expire-takes-both : routes twins (call_expire 110 192)
    ≡ (1 ∷ 1 ∷ op_error ∷ 9 ∷ [])
    ∷ (2 ∷ 2 ∷ op_close ∷ 7 ∷ [])
    ∷ (3 ∷ 1 ∷ op_error ∷ 11 ∷ [])
    ∷ (4 ∷ 2 ∷ op_close ∷ 7 ∷ []) ∷ []
unfolding routes twins
expire-takes-both = refl

pub expire_clears_both : pending_after twins (call_expire 110 192) ≡ false ∷ false ∷ []
unfolding pending_after twins
expire_clears_both = refl

-- CLOSE.2: the endpoint names both by circuit id
pub close_names_two : answer_of twins (packet_call endpoint_peer op_close 7 (0 ∷ 0 ∷ 0 ∷ []) 100)
    ≡ Err InvalidAdmission
unfolding answer_of twins packet_call endpoint_peer
close_names_two = refl

-- CLOSE.9: the requester's context names the second alone
pub close_names_one : pending_after twins (packet_call requester_peer op_close 11 (0 ∷ 0 ∷ 0 ∷ []) 100)
    ≡ true ∷ false ∷ []
unfolding pending_after twins packet_call requester_peer
close_names_one = refl

-- a walk ends the record that has the property, at its place: not the one that a lookup of its id finds, here a
-- stranger's at the lower place
unfoldable pub strangers : World
unfolding found pending_on pending_between usage_on free peer
strangers =
    found (pending_between 7 13 (peer 3) (peer 4) ∷ pending_on 7 9 ∷ []) (replicate 2 no_circuit)
    (usage_on 5 0 ∷ []) (free 8)

pub walk_ends_its_own : pending_after strangers (call_disconnect requester_peer 192) ≡ true ∷ false ∷ []
unfolding pending_after strangers requester_peer
walk_ends_its_own = refl

pub walk_tells_its_own : routes strangers (call_disconnect requester_peer 192) ≡ (1 ∷ 2 ∷ op_close ∷ 7 ∷ []) ∷ []
unfolding routes strangers requester_peer
walk_tells_its_own = refl

-- one of two is over: that one ends, and what is due next lies ahead
unfoldable pub one_over : World
unfolding found pending_on until usage_on free
one_over =
    found (until 200 (pending_on 7 13) ∷ pending_on 7 9 ∷ []) (replicate 2 no_circuit) (usage_on 5 0 ∷ []) (free 8)

pub expire_ends_its_own : pending_after one_over (call_expire 110 192) ≡ true ∷ false ∷ []
unfolding pending_after one_over
expire_ends_its_own = refl

pub due_lies_ahead : due_after one_over (call_expire 110 192) ≡ due_is (Some 200)
unfolding due_after one_over
due_lies_ahead = refl

-- ---- TAB.6: a circuit of the pending's id, an action of the next sequence number
unfoldable pub already : World
unfolding found pending_on circuit_on usage_on action_on free peer
already =
    found (pending_on 7 9 ∷ no_pending ∷ []) (circuit_on 7 (peer 1) (peer 3) 5 5 ∷ no_circuit ∷ []) (usage_on 5 0 ∷ [])
    (action_on 1 99 3 0 ∷ free 7)

pub accept_replaces : (first_circuit already (accept_call 100)).endpoint.bytes ≡ 2 ∷ replicate (maximum_peer - 1) 0
unfolding first_circuit already accept_call
accept_replaces = refl

pub opened_replaces : (first_action already (accept_call 100)).circuit_id ≡ 7
unfolding first_action already accept_call
opened_replaces = refl
