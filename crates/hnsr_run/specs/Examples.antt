-- History, worked out where a refused call leaves something behind, or where one number means two things. Of each run
-- the machine's answers stand beside what the events tell; an answer that no run within the claim's bounds gives is
-- handed to `after` by itself. At the end what next due tells.
use Rattle.std.specs.Prelude.{ℕ, ◌≡◌, refl, Bool, true, false, List, [], ◌∷◌, ◌++◌, map, Err, None, Some}
use Rattle.hnsr_body.specs.declared.messages.Notice.TheVariants.{PeerDisconnected}
use Rattle.hnsr_body.specs.Messages.{notice_body}
use Rattle.hnsr_circuit.specs.declared.answer.HnsrRuntimeError.TheVariants.{GenerationExhausted}
use Rattle.hnsr_circuit.specs.declared.answer.HnsrRuntimeError.TheVariants.{ClockRollback, StaleGeneration}
use Rattle.hnsr_circuit.specs.declared.records.RelayTicket.{RelayTicket}
use Rattle.hnsr_circuit.specs.World.{Told, due_is}
use Rattle.hnsr_circuit.specs.Route.{Route}
use Rattle.hnsr_circuit.specs.Opcode.{op_error, op_close}
use Rattle.hnsr_circuit.specs.Entry.{handle_words}
use Rattle.hnsr_circuit.specs.Peer.{peer_of}
use Rattle.hnsr_circuit.specs.Worked.Cases.{lent, not_admitted}
use Rattle.hnsr_circuit.specs.Call.{Start, Call, call_next_due, call_replace_enabled, call_handle, call_expire, step}
use Rattle.hnsr_circuit.specs.Worked.All.{machine}
use Rattle.hnsr_run.specs.Past.{Past}
use Rattle.hnsr_run.specs.History.{Event, after}
use Rattle.hnsr_run.specs.Talk.{fresh, tight, grant, opens, packet, accepts, sends, widens, closes, fails}
use Rattle.hnsr_run.specs.Talk.{acked, lost, ample, leaves, revokes, events_from}
use Rattle.hnsr_run.specs.Talk.{world_after, past_from, past_after, number_of}

-- the peer 1 asks 2 for the circuit 7 under its context 9; the circuit stands
abbrev asked : List Call
asked = opens 1 2 9 (7 ∷ []) (grant 5 4000) 100 ∷ []

abbrev standing : List Call
standing = asked ++ (accepts 2 7 100 ∷ [])

abbrev answers_of : Start → List Call → List ℕ
answers_of s calls = map number_of (events_from s calls)

-- which of two ids are circuits, and which are OPENs
abbrev circuits : Past → List Bool
circuits h = map h.active (7 ∷ 8 ∷ [])

abbrev pendings : Past → List Bool
pendings h = map h.opens.standing (7 ∷ 8 ∷ [])

abbrev numbers : Past → List ℕ
numbers h = map (λ a. a.sequence) h.out

-- ---- ACCEPT refused with all written: the circuit is active, and INCOMING is dropped. In a run only 6 could do it
pub accept_written : let h = after (past_after asked) (accepts 2 7 100) (Err GenerationExhausted) [] in
    (circuits h ≡ true ∷ false ∷ []) × (pendings h ≡ false ∷ false ∷ []) × (numbers h ≡ [])
unfolding machine lent not_admitted
accept_written = (refl, refl, refl)

-- ---- CLOSE by an own context that is another circuit's id ends the OPEN, the circuit goes on
abbrev own_context : List Call
own_context = standing ++ (opens 1 3 7 (8 ∷ []) (grant 5 4000) 100 ∷ closes 1 7 100 ∷ [])

pub own-context-first : let h = past_after own_context in
    (answers_of fresh own_context ≡ 0 ∷ 0 ∷ 0 ∷ 0 ∷ [])
    × (circuits h ≡ true ∷ false ∷ [])
    × (pendings h ≡ false ∷ false ∷ [])
unfolding machine lent not_admitted
own-context-first = (refl, refl, refl)

-- two OPENs that it could mean: 11, and both stand
abbrev two_meant : List Call
two_meant = asked ++ (opens 2 3 7 (8 ∷ []) (grant 5 4000) 100 ∷ closes 2 7 100 ∷ [])

pub two_end_nothing : (answers_of fresh two_meant ≡ 0 ∷ 0 ∷ 11 ∷ [])
    × (pendings (past_after two_meant) ≡ true ∷ true ∷ [])
unfolding machine lent not_admitted
two_end_nothing = (refl, refl)

-- ---- an id drawn twice: the context of the OPEN that ended leads to it, but names nothing
abbrev drawn_twice : List Call
drawn_twice = asked ++ (closes 1 9 100 ∷ opens 3 2 6 (7 ∷ []) (grant 5 4000) 100 ∷ closes 1 9 100 ∷ [])

pub stale_context : (answers_of fresh drawn_twice ≡ 0 ∷ 0 ∷ 0 ∷ 14 ∷ [])
    × (pendings (past_after drawn_twice) ≡ true ∷ false ∷ [])
unfolding machine lent not_admitted
stale_context = (refl, refl)

-- ---- few actions, `tight`
-- INCOMING lost: the OPEN ends, also where the ERROR finds no capacity and the answer is 10
pub lost-incoming : (answers_of fresh (asked ++ (lost 1 1 ∷ [])) ≡ 0 ∷ 0 ∷ [])
    × (pendings (past_after (asked ++ (lost 1 1 ∷ []))) ≡ false ∷ false ∷ [])
unfolding machine lent not_admitted
lost-incoming = (refl, refl)

abbrev lost_full : List Call
lost_full = standing ++ (widens 2 7 1000 100 ∷ opens 1 3 6 (8 ∷ []) (grant 5 4000) 100 ∷ lost 1 4 ∷ [])

pub lost-incoming-full : let h = past_from tight lost_full in
    (answers_of tight lost_full ≡ 0 ∷ 0 ∷ 0 ∷ 0 ∷ 10 ∷ [])
    × (pendings h ≡ false ∷ false ∷ [])
    × (numbers h ≡ 2 ∷ 3 ∷ [])
unfolding machine lent not_admitted
lost-incoming-full = (refl, refl, refl)

-- ---- CLOSE and ERROR refused with 10 or 6 have ended the circuit; refused with 1 not
abbrev other_full : List Call
other_full =
    standing
    ++ (acked 1 2 ∷ opens 3 2 6 (8 ∷ []) (grant 5 4000) 100 ∷ accepts 2 8 100 ∷ acked 1 4 ∷ sends 3 8 10 100
    ∷ sends 3 8 10 100 ∷ [])

pub close_full : let calls = other_full ++ (closes 1 7 100 ∷ []) in
    (answers_of tight calls ≡ 0 ∷ 0 ∷ 0 ∷ 0 ∷ 0 ∷ 0 ∷ 0 ∷ 0 ∷ 10 ∷ [])
    × (circuits (past_from tight calls) ≡ false ∷ true ∷ [])
unfolding machine lent not_admitted
close_full = (refl, refl)

pub error-full : let calls = other_full ++ (fails 1 7 100 ∷ []) in
    (answers_of tight calls ≡ 0 ∷ 0 ∷ 0 ∷ 0 ∷ 0 ∷ 0 ∷ 0 ∷ 0 ∷ 10 ∷ [])
    × (circuits (past_from tight calls) ≡ false ∷ true ∷ [])
unfolding machine lent not_admitted
error-full = (refl, refl)

pub close_exhausted : circuits (after (past_after standing) (closes 1 7 100) (Err GenerationExhausted) [])
    ≡ false ∷ false ∷ []
unfolding machine lent not_admitted
close_exhausted = refl

pub error-exhausted : circuits (after (past_after standing) (fails 1 7 100) (Err GenerationExhausted) [])
    ≡ false ∷ false ∷ []
unfolding machine lent not_admitted
error-exhausted = refl

pub close_bad_body : let calls = standing
    ++ (call_handle (packet 1 op_close 7 (0 ∷ 0 ∷ 1 ∷ []) 100) handle_words
    ∷ call_handle (packet 1 op_error 7 [] 100) handle_words ∷ []) in
    (answers_of fresh calls ≡ 0 ∷ 0 ∷ 1 ∷ 1 ∷ []) × (circuits (past_after calls) ≡ true ∷ false ∷ [])
unfolding machine lent not_admitted
close_bad_body = (refl, refl)

-- ---- disconnect over both tables: the OPEN 8 of the peer that goes, whose endpoint hears; the circuit 7, of which
-- both sides hear. The CLOSE to the peer that is gone stays outstanding
abbrev gone : List Call
gone = standing ++ (opens 1 3 6 (8 ∷ []) (grant 5 4000) 100 ∷ leaves 1 ∷ [])

pub gone-from-both : let h = past_after gone in
    (circuits h ≡ false ∷ false ∷ [])
    × (pendings h ≡ false ∷ false ∷ [])
    × (map (λ a. a.destination) h.out ≡ peer_of (3 ∷ []) ∷ peer_of (1 ∷ []) ∷ peer_of (2 ∷ []) ∷ [])
    × (map (λ a. a.circuit) h.out ≡ 8 ∷ 7 ∷ 7 ∷ [])
unfolding machine lent not_admitted
gone-from-both = (refl, refl, refl, refl)

-- ---- what the words do not tell. The peer 1 has the circuit 7 with 2, and toward 2 an OPEN 8 under its own context 7;
-- 2 goes. With two actions of circuit 7 toward 1 the CLOSE of the OPEN is skipped, and the one that 1 gets is the
-- circuit's; with one action of another circuit it is the other way round. The words of both are the same but for their
-- number
abbrev circuit_meant : List Call
circuit_meant = standing ++ (widens 2 7 1000 100 ∷ opens 1 2 7 (8 ∷ []) (grant 5 4000) 100 ∷ leaves 2 ∷ [])

abbrev open_meant : List Call
open_meant =
    standing
    ++ (acked 1 2 ∷ opens 1 3 6 (10 ∷ []) (grant 5 4000) 100 ∷ accepts 3 10 100
    ∷ opens 1 2 7 (8 ∷ []) (grant 5 4000) 100 ∷ leaves 2 ∷ [])

-- the routes of the last call
abbrev last_routes : List Event → List Route
last_routes [] = []
last_routes (e ∷ []) = e.routes
last_routes (e ∷ f ∷ es) = last_routes (f ∷ es)

abbrev shown : Route → List ℕ
shown r = r.opcode ∷ r.context ∷ r.body

abbrev closing : List ℕ
closing = op_close ∷ 7 ∷ notice_body PeerDisconnected

pub circuit-meant : let rs = last_routes (events_from tight circuit_meant) in let h = past_from tight circuit_meant in
    (map (λ r. r.destination) rs ≡ peer_of (1 ∷ []) ∷ peer_of (2 ∷ []) ∷ [])
    × (map shown rs ≡ closing ∷ closing ∷ [])
    × (map (λ a. a.circuit) h.out ≡ 7 ∷ 7 ∷ [])
unfolding machine lent not_admitted
circuit-meant = (refl, refl, refl)

pub open_meant_lem : let rs = last_routes (events_from tight open_meant) in let h = past_from tight open_meant in
    (map (λ r. r.destination) rs ≡ peer_of (1 ∷ []) ∷ peer_of (2 ∷ []) ∷ [])
    × (map shown rs ≡ closing ∷ closing ∷ [])
    × (map (λ a. a.circuit) h.out ≡ 10 ∷ 8 ∷ 7 ∷ [])
unfolding machine lent not_admitted
open_meant_lem = (refl, refl, refl)

-- ---- expire and replace_enabled refused: nothing changes
pub expire_refused : after (past_after standing) (call_expire 99 ample) (Err ClockRollback) [] ≡ past_after standing
unfolding machine lent not_admitted
expire_refused = refl

pub replace_refused : after (past_after standing) (call_replace_enabled 2 false ample) (Err StaleGeneration) []
    ≡ past_after standing
unfolding machine lent not_admitted
replace_refused = refl

pub refused_answers : answers_of fresh (standing ++ (call_expire 99 ample ∷ call_replace_enabled 2 false ample ∷ []))
    ≡ 0 ∷ 0 ∷ 7 ∷ 5 ∷ []
unfolding machine lent not_admitted
refused_answers = refl

-- ---- DATA refused with 6, which the claim's bounds exclude: nothing is reckoned
pub data_exhausted : after (past_after standing) (sends 1 7 40 100) (Err GenerationExhausted) []
    ≡ past_after standing
unfolding machine lent not_admitted
data_exhausted = refl

-- ---- reservations: whether an OPEN made the record, and what was taken under it
abbrev reserved : ℕ → Past → Bool × ℕ
reserved r h = (h.book.made (record { high = 0; low = r }), h.book.spent (record { high = 0; low = r }))

-- an OPEN refused with 18 has made the missing record
abbrev used_up : List Call
used_up = opens 1 2 9 (7 ∷ []) (grant 6 0) 100 ∷ []

pub limit_makes : (answers_of fresh used_up ≡ 18 ∷ [])
    × (reserved 6 (past_after used_up) ≡ (true, 0))
    × (pendings (past_after used_up) ≡ false ∷ false ∷ [])
unfolding machine lent not_admitted
limit_makes = (refl, refl, refl)

-- a reservation made again while a circuit of the old one stands: DATA of the old circuit counts in the new record
abbrev later : RelayTicket
later = record {
  reservation_id = record { high = 0; low = 5 };
  expires_at = 3000;
  max_active_circuits = 4;
  max_bytes_per_circuit = 4000;
  max_total_bytes = 4000;
}

abbrev renewed : List Call
renewed = standing ++ (sends 1 7 40 100 ∷ opens 3 2 6 (8 ∷ []) later 2000 ∷ sends 1 7 30 2000 ∷ [])

pub old_counts_in_new : (answers_of fresh renewed ≡ 0 ∷ 0 ∷ 0 ∷ 0 ∷ 0 ∷ [])
    × (reserved 5 (past_after renewed) ≡ (true, 30))
    × (((past_after renewed).known 7).bytes ≡ 70)
unfolding machine lent not_admitted
old_counts_in_new = (refl, refl, refl)

-- revoke_reservation, then an OPEN: counted from nothing
abbrev revoked_then : List Call
revoked_then = standing ++ (sends 1 7 40 100 ∷ revokes 5 ∷ opens 3 2 6 (8 ∷ []) (grant 5 4000) 100 ∷ [])

pub revoked_then_opened : (answers_of fresh revoked_then ≡ 0 ∷ 0 ∷ 0 ∷ 0 ∷ 0 ∷ [])
    × (reserved 5 (past_after (standing ++ (sends 1 7 40 100 ∷ revokes 5 ∷ []))) ≡ (false, 40))
    × (reserved 5 (past_after revoked_then) ≡ (true, 0))
    × (circuits (past_after revoked_then) ≡ false ∷ false ∷ [])
unfolding machine lent not_admitted
revoked_then_opened = (refl, refl, refl, refl)

-- ---- a host that waits for next due. Beside the circuit 7 the OPEN 8 stands, which nobody accepts; it ends at 110.
-- Then 7 is closed, and its reservation is due alone; it ends at 1,000
abbrev expires : (now : ℕ) → Call
expires now = call_expire now ample

abbrev due_after : List Call → Told
due_after calls = (step (world_after calls) call_next_due).told

abbrev waiting : List Call
waiting = standing ++ (opens 1 2 3 (8 ∷ []) (grant 5 4000) 100 ∷ [])

abbrev woken : List Call
woken = waiting ++ (expires 110 ∷ closes 1 7 110 ∷ [])

pub wakes-twice : (due_after waiting ≡ due_is (Some 110))
    × (due_after (waiting ++ (expires 110 ∷ [])) ≡ due_is (Some 1000))
    × (due_after woken ≡ due_is (Some 1000))
    × (due_after (woken ++ (expires 1000 ∷ [])) ≡ due_is None)
unfolding machine lent not_admitted
wakes-twice = (refl, refl, refl, refl)
