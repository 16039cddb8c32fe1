-- Tables as a host may lend them, further examples: long and dirty names, a stored zero context, marks and counts that
-- do not fit, kinds above 4, numbers and sums at their tops, and the tail of the output. Above each stands the rule
-- that it reads.
use Rattle.std.specs.Prelude.{ℕ, ◌+◌, ◌-◌, ◌≡◌, refl, true, false, List, [], ◌∷◌, replicate, get_or, drop, Ok, Err}
use Rattle.hns_encoding.specs.Numbers.{top}
use Rattle.hnsr_body.specs.declared.error.HnsrInvalid.TheVariants.{ContextZero}
use Rattle.hnsr_body.specs.declared.error.HnsrProtocolError.TheVariants.{Invalid}
use Rattle.hnsr_circuit.specs.declared.peer.HnsrPeerId.{HnsrPeerId}
use Rattle.hnsr_circuit.specs.declared.answer.HnsrRuntimeError.TheVariants.{Protocol, GenerationExhausted}
use Rattle.hnsr_circuit.specs.declared.answer.HnsrRuntimeError.TheVariants.{Capacity}
use Rattle.hnsr_circuit.specs.Peer.{maximum_peer}
use Rattle.hnsr_circuit.specs.Pending.{no_pending}
use Rattle.hnsr_circuit.specs.Circuits.{no_circuit}
use Rattle.hnsr_circuit.specs.World.{World}
use Rattle.hnsr_circuit.specs.Opcode.{op_close, op_error}
use Rattle.hnsr_circuit.specs.Call.{call_replace_enabled, call_acknowledge, call_disconnect, call_expire}
use Rattle.hnsr_circuit.specs.Worked.Cases.{requester_peer, open_call, accept_call, data_call}
use Rattle.hnsr_circuit.specs.Worked.LentWorlds.{peer, pending_on, circuit_on, usage_on, action_on, found, free}
use Rattle.hnsr_circuit.specs.Worked.LentWorlds.{last_sequence, last_generation, answer_of, words_of, output_after}
use Rattle.hnsr_circuit.specs.Worked.LentWorlds.{routes, first_circuit, runtime_after, actions_after, bytes_queued}
use Rattle.hnsr_circuit.specs.Worked.Lent.{quiet, few_actions, one-of-each}

-- ---- TAB.9: a length over the most reads as the most; what stands behind a name is not read
unfoldable pub long_peer : HnsrPeerId
long_peer = record { len = maximum_peer + 72; bytes = replicate maximum_peer 5 }

unfoldable pub dirty_peer : HnsrPeerId
dirty_peer = record { len = 1; bytes = 1 ∷ replicate (maximum_peer - 1) 6 }

unfoldable pub long_names : World
unfolding found circuit_on usage_on free long_peer dirty_peer
long_names =
    found (replicate 2 no_pending) (circuit_on 7 dirty_peer long_peer 0 0 ∷ no_circuit ∷ [])
    (usage_on 5 0 ∷ []) (free 8)

unfoldable pub first_word : List ℕ → ℕ
first_word [] = 0
first_word (w ∷ ws) = w

pub long_name_hears : first_word (words_of long_names (data_call requester_peer 1 100)) ≡ 0x10000080
unfolding first_word words_of long_names data_call requester_peer
long_name_hears = refl

pub long-name-sends : answer_of long_names (data_call (replicate maximum_peer 5) 1 100) ≡ Ok tt
unfolding answer_of long_names data_call
long-name-sends = refl

-- TAB.9, OUT.3: the name of one byte, though the record has other bytes behind it
pub dirty-name-padded : get_or (words_of long_names (data_call (replicate maximum_peer 5) 1 100)) 5 0 ≡ 1
unfolding words_of long_names data_call
dirty-name-padded = refl

-- ---- QUEUE.6, ACCEPT.7: a stored zero context refuses OPENED with all written, and a revocation leaves the message
-- out (QUEUE.8)
unfoldable pub zero_context : World
unfolding found pending_on usage_on free
zero_context = found (pending_on 7 0 ∷ no_pending ∷ []) (replicate 2 no_circuit) (usage_on 5 0 ∷ []) (free 8)

pub opened_refused : answer_of zero_context (accept_call 100) ≡ Err (Protocol (Invalid ContextZero))
unfolding answer_of zero_context accept_call
opened_refused = refl

pub opened-all-written : (first_circuit zero_context (accept_call 100)).used ≡ true
unfolding first_circuit zero_context accept_call
opened-all-written = refl

pub revocation_skips : routes zero_context (call_expire 110 96) ≡ (1 ∷ 2 ∷ op_close ∷ 7 ∷ []) ∷ []
unfolding routes zero_context
revocation_skips = refl

-- ---- TAB.5: three used places where two are the most, and no unused place is looked for
unfoldable pub crowded : World
unfolding found pending_on usage_on free
crowded =
    found (pending_on 7 9 ∷ pending_on 8 10 ∷ pending_on 9 11 ∷ []) (replicate 2 no_circuit)
    (usage_on 5 0 ∷ []) (free 8)

pub crowded-is-full : answer_of crowded open_call ≡ Err Capacity
unfolding answer_of crowded open_call
crowded-is-full = refl

-- ---- TAB.10; counts that do not fit the actions
unfoldable pub brim : World
unfolding found circuit_on usage_on action_on free peer
brim =
    found (replicate 2 no_pending)
    (circuit_on 7 (peer 1) (peer 2) (top 64) 3 ∷ circuit_on 8 (peer 1) (peer 2) 0 (top 64) ∷ [])
    (usage_on 5 (top 64) ∷ []) (action_on 1 7 2 10 ∷ action_on 2 8 77 0 ∷ free 6)

pub data_taken_at_brim : answer_of brim (data_call requester_peer 2 100) ≡ Ok tt
unfolding answer_of brim data_call requester_peer
data_taken_at_brim = refl

pub bytes-stop : (first_circuit brim (data_call requester_peer 2 100)).forwarded_bytes ≡ (top 64)
unfolding first_circuit brim data_call requester_peer
bytes-stop = refl

-- the queues of the two circuits are 3 and 2^64 − 1
pub queued_sum_stops : bytes_queued brim ≡ top 64
unfolding bytes_queued brim
queued_sum_stops = refl

pub queue_stops_at_zero : (first_circuit brim (call_acknowledge 1 1 true 96)).queued_to_endpoint ≡ 0
unfolding first_circuit brim
queue_stops_at_zero = refl

-- ---- QUEUE.2, ACK.9: a kind above 4 is Close
pub kind_77_is_close : (first_circuit brim (call_acknowledge 1 2 false 96)).used ≡ true
unfolding first_circuit brim
kind_77_is_close = refl

-- ---- QUEUE.7: refused with 6, DATA stays charged; QUEUE.8: a revocation then is silent
unfoldable pub exhausted : World
unfolding last_sequence one-of-each
exhausted = last_sequence one-of-each

unfoldable pub sending : World
unfolding last_sequence found circuit_on usage_on free peer
sending =
    last_sequence
    (found (replicate 2 no_pending) (circuit_on 7 (peer 1) (peer 2) 0 0 ∷ no_circuit ∷ []) (usage_on 5 0 ∷ []) (free 8))

pub data_refused_at_top : answer_of sending (data_call requester_peer 2 100) ≡ Err GenerationExhausted
unfolding answer_of sending data_call requester_peer
data_refused_at_top = refl

pub data_charges_stay : (first_circuit sending (data_call requester_peer 2 100)).requester_credit ≡ 32766
unfolding first_circuit sending data_call requester_peer
data_charges_stay = refl

pub revocation_is_silent : routes exhausted (call_expire 1000 192) ≡ []
unfolding routes exhausted
revocation_is_silent = refl

pub revocation_counts : (runtime_after exhausted (call_expire 1000 192)).counters.revoked_work ≡ 2
unfolding runtime_after exhausted
revocation_counts = refl

-- ---- a switch at the last generation, and none (SWITCH.2, SWITCH.3)
unfoldable pub oldest : World
unfolding last_generation quiet
oldest = last_generation quiet

pub disabling_refused : answer_of oldest (call_replace_enabled (top 64) false 0) ≡ Err GenerationExhausted
unfolding answer_of oldest
disabling_refused = refl

pub same_state_taken : answer_of oldest (call_replace_enabled (top 64) true 0) ≡ Ok tt
unfolding answer_of oldest
same_state_taken = refl

-- ---- REVOKE.6: a pending record and a circuit of one id are ended by the ordinary rule, so the circuit's end drops
-- the actions of the record before it. All four routes were written; two actions are left
unfoldable pub one_id : World
unfolding found pending_on circuit_on usage_on free peer
one_id =
    found (pending_on 7 9 ∷ no_pending ∷ []) (circuit_on 7 (peer 3) (peer 4) 0 0 ∷ no_circuit ∷ [])
    (usage_on 5 0 ∷ []) (free 8)

pub disabled_routes : routes one_id (call_replace_enabled 1 false 192)
    ≡ (1 ∷ 1 ∷ op_error ∷ 9 ∷ [])
    ∷ (2 ∷ 2 ∷ op_close ∷ 7 ∷ [])
    ∷ (3 ∷ 3 ∷ op_close ∷ 7 ∷ [])
    ∷ (4 ∷ 4 ∷ op_close ∷ 7 ∷ []) ∷ []
unfolding routes one_id
disabled_routes = refl

pub disabled_actions : actions_after one_id (call_replace_enabled 1 false 192) ≡ 2
unfolding actions_after one_id
disabled_actions = refl

-- ---- OUT.6. A CLOSE of 23 bytes of detail is 47 words; the 48th is as it was
pub tail-stays : drop 47 (output_after zero_context (call_disconnect requester_peer 96) (replicate 50 9))
    ≡ 9 ∷ 9 ∷ 9 ∷ []
unfolding output_after zero_context requester_peer
tail-stays = refl

pub refused_output : output_after few_actions (call_disconnect requester_peer 96) (replicate 5 9) ≡ replicate 5 9
unfolding output_after few_actions requester_peer
refused_output = refl
