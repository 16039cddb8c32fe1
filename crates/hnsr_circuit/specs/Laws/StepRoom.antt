-- What a call writes fits the room that it was given, whatever the world (OUT.9): so code that has passed the entry's
-- 22 may write every route.
use Rattle.std.specs.Prelude.{ℕ, ◌≤◌, ◌≡◌, Bool, true, false, ◌||◌, [], leb, ltb, Ok}
use Rattle.std.proofs.Common.{arith, ltb-false}
use Rattle.hnsr_body.specs.declared.messages.Notice.TheVariants.{EndpointWriteFailed}
use Rattle.hnsr_body.specs.Values.{same_reservation}
use Rattle.hnsr_body.specs.declared.values.ReservationId.{ReservationId}
use Rattle.hnsr_circuit.specs.declared.peer.HnsrPeerId.{HnsrPeerId}
use Rattle.hnsr_circuit.specs.declared.records.InflightAction.{InflightAction}
use Rattle.hnsr_circuit.specs.declared.answer.HnsrRuntimeError.TheVariants.{Short}
use Rattle.hns_encoding.specs.Laws.Tests.{both, neither}
use Rattle.hnsr_circuit.specs.Table.{pick}
use Rattle.hnsr_circuit.specs.Laws.Answers.{check-taken, then_taken}
use Rattle.hnsr_circuit.specs.Peer.{peer_of, same_peer}
use Rattle.hnsr_circuit.specs.Pending.{is_pending, pending_at, pending_of, pending_under, overdue, pending_over}
use Rattle.hnsr_circuit.specs.Circuits.{is_circuit, is_side, circuit_of, circuit_under, circuit_over}
use Rattle.hnsr_circuit.specs.declared.records.InflightKind.{InflightKind}
use Rattle.hnsr_circuit.specs.declared.records.InflightKind.TheVariants.{Incoming, Opened, Data, Control, Close}
use Rattle.hnsr_circuit.specs.Inflight.{no_action, action_at}
use Rattle.hnsr_circuit.specs.Route.{out_words}
use Rattle.hnsr_circuit.specs.Laws.Route.{notice_fits}
use Rattle.hnsr_circuit.specs.Runtime.{count_revoked}
use Rattle.hnsr_circuit.specs.World.{World, config_of, done, at_time, counting}
use Rattle.hnsr_circuit.specs.Counts.{pending_count, circuit_count}
use Rattle.hnsr_body.specs.Messages.{notice_size}
use Rattle.hnsr_circuit.specs.Entry.{handle_words, acknowledge_words, revoking_words, tables_short, room_answer}
use Rattle.hnsr_circuit.specs.Handle.{handling_of, entry_answer, handle_gate, handle}
use Rattle.hnsr_circuit.specs.Revocation.{without_pending, has_pending, pending_in, error_to_requester}
use Rattle.hnsr_circuit.specs.Acknowledge.{fail_pending, fail_incoming, undelivered, settled}
use Rattle.hnsr_circuit.specs.Acknowledge.{acknowledge_taken, acknowledge_action, acknowledge}
use Rattle.hnsr_circuit.specs.RevokingCalls.{disconnect_peer, disconnect, revoke_under, revoke_reservation}
use Rattle.hnsr_circuit.specs.RevokingCalls.{expire_at, expire, changes, switched, switch_to, replace_enabled}
use Rattle.hnsr_circuit.specs.New.{observe_time}
use Rattle.hnsr_circuit.specs.Status.{status}
use Rattle.hnsr_circuit.specs.NextDue.{next_due}
use Rattle.hnsr_circuit.specs.Call.{Call, call_status, call_next_due, call_observe_time}
use Rattle.hnsr_circuit.specs.Call.{call_replace_enabled, call_handle, call_acknowledge}
use Rattle.hnsr_circuit.specs.Call.{call_disconnect, call_revoke_reservation, call_expire, step}
use Rattle.hnsr_circuit.specs.Laws.Room.{filled}
use Rattle.hnsr_circuit.specs.Laws.RoomEnds.{revoke-pending-fits, revoke-pending-circuits, revoke-pending-fewer}
use Rattle.hnsr_circuit.specs.Laws.RoomEnds.{disconnect-pending-fits, disconnect-pending-circuits}
use Rattle.hnsr_circuit.specs.Laws.RoomEnds.{disconnect-pending-fewer, revoke-circuit-fits, revoke-all-fits}
use Rattle.hnsr_circuit.specs.Laws.HandleRoom.{proceed-fits, cond-fits, none-fits, send-fits, dispatch-fits}

-- ---- acknowledge
undelivered-fits : (k : InflightKind) (w : World) (id : ℕ) → filled (undelivered k w id).routes ≤ acknowledge_words
unfolding undelivered fail_incoming fail_pending error_to_requester
undelivered-fits Incoming w id =
    cond-fits (has_pending w id) (fail_pending w id (pending_in w id)) (done w []) acknowledge_words
    (omega (
      arith,
      send-fits (counting count_revoked (without_pending w (pending_at id)))
          (error_to_requester EndpointWriteFailed (pending_in w id)) notice_size (notice_fits EndpointWriteFailed),
    )) (none-fits w _)
undelivered-fits Opened w id = revoke-circuit-fits _ w id
undelivered-fits Data w id = revoke-circuit-fits _ w id
undelivered-fits Control w id = revoke-circuit-fits _ w id
undelivered-fits Close w id = none-fits w _

settled-fits : (w : World) (a : InflightAction) (delivered : Bool)
    → filled (settled w a delivered).routes ≤ acknowledge_words
unfolding settled
settled-fits w a true = none-fits w _
settled-fits w a false = undelivered-fits _ w _

action-fits : (w : World) (generation sequence : ℕ) (delivered : Bool) (a : InflightAction)
    → filled (acknowledge_action w generation sequence delivered a).routes ≤ acknowledge_words
unfolding acknowledge_action
action-fits w generation sequence delivered a = settled-fits _ a delivered

-- ---- the revoking calls
switch_fits : (w : World) (on : Bool) → filled (switch_to w on).routes ≤ revoking_words w
unfolding switch_to is_pending is_circuit pending_count circuit_count
switch_fits w true = none-fits (switched w true) _
switch_fits w false =
    revoke-all-fits _ _ _ _ _ (λ r h. h) (λ r h. h) (revoke-pending-fits _) (revoke-pending-fewer _)
    (revoke-pending-circuits _)

disconnect-fits : (w : World) (peer : HnsrPeerId) → filled (disconnect_peer w peer).routes ≤ revoking_words w
unfolding disconnect_peer pending_of circuit_of pending_count circuit_count
disconnect-fits w peer =
    revoke-all-fits _ _ _ _ _ (λ r h. (both r.used (same_peer r.requester peer || same_peer r.endpoint peer) h).0)
    (λ r h. (both r.used (is_side peer r) h).0) (disconnect-pending-fits _) (disconnect-pending-fewer _)
    (disconnect-pending-circuits _)

revoke-under-fits : (w : World) (id : ReservationId) → filled (revoke_under w id).routes ≤ revoking_words w
unfolding revoke_under pending_under circuit_under pending_count circuit_count
revoke-under-fits w id =
    revoke-all-fits _ _ _ _ _ (λ r h. (both r.used (same_reservation r.ticket.reservation_id id) h).0)
    (λ r h. (both r.used (same_reservation r.reservation_id id) h).0) (revoke-pending-fits _)
    (revoke-pending-fewer _) (revoke-pending-circuits _)

expire-fits : (w : World) (now : ℕ) → filled (expire_at w now).routes ≤ revoking_words w
unfolding expire_at pending_over circuit_over pending_count circuit_count
expire-fits w now =
    revoke-all-fits _ _ _ _ _ (λ r h. (both r.used (overdue now r) h).0)
    (λ r h. (both r.used (leb r.expires_at now) h).0) (revoke-pending-fits _) (revoke-pending-fewer _)
    (revoke-pending-circuits _)

-- ---- every call
-- the room that a call is given
abbrev pub room_of : Call → ℕ
room_of (call_status peer circuit) = 0
room_of call_next_due = 0
room_of (call_observe_time now) = 0
room_of (call_replace_enabled expected enabled room) = room
room_of (call_handle packet room) = room
room_of (call_acknowledge generation sequence delivered room) = room
room_of (call_disconnect peer room) = room
room_of (call_revoke_reservation id room) = room
room_of (call_expire now room) = room

room-has : (w : World) (room needed : ℕ) → room_answer w room needed ≡ Ok tt → needed ≤ room
unfolding room_answer
room-has w room needed h =
    let k = check-taken (ltb room needed || tables_short (config_of w) w) Short h in
    ltb-false room needed (neither (ltb room needed) (tables_short (config_of w) w) k).0

pub routes-fit : (w : World) (c : Call) → filled (step w c).routes ≤ room_of c
unfolding step status next_due observe_time replace_enabled handle entry_answer handle_gate acknowledge
    acknowledge_taken disconnect revoke_reservation expire out_words
routes-fit w (call_status peer circuit) = proceed-fits _ _ _ _ (λ a. omega arith)
routes-fit w call_next_due = proceed-fits _ _ _ _ (λ a. omega arith)
routes-fit w (call_observe_time now) = proceed-fits _ _ _ _ (λ a. omega arith)
routes-fit w (call_replace_enabled expected enabled room) =
    proceed-fits _ _ _ _
    (λ a. let r = room-has w room (revoking_words w) (then_taken _ _ a).0 in
    omega (
      arith,
      cond-fits (changes w enabled) (switch_to w enabled) (done w []) (revoking_words w) (switch_fits w enabled)
          (none-fits w _),
    ))
routes-fit w (call_handle packet room) =
    proceed-fits _ _ _ _
    (λ a. let r = room-has w room handle_words (then_taken _ _ (then_taken _ _ a).0).0 in
    proceed-fits _ _ _ _
    (λ b. omega (arith, dispatch-fits (handling_of packet.opcode) (at_time w packet.now) packet)))
routes-fit w (call_acknowledge generation sequence delivered room) =
    proceed-fits _ _ _ _
    (λ a. let r = room-has w room acknowledge_words (then_taken _ _ a).0 in
    omega
    (arith, action-fits w generation sequence delivered (pick (action_at generation sequence) no_action w.inflight)))
routes-fit w (call_disconnect peer room) =
    proceed-fits _ _ _ _
    (λ a.
    let r = room-has w room (revoking_words w) (then_taken _ _ a).0 in omega (arith, disconnect-fits w (peer_of peer)))
routes-fit w (call_revoke_reservation id room) =
    proceed-fits _ _ _ _ (λ a. let r = room-has w room (revoking_words w) a in omega (arith, revoke-under-fits w id))
routes-fit w (call_expire now room) =
    proceed-fits _ _ _ _
    (λ a. let r = room-has w room (revoking_words w) (then_taken _ _ a).0 in omega (arith, expire-fits w now))
