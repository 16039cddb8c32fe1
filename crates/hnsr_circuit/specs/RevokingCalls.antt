-- The revoking calls: disconnect (DISC), revoke_reservation (RES), expire (EXPIRE), replace_enabled (SWITCH).
use Rattle.std.specs.Prelude.{ℕ, Bool, true, false, cond, not, ◌&&◌, List, [], eqb, length}
use Rattle.std.specs.Bool.{beq}
use Rattle.hns_encoding.specs.Numbers.{top}
use Rattle.hnsr_body.specs.declared.values.ReservationId.{ReservationId}
use Rattle.hnsr_body.specs.declared.messages.Notice.TheVariants.{PeerDisconnected, ReservationRevoked}
use Rattle.hnsr_body.specs.declared.messages.Notice.TheVariants.{AcceptanceExpired, TicketExpired, RelayDisabled}
use Rattle.hnsr_circuit.specs.declared.peer.HnsrPeerId.{HnsrPeerId}
use Rattle.hnsr_circuit.specs.declared.records.RelayPending.{RelayPending}
use Rattle.hnsr_circuit.specs.declared.answer.HnsrRuntimeError.TheVariants.{GenerationExhausted}
use Rattle.hnsr_circuit.specs.Table.{edit}
use Rattle.hnsr_circuit.specs.Answers.{HnsrAnswer, check, ◌then◌}
use Rattle.hnsr_circuit.specs.Peer.{peer_of, same_peer}
use Rattle.hnsr_circuit.specs.Pending.{is_pending, pending_of, pending_under, pending_over}
use Rattle.hnsr_circuit.specs.Circuits.{is_circuit, circuit_of, circuit_under, circuit_over}
use Rattle.hnsr_circuit.specs.Ledger.{usage_at, clear_usage, lapsed}
use Rattle.hnsr_circuit.specs.Inflight.{is_action, action_toward, dropped}
use Rattle.hnsr_circuit.specs.Runtime.{with_enabled}
use Rattle.hnsr_circuit.specs.World.{World, Outcome, done, proceed, with_runtime, with_ledger, with_inflight, at_time}
use Rattle.hnsr_circuit.specs.Queue.{Message, Sent, tell, generation_of}
use Rattle.hnsr_circuit.specs.Entry.{room_answer, revoking_words, peer_answer, clock_answer}
use Rattle.hnsr_circuit.specs.Revocation.{end_pending_there, close_to_requester, close_to_endpoint}
use Rattle.hnsr_circuit.specs.Revocation.{pending_there, revoke_pending, revoke_circuit_there, revoke_all}
use Rattle.hnsr_circuit.specs.Acknowledge.{generation_answer}

-- ---- disconnect (DISC.1 to DISC.5)
abbrev pub without_actions_toward : World → HnsrPeerId → World
without_actions_toward w peer = with_inflight w (dropped (action_toward peer) w.inflight)

-- DISC.4: of a pending record, the peer that is left
unfoldable pub close_to_other : HnsrPeerId → RelayPending → Message
close_to_other peer p =
    cond (same_peer p.requester peer) (close_to_endpoint PeerDisconnected p) (close_to_requester PeerDisconnected p)

unfoldable pub disconnect_pending : HnsrPeerId → World → (place : ℕ) → Sent
disconnect_pending peer w place = tell (close_to_other peer (pending_there w place)) (end_pending_there w place)

unfoldable pub disconnect_peer : World → HnsrPeerId → Outcome
disconnect_peer w peer =
    revoke_all (disconnect_pending peer) (pending_of peer) (revoke_circuit_there PeerDisconnected) (circuit_of peer)
    (without_actions_toward w peer)

unfoldable pub disconnect : World → (peer : List ℕ) → (room : ℕ) → Outcome
disconnect w peer room =
    proceed w (room_answer w room (revoking_words w) then peer_answer (length peer)) (disconnect_peer w (peer_of peer))

-- ---- revoke_reservation (RES.1 to RES.3)
abbrev pub without_usage : World → ReservationId → World
without_usage w id = with_ledger w (edit (usage_at id) clear_usage w.ledger)

unfoldable pub revoke_under : World → ReservationId → Outcome
revoke_under w id =
    revoke_all (revoke_pending ReservationRevoked) (pending_under id) (revoke_circuit_there ReservationRevoked)
    (circuit_under id) (without_usage w id)

unfoldable pub revoke_reservation : World → ReservationId → (room : ℕ) → Outcome
revoke_reservation w id room = proceed w (room_answer w room (revoking_words w)) (revoke_under w id)

-- ---- expire (EXPIRE.1 to EXPIRE.4)
abbrev pub without_lapsed : World → (now : ℕ) → World
without_lapsed w now = with_ledger w (lapsed now w.ledger)

unfoldable pub expire_at : World → (now : ℕ) → Outcome
expire_at w now =
    revoke_all (revoke_pending AcceptanceExpired) (pending_over now) (revoke_circuit_there TicketExpired)
    (circuit_over now) (without_lapsed (at_time w now) now)

unfoldable pub expire : World → (now room : ℕ) → Outcome
expire w now room =
    proceed w (room_answer w room (revoking_words w) then clock_answer w.runtime.trusted_time_high_water now)
    (expire_at w now)

-- ---- replace_enabled (SWITCH.1 to SWITCH.7)
abbrev pub changes : World → Bool → Bool
changes w on = not (beq w.runtime.enabled on)

-- 6 (SWITCH.2): a switch without a generation left
unfoldable pub change_answer : (generation : ℕ) → (changes : Bool) → HnsrAnswer
change_answer generation changes = check (changes && eqb generation (top 64)) GenerationExhausted

abbrev pub switched : World → Bool → World
switched w on = with_runtime (with_inflight w (dropped is_action w.inflight)) (with_enabled w.runtime on)

unfoldable pub switch_to : World → Bool → Outcome
switch_to w true = done (switched w true) []
switch_to w false =
    revoke_all (revoke_pending RelayDisabled) is_pending (revoke_circuit_there RelayDisabled) is_circuit
    (switched w false)

unfoldable pub replace_enabled : World → (expected : ℕ) → Bool → (room : ℕ) → Outcome
replace_enabled w expected on room =
    proceed w
    (room_answer w room (revoking_words w)
    then generation_answer (generation_of w) expected
    then change_answer (generation_of w) (changes w on))
    (cond (changes w on) (switch_to w on) (done w []))
