-- What a revoking call hands its walks, and what is told of a record's end.
use Rattle.std.specs.Prelude.{ℕ, cond, Option, None, Some, List, get_or, Result, Ok}
use Rattle.std.specs.Result.{result_and}
use Rattle.hnsr_body.specs.declared.messages.Notice.{Notice}
use Rattle.hnsr_body.specs.declared.messages.Notice.TheVariants.{RelayDisabled, PeerDisconnected, ReservationRevoked}
use Rattle.hnsr_body.specs.declared.messages.Notice.TheVariants.{AcceptanceExpired, TicketExpired}
use Rattle.hnsr_body.specs.Messages.{notice_body}
use Rattle.hnsr_circuit.specs.declared.answer.HnsrRuntimeError.{HnsrRuntimeError}
use Rattle.hnsr_circuit.specs.declared.calls.revocation.Closings.{Closings}
use Rattle.hnsr_circuit.specs.declared.calls.revocation.Walks.{Walks}
use Rattle.hnsr_circuit.specs.declared.output.queue.Outgoing.{Outgoing}
use Rattle.hnsr_circuit.specs.declared.peer.HnsrPeerId.{HnsrPeerId}
use Rattle.hnsr_circuit.specs.declared.records.RelayPending.{RelayPending}
use Rattle.hnsr_circuit.specs.declared.records.RelayCircuit.{RelayCircuit}
use Rattle.hnsr_circuit.specs.declared.tables.question.Revoking.{Revoking}
use Rattle.hnsr_circuit.specs.declared.tables.question.Revoking.TheVariants.{Disabled, Disconnected, Reservation}
use Rattle.hnsr_circuit.specs.declared.tables.question.Revoking.TheVariants.{Expired}
use Rattle.hnsr_circuit.specs.Answers.{HnsrAnswer, ◌then◌}
use Rattle.hnsr_circuit.specs.Table.{not_yet, next}
use Rattle.hnsr_circuit.specs.Peer.{same_peer}
use Rattle.hnsr_circuit.specs.Pending.{pending_id}
use Rattle.hnsr_circuit.specs.Circuits.{circuit_id}
use Rattle.hnsr_circuit.specs.World.{World, Outcome}
use Rattle.hnsr_circuit.specs.Queue.{Sent, and_then, tell}
use Rattle.hnsr_circuit.specs.Opcode.{op_close, op_error}
use Rattle.hnsr_circuit.specs.Entry.{room_answer, revoking_words}
use Rattle.hnsr_circuit.specs.Revocation.{revoke_pending, revoke_circuit_there, revoke_all}
use Rattle.hnsr_circuit.specs.RevokingCalls.{disconnect_pending}
use Rattle.hnsr_circuit.specs.Code.Message.{close_on}
use Rattle.hnsr_circuit.specs.Code.Progress.{message_of}
use Rattle.hnsr_circuit.specs.Code.Question.{pending_revoked, circuit_revoked}

-- ---- a CLOSE or ERROR of the relay's own, but for its body
abbrev pub error_out : RelayPending → Outgoing
error_out p = close_on p.requester p.circuit_id op_error p.requester_context

abbrev pub close_out : RelayPending → Outgoing
close_out p = close_on p.endpoint p.circuit_id op_close p.circuit_id

-- ---- what is told of a record's end
-- the notice, given the one for a record that is over
abbrev pub notice_of : (over : Notice) → Revoking → Notice
notice_of over Disabled = RelayDisabled
notice_of over (Disconnected peer) = PeerDisconnected
notice_of over (Reservation id) = ReservationRevoked
notice_of over (Expired now) = over

-- of a pending record: to both sides, or to the peer that is left (DISC.4)
abbrev pub tell_both : (notice : Notice) → RelayPending → Closings
tell_both n p = record { notice = n; first = error_out p; second = Some (close_out p) }

abbrev pub tell_other : HnsrPeerId → RelayPending → Closings
tell_other peer p = record {
  notice = PeerDisconnected;
  first = cond (same_peer p.requester peer) (close_out p)
      (close_on p.requester p.circuit_id op_close p.requester_context);
  second = None;
}

unfoldable pub pending_closings : Revoking → RelayPending → Closings
pending_closings Disabled p = tell_both RelayDisabled p
pending_closings (Disconnected peer) p = tell_other peer p
pending_closings (Reservation id) p = tell_both ReservationRevoked p
pending_closings (Expired now) p = tell_both AcceptanceExpired p

-- of a circuit: to both sides
abbrev pub close_side : RelayCircuit → HnsrPeerId → Outgoing
close_side c side = close_on side c.circuit_id op_close c.circuit_id

abbrev pub close_both : (notice : Notice) → RelayCircuit → Closings
close_both n c = record { notice = n; first = close_side c c.requester; second = Some (close_side c c.endpoint) }

abbrev pub circuit_notice : Revoking → Notice
circuit_notice = notice_of TicketExpired

unfoldable pub circuit_closings : Revoking → RelayCircuit → Closings
circuit_closings v c = close_both (circuit_notice v) c

-- ---- one message, or two
abbrev pub told_too : Notice → Option Outgoing → Sent → Sent
told_too n None s = s
told_too n (Some m) s = and_then s (tell (message_of m (notice_body n)))

abbrev pub told : Closings → World → Sent
told c w = told_too c.notice c.second (tell (message_of c.first (notice_body c.notice)) w)

-- the record at a place
module _ {A : Type 0} (table : World → List A) (none : A) (closings : A → Closings) (without : World → ℕ → World) where
  abbrev pub ended : World → (place : ℕ) → Sent
  ended w place = told (closings (get_or (table w) place none)) (without w place)

-- ---- what the walks of a revoking call do
unfoldable pub ending_pending : Revoking → World → (place : ℕ) → Sent
ending_pending Disabled w place = revoke_pending RelayDisabled w place
ending_pending (Disconnected peer) w place = disconnect_pending peer w place
ending_pending (Reservation id) w place = revoke_pending ReservationRevoked w place
ending_pending (Expired now) w place = revoke_pending AcceptanceExpired w place

abbrev pub revoking_all : Revoking → World → Outcome
revoking_all v w =
    revoke_all (ending_pending v) (pending_revoked v) (revoke_circuit_there (circuit_notice v)) (circuit_revoked v) w

-- ---- the entry of a revoking call: 22, and then its own rows; taken, the first record that each walk takes
abbrev pub walks_of : Revoking → List RelayPending → List RelayCircuit → Walks
walks_of v p c = record {
  revoking = v;
  pending = next pending_id (pending_revoked v) not_yet p;
  circuits = next circuit_id (circuit_revoked v) not_yet c;
}

abbrev pub entered : Revoking → World → (room : ℕ) → (rows : HnsrAnswer) → Result Walks HnsrRuntimeError
entered v w room rows =
    result_and (room_answer w room (revoking_words w) then rows) (Ok (walks_of v w.pending w.circuits))
