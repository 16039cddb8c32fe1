-- Pending records: what is asked of one, and what becomes of one. Every question tests the used mark too, and none more
-- than one record.
use Rattle.std.specs.Prelude.{ℕ, Bool, true, false, ◌&&◌, ◌||◌, eqb, leb}
use Rattle.hnsr_body.specs.declared.values.ReservationId.{ReservationId}
use Rattle.hnsr_body.specs.Values.{same_reservation}
use Rattle.hnsr_circuit.specs.declared.peer.HnsrPeerId.{HnsrPeerId}
use Rattle.hnsr_circuit.specs.declared.records.RelayTicket.{RelayTicket}
use Rattle.hnsr_circuit.specs.declared.records.RelayPending.{RelayPending}
use Rattle.hnsr_circuit.specs.Peer.{no_peer, same_peer}

abbrev pub no_reservation : ReservationId
no_reservation = record { high = 0; low = 0 }

abbrev pub no_ticket : RelayTicket
no_ticket = record {
  reservation_id = no_reservation;
  expires_at = 0;
  max_active_circuits = 0;
  max_bytes_per_circuit = 0;
  max_total_bytes = 0;
}

-- a record in use; its mark replaced
abbrev pub pending_record : (id : ℕ) → (requester endpoint : HnsrPeerId) → (context : ℕ) → RelayTicket
    → (window deadline : ℕ) → RelayPending
pending_record id requester endpoint context ticket window deadline = record {
  used = true;
  circuit_id = id;
  requester = requester;
  endpoint = endpoint;
  requester_context = context;
  ticket = ticket;
  initial_window = window;
  deadline = deadline;
}

abbrev pub pending_marked : (used : Bool) → RelayPending → RelayPending
pending_marked used p = record {
  used = used;
  circuit_id = p.circuit_id;
  requester = p.requester;
  endpoint = p.endpoint;
  requester_context = p.requester_context;
  ticket = p.ticket;
  initial_window = p.initial_window;
  deadline = p.deadline;
}

-- what a table has past its end
abbrev pub no_pending : RelayPending
no_pending = pending_marked false (pending_record 0 no_peer no_peer 0 no_ticket 0 0)

abbrev pub pending_id : RelayPending → ℕ
pending_id p = p.circuit_id

-- ---- questions
unfoldable pub is_pending : RelayPending → Bool
is_pending p = p.used

unfoldable pub pending_at : (id : ℕ) → RelayPending → Bool
pending_at id p = p.used && eqb p.circuit_id id

-- the peer is a side of it
unfoldable pub pending_of : HnsrPeerId → RelayPending → Bool
pending_of peer p = p.used && (same_peer p.requester peer || same_peer p.endpoint peer)

-- it stores the reservation's id
unfoldable pub pending_under : ReservationId → RelayPending → Bool
pending_under id p = p.used && same_reservation p.ticket.reservation_id id

-- the same requester and context
abbrev pub requester_names : HnsrPeerId → (context : ℕ) → RelayPending → Bool
requester_names peer context p = same_peer p.requester peer && eqb p.requester_context context

abbrev pub endpoint_names : HnsrPeerId → (context : ℕ) → RelayPending → Bool
endpoint_names peer context p = same_peer p.endpoint peer && eqb p.circuit_id context

unfoldable pub requested_by : HnsrPeerId → (context : ℕ) → RelayPending → Bool
requested_by peer context p = p.used && requester_names peer context p

-- CLOSE.9: by what number each side names it
unfoldable pub named_by : HnsrPeerId → (context : ℕ) → RelayPending → Bool
named_by peer context p = p.used && (requester_names peer context p || endpoint_names peer context p)

-- it is too late for it (ACCEPT.3, EXPIRE.4)
abbrev pub overdue : (now : ℕ) → RelayPending → Bool
overdue now p = leb p.deadline now || leb p.ticket.expires_at now

unfoldable pub pending_over : (now : ℕ) → RelayPending → Bool
pending_over now p = p.used && overdue now p

-- ---- the mark cleared, and nothing else
abbrev pub clear_pending : RelayPending → RelayPending
clear_pending p = pending_marked false p
