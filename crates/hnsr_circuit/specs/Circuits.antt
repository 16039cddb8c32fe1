-- Circuits: what is asked of one, and what becomes of one. Every question tests the used mark too.
use Rattle.std.specs.Prelude.{ℕ, ◌+◌, ◌-◌, Bool, false, cond, ◌&&◌, ◌||◌, eqb, leb}
use Rattle.hns_encoding.specs.Numbers.{saturating_add}
use Rattle.hnsr_body.specs.declared.values.ReservationId.{ReservationId}
use Rattle.hnsr_body.specs.Values.{same_reservation}
use Rattle.hnsr_circuit.specs.declared.peer.HnsrPeerId.{HnsrPeerId}
use Rattle.hnsr_circuit.specs.declared.records.RelayCircuit.{RelayCircuit}
use Rattle.hnsr_circuit.specs.declared.records.RelaySide.{RelaySide}
use Rattle.hnsr_circuit.specs.declared.records.RelaySide.TheVariants.{Requester, Endpoint}
use Rattle.hnsr_circuit.specs.Peer.{no_peer, same_peer}
use Rattle.hnsr_circuit.specs.Pending.{no_reservation}

-- what a table has past its end
abbrev pub no_circuit : RelayCircuit
no_circuit = record {
  used = false;
  circuit_id = 0;
  requester = no_peer;
  endpoint = no_peer;
  reservation_id = no_reservation;
  expires_at = 0;
  maximum_bytes = 0;
  maximum_total_bytes = 0;
  requester_credit = 0;
  endpoint_credit = 0;
  forwarded_bytes = 0;
  queued_to_requester = 0;
  queued_to_endpoint = 0;
}

abbrev pub circuit_id : RelayCircuit → ℕ
circuit_id c = c.circuit_id

-- ---- questions
unfoldable pub is_circuit : RelayCircuit → Bool
is_circuit c = c.used

unfoldable pub circuit_at : (id : ℕ) → RelayCircuit → Bool
circuit_at id c = c.used && eqb c.circuit_id id

-- the peer is a side of it
abbrev pub is_side : HnsrPeerId → RelayCircuit → Bool
is_side peer c = same_peer c.requester peer || same_peer c.endpoint peer

unfoldable pub circuit_of : HnsrPeerId → RelayCircuit → Bool
circuit_of peer c = c.used && is_side peer c

-- it stores the reservation's id
unfoldable pub circuit_under : ReservationId → RelayCircuit → Bool
circuit_under id c = c.used && same_reservation c.reservation_id id

-- expiry not after now
unfoldable pub circuit_over : (now : ℕ) → RelayCircuit → Bool
circuit_over now c = c.used && leb c.expires_at now

-- ---- sides: a peer that is both is the requester, as in the Rust
unfoldable pub side_of : HnsrPeerId → RelayCircuit → RelaySide
side_of peer c = cond (same_peer c.requester peer) Requester Endpoint

abbrev pub other_side : RelaySide → RelaySide
other_side Requester = Endpoint
other_side Endpoint = Requester

-- a side's part of what both sides have
abbrev pub part_of : {A : Type 0} → RelaySide → (requester endpoint : A) → A
part_of Requester requester endpoint = requester
part_of Endpoint requester endpoint = endpoint

abbrev pub peer_at : RelaySide → RelayCircuit → HnsrPeerId
peer_at Requester c = c.requester
peer_at Endpoint c = c.endpoint

abbrev pub credit_of : RelaySide → RelayCircuit → ℕ
credit_of Requester c = c.requester_credit
credit_of Endpoint c = c.endpoint_credit

-- the queue toward a side
abbrev pub queued_to : RelaySide → RelayCircuit → ℕ
queued_to Requester c = c.queued_to_requester
queued_to Endpoint c = c.queued_to_endpoint

-- both queues: a sum that stops at its top
abbrev pub queued_bytes : RelayCircuit → ℕ
queued_bytes c = saturating_add 64 c.queued_to_requester c.queued_to_endpoint

-- what only a used circuit counts
unfoldable pub queued_in : RelayCircuit → ℕ
queued_in c = cond c.used (queued_bytes c) 0

-- ---- changes
-- a circuit with its mark and its five moving counts replaced: credits, bytes, queues
abbrev pub moved : RelayCircuit → Bool → (requester_credit endpoint_credit forwarded to_requester to_endpoint : ℕ)
    → RelayCircuit
moved c used requester_credit endpoint_credit forwarded to_requester to_endpoint = record {
  used = used;
  circuit_id = c.circuit_id;
  requester = c.requester;
  endpoint = c.endpoint;
  reservation_id = c.reservation_id;
  expires_at = c.expires_at;
  maximum_bytes = c.maximum_bytes;
  maximum_total_bytes = c.maximum_total_bytes;
  requester_credit = requester_credit;
  endpoint_credit = endpoint_credit;
  forwarded_bytes = forwarded;
  queued_to_requester = to_requester;
  queued_to_endpoint = to_endpoint;
}

-- the mark cleared, and nothing else
abbrev pub circuit_marked : (used : Bool) → RelayCircuit → RelayCircuit
circuit_marked used c =
    moved c used c.requester_credit c.endpoint_credit c.forwarded_bytes c.queued_to_requester
    c.queued_to_endpoint

abbrev pub clear_circuit : RelayCircuit → RelayCircuit
clear_circuit c = circuit_marked false c

-- DATA of n bytes from a side, as far as the circuit is charged (DATA.9)
abbrev pub charged : RelaySide → ℕ → RelayCircuit → RelayCircuit
charged Requester n c =
    moved c c.used (c.requester_credit - n) c.endpoint_credit (saturating_add 64 c.forwarded_bytes n)
    c.queued_to_requester (saturating_add 64 c.queued_to_endpoint n)
charged Endpoint n c =
    moved c c.used c.requester_credit (c.endpoint_credit - n) (saturating_add 64 c.forwarded_bytes n)
    (saturating_add 64 c.queued_to_requester n) c.queued_to_endpoint

-- WINDOW of a side (WINDOW.7)
abbrev pub raised : RelaySide → ℕ → RelayCircuit → RelayCircuit
raised Requester n c =
    moved c c.used c.requester_credit (c.endpoint_credit + n) c.forwarded_bytes
    c.queued_to_requester c.queued_to_endpoint
raised Endpoint n c =
    moved c c.used (c.requester_credit + n) c.endpoint_credit c.forwarded_bytes
    c.queued_to_requester c.queued_to_endpoint

-- an acknowledged Data lowers the queue that it stood in, toward the side that it went to
abbrev pub lowered : RelaySide → ℕ → RelayCircuit → RelayCircuit
lowered Requester n c =
    moved c c.used c.requester_credit c.endpoint_credit c.forwarded_bytes
    (c.queued_to_requester - n) c.queued_to_endpoint
lowered Endpoint n c =
    moved c c.used c.requester_credit c.endpoint_credit c.forwarded_bytes c.queued_to_requester
    (c.queued_to_endpoint - n)
