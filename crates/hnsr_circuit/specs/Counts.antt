-- Counts over the tables: how many records there are, and the work of a peer and of a reservation.
use Rattle.std.specs.Prelude.{ℕ, ◌+◌}
use Rattle.hnsr_body.specs.declared.values.ReservationId.{ReservationId}
use Rattle.hnsr_circuit.specs.declared.peer.HnsrPeerId.{HnsrPeerId}
use Rattle.hns_encoding.specs.Sums.{count}
use Rattle.hnsr_circuit.specs.Pending.{is_pending, pending_of, pending_under}
use Rattle.hnsr_circuit.specs.Circuits.{is_circuit, circuit_of, circuit_under}
use Rattle.hnsr_circuit.specs.World.{World}

unfoldable pub pending_count : World → ℕ
pending_count w = count is_pending w.pending

unfoldable pub circuit_count : World → ℕ
circuit_count w = count is_circuit w.circuits

-- a peer's work: the pending records and circuits of which it is either side
unfoldable pub peer_work : World → HnsrPeerId → ℕ
peer_work w peer = count (pending_of peer) w.pending + count (circuit_of peer) w.circuits

-- a reservation's work: the pending records and circuits that store its id
unfoldable pub reservation_work : World → ReservationId → ℕ
reservation_work w id = count (pending_under id) w.pending + count (circuit_under id) w.circuits
