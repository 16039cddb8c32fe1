-- What a revoking call asks of each pending record and circuit; what `status` asks of all actions, and OPEN and ACCEPT
-- of all records.
use Rattle.std.specs.Prelude.{ℕ, Bool, false, List}
use Rattle.hnsr_circuit.specs.declared.peer.HnsrPeerId.{HnsrPeerId}
use Rattle.hnsr_circuit.specs.declared.records.RelayPending.{RelayPending}
use Rattle.hnsr_circuit.specs.declared.records.RelayCircuit.{RelayCircuit}
use Rattle.hnsr_circuit.specs.declared.tables.question.Revoking.{Revoking}
use Rattle.hnsr_circuit.specs.declared.tables.question.Revoking.TheVariants.{Disabled, Disconnected, Reservation}
use Rattle.hnsr_circuit.specs.declared.tables.question.Revoking.TheVariants.{Expired}
use Rattle.hnsr_circuit.specs.declared.tables.scan.ActionQuestion.{ActionQuestion}
use Rattle.hnsr_circuit.specs.declared.tables.scan.Work.{Work}
use Rattle.hnsr_circuit.specs.declared.tables.scan.WorkQuestion.{WorkQuestion}
use Rattle.hns_encoding.specs.Sums.{count}
use Rattle.hnsr_circuit.specs.Table.{any}
use Rattle.hnsr_circuit.specs.Pending.{is_pending, pending_at, pending_of, pending_under, requested_by, pending_over}
use Rattle.hnsr_circuit.specs.Circuits.{is_circuit, circuit_at, circuit_of, circuit_under, circuit_over}

-- ---- what a revoking call ends
unfoldable pub pending_revoked : Revoking → RelayPending → Bool
pending_revoked Disabled p = is_pending p
pending_revoked (Disconnected peer) p = pending_of peer p
pending_revoked (Reservation id) p = pending_under id p
pending_revoked (Expired now) p = pending_over now p

unfoldable pub circuit_revoked : Revoking → RelayCircuit → Bool
circuit_revoked Disabled c = is_circuit c
circuit_revoked (Disconnected peer) c = circuit_of peer c
circuit_revoked (Reservation id) c = circuit_under id c
circuit_revoked (Expired now) c = circuit_over now c

-- ---- the three counts of the action capacity: what `status` asks of all actions
abbrev pub capacity_question : (circuit : ℕ) → HnsrPeerId → ActionQuestion
capacity_question circuit peer =
    record { replacing = false; circuit_id = circuit; peer = peer; generation = 0; sequence = 0 }

-- ---- how much work there is: what OPEN and ACCEPT ask of all records
unfoldable pub pending_work : WorkQuestion → List RelayPending → Work
pending_work q t = record {
  used = count is_pending t;
  of_peer = count (pending_of q.peer) t;
  of_other = count (pending_of q.other) t;
  under = count (pending_under q.reservation) t;
  repeated = any (requested_by q.peer q.context) t;
  holds = any (pending_at q.id) t;
}

-- a circuit repeats no OPEN
unfoldable pub circuit_work : WorkQuestion → List RelayCircuit → Work
circuit_work q t = record {
  used = count is_circuit t;
  of_peer = count (circuit_of q.peer) t;
  of_other = count (circuit_of q.other) t;
  under = count (circuit_under q.reservation) t;
  repeated = false;
  holds = any (circuit_at q.id) t;
}
