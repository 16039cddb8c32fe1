-- Beside the claim: what the tables hold. The claim speaks of the circuits that history calls active; if history called
-- too few of them so, it would say too little. So: the circuits in the table are the active ones of history, the
-- pending records are its standing OPENs, each at most once, with equal fields; and of a reservation that lives the
-- ledger holds what is reckoned.
use Rattle.std.specs.Prelude.{ℕ, ◌≤◌, ◌≡◌, true}
use Rattle.hns_encoding.specs.Sums.{count}
use Rattle.hnsr_body.specs.declared.values.ReservationId.{ReservationId}
use Rattle.hnsr_circuit.specs.declared.records.RelayPending.{RelayPending}
use Rattle.hnsr_circuit.specs.declared.records.RelayCircuit.{RelayCircuit}
use Rattle.hnsr_circuit.specs.declared.records.RelaySide.{RelaySide}
use Rattle.hnsr_circuit.specs.Pending.{pending_at}
use Rattle.hnsr_circuit.specs.Circuits.{circuit_at, peer_at, credit_of}
use Rattle.hnsr_circuit.specs.Ledger.{has_usage, usage_of}
use Rattle.hnsr_circuit.specs.World.{World}
use Rattle.hnsr_circuit.specs.Packet.{has_circuit, circuit_in}
use Rattle.hnsr_circuit.specs.Revocation.{has_pending, pending_in}
use Rattle.hnsr_run.specs.Past.{Known, Asked, Past, peer_on, credit, lives}
use Rattle.hnsr_run.specs.Claim.{Machine, Run, world_at, past_at}

-- a circuit and what is known of it
pub record SameCircuit (c : RelayCircuit) (k : Known) : Type 0 where
  pub sides : (side : RelaySide) → peer_at side c ≡ peer_on side k
  pub reservation : c.reservation_id ≡ k.reservation
  pub expires : c.expires_at ≡ k.expires
  pub limit : c.maximum_bytes ≡ k.limit
  pub total : c.maximum_total_bytes ≡ k.total
  pub credits : (side : RelaySide) → credit_of side c ≡ credit side k
  pub bytes : c.forwarded_bytes ≡ k.bytes

-- a pending record and the OPEN
pub record SameOpen (p : RelayPending) (k : Asked) : Type 0 where
  pub requester : p.requester ≡ k.requester
  pub endpoint : p.endpoint ≡ k.endpoint
  pub context : p.requester_context ≡ k.context
  pub ticket : p.ticket ≡ k.ticket
  pub deadline : p.deadline ≡ k.deadline

pub record Tabled (w : World) (h : Past) : Type 0 where
  pub active : (j : ℕ) → has_circuit w j ≡ h.active j
  pub one-active : (j : ℕ) → count (circuit_at j) w.circuits ≤ 1
  pub known : (j : ℕ) → h.active j ≡ true → SameCircuit (circuit_in w j) (h.known j)
  pub standing : (j : ℕ) → has_pending w j ≡ h.opens.standing j
  pub one-standing : (j : ℕ) → count (pending_at j) w.pending ≤ 1
  pub asked : (j : ℕ) → h.opens.standing j ≡ true → SameOpen (pending_in w j) (h.opens.asked j)
  pub reserved : (r : ReservationId) → lives h.head.clock h.book r ≡ true → has_usage r w.ledger ≡ true
  pub spent : (r : ReservationId) → lives h.head.clock h.book r ≡ true
      → (usage_of r w.ledger).bytes ≡ h.book.spent r

-- at the end of any run, so at every moment of one
abbrev pub Companion : Machine → Type 0
Companion m = (r : Run m) → Tabled (world_at m r) (past_at m r)
