-- The places in use: a number by value beside each lent table. A place is used exactly if its record's mark is set and
-- it lies below that number; so a table is seen with the marks of the places at and above the number cleared, and what
-- else stands there as it is. The machine's definition speaks of tables as they are seen.
use Rattle.std.specs.Prelude.{ℕ, zero, suc, ◌+◌, cond, ◌&&◌, List, [], ◌∷◌, leb, ltb}
use Rattle.hnsr_circuit.specs.declared.records.RelayPending.{RelayPending}
use Rattle.hnsr_circuit.specs.declared.records.RelayCircuit.{RelayCircuit}
use Rattle.hnsr_circuit.specs.declared.records.ReservationUsage.{ReservationUsage}
use Rattle.hnsr_circuit.specs.declared.records.InflightAction.{InflightAction}
use Rattle.hnsr_circuit.specs.declared.tables.places.Places.{Places}
use Rattle.hnsr_circuit.specs.declared.runtime.OpaqueRelayRuntime.{OpaqueRelayRuntime}
use Rattle.hnsr_circuit.specs.declared.runtime.RelayState.{RelayState}
use Rattle.hnsr_circuit.specs.declared.runtime.Relayed.{Relayed}
use Rattle.hnsr_circuit.specs.declared.runtime.Request.{Request}
use Rattle.hnsr_circuit.specs.declared.runtime.Sending.{Sending}
use Rattle.hnsr_circuit.specs.Pending.{clear_pending}
use Rattle.hnsr_circuit.specs.Circuits.{clear_circuit}
use Rattle.hnsr_circuit.specs.Ledger.{clear_usage}
use Rattle.hnsr_circuit.specs.Inflight.{clear_action}
use Rattle.hnsr_circuit.specs.World.{World, world_of}
use Rattle.hnsr_circuit.specs.Code.Progress.{Progress, Ended, underway, handed_back}

-- ---- a table as it is seen
module _ {A : Type 0} (unmark : A → A) where
  abbrev pub held : (n : ℕ) → List A → List A
  held n [] = []
  held zero (x ∷ xs) = unmark x ∷ held zero xs
  held (suc n) (x ∷ xs) = x ∷ held n xs

abbrev pub held_pending : Places → List RelayPending → List RelayPending
held_pending n t = held clear_pending n.pending t

abbrev pub held_circuits : Places → List RelayCircuit → List RelayCircuit
held_circuits n t = held clear_circuit n.circuits t

abbrev pub held_ledger : Places → List ReservationUsage → List ReservationUsage
held_ledger n t = held clear_usage n.ledger t

abbrev pub held_actions : Places → List InflightAction → List InflightAction
held_actions n t = held clear_action n.actions t

-- ---- the world as it is seen, handed over and handed back
abbrev pub world_seen : OpaqueRelayRuntime → Places → List RelayPending → List RelayCircuit → List ReservationUsage
    → List InflightAction → World
world_seen h n p c l i = world_of h (held_pending n p) (held_circuits n c) (held_ledger n l) (held_actions n i)

abbrev pub state_seen : RelayState → List RelayPending → List RelayCircuit → List ReservationUsage
    → List InflightAction → World
state_seen s p c l i = world_seen s.runtime s.places p c l i

abbrev pub world_given : Request → List RelayPending → List RelayCircuit → List ReservationUsage
    → List InflightAction → World
world_given r p c l i = state_seen r.state p c l i

abbrev pub underway_seen : Sending → List RelayPending → List RelayCircuit → List ReservationUsage → List InflightAction
    → (out : List ℕ) → Progress
underway_seen s p c l i out =
    underway s (held_pending s.state.places p) (held_circuits s.state.places c) (held_ledger s.state.places l)
    (held_actions s.state.places i) out

abbrev pub handed_seen : Relayed → List RelayPending → List RelayCircuit → List ReservationUsage → List InflightAction
    → (out : List ℕ) → Ended
handed_seen r p c l i out =
    handed_back r (held_pending r.state.places p) (held_circuits r.state.places c) (held_ledger r.state.places l)
    (held_actions r.state.places i) out

-- the tables as lent, and the actions as they are seen
abbrev pub lent_seen : OpaqueRelayRuntime → Places → World → List InflightAction → World
lent_seen h n w i = world_of h (held_pending n w.pending) (held_circuits n w.circuits) (held_ledger n w.ledger) i

abbrev pub sending_seen : Sending → World → List InflightAction → (out : List ℕ) → Progress
sending_seen s w i out = underway_seen s w.pending w.circuits w.ledger i out

-- ---- numbers
-- none is in use
abbrev pub no_place : Places
no_place = record { pending = 0; circuits = 0; ledger = 0; actions = 0 }

-- the marks alone decide: the largest numbers there are
abbrev pub every_place : Places
every_place = record {
  pending = 18446744073709551615;
  circuits = 18446744073709551615;
  ledger = 18446744073709551615;
  actions = 18446744073709551615;
}

-- a store raises the number where it is done at or above it
abbrev pub raised_to : (n place size : ℕ) → ℕ
raised_to n place size = cond (ltb place size && leb n place) (place + 1) n
