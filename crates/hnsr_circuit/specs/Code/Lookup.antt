-- What the code keeps of a lookup: the lowest place whose record has what is asked, and the record there, if there is
-- one.
use Rattle.std.specs.Prelude.{Bool, cond, Option, None, Some, List}
use Rattle.hnsr_circuit.specs.declared.records.RelayPending.{RelayPending}
use Rattle.hnsr_circuit.specs.declared.records.RelayCircuit.{RelayCircuit}
use Rattle.hnsr_circuit.specs.declared.records.ReservationUsage.{ReservationUsage}
use Rattle.hnsr_circuit.specs.declared.records.InflightAction.{InflightAction}
use Rattle.hnsr_circuit.specs.declared.tables.lookup.Found.{Found}
use Rattle.hnsr_circuit.specs.Table.{any, pick, place_of}
use Rattle.hnsr_circuit.specs.Pending.{no_pending}
use Rattle.hnsr_circuit.specs.Circuits.{no_circuit}
use Rattle.hnsr_circuit.specs.Ledger.{no_usage}
use Rattle.hnsr_circuit.specs.Inflight.{no_action}

abbrev pub looked_up : {A : Type 0} → (none : A) → (A → Bool) → List A → Option (Found A)
looked_up none p t = cond (any p t) (Some (record { place = place_of p t; row = pick p none t })) None

abbrev pub pending_found : (RelayPending → Bool) → List RelayPending → Option (Found RelayPending)
pending_found p t = looked_up no_pending p t

abbrev pub circuit_found : (RelayCircuit → Bool) → List RelayCircuit → Option (Found RelayCircuit)
circuit_found p t = looked_up no_circuit p t

abbrev pub usage_found : (ReservationUsage → Bool) → List ReservationUsage → Option (Found ReservationUsage)
usage_found p t = looked_up no_usage p t

abbrev pub action_found : (InflightAction → Bool) → List InflightAction → Option (Found InflightAction)
action_found p t = looked_up no_action p t
