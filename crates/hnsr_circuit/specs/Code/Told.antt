-- What `status`, `next_due` and `new` hand back, as the code does: the answer, and what is told or made.
use Rattle.std.specs.Prelude.{ℕ, ◌≡◌, false, cond, List, Option, None, Result, Ok}
use Rattle.std.specs.Result.{result_and}
use Rattle.hnsr_circuit.specs.declared.records.RelayPending.{RelayPending}
use Rattle.hnsr_circuit.specs.declared.records.RelayCircuit.{RelayCircuit}
use Rattle.hnsr_circuit.specs.declared.records.ReservationUsage.{ReservationUsage}
use Rattle.hnsr_circuit.specs.declared.records.InflightAction.{InflightAction}
use Rattle.hnsr_circuit.specs.declared.runtime.HnsrRuntimeStatus.{HnsrRuntimeStatus}
use Rattle.hnsr_circuit.specs.declared.runtime.StatusTold.{StatusTold}
use Rattle.hnsr_circuit.specs.declared.answer.HnsrRuntimeError.{HnsrRuntimeError}
use Rattle.hnsr_circuit.specs.declared.runtime.Relayed.{Relayed}
use Rattle.hnsr_circuit.specs.Answers.{taken}
use Rattle.hnsr_circuit.specs.Runtime.{no_runtime}
use Rattle.hnsr_circuit.specs.Code.Held.{no_place, every_place}
use Rattle.hnsr_circuit.specs.World.{Told, silent, status_is, due_is, Outcome, world_of}

-- what is told where it is not the status: zeros
abbrev pub no_status : HnsrRuntimeStatus
no_status = record {
  generation = 0;
  enabled = false;
  pending_circuits = 0;
  active_circuits = 0;
  queued_bytes = 0;
  queued_actions = 0;
  trusted_time_high_water = 0;
  admitted_opens = 0;
  opened_circuits = 0;
  bytes_sent = 0;
  bytes_received = 0;
  revoked_work = 0;
}

abbrev pub status_in : Told → HnsrRuntimeStatus
status_in silent = no_status
status_in (status_is s capacity) = s
status_in (due_is d) = no_status

abbrev pub capacity_in : Told → ℕ
capacity_in silent = 0
capacity_in (status_is s capacity) = capacity
capacity_in (due_is d) = 0

abbrev pub due_in : Told → Option ℕ
due_in silent = None
due_in (status_is s capacity) = None
due_in (due_is d) = d

abbrev pub status_told : Outcome → Result StatusTold HnsrRuntimeError
status_told o =
    result_and o.answer (Ok (record { status = status_in o.told; action_capacity = capacity_in o.told }))

abbrev pub due_told : Outcome → Result (Option ℕ) HnsrRuntimeError
due_told o = result_and o.answer (Ok (due_in o.told))

-- what `new` hands back: its answer; the tables as they are seen; the runtime that it makes with no place in use, or,
-- where it is refused, zeros and off, with the marks alone to decide
pub record Made (r : Relayed) (p : List RelayPending) (c : List RelayCircuit) (l : List ReservationUsage)
    (i : List InflightAction) (o : Outcome) : Type 0 where
  pub answer : r.answer ≡ o.answer
  pub tables : world_of o.world.runtime p c l i ≡ o.world
  pub runtime : r.state.runtime ≡ cond (taken o.answer) o.world.runtime no_runtime
  pub places : r.state.places ≡ cond (taken o.answer) no_place every_place
  pub words : r.words ≡ 0
