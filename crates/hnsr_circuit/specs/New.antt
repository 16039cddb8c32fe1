-- `new` (NEW.1 to NEW.7) and `observe_time` (TIME.1).
use Rattle.std.specs.Prelude.{ℕ, ◌||◌, List, [], eqb, length}
use Rattle.hns_encoding.specs.Bytes.{all_zero}
use Rattle.hnsr_circuit.specs.declared.config.OpaqueRelayConfig.{OpaqueRelayConfig}
use Rattle.hnsr_circuit.specs.declared.runtime.OpaqueRelayRuntime.{OpaqueRelayRuntime}
use Rattle.hnsr_circuit.specs.declared.answer.HnsrRuntimeError.TheVariants.{InvalidSession, Short}
use Rattle.hnsr_circuit.specs.Table.{clear}
use Rattle.hnsr_circuit.specs.Answers.{HnsrAnswer, check, ◌then◌}
use Rattle.hnsr_circuit.specs.Config.{validate_config}
use Rattle.hnsr_circuit.specs.Pending.{is_pending, clear_pending}
use Rattle.hnsr_circuit.specs.Circuits.{is_circuit, clear_circuit}
use Rattle.hnsr_circuit.specs.Ledger.{is_usage, clear_usage}
use Rattle.hnsr_circuit.specs.Inflight.{is_action, dropped}
use Rattle.hnsr_circuit.specs.Runtime.{new_runtime}
use Rattle.hnsr_circuit.specs.World.{World, Outcome, done, proceed, at_time}
use Rattle.hnsr_circuit.specs.Entry.{tables_short, clock_answer}

-- ---- new: 3, 2, 22 (NEW.1 to NEW.3)
unfoldable pub session_answer : (session : List ℕ) → (generation : ℕ) → HnsrAnswer
session_answer session generation = check (all_zero session || eqb generation 0) InvalidSession

unfoldable pub new_answer : World → (session : List ℕ) → (generation : ℕ) → OpaqueRelayConfig → HnsrAnswer
new_answer w session generation config =
    session_answer session generation
    then validate_config config
    then check (tables_short config w || eqb (length w.ledger) 0) Short

-- NEW.4: every place is unused
unfoldable pub emptied : World → OpaqueRelayRuntime → World
emptied w h = record {
  runtime = h;
  pending = clear clear_pending is_pending w.pending;
  circuits = clear clear_circuit is_circuit w.circuits;
  ledger = clear clear_usage is_usage w.ledger;
  inflight = dropped is_action w.inflight;
}

unfoldable pub new_relay : World → (session : List ℕ) → (generation : ℕ) → OpaqueRelayConfig → (now : ℕ) → Outcome
new_relay w session generation config now =
    proceed w (new_answer w session generation config) (done (emptied w (new_runtime session generation config now)) [])

-- ---- observe_time is lent no table, and asks no 22
unfoldable pub observe_time : World → (now : ℕ) → Outcome
observe_time w now = proceed w (clock_answer w.runtime.trusted_time_high_water now) (done (at_time w now) [])
