-- *Next due*, an added call (DUE.1, DUE.4 to DUE.7). A fold of "earlier of" over the tables.
use Rattle.std.specs.Prelude.{ℕ, min, Bool, cond, List, Option, None, Some}
use Rattle.hnsr_circuit.specs.declared.records.RelayPending.{RelayPending}
use Rattle.hnsr_circuit.specs.declared.records.RelayCircuit.{RelayCircuit}
use Rattle.hnsr_circuit.specs.declared.records.ReservationUsage.{ReservationUsage}
use Rattle.hns_encoding.specs.Loops.{fold_from}
use Rattle.hnsr_circuit.specs.Pending.{is_pending}
use Rattle.hnsr_circuit.specs.Circuits.{is_circuit}
use Rattle.hnsr_circuit.specs.Ledger.{is_usage}
use Rattle.hnsr_circuit.specs.World.{World, due_is, Outcome, proceed, telling}
use Rattle.hnsr_circuit.specs.Entry.{tables_answer}

abbrev pub earlier : Option ℕ → ℕ → Option ℕ
earlier None n = Some n
earlier (Some m) n = Some (min m n)

unfoldable pub due_turn : {A : Type 0} → (used : A → Bool) → (time : A → ℕ) → Option ℕ → A → ℕ → Option ℕ
due_turn used time d r place = cond (used r) (earlier d (time r)) d

-- of the used records of a table, and of what is due beside it, the earliest
abbrev pub due_in : {A : Type 0} → (used : A → Bool) → (time : A → ℕ) → List A → Option ℕ → Option ℕ
due_in used time t d = fold_from (due_turn used time) t 0 d

-- ---- when a record ends
abbrev pub deadline_of : RelayPending → ℕ
deadline_of p = p.deadline

abbrev pub expiry_of : RelayCircuit → ℕ
expiry_of c = c.expires_at

abbrev pub usage_expiry_of : ReservationUsage → ℕ
usage_expiry_of u = u.expires_at

-- ---- the three tables (DUE.5)
abbrev pub pending_due : List RelayPending → Option ℕ → Option ℕ
pending_due t d = due_in is_pending deadline_of t d

abbrev pub circuit_due : List RelayCircuit → Option ℕ → Option ℕ
circuit_due t d = due_in is_circuit expiry_of t d

abbrev pub usage_due : List ReservationUsage → Option ℕ → Option ℕ
usage_due t d = due_in is_usage usage_expiry_of t d

unfoldable pub due_of : World → Option ℕ
due_of w = usage_due w.ledger (circuit_due w.circuits (pending_due w.pending None))

unfoldable pub next_due : World → Outcome
next_due w = proceed w (tables_answer w) (telling w (due_is (due_of w)))
