-- The ends of used records, in the words of the theorems about next due and `expire`.
use Rattle.std.specs.Prelude.{ℕ, ◌≡◌, Bool, true, false, ◌&&◌, ◌||◌, leb, ltb, eqb, Option, None, Some}
use Rattle.hnsr_circuit.specs.Table.{any}
use Rattle.hnsr_circuit.specs.Pending.{is_pending}
use Rattle.hnsr_circuit.specs.Circuits.{is_circuit}
use Rattle.hnsr_circuit.specs.Ledger.{is_usage}
use Rattle.hnsr_circuit.specs.World.{World}
use Rattle.hnsr_circuit.specs.NextDue.{deadline_of, expiry_of, usage_expiry_of}

-- later than now; never is
abbrev pub later : (now : ℕ) → Option ℕ → Bool
later now None = true
later now (Some n) = ltb now n

-- a used record that ends at n; one that ends not after now
module _ {A : Type 0} (used : A → Bool) (time : A → ℕ) where
  abbrev pub ends_at : ℕ → A → Bool
  ends_at n a = used a && eqb (time a) n

  abbrev pub ends_by : (now : ℕ) → A → Bool
  ends_by now a = used a && leb (time a) now

-- ---- of the three tables
abbrev pub NoneUsed : World → Type 0
NoneUsed w =
    (any is_pending w.pending ≡ false) × (any is_circuit w.circuits ≡ false) × (any is_usage w.ledger ≡ false)

abbrev pub OneEndsAt : World → ℕ → Type 0
OneEndsAt w n =
    (any (ends_at is_pending deadline_of n) w.pending || any (ends_at is_circuit expiry_of n) w.circuits
    || any (ends_at is_usage usage_expiry_of n) w.ledger)
    ≡ true

abbrev pub NoneEndsBy : World → (now : ℕ) → Type 0
NoneEndsBy w now =
    (any (ends_by is_pending deadline_of now) w.pending ≡ false)
    × (any (ends_by is_circuit expiry_of now) w.circuits ≡ false)
    × (any (ends_by is_usage usage_expiry_of now) w.ledger ≡ false)
