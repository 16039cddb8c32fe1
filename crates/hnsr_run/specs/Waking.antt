-- Beside the claim: two about a host that waits for next due before it calls `expire` (RUN.16, RUN.17).
use Rattle.std.specs.Prelude.{ℕ, ◌+◌, ◌*◌, ◌≤◌, ◌<◌, ◌≡◌, ◌⊎◌, true, false, List, [], Option, None, Some, Ok}
use Rattle.hnsr_body.specs.declared.values.ReservationId.{ReservationId}
use Rattle.hnsr_circuit.specs.World.{World, Outcome, due_is, done, telling, at_time}
use Rattle.hnsr_circuit.specs.Entry.{closing_words, revoking_words}
use Rattle.hnsr_circuit.specs.Ends.{later, NoneUsed, OneEndsAt, NoneEndsBy}
use Rattle.hnsr_circuit.specs.Call.{Start, Call, call_next_due, call_expire}
use Rattle.hnsr_run.specs.Past.{Past, lives}
use Rattle.hnsr_run.specs.Claim.{Machine, left_by, Run, world_at, past_at}

-- ---- next due, `expire` and the tables
module _ (step : World → Call → Outcome) where
  pub record Wakes (w : World) : Type 0 where
    -- next due is told, and telling it changes nothing
    pub due : Option ℕ
    pub told : step w call_next_due ≡ telling w (due_is due)
    -- it is none only where no record is used, else the end of a used one
    pub none : due ≡ None → NoneUsed w
    pub one : (t : ℕ) → due ≡ Some t → OneEndsAt w t
    -- before it `expire`, with output long enough, is taken, sends nothing and changes nothing but the clock
    pub before : (now room : ℕ) → w.runtime.trusted_time_high_water ≤ now → later now due ≡ true
        → revoking_words w ≤ room
        → step w (call_expire now room) ≡ done (at_time w now) []
    -- after a taken `expire` it is none or later
    pub after : (now room : ℕ) → (step w (call_expire now room)).answer ≡ Ok tt
        → (d : Option ℕ)
        × ((step (step w (call_expire now room)).world call_next_due).told ≡ due_is d)
        × (later now d ≡ true)
    -- and no used record ends by then
    pub ended : (now room : ℕ) → (step w (call_expire now room)).answer ≡ Ok tt
        → NoneEndsBy (step w (call_expire now room)).world now

-- any run from a taken `new`
abbrev pub Waking : Machine → Type 0
Waking m = (lent : World) (s : Start) → (m.new lent s).answer ≡ Ok tt → (calls : List Call)
    → Wakes m.step (left_by m.step (m.new lent s).world calls)

-- ---- next due, `expire` and history
-- an end that history knows: of an OPEN that stands, of an active circuit, of a reservation that lives
abbrev pub KnownEnd : Past → ℕ → Type 0
KnownEnd h t =
    ((j : ℕ) × (h.opens.standing j ≡ true) × ((h.opens.asked j).deadline ≡ t))
    ⊎ (((j : ℕ) × (h.active j ≡ true) × ((h.known j).expires ≡ t))
    ⊎ ((r : ReservationId) × (lives h.head.clock h.book r ≡ true) × (h.book.due r ≡ t)))

module _ (step : World → Call → Outcome) where
  pub record Awaits (w : World) (h : Past) : Type 0 where
    pub due : Option ℕ
    pub told : (step w call_next_due).told ≡ due_is due
    -- it is not later than any end that history knows
    pub in_time : (t : ℕ) → KnownEnd h t → later t due ≡ false
    -- and one of them, as long as it is later than the clock
    pub is_one : (t : ℕ) → due ≡ Some t → h.head.clock < t → KnownEnd h t
    -- `expire`, not behind the clock and with output for as many records as there may be, is taken
    pub taken : (now room : ℕ) → h.head.clock ≤ now
        → closing_words * (h.head.config.maximum_pending + h.head.config.maximum_circuits) ≤ room
        → (step w (call_expire now room)).answer ≡ Ok tt

-- a run within the bounds of RUN.11, as all that history tells
abbrev pub Awaiting : Machine → Type 0
Awaiting m = (r : Run m) → Awaits m.step (world_at m r) (past_at m r)
