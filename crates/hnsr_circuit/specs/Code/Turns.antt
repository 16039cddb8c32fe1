-- One turn of each scan of a table, as the code makes it, and what it begins with.
use Rattle.std.specs.Prelude.{ℕ, ◌+◌, ◌≤◌, Bool, false, cond, ◌&&◌, ◌||◌, Option, None, Some, List, eqb, ltb, length}
use Rattle.std.specs.Option.{option_or}
use Rattle.hnsr_body.specs.declared.values.ReservationId.{ReservationId}
use Rattle.hnsr_circuit.specs.declared.records.RelayPending.{RelayPending}
use Rattle.hnsr_circuit.specs.declared.records.RelayCircuit.{RelayCircuit}
use Rattle.hnsr_circuit.specs.declared.records.InflightAction.{InflightAction}
use Rattle.hnsr_circuit.specs.declared.tables.scan.InflightTally.{InflightTally}
use Rattle.hnsr_circuit.specs.declared.tables.scan.Work.{Work}
use Rattle.hnsr_circuit.specs.declared.tables.scan.WorkQuestion.{WorkQuestion}
use Rattle.hnsr_circuit.specs.declared.tables.scan.ActionQuestion.{ActionQuestion}
use Rattle.hnsr_circuit.specs.declared.tables.scan.ActionScan.{ActionScan}
use Rattle.hnsr_circuit.specs.declared.tables.scan.CircuitTotals.{CircuitTotals}
use Rattle.hnsr_circuit.specs.declared.tables.scan.LedgerScan.{LedgerScan}
use Rattle.hnsr_circuit.specs.declared.records.ReservationUsage.{ReservationUsage}
use Rattle.hns_encoding.specs.Numbers.{saturating_add}
use Rattle.hns_encoding.specs.Sums.{non, one, count}
use Rattle.hnsr_circuit.specs.Table.{also, place_in}
use Rattle.hnsr_circuit.specs.Code.Lookup.{usage_found}
use Rattle.hnsr_circuit.specs.Pending.{is_pending, pending_at, pending_of, pending_under, requested_by}
use Rattle.hnsr_circuit.specs.Circuits.{is_circuit, circuit_at, circuit_of, circuit_under, queued_in}
use Rattle.hnsr_circuit.specs.Ledger.{is_usage, usage_at}
use Rattle.hnsr_circuit.specs.Inflight.{is_action, action_at, action_under, action_toward, retained, tallied}
use Rattle.hnsr_circuit.specs.declared.peer.HnsrPeerId.{HnsrPeerId}

-- ---- how much work there is
abbrev pub no_work : Work
no_work = record { used = 0; of_peer = 0; of_other = 0; under = 0; repeated = false; holds = false }

-- a used record more, and which questions it answers
abbrev pub work_on : Work → (peer other under again is : Bool) → Work
work_on w peer other under again is = record {
  used = w.used + 1;
  of_peer = w.of_peer + cond peer 1 0;
  of_other = w.of_other + cond other 1 0;
  under = w.under + cond under 1 0;
  repeated = w.repeated || again;
  holds = w.holds || is;
}

-- so many records at most were counted
pub record WorkAtMost (n : ℕ) (w : Work) : Type 0 where
  pub used : w.used ≤ n
  pub peer : w.of_peer ≤ n
  pub other : w.of_other ≤ n
  pub under : w.under ≤ n

-- of one record more
pub record WorkMore (v w : Work) : Type 0 where
  pub used : w.used ≤ v.used + 1
  pub peer : w.of_peer ≤ v.of_peer + 1
  pub other : w.of_other ≤ v.of_other + 1
  pub under : w.under ≤ v.under + 1

module _ {A : Type 0} (used peer other under again is : A → Bool) where
  abbrev pub work_turn : Work → A → (place : ℕ) → Work
  work_turn w x place = cond (used x) (work_on w (peer x) (other x) (under x) (again x) (is x)) w

-- a circuit repeats no OPEN
abbrev pub never : RelayCircuit → Bool
never c = false

module _ (q : WorkQuestion) where
  abbrev pub pending_worked : Work → RelayPending → (place : ℕ) → Work
  pending_worked =
      work_turn is_pending (pending_of q.peer) (pending_of q.other) (pending_under q.reservation)
      (requested_by q.peer q.context) (pending_at q.id)

  abbrev pub circuit_worked : Work → RelayCircuit → (place : ℕ) → Work
  circuit_worked =
      work_turn is_circuit (circuit_of q.peer) (circuit_of q.other) (circuit_under q.reservation) never
      (circuit_at q.id)

-- ---- what `status` asks of the circuits
abbrev pub no_totals : CircuitTotals
no_totals = record { used = 0; queued_bytes = 0 }

abbrev pub totalled : CircuitTotals → RelayCircuit → (place : ℕ) → CircuitTotals
totalled t c place =
    record { used = t.used + one is_circuit c; queued_bytes = saturating_add 64 t.queued_bytes (queued_in c) }

-- ---- what a message asks of all actions
-- what a message asks of all actions: the tally; where its number stands already; the lowest unused place
unfoldable pub actions_scanned : ActionQuestion → List InflightAction → ActionScan
actions_scanned q t = record {
  tally = tallied q.replacing q.circuit_id q.peer t;
  found = place_in (action_at q.generation q.sequence) t;
  spare = place_in (non is_action) t;
}

abbrev pub no_tally : InflightTally
no_tally = record { total = 0; for_circuit = 0; for_peer = 0 }

module _ (replacing : Bool) (id : ℕ) (peer : HnsrPeerId) where
  unfoldable pub tally_turn : InflightTally → InflightAction → (place : ℕ) → InflightTally
  tally_turn t a place = record {
    total = t.total + one (retained replacing id) a;
    for_circuit = t.for_circuit + one (also (retained replacing id) (action_under id)) a;
    for_peer = t.for_peer + one (also (retained replacing id) (action_toward peer)) a;
  }

pub record TallyAtMost (n : ℕ) (t : InflightTally) : Type 0 where
  pub all : t.total ≤ n
  pub circuit : t.for_circuit ≤ n
  pub peer : t.for_peer ≤ n

-- of one record more
pub record TallyMore (t u : InflightTally) : Type 0 where
  pub all : u.total ≤ t.total + 1
  pub circuit : u.for_circuit ≤ t.for_circuit + 1
  pub peer : u.for_peer ≤ t.for_peer + 1

abbrev pub no_scan : ActionScan
no_scan = record { tally = no_tally; found = None; spare = None }

-- the first place that has what is asked
abbrev pub first_place : (found : Option ℕ) → (here : Bool) → (place : ℕ) → Option ℕ
first_place found here place = option_or found (cond here (Some place) None)

module _ (q : ActionQuestion) where
  abbrev pub tally_on : InflightTally → InflightAction → (place : ℕ) → InflightTally
  tally_on = tally_turn q.replacing q.circuit_id q.peer

  abbrev pub numbered : InflightAction → Bool
  numbered = action_at q.generation q.sequence

  abbrev pub scanned : ActionScan → InflightAction → (place : ℕ) → ActionScan
  scanned s a place = record {
    tally = tally_on s.tally a place;
    found = first_place s.found (numbered a) place;
    spare = first_place s.spare (non is_action a) place;
  }

  -- as the code counts: nothing of an unused action, nothing of one that is replaced
  abbrev pub replaced : InflightAction → Bool
  replaced a = q.replacing && eqb a.circuit_id q.circuit_id

-- the end of the scan: the first place that is left, if there is one, is a spare one
abbrev pub scan_ended : ActionScan → (place places : ℕ) → ActionScan
scan_ended s place places =
    record { tally = s.tally; found = s.found; spare = first_place s.spare (ltb place places) place }

-- ---- what OPEN asks of the ledger
abbrev pub ledger_asked : ReservationId → List ReservationUsage → LedgerScan
ledger_asked id l = record {
  found = usage_found (usage_at id) l;
  used = count is_usage l;
  spare = place_in (non is_usage) l;
  places = length l;
}

abbrev pub no_ledger_scan : (places : ℕ) → LedgerScan
no_ledger_scan places = record { found = None; used = 0; spare = None; places = places }

module _ (id : ReservationId) where
  abbrev pub usage_scanned : LedgerScan → ReservationUsage → (place : ℕ) → LedgerScan
  usage_scanned r u place = record {
    found = option_or r.found (cond (usage_at id u) (Some (record { place = place; row = u })) None);
    used = r.used + one is_usage u;
    spare = first_place r.spare (non is_usage u) place;
    places = r.places;
  }

abbrev pub ledger_ended : LedgerScan → (place : ℕ) → LedgerScan
ledger_ended r place =
    record { found = r.found; used = r.used; spare = first_place r.spare (ltb place r.places) place; places = r.places }
