-- What the scans of a table say as a whole, turn by turn.
use Rattle.std.specs.Prelude.{ℕ, ◌+◌, ◌≤◌, min, ◌≡◌, refl, Bool, true, cond, ◌||◌, Option, None, Some, List, eqb}
use Rattle.std.specs.Prelude.{length}
use Rattle.std.proofs.Common.{zero-add, add-zero, arith, sym, ◌∙◌}
use Rattle.std.proofs.Math.Path.{ap}
use Rattle.std.proofs.Math.Bool.{false, and-false, or-false}
use Rattle.hnsr_body.specs.declared.values.ReservationId.{ReservationId}
use Rattle.hnsr_circuit.specs.declared.peer.HnsrPeerId.{HnsrPeerId}
use Rattle.hnsr_circuit.specs.declared.records.RelayPending.{RelayPending}
use Rattle.hnsr_circuit.specs.declared.records.RelayCircuit.{RelayCircuit}
use Rattle.hnsr_circuit.specs.declared.records.InflightAction.{InflightAction}
use Rattle.hnsr_circuit.specs.declared.tables.scan.InflightTally.{InflightTally}
use Rattle.hnsr_circuit.specs.declared.tables.scan.Work.{Work}
use Rattle.hnsr_circuit.specs.declared.tables.scan.WorkQuestion.{WorkQuestion}
use Rattle.hnsr_circuit.specs.declared.tables.scan.ActionQuestion.{ActionQuestion}
use Rattle.hnsr_circuit.specs.declared.tables.scan.ActionScan.{ActionScan}
use Rattle.hnsr_circuit.specs.declared.records.ReservationUsage.{ReservationUsage}
use Rattle.hns_encoding.specs.Numbers.{top}
use Rattle.hns_encoding.specs.Laws.Tests.{split, cond-le}
use Rattle.hns_encoding.specs.Loops.{fold_from}
use Rattle.hns_encoding.specs.Sums.{non, one, total, count}
use Rattle.hnsr_circuit.specs.Table.{also, any, place_of, place_in, pick}
use Rattle.hnsr_circuit.specs.Peer.{same_peer}
use Rattle.hnsr_circuit.specs.Pending.{is_pending, pending_at, pending_of, pending_under, requested_by}
use Rattle.hnsr_circuit.specs.Circuits.{is_circuit, circuit_at, circuit_of, circuit_under, queued_in}
use Rattle.hnsr_circuit.specs.Ledger.{no_usage, is_usage, usage_at}
use Rattle.hnsr_circuit.specs.Inflight.{no_action, is_action, action_at, action_under, action_toward, retained}
use Rattle.hnsr_circuit.specs.Code.Question.{pending_work, circuit_work}
use Rattle.hnsr_circuit.specs.Code.Turns.{no_work, work_on, WorkAtMost, work_turn, never, pending_worked}
use Rattle.hnsr_circuit.specs.Code.Turns.{circuit_worked, no_totals, totalled, TallyAtMost, no_tally, tally_turn}
use Rattle.hnsr_circuit.specs.Code.Turns.{no_scan, first_place, tally_on, numbered, scanned, replaced}
use Rattle.hnsr_circuit.specs.Code.Turns.{ledger_asked, no_ledger_scan, usage_scanned, actions_scanned}
use Rattle.hnsr_circuit.specs.Status.{circuit_totals}
use Rattle.hnsr_circuit.specs.Laws.Folds.{fold_count, fold_stopping, fold_kept, fold_any, fold_first, or_nothing}
use Rattle.hnsr_circuit.specs.Laws.Inflight.{tally_fold}
use Rattle.hnsr_circuit.specs.Laws.Scans.{fold_part, any-never}

-- ---- how much work there is
pub work_more : (m n : ℕ) (w : Work) → m ≤ n → WorkAtMost m w → WorkAtMost n w
work_more m n w l h = record { used = omega arith; peer = omega arith; other = omega arith; under = omega arith }

pub work_none : WorkAtMost 0 no_work
work_none = record { used = omega arith; peer = omega arith; other = omega arith; under = omega arith }

module _ {A : Type 0} (used peer other under again is : A → Bool) where
  pub works : (w : Work) (x : A) (place : ℕ) → used x ≡ true → (a b c d e : Bool) → a ≡ peer x → b ≡ other x
      → c ≡ under x → d ≡ again x → e ≡ is x
      → (r : Work) → r ≡ work_on w a b c d e → r ≡ (work_turn used peer other under again is) w x place
  works w x place u a b c d e ea eb ec ed ee r h = h ∙ rw (u, ea, eb, ec, ed, ee)

  pub work_most : (n : ℕ) (w : Work) (x : A) (place : ℕ) → WorkAtMost n w
      → WorkAtMost (n + 1) (work_turn used peer other under again is w x place)
  work_most n w x place h =
      let a = cond-le (peer x) in
      let b = cond-le (other x) in
      let c = cond-le (under x) in
      split (used x)
      (λ e. rw e (record { used = omega arith; peer = omega arith; other = omega arith; under = omega arith }))
      (λ e. rw e (record { used = omega arith; peer = omega arith; other = omega arith; under = omega arith }))

  -- an unused record answers none of the questions
  module _ (np : (x : A) → used x ≡ false → peer x ≡ false) (no : (x : A) → used x ≡ false → other x ≡ false)
      (nu : (x : A) → used x ≡ false → under x ≡ false) (na : (x : A) → used x ≡ false → again x ≡ false)
      (ni : (x : A) → used x ≡ false → is x ≡ false) where
    counts-used : (w : Work) (x : A) (i : ℕ)
        → ((work_turn used peer other under again is) w x i).used ≡ w.used + one used x
    counts-used w x i = split (used x) (λ e. rw e) (λ e. rw e (omega arith))

    counts-peer : (w : Work) (x : A) (i : ℕ)
        → ((work_turn used peer other under again is) w x i).of_peer ≡ w.of_peer + one peer x
    counts-peer w x i = split (used x) (λ e. rw e) (λ e. rw (e, np x e) (omega arith))

    counts-other : (w : Work) (x : A) (i : ℕ)
        → ((work_turn used peer other under again is) w x i).of_other ≡ w.of_other + one other x
    counts-other w x i = split (used x) (λ e. rw e) (λ e. rw (e, no x e) (omega arith))

    counts-under : (w : Work) (x : A) (i : ℕ)
        → ((work_turn used peer other under again is) w x i).under ≡ w.under + one under x
    counts-under w x i = split (used x) (λ e. rw e) (λ e. rw (e, nu x e) (omega arith))

    finds_again : (w : Work) (x : A) (i : ℕ)
        → ((work_turn used peer other under again is) w x i).repeated ≡ (w.repeated || again x)
    finds_again w x i = split (used x) (λ e. rw e) (λ e. rw (e, na x e, or-false))

    finds_id : (w : Work) (x : A) (i : ℕ) → ((work_turn used peer other under again is) w x i).holds ≡ (w.holds || is x)
    finds_id w x i = split (used x) (λ e. rw e) (λ e. rw (e, ni x e, or-false))

    pub work_fold : (t : List A)
        → fold_from (work_turn used peer other under again is) t 0 no_work
        ≡ record {
          used = count used t;
          of_peer = count peer t;
          of_other = count other t;
          under = count under t;
          repeated = any again t;
          holds = any is t;
        }
    work_fold t = λ j. record {
      used =
          (fold_count (work_turn used peer other under again is) (λ w. w.used) used counts-used t 0 no_work
          ∙ zero-add (count used t)) j;
      of_peer =
          (fold_count (work_turn used peer other under again is) (λ w. w.of_peer) peer counts-peer t 0 no_work
          ∙ zero-add (count peer t)) j;
      of_other =
          (fold_count (work_turn used peer other under again is) (λ w. w.of_other) other counts-other t 0 no_work
          ∙ zero-add (count other t)) j;
      under =
          (fold_count (work_turn used peer other under again is) (λ w. w.under) under counts-under t 0 no_work
          ∙ zero-add (count under t)) j;
      repeated = fold_any (work_turn used peer other under again is) (λ w. w.repeated) again finds_again t 0 no_work j;
      holds = fold_any (work_turn used peer other under again is) (λ w. w.holds) is finds_id t 0 no_work j;
    }

module _ (q : WorkQuestion) where
  pub pending-most : (n : ℕ) (w : Work) (p : RelayPending) (place : ℕ) → WorkAtMost n w
      → WorkAtMost (n + 1) ((pending_worked q) w p place)
  pending-most =
      work_most is_pending (pending_of q.peer) (pending_of q.other) (pending_under q.reservation)
      (requested_by q.peer q.context) (pending_at q.id)

  pub pending_work_lem : (t : List RelayPending) → fold_from (pending_worked q) t 0 no_work ≡ pending_work q t
  unfolding pending_work is_pending pending_of pending_under requested_by pending_at
  pending_work_lem t =
      work_fold is_pending (pending_of q.peer) (pending_of q.other) (pending_under q.reservation)
      (requested_by q.peer q.context) (pending_at q.id) (λ p e. rw e) (λ p e. rw e) (λ p e. rw e) (λ p e. rw e)
      (λ p e. rw e) t

  pub circuit-most : (n : ℕ) (w : Work) (c : RelayCircuit) (place : ℕ) → WorkAtMost n w
      → WorkAtMost (n + 1) ((circuit_worked q) w c place)
  circuit-most =
      work_most is_circuit (circuit_of q.peer) (circuit_of q.other) (circuit_under q.reservation) never
      (circuit_at q.id)

  pub circuit_work_lem : (t : List RelayCircuit) → fold_from (circuit_worked q) t 0 no_work ≡ circuit_work q t
  unfolding circuit_work is_circuit circuit_of circuit_under circuit_at
  circuit_work_lem t =
      work_fold is_circuit (circuit_of q.peer) (circuit_of q.other) (circuit_under q.reservation) never
      (circuit_at q.id) (λ c e. rw e) (λ c e. rw e) (λ c e. rw e) (λ c e. refl) (λ c e. rw e) t
      ∙ rw (any-never t)

-- ---- what `status` asks of the circuits
pub totals_fold : (t : List RelayCircuit) → fold_from totalled t 0 no_totals ≡ circuit_totals t
totals_fold t = λ j. record {
  used = (fold_count totalled (λ s. s.used) is_circuit (λ b x i. refl) t 0 no_totals ∙ zero-add (count is_circuit t)) j;
  queued_bytes =
      (fold_stopping totalled (λ s. s.queued_bytes) queued_in (λ b x i. refl) t 0 no_totals (omega arith)
      ∙ ap (λ (n : ℕ). min n (top 64)) (zero-add (total queued_in t))) j;
}

-- ---- what a message asks of all actions
pub tally_more : (m n : ℕ) (t : InflightTally) → m ≤ n → TallyAtMost m t → TallyAtMost n t
tally_more m n t l h = record { all = omega arith; circuit = omega arith; peer = omega arith }

pub tally-none : TallyAtMost 0 no_tally
tally-none = record { all = omega arith; circuit = omega arith; peer = omega arith }

-- a tally to which nothing is added
adds_none : (t : InflightTally)
    → t ≡ record { total = t.total + 0; for_circuit = t.for_circuit + 0; for_peer = t.for_peer + 0 }
adds_none t = λ j. record {
  total = sym (add-zero t.total) j;
  for_circuit = sym (add-zero t.for_circuit) j;
  for_peer = sym (add-zero t.for_peer) j;
}

pub in-place : {A : Type 0} (p : A → Bool) (t : List A) → cond (any p t) (Some (0 + place_of p t)) None ≡ place_in p t
in-place p t = ap (λ (n : ℕ). cond (any p t) (Some n) None) (zero-add (place_of p t))

-- a used action is no unused place
pub used_spare : (spare : Option ℕ) (a : InflightAction) (place : ℕ) → a.used ≡ true
    → first_place spare (non is_action a) place ≡ spare
unfolding is_action
used_spare spare a place u = rw u (or_nothing spare)

-- an action is counted the same wherever it stands
pub tally_anywhere : (replacing : Bool) (id : ℕ) (peer : HnsrPeerId) (t : InflightTally)
    (a : InflightAction) (place : ℕ)
    → tally_turn replacing id peer t a place ≡ tally_turn replacing id peer t a 0
unfolding tally_turn
tally_anywhere replacing id peer t a place = refl

module _ (q : ActionQuestion) where
  pub tally-most : (n : ℕ) (t : InflightTally) (a : InflightAction) (place : ℕ) → TallyAtMost n t
      → TallyAtMost (n + 1) ((tally_on q) t a place)
  unfolding tally_turn
  tally-most n t a place h = record {
    all = omega (arith, cond-le (retained q.replacing q.circuit_id a));
    circuit =
        omega (arith, cond-le (also (retained q.replacing q.circuit_id) (action_under q.circuit_id) a));
    peer = omega (arith, cond-le (also (retained q.replacing q.circuit_id) (action_toward q.peer) a));
  }

  pub tally-counts : (t : InflightTally) (a : InflightAction) (place : ℕ) → a.used ≡ true → (replaced q) a ≡ false
      → record {
        total = t.total + 1;
        for_circuit = t.for_circuit + cond (eqb a.circuit_id q.circuit_id) 1 0;
        for_peer = t.for_peer + cond (same_peer a.destination q.peer) 1 0;
      }
      ≡ (tally_on q) t a place
  unfolding tally_turn action_under action_toward
  tally-counts t a place u e = rw (u, e)

  pub tally_replaces : (t : InflightTally) (a : InflightAction) (place : ℕ) → (replaced q) a ≡ true
      → t ≡ (tally_on q) t a place
  unfolding tally_turn
  tally_replaces t a place e = rw (e, and-false a.used) (adds_none t)

  tally-passes : (t : InflightTally) (a : InflightAction) (place : ℕ) → a.used ≡ false → t ≡ (tally_on q) t a place
  unfolding tally_turn
  tally-passes t a place u = rw u (adds_none t)

  -- a used action is no spare place
  pub scan_used : (s : ActionScan) (a : InflightAction) (place : ℕ) → a.used ≡ true
      → scanned q s a place
      ≡ record {
        tally = tally_on q s.tally a place;
        found = first_place s.found (numbered q a) place;
        spare = s.spare;
      }
  scan_used s a place u = λ j. record {
    tally = tally_on q s.tally a place;
    found = first_place s.found (numbered q a) place;
    spare = used_spare s.spare a place u j;
  }

  -- an unused action has no number and is counted nowhere
  pub scan_unused : (s : ActionScan) (a : InflightAction) (place : ℕ) → a.used ≡ false
      → scanned q s a place
      ≡ record { tally = s.tally; found = s.found; spare = first_place s.spare true place }
  unfolding is_action action_at
  scan_unused s a place u =
      let spare : non is_action a ≡ true = rw u in
      let has : numbered q a ≡ false = rw u in
      λ j. record {
        tally = sym (tally-passes s.tally a place u) j;
        found = (ap (λ (b : Bool). first_place s.found b place) has ∙ or_nothing s.found) j;
        spare = ap (λ (b : Bool). first_place s.spare b place) spare j;
      }

  pub scan_fold : (t : List InflightAction) → fold_from (scanned q) t 0 no_scan ≡ actions_scanned q t
  unfolding actions_scanned
  scan_fold t =
      let found =
      fold_first (scanned q) (λ s. s.found) (numbered q) (λ a i. i) (λ s x i. refl) no_action t 0 no_scan
      ∙ in-place (numbered q) t in
      let spare =
      fold_first (scanned q) (λ s. s.spare) (non is_action) (λ a i. i) (λ s x i. refl) no_action t 0 no_scan
      ∙ in-place (non is_action) t in
      let tally = fold_part (scanned q) (λ s. s.tally) (tally_on q) (λ s x i. refl) t 0 no_scan
      ∙ tally_fold q.replacing q.circuit_id q.peer t in
      λ j. record { tally = tally j; found = found j; spare = spare j }

-- ---- what OPEN asks of the ledger
module _ (id : ReservationId) where
  pub ledger_fold : (t : List ReservationUsage)
      → fold_from (usage_scanned id) t 0 (no_ledger_scan (length t)) ≡ ledger_asked id t
  ledger_fold t =
      let b = no_ledger_scan (length t) in
      let found =
      fold_first (usage_scanned id) (λ r. r.found) (usage_at id) (λ u i. record { place = i; row = u })
      (λ r x i. refl) no_usage t 0 b
      ∙ ap
      (λ (n : ℕ). cond (any (usage_at id) t) (Some (record { place = n; row = pick (usage_at id) no_usage t })) None)
      (zero-add (place_of (usage_at id) t)) in
      let spare =
      fold_first (usage_scanned id) (λ r. r.spare) (non is_usage) (λ u i. i) (λ r x i. refl) no_usage t 0 b
      ∙ in-place (non is_usage) t in
      let used =
      fold_count (usage_scanned id) (λ r. r.used) is_usage (λ r x i. refl) t 0 b ∙ zero-add (count is_usage t) in
      let places = fold_kept (usage_scanned id) (λ r. r.places) (λ r x i. refl) t 0 b in
      λ j. record { found = found j; used = used j; spare = spare j; places = places j }

-- a turn of the scan of the actions, for a tactic
pub ruleset action_laws = (used_spare, tally_anywhere, scan_unused)
