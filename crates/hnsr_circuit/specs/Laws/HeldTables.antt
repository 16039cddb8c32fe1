-- Laws of the four tables as they are seen: an unused record is its own clearing, what no unmarked record has, records
-- changed in place, turns that do nothing at an unmarked record, and the ends of scans.
use Rattle.std.specs.Prelude.{ℕ, zero, suc, ◌+◌, ◌≤◌, ◌<◌, min, ◌≡◌, Bool, ltb, length, take, drop}
use Rattle.std.specs.Prelude.{get_or, set}
use Rattle.std.specs.Prelude.{Option, None, Some}
use Rattle.std.proofs.Math.Nat.{add-zero}
use Rattle.std.proofs.Common.{arith, sym, ◌∙◌, lt-ltb, le-ltb}
use Rattle.std.proofs.Math.Path.{refl, ap}
use Rattle.std.proofs.Math.Bool.{true}
use Rattle.std.specs.Option.{option_or, IfSome}
use mathlib.Core.List.{List, [], ◌∷◌, map}
use Rattle.std.proofs.lemmas.List.{length-take, take_min, take-map}
use lib.ListN.{length-map}
use Rattle.hns_encoding.specs.Loops.{fold_from, fold_done, in_range}
use Rattle.hns_encoding.specs.Sums.{non}
use Rattle.hns_encoding.specs.Numbers.{top}
use Rattle.hnsr_body.specs.declared.values.ReservationId.{ReservationId}
use Rattle.hnsr_circuit.specs.declared.tables.scan.ActionQuestion.{ActionQuestion}
use Rattle.hnsr_circuit.specs.declared.tables.scan.ActionScan.{ActionScan}
use Rattle.hnsr_circuit.specs.declared.records.InflightAction.{InflightAction}
use Rattle.hnsr_circuit.specs.declared.records.RelayPending.{RelayPending}
use Rattle.hnsr_circuit.specs.declared.records.RelayCircuit.{RelayCircuit}
use Rattle.hnsr_circuit.specs.declared.records.ReservationUsage.{ReservationUsage}
use Rattle.hnsr_circuit.specs.declared.tables.scan.LedgerScan.{LedgerScan}
use Rattle.hnsr_circuit.specs.declared.tables.scan.Work.{Work}
use Rattle.hnsr_circuit.specs.declared.tables.scan.WorkQuestion.{WorkQuestion}
use Rattle.hnsr_circuit.specs.declared.tables.scan.CircuitTotals.{CircuitTotals}
use Rattle.hnsr_circuit.specs.declared.tables.places.Places.{Places}
use Rattle.hnsr_circuit.specs.declared.config.OpaqueRelayConfig.{OpaqueRelayConfig}
use Rattle.hnsr_circuit.specs.Entry.{too_few}
use Rattle.hnsr_circuit.specs.Table.{place_of, edit, cleared, clear}
use Rattle.hnsr_circuit.specs.Pending.{is_pending}
use Rattle.hnsr_circuit.specs.Pending.{clear_pending}
use Rattle.hnsr_circuit.specs.Circuits.{is_circuit, circuit_at}
use Rattle.hnsr_circuit.specs.Circuits.{queued_in, no_circuit, clear_circuit, charged, raised, lowered}
use Rattle.hnsr_circuit.specs.Circuits.{other_side, credit_of}
use Rattle.hnsr_circuit.specs.declared.records.RelaySide.{RelaySide}
use Rattle.hnsr_circuit.specs.declared.records.RelaySide.TheVariants.{Requester, Endpoint}
use Rattle.hnsr_circuit.specs.Ledger.{no_usage, is_usage, usage_at, clear_usage, spent}
use Rattle.hnsr_circuit.specs.Inflight.{is_action, action_at, clear_action}
use Rattle.hnsr_circuit.specs.Code.Turns.{actions_scanned, no_scan, first_place, numbered, scanned, pending_worked}
use Rattle.hnsr_circuit.specs.Code.Turns.{circuit_worked, totalled, usage_scanned, scan_ended, ledger_ended}
use Rattle.hnsr_circuit.specs.Code.Turns.{no_totals, ledger_asked, no_ledger_scan}
use Rattle.hnsr_circuit.specs.NextDue.{due_turn, deadline_of, expiry_of, usage_expiry_of}
use Rattle.hnsr_circuit.specs.Status.{circuit_totals}
use Rattle.hnsr_circuit.specs.Code.Held.{held, held_pending, held_circuits}
use Rattle.hnsr_circuit.specs.Code.Held.{held_actions}
use Rattle.hnsr_circuit.specs.Laws.Held.{length-held, held_none, held-clear, scan_seen, put_upto}
use Rattle.hnsr_circuit.specs.Laws.Held.{changed_held}
use Rattle.hnsr_circuit.specs.Laws.Edits.{edit-set, edit_missed}
use Rattle.hnsr_circuit.specs.Laws.Folds.{or_nothing}
use Rattle.hnsr_circuit.specs.Laws.Turns.{totals_fold, scan_unused, scan_fold, ledger_fold}

-- ---- records changed in place, as they are seen
charge-marks : (side : RelaySide) (k : ℕ) (c : RelayCircuit)
    → clear_circuit (charged side k c) ≡ charged side k (clear_circuit c)
charge-marks Requester k c = refl
charge-marks Endpoint k c = refl

raise-marks : (side : RelaySide) (k : ℕ) (c : RelayCircuit)
    → clear_circuit (raised side k c) ≡ raised side k (clear_circuit c)
raise-marks Requester k c = refl
raise-marks Endpoint k c = refl

lower-marks : (side : RelaySide) (k : ℕ) (c : RelayCircuit)
    → clear_circuit (lowered side k c) ≡ lowered side k (clear_circuit c)
lower-marks Requester k c = refl
lower-marks Endpoint k c = refl

-- a credit is seen whatever the mark is
held-credit : (side : RelaySide) (n : ℕ) (t : List RelayCircuit) (i : ℕ)
    → credit_of side (get_or (held clear_circuit n t) i no_circuit) ≡ credit_of side (get_or t i no_circuit)
held-credit side n [] i = refl
held-credit Requester zero (c ∷ cs) zero = refl
held-credit Endpoint zero (c ∷ cs) zero = refl
held-credit side zero (c ∷ cs) (suc i) = held-credit side zero cs i
held-credit side (suc n) (c ∷ cs) zero = refl
held-credit side (suc n) (c ∷ cs) (suc i) = held-credit side n cs i

module _ (side : RelaySide) (k n : ℕ) (t : List RelayCircuit) (i : ℕ) (e : RelayCircuit) where
  pub charged_held : i < length t
      → held clear_circuit n (set t i (charged side k (get_or t i e)))
      ≡ set (held clear_circuit n t) i (charged side k (get_or (held clear_circuit n t) i no_circuit))
  charged_held l =
      rw (in_range t i e no_circuit l)
      (changed_held clear_circuit (charged side k) (charge-marks side k) n t i no_circuit)

  pub raised_held : (r : RelayCircuit) → i < length t
      → (credit_of (other_side side) (get_or t i e) + k < 4294967296 → r ≡ raised side k (get_or t i e))
      → credit_of (other_side side) (get_or (held clear_circuit n t) i no_circuit) + k < 4294967296
      → held clear_circuit n (set t i r)
      ≡ set (held clear_circuit n t) i (raised side k (get_or (held clear_circuit n t) i no_circuit))
  raised_held r l h b =
      let z = in_range t i e no_circuit l in
      rw (h (rw (z, ← (held-credit (other_side side) n t i)) b), z)
      (changed_held clear_circuit (raised side k) (raise-marks side k) n t i no_circuit)

  pub lowered_held : i < length t
      → held clear_circuit n (set t i (lowered side k (get_or t i e)))
      ≡ set (held clear_circuit n t) i (lowered side k (get_or (held clear_circuit n t) i no_circuit))
  lowered_held l =
      rw (in_range t i e no_circuit l)
      (changed_held clear_circuit (lowered side k) (lower-marks side k) n t i no_circuit)

pub spent_held : (k n : ℕ) (t : List ReservationUsage) (i : ℕ)
    → held clear_usage n (set t i (spent k (get_or t i no_usage)))
    ≡ set (held clear_usage n t) i (spent k (get_or (held clear_usage n t) i no_usage))
spent_held k n t i = changed_held clear_usage (spent k) (λ u. refl) n t i no_usage

pub lowered_edit : (id : ℕ) (side : RelaySide) (k : ℕ) (t : List RelayCircuit)
    → edit (circuit_at id) (lowered side k) t
    ≡ set t (place_of (circuit_at id) t) (lowered side k (get_or t (place_of (circuit_at id) t) no_circuit))
lowered_edit id side k t = edit-set (circuit_at id) (lowered side k) no_circuit t

-- a lookup and a change of what it finds, for a tactic
pub ruleset lowered_laws = (lowered_held, lowered_edit, edit_missed)

pub usage_edit : (id : ReservationId) (t : List ReservationUsage)
    → edit (usage_at id) clear_usage t
    ≡ set t (place_of (usage_at id) t) (clear_usage (get_or t (place_of (usage_at id) t) no_usage))
usage_edit id t = edit-set (usage_at id) clear_usage no_usage t

-- ---- turns that do nothing at an unmarked record
module _ (q : WorkQuestion) where
  pub pending-idle : (w : Work) (p : RelayPending) (i : ℕ) → pending_worked q w (clear_pending p) i ≡ w
  unfolding is_pending
  pending-idle w p i = refl

  pub circuit-idle : (w : Work) (c : RelayCircuit) (i : ℕ) → circuit_worked q w (clear_circuit c) i ≡ w
  unfolding is_circuit
  circuit-idle w c i = refl

pub pending-due-idle : (d : Option ℕ) (p : RelayPending) (i : ℕ)
    → due_turn is_pending deadline_of d (clear_pending p) i ≡ d
unfolding due_turn is_pending
pending-due-idle d p i = refl

pub circuit-due-idle : (d : Option ℕ) (c : RelayCircuit) (i : ℕ)
    → due_turn is_circuit expiry_of d (clear_circuit c) i ≡ d
unfolding due_turn is_circuit
circuit-due-idle d c i = refl

pub usage_due_idle : (d : Option ℕ) (u : ReservationUsage) (i : ℕ)
    → due_turn is_usage usage_expiry_of d (clear_usage u) i ≡ d
unfolding due_turn is_usage
usage_due_idle d u i = refl

-- a sum that has not gone past its top
totals_idle : (t : CircuitTotals) (c : RelayCircuit) (i : ℕ) → t.queued_bytes ≤ top 64
    → totalled t (clear_circuit c) i ≡ t
unfolding is_circuit queued_in
totals_idle t c i l =
    λ j. record {
      used = add-zero t.used j;
      queued_bytes = (let k : min (t.queued_bytes + 0) (top 64) ≡ t.queued_bytes = omega arith in k) j;
    }

totals_unmarked : (t : List RelayCircuit) (i : ℕ) (b : CircuitTotals) → b.queued_bytes ≤ top 64
    → fold_from totalled (map clear_circuit t) i b ≡ b
unfolding fold_from
totals_unmarked [] i b l = refl
totals_unmarked (x ∷ xs) i b l =
    ap (λ (c : CircuitTotals). fold_from totalled (map clear_circuit xs) (suc i) c) (totals_idle b x i l)
    ∙ totals_unmarked xs (suc i) b l

totals_held : (n : ℕ) (t : List RelayCircuit) (i : ℕ) (b : CircuitTotals) → b.queued_bytes ≤ top 64
    → fold_from totalled (held clear_circuit n t) i b ≡ fold_from totalled (take n t) i b
unfolding fold_from
totals_held zero t i b l =
    ap (λ (s : List RelayCircuit). fold_from totalled s i b) (held_none clear_circuit t) ∙ totals_unmarked t i b l
totals_held (suc n) [] i b l = refl
totals_held (suc n) (x ∷ xs) i b l = totals_held n xs (suc i) (totalled b x i) (omega arith)

-- the end of the totals over the first places
pub totals_seen : (n : ℕ) (t seen : List RelayCircuit) (i : ℕ) (b : CircuitTotals) → seen ≡ take n t → length seen ≤ i
    → fold_from totalled (drop i seen) i b ≡ fold_from totalled seen 0 no_totals
    → b ≡ circuit_totals (held clear_circuit n t)
totals_seen n t seen i b e l h =
    fold_done totalled seen i b (fold_from totalled seen 0 no_totals) l h
    ∙ ap (λ (s : List RelayCircuit). fold_from totalled s 0 no_totals) e
    ∙ sym (totals_held n t 0 no_totals (omega arith))
    ∙ totals_fold (held clear_circuit n t)

-- ---- the end of a scan: the first place that is left, if there is one, is a spare one
none_left : (spare : Option ℕ) (i e : ℕ) → e ≡ i → first_place spare (ltb i e) i ≡ spare
none_left spare i e h = rw (le-ltb i e (omega arith)) (or_nothing spare)

one_left : (spare : Option ℕ) (i e : ℕ) → i < e
    → first_place (first_place spare true i) (ltb (suc i) e) (suc i) ≡ first_place spare (ltb i e) i
one_left None i e l = rw (lt-ltb i e l)
one_left (Some n) i e l = refl

module _ (q : ActionQuestion) where
  pub scan_unmarked : (t : List InflightAction) (i : ℕ) (s : ActionScan) (e : ℕ) → e ≡ i + length t
      → fold_from (scanned q) (map clear_action t) i s ≡ scan_ended s i e
  unfolding fold_from
  scan_unmarked [] i s e h =
      λ j. record { tally = s.tally; found = s.found; spare = sym (none_left s.spare i e (omega arith)) j }
  scan_unmarked (x ∷ xs) i s e h =
      let next : ActionScan = record { tally = s.tally; found = s.found; spare = first_place s.spare true i } in
      ap (λ (u : ActionScan). fold_from (scanned q) (map clear_action xs) (suc i) u)
      (scan_unused q s (clear_action x) i refl)
      ∙ scan_unmarked xs (suc i) next e (omega arith)
      ∙ (λ j. record { tally = s.tally; found = s.found; spare = one_left s.spare i e (omega arith) j })

  -- the end of the scan over the first places
  pub actions_seen : (n : ℕ) (t seen : List InflightAction) (i : ℕ) (s : ActionScan) → seen ≡ take n t
      → length seen ≤ i → fold_from (scanned q) (drop i seen) i s ≡ fold_from (scanned q) seen 0 no_scan
      → scan_ended s (length seen) (length t) ≡ actions_scanned q (held clear_action n t)
  actions_seen n t seen i s e l h =
      scan_seen clear_action (scanned q) scan_ended scan_unmarked n t seen i s no_scan e l h
      ∙ scan_fold q (held clear_action n t)

  -- where an action goes: at the number at most
  pub scan_upto : (n : Places) (t : List InflightAction) (s : ActionScan) → s ≡ actions_scanned q (held_actions n t)
      → IfSome (option_or s.found s.spare) (λ place. place ≤ n.actions)
  unfolding actions_scanned action_at is_action
  scan_upto n t s e =
      rw e
      (put_upto clear_action (numbered q) (non is_action) (λ a. refl) (λ a. refl) n.actions t)

-- the actions dropped and scanned in one pass over the first places
module _ (q : ActionQuestion) (p : InflightAction → Bool) where
  pub dropped_scanned : (n m : ℕ) (t : List InflightAction) (i : ℕ) (s : ActionScan) → m ≡ min n (length t)
      → length (take m t) ≤ i
      → fold_from (scanned q) (drop i (clear clear_action p (take m t))) i s
      ≡ fold_from (scanned q) (clear clear_action p (take m t)) 0 no_scan
      → scan_ended s m (length t) ≡ actions_scanned q (clear clear_action p (held clear_action n t))
  dropped_scanned n m t i s e l h =
      let mark = cleared clear_action p in
      let u = map mark t in
      let seen = map mark (take m t) in
      let long : length u ≡ length t = length-map t mark in
      let many : length seen ≡ length (take m t) = length-map (take m t) mark in
      let end : length (take m t) ≡ m = omega (arith, length-take m t) in
      let first : seen ≡ take n u =
      ap (map mark) (ap (λ (k : ℕ). take k t) e ∙ take_min n t) ∙ sym (take-map mark n t) in
      (λ j. scan_ended s (sym (many ∙ end) j) (sym long j))
      ∙ scan_seen clear_action (scanned q) scan_ended (scan_unmarked q) n u seen i s no_scan first
      (omega (arith, many)) h
      ∙ ap (λ (v : List InflightAction). fold_from (scanned q) v 0 no_scan) (held-clear clear_action p (λ x. refl) n t)
      ∙ scan_fold q (map mark (held clear_action n t))

-- ---- the same of the ledger's
module _ (id : ReservationId) where
  abbrev taken : LedgerScan → (place : ℕ) → LedgerScan
  taken r place =
      record { found = r.found; used = r.used; spare = first_place r.spare true place; places = r.places }

  ledger_skips : (r : LedgerScan) (u : ReservationUsage) (i : ℕ) → usage_scanned id r (clear_usage u) i ≡ taken r i
  unfolding usage_at is_usage
  ledger_skips r u i = λ j. record {
    found = or_nothing r.found j;
    used = add-zero r.used j;
    spare = first_place r.spare true i;
    places = r.places;
  }

  pub ledger-unmarked : (t : List ReservationUsage) (i : ℕ) (r : LedgerScan) → r.places ≡ i + length t
      → fold_from (usage_scanned id) (map clear_usage t) i r ≡ ledger_ended r i
  unfolding fold_from
  ledger-unmarked [] i r h =
      λ j. record {
        found = r.found;
        used = r.used;
        spare = sym (none_left r.spare i r.places (omega arith)) j;
        places = r.places;
      }
  ledger-unmarked (x ∷ xs) i r h =
      ap (λ (s : LedgerScan). fold_from (usage_scanned id) (map clear_usage xs) (suc i) s) (ledger_skips r x i)
      ∙ ledger-unmarked xs (suc i) (taken r i) (omega arith)
      ∙ (λ j. record {
        found = r.found;
        used = r.used;
        spare = one_left r.spare i r.places (omega arith) j;
        places = r.places;
      })

  -- the end of the scan over the first places
  ledger_held : (n m : ℕ) (t : List ReservationUsage) (i : ℕ) (r : LedgerScan) → r.places ≡ i + length t
      → m ≡ i + length (take n t)
      → ledger_ended (fold_from (usage_scanned id) (take n t) i r) m
      ≡ fold_from (usage_scanned id) (held clear_usage n t) i r
  unfolding fold_from
  ledger_held zero m t i r h e =
      let z : m ≡ i = omega arith in
      rw z
      (sym (ap (λ (s : List ReservationUsage). fold_from (usage_scanned id) s i r) (held_none clear_usage t)
      ∙ ledger-unmarked t i r h))
  ledger_held (suc n) m [] i r h e = let z : m ≡ i = omega arith in rw z (sym (ledger-unmarked [] i r h))
  ledger_held (suc n) m (x ∷ xs) i r h e =
      ledger_held n m xs (suc i) (usage_scanned id r x i) (omega arith) (omega arith)

  pub ledger_seen : (n : ℕ) (t seen : List ReservationUsage) (i : ℕ) (r : LedgerScan) → seen ≡ take n t
      → length seen ≤ i
      → fold_from (usage_scanned id) (drop i seen) i r ≡ fold_from (usage_scanned id) seen 0 (no_ledger_scan (length t))
      → ledger_ended r (length seen) ≡ ledger_asked id (held clear_usage n t)
  ledger_seen n t seen i r e l h =
      let start = no_ledger_scan (length t) in
      ap (λ (s : LedgerScan). ledger_ended s (length seen)) (fold_done (usage_scanned id) seen i r _ l h)
      ∙ ap (λ (s : List ReservationUsage). ledger_ended (fold_from (usage_scanned id) s 0 start) (length s)) e
      ∙ ledger_held n (length (take n t)) t 0 start (omega arith) (omega arith)
      ∙ ap (λ (m : ℕ). fold_from (usage_scanned id) (held clear_usage n t) 0 (no_ledger_scan m))
      (sym (length-held clear_usage n t))
      ∙ ledger_fold id (held clear_usage n t)

-- ---- tables are as long as they are seen
pub few-held : (k : OpaqueRelayConfig) (n : Places) (p : List RelayPending) (c : List RelayCircuit)
    (t : List InflightAction)
    → too_few k (length p) (length c) (length t)
    ≡ too_few k (length (held_pending n p)) (length (held_circuits n c)) (length (held_actions n t))
few-held k n p c t =
    sym (λ j. too_few k (length-held clear_pending n.pending p j) (length-held clear_circuit n.circuits c j)
    (length-held clear_action n.actions t j))
