-- The tables by key, as Keyed wants them: a lookup by id of the machine is `keyed` there, so its laws hold of pending
-- records, circuits and ledger. `Agree` is what a proof about runs has a record agree with.
use Rattle.std.specs.Prelude.{ℕ, ◌≡◌, Bool, true, eqb}
use Rattle.std.proofs.Math.Path.{refl}
use Rattle.std.proofs.Common.{ap, ◌∙◌, eqb-true, eq-eqb}
use Rattle.hnsr_body.specs.declared.values.ReservationId.{ReservationId}
use Rattle.hnsr_body.specs.Values.{same_reservation}
use Rattle.hnsr_circuit.specs.declared.records.RelayPending.{RelayPending}
use Rattle.hnsr_circuit.specs.declared.records.RelayCircuit.{RelayCircuit}
use Rattle.hnsr_circuit.specs.declared.records.ReservationUsage.{ReservationUsage}
use Rattle.hns_encoding.specs.Laws.Tests.{both}
use Rattle.hnsr_circuit.specs.Laws.Keyed.{Keys, keyed}
use Rattle.hnsr_circuit.specs.Pending.{no_pending, pending_id, is_pending, pending_at, clear_pending}
use Rattle.hnsr_circuit.specs.Circuits.{no_circuit, circuit_id, is_circuit, circuit_at, clear_circuit}
use Rattle.hnsr_circuit.specs.Ledger.{no_usage, is_usage, usage_at, clear_usage}

abbrev pub same_id : ℕ → ℕ → Bool
same_id i j = eqb i j

pub same_id_lem : (i : ℕ) → same_id i i ≡ true
same_id_lem i = eq-eqb i i refl

pub same-reservation : (r s : ReservationId) → same_reservation r s ≡ true → r ≡ s
same-reservation r s h =
    let k = both (eqb r.high s.high) (eqb r.low s.low) h in
    ap {B = ReservationId} (λ h. record { high = h; low = r.low }) (eqb-true r.high s.high k.0)
    ∙ ap {B = ReservationId} (λ l. record { high = s.high; low = l }) (eqb-true r.low s.low k.1)

pub reservation-refl : (r : ReservationId) → same_reservation r r ≡ true
reservation-refl r = rw (eq-eqb r.high r.high refl, eq-eqb r.low r.low refl)

module _ {K : Type 0} where
  unfoldable pub pending_keys : (RelayPending → K → Type 0) → Keys RelayPending ℕ K
  unfolding is_pending
  pending_keys Agree = record {
    used = is_pending;
    unmark = clear_pending;
    off = λ p. refl;
    nobody = no_pending;
    key = pending_id;
    same = same_id;
    same-eq = eqb-true;
    same_refl = same_id_lem;
    Agree = Agree;
  }

  unfoldable pub circuit_keys : (RelayCircuit → K → Type 0) → Keys RelayCircuit ℕ K
  unfolding is_circuit
  circuit_keys Agree = record {
    used = is_circuit;
    unmark = clear_circuit;
    off = λ c. refl;
    nobody = no_circuit;
    key = circuit_id;
    same = same_id;
    same-eq = eqb-true;
    same_refl = same_id_lem;
    Agree = Agree;
  }

  unfoldable pub ledger_keys : (ReservationUsage → K → Type 0) → Keys ReservationUsage ReservationId K
  unfolding is_usage
  ledger_keys Agree = record {
    used = is_usage;
    unmark = clear_usage;
    off = λ u. refl;
    nobody = no_usage;
    key = λ u. u.reservation_id;
    same = same_reservation;
    same-eq = same-reservation;
    same_refl = reservation-refl;
    Agree = Agree;
  }

  -- ---- the machine's lookups are theirs
  pub pending-keyed : (Agree : RelayPending → K → Type 0) (id : ℕ) (p : RelayPending)
      → keyed (pending_keys Agree) id p ≡ pending_at id p
  unfolding is_pending pending_at pending_keys
  pending-keyed Agree id p = refl

  pub circuit-keyed : (Agree : RelayCircuit → K → Type 0) (id : ℕ) (c : RelayCircuit)
      → keyed (circuit_keys Agree) id c ≡ circuit_at id c
  unfolding is_circuit circuit_at circuit_keys
  circuit-keyed Agree id c = refl

  pub ledger-keyed : (Agree : ReservationUsage → K → Type 0) (id : ReservationId) (u : ReservationUsage)
      → keyed (ledger_keys Agree) id u ≡ usage_at id u
  unfolding is_usage usage_at ledger_keys
  ledger-keyed Agree id u = refl
