-- Machines whose next due a host cannot wait for: an end is missed, a time is told that is no end, `expire` ends too
-- early or nothing, or the same end is due again and again.
use Rattle.std.specs.Prelude.{ℕ, ◌+◌, max, ◌≡◌, refl, Bool, true, false, cond, ◌&&◌, List, [], ◌∷◌, ◌++◌, ltb, length}
use Rattle.std.specs.Prelude.{Option, None, Some, Ok}
use Rattle.std.proofs.Common.{arith, sym, ap, ◌∙◌, inl, inr, true≢false}
use Rattle.std.proofs.lemmas.Bool.{false≢true}
use Rattle.hns_encoding.specs.Loops.{fold_from}
use Rattle.hnsr_circuit.specs.declared.records.ReservationUsage.{ReservationUsage}
use Rattle.hnsr_circuit.specs.declared.answer.HnsrRuntimeError.TheVariants.{Capacity, Short}
use Rattle.hnsr_circuit.specs.Table.{any}
use Rattle.hnsr_circuit.specs.Pending.{is_pending}
use Rattle.hnsr_circuit.specs.Circuits.{is_circuit}
use Rattle.hnsr_circuit.specs.Ledger.{is_usage}
use Rattle.hnsr_circuit.specs.World.{World, Outcome, due_is, refuse, done, telling, with_ledger, at_time}
use Rattle.hnsr_circuit.specs.NextDue.{due_in, deadline_of, expiry_of, usage_expiry_of}
use Rattle.hnsr_circuit.specs.NextDue.{pending_due, circuit_due}
use Rattle.hnsr_circuit.specs.Ends.{later}
use Rattle.hnsr_circuit.specs.Code.Told.{due_in as due_told}
use Rattle.hnsr_circuit.specs.Worked.Cases.{lent, not_admitted}
use Rattle.hnsr_circuit.specs.Worked.All.{machine}
use Rattle.hnsr_circuit.specs.Call.{Call, start, step, call_status, call_next_due}
use Rattle.hnsr_circuit.specs.Call.{call_observe_time, call_replace_enabled}
use Rattle.hnsr_circuit.specs.Call.{call_handle, call_acknowledge, call_disconnect}
use Rattle.hnsr_circuit.specs.Call.{call_revoke_reservation, call_expire}
use Rattle.hnsr_run.specs.Claim.{Machine, left_by, Run, world_at, past_at}
use Rattle.hnsr_run.specs.Waking.{KnownEnd, Waking, Awaiting}
use Rattle.hnsr_run.specs.Talk.{tables, fresh, grant, opens, closes, ample}
use Rattle.hnsr_run.specs.Run.Rel.{refused_differs}
use Rattle.hnsr_run.specs.Refuted.Machines.{opened, talk, run_of}

-- ---- the relay with these two calls replaced
abbrev replacing : (due : World → Outcome) → (expires : World → (now room : ℕ) → Outcome) → World → Call → Outcome
replacing due expires w call_next_due = due w
replacing due expires w (call_expire now room) = expires w now room
replacing due expires w (call_status peer circuit) = step w (call_status peer circuit)
replacing due expires w (call_observe_time now) = step w (call_observe_time now)
replacing due expires w (call_replace_enabled expected on room) = step w (call_replace_enabled expected on room)
replacing due expires w (call_handle q room) = step w (call_handle q room)
replacing due expires w (call_acknowledge generation sequence delivered room) =
    step w (call_acknowledge generation sequence delivered room)
replacing due expires w (call_disconnect peer room) = step w (call_disconnect peer room)
replacing due expires w (call_revoke_reservation id room) = step w (call_revoke_reservation id room)

abbrev expired : World → (now room : ℕ) → Outcome
expired w now room = step w (call_expire now room)

abbrev tells : (World → Option ℕ) → World → Outcome
tells f w = telling w (due_is (f w))

abbrev telling-due : (World → Option ℕ) → Machine
telling-due f = record { new = start; step = replacing (tells f) expired }

abbrev expiring : (World → (now room : ℕ) → Outcome) → Machine
expiring f = record { new = start; step = replacing (λ w. step w call_next_due) f }

-- ---- the parts of the claims, for computing
told_in_time : (m : Machine) → Awaiting m → (r : Run m) (t : ℕ) → KnownEnd (past_at m r) t
    → later t (due_told (m.step (world_at m r) call_next_due).told) ≡ false
told_in_time m C r t e = ap (λ x. later t (due_told x)) (C r).told ∙ (C r).in_time t e

-- what is told after a taken `expire`
later-after : (m : Machine) → Waking m → (calls : List Call)
    → (taken : (m.new tables fresh).answer ≡ Ok tt) (now : ℕ)
    → let w = left_by m.step (m.new tables fresh).world calls in
    (m.step w (call_expire now ample)).answer ≡ Ok tt
    → later now (due_told (m.step (m.step w (call_expire now ample)).world call_next_due).told) ≡ true
later-after m C calls taken now t =
    let k = (C tables fresh taken calls).after now ample t in ap (λ x. later now (due_told x)) k.1 ∙ k.2

-- the circuit 7 is closed again: its reservation stays, until 1,000
abbrev closed : List Call
closed = opened ++ (closes 1 7 100 ∷ [])

-- ---- told: next due is refused
abbrev pub mute : Machine
mute = record { new = start; step = replacing (λ w. refuse w Short) expired }

pub mute_refuted : Waking mute → ⊥
unfolding machine lent not_admitted
mute_refuted C = refused_differs (ap (λ (o : Outcome). o.answer) (C tables fresh refl []).told)

-- ---- none, before, in time: the ledger is left out. Nothing is due while a record is used and the reservation lives,
-- and `expire` drops the record
abbrev pub ledgerless : Machine
ledgerless = telling-due (λ w. circuit_due w.circuits (pending_due w.pending None))

pub ledgerless-none : Waking ledgerless → ⊥
unfolding machine lent not_admitted
ledgerless-none C =
    let W = C tables fresh refl closed in
    true≢false (W.none (sym (ap (λ (o : Outcome). due_told o.told) W.told))).2

pub ledgerless-drops : Waking ledgerless → ⊥
unfolding machine lent not_admitted
ledgerless-drops C =
    let W = C tables fresh refl closed in
    let none : later 1000 W.due ≡ true = ap (λ (o : Outcome). later 1000 (due_told o.told)) (sym W.told) in
    false≢true (ap (λ (o : Outcome). any is_usage o.world.ledger)
    (W.before 1000 ample (omega arith) none (omega arith)))

pub ledgerless_refuted : Awaiting ledgerless → ⊥
unfolding machine lent not_admitted
ledgerless_refuted C =
    true≢false (told_in_time ledgerless C (run_of ledgerless refl closed refl) 1000
    (inr (inr (record { high = 0; low = 5 }, refl, refl))))

-- ---- one, is one: a time where nothing is due
abbrev pub alarmed : Machine
alarmed = telling-due (λ w. Some 150)

pub alarmed-one : Waking alarmed → ⊥
unfolding machine lent not_admitted
alarmed-one C =
    let W = C tables fresh refl [] in
    false≢true (W.one 150 (sym (ap (λ (o : Outcome). due_told o.told) W.told)))

pub alarmed_refuted : Awaiting alarmed → ⊥
unfolding machine lent not_admitted
alarmed_refuted C =
    let r = run_of alarmed refl [] refl in
    none ((C r).is_one 150 (sym (ap due_told (C r).told)) (omega arith))
  where
    none : KnownEnd (past_at alarmed (run_of alarmed refl [] refl)) 150 → ⊥
    none (inl x) = false≢true x.1
    none (inr (inl x)) = false≢true x.1
    none (inr (inr x)) = false≢true x.1

-- ---- before: `expire` ends at 999 what is due at 1,000
abbrev pub eager : Machine
eager = expiring (λ w now room. expired w (now + 1) room)

pub eager_refuted : Waking eager → ⊥
unfolding machine lent not_admitted
eager_refuted C =
    let W = C tables fresh refl opened in
    let ahead : later 999 W.due ≡ true = ap (λ (o : Outcome). later 999 (due_told o.told)) (sym W.told) in
    let k : ◌≡◌ {A = ℕ} 2 0 = ap (λ (o : Outcome). length o.routes)
    (W.before 999 ample (omega arith) ahead (omega arith)) in
    omega arith

-- ---- after: unused places are counted. Their zeros are due for ever
abbrev any_of : {A : Type 0} → A → Bool
any_of a = true

abbrev pub unused : Machine
unused = telling-due (λ w. due_in any_of usage_expiry_of w.ledger
    (due_in any_of expiry_of w.circuits (due_in any_of deadline_of w.pending None)))

pub unused_refuted : Waking unused → ⊥
unfolding machine lent not_admitted
unused_refuted C = false≢true (later-after unused C [] refl 100 refl)

-- ---- after: a ledger record's bytes for its expiry
abbrev pub weighed : Machine
weighed = telling-due (λ w. due_in is_usage (λ u. u.bytes) w.ledger
    (circuit_due w.circuits (pending_due w.pending None)))

pub weighed_refuted : Waking weighed → ⊥
unfolding machine lent not_admitted
weighed_refuted C = false≢true (later-after weighed C talk refl 100 refl)

-- ---- after: `expire` leaves the ledger alone. What it has is due again at once
abbrev relisted : World → Outcome → Outcome
relisted w o =
    record { world = with_ledger o.world w.ledger; answer = o.answer; routes = o.routes; told = o.told }

abbrev pub spinning : Machine
spinning = expiring (λ w now room. relisted w (expired w now room))

pub spinning_refuted : Waking spinning → ⊥
unfolding machine lent not_admitted
spinning_refuted C = false≢true (later-after spinning C closed refl 1000 refl)

-- ---- ended: `expire` leaves the ledger alone, and next due passes over what lapsed. The record stays for ever
abbrev unlapsed : (clock : ℕ) → ReservationUsage → Bool
unlapsed clock u = u.used && ltb clock u.expires_at

abbrev pub hiding : Machine
hiding = record {
  new = start;
  step = replacing
      (tells (λ w. due_in (unlapsed w.runtime.trusted_time_high_water) usage_expiry_of w.ledger
      (circuit_due w.circuits (pending_due w.pending None))))
      (λ w now room. relisted w (expired w now room));
}

pub hiding_refuted : Waking hiding → ⊥
unfolding machine lent not_admitted
hiding_refuted C = true≢false ((C tables fresh refl closed).ended 1000 ample refl).2

-- ---- in time: the latest for the earliest. The OPEN's deadline 110 is missed for the reservation's 1,000
abbrev later_of : Option ℕ → ℕ → Option ℕ
later_of None n = Some n
later_of (Some m) n = Some (max m n)

abbrev latest_in : {A : Type 0} → (used : A → Bool) → (time : A → ℕ) → List A → Option ℕ → Option ℕ
latest_in used time t d = fold_from (λ e r place. cond (used r) (later_of e (time r)) e) t 0 d

abbrev pub latest : Machine
latest = telling-due (λ w. latest_in is_usage usage_expiry_of w.ledger
    (latest_in is_circuit expiry_of w.circuits (latest_in is_pending deadline_of w.pending None)))

pub latest_refuted : Awaiting latest → ⊥
unfolding machine lent not_admitted
latest_refuted C =
    true≢false (told_in_time latest C (run_of latest refl (opens 1 2 9 (7 ∷ []) (grant 5 100) 100 ∷ []) refl) 110
    (inl (7, refl, refl)))

-- ---- in time: never due, and `expire` ends nothing
abbrev pub asleep : Machine
asleep = record { new = start; step = replacing (tells (λ w. None)) (λ w now room. done (at_time w now) []) }

pub asleep_refuted : Awaiting asleep → ⊥
unfolding machine lent not_admitted
asleep_refuted C =
    true≢false (told_in_time asleep C (run_of asleep refl opened refl) 1000 (inr (inl (7, refl, refl))))

-- ---- taken: from next due on `expire` is refused
abbrev pub refusing : Machine
refusing = expiring (λ w now room.
    cond (later now (due_told (step w call_next_due).told)) (expired w now room) (refuse w Capacity))

pub refusing_refuted : Awaiting refusing → ⊥
unfolding machine lent not_admitted
refusing_refuted C =
    refused_differs ((C (run_of refusing refl opened refl)).taken 1000 ample (omega arith) (omega arith))
