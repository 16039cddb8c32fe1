-- A circuit or a pending record ended, its actions dropped: what that does to actions, circuits, queues and pending
-- records.
use Rattle.std.specs.Prelude.{ℕ, ◌≡◌, refl, Bool, true, false, cond, not, ◌&&◌, ◌||◌, List, eqb}
use Rattle.std.proofs.Common.{sym, ap, ◌∙◌, true≢false, eqb-true}
use Rattle.std.proofs.lemmas.Bool.{false≢true}
use Rattle.hns_encoding.specs.Laws.Tests.{split, clash, eqb_comm}
use Rattle.hns_encoding.specs.Sums.{only, one, non, total, count}
use Rattle.hns_encoding.specs.Laws.Sums.{total-zero}
use Rattle.hnsr_circuit.specs.declared.records.RelayPending.{RelayPending}
use Rattle.hnsr_circuit.specs.declared.records.RelaySide.{RelaySide}
use Rattle.hnsr_circuit.specs.Table.{also, pick, edit, keep}
use Rattle.hnsr_circuit.specs.Pending.{no_pending, pending_at, clear_pending}
use Rattle.hnsr_circuit.specs.Inflight.{action_under, dropped}
use Rattle.hnsr_circuit.specs.World.{World}
use Rattle.hnsr_circuit.specs.Revocation.{without_actions, without_pending, end_pending, end_circuit}
use Rattle.hnsr_circuit.specs.Laws.Totals.{total-keep}
use Rattle.hnsr_circuit.specs.Laws.Lookups.{pick-has}
use Rattle.hnsr_circuit.specs.Laws.Edits.{edit-clear}
use Rattle.hnsr_circuit.specs.Laws.Keyed.{Tells, keyed-at, clear-tells}
use Rattle.hnsr_run.specs.Past.{Asked, Action, Past, at, is_data, on_circuit}
use Rattle.hnsr_run.specs.Past.{toward_side, weight, open_ended, circuit_ended}
use Rattle.hnsr_run.specs.Run.Actions.{drop-acts}
use Rattle.hnsr_run.specs.Run.Circuits.{suspend, drop-queue, remove_queue, remove_circs, end_test}
use Rattle.hnsr_run.specs.Run.Full.{pending_keys, Full, Keeps}

-- ---- a record ended
pub at-false : (j : ℕ) (ac : ℕ → Bool) (i : ℕ) → at j false ac i ≡ true → ac i ≡ true
at-false j ac i a =
    split (eqb j i)
    (λ q. absurd (false≢true (sym (ap (λ b. cond b false (ac i)) q) ∙ a)))
    (λ q. sym (ap (λ b. cond b false (ac i)) q) ∙ a)

-- the DATA under an id is all that is dropped with it
drop-off : (j i : ℕ) (out : List Action) (side : RelaySide) → eqb j i ≡ false
    → total (only (on_circuit j) (weight i side)) out ≡ 0
drop-off j i out side f =
    total-zero (only (on_circuit j) (weight i side)) out
    (λ a. split (eqb a.circuit j)
    (λ e. none_of (is_data a) (eqb a.circuit j) (eqb a.circuit i) (toward_side side a) a.bytes
    (ap (λ k. eqb k i) (eqb-true a.circuit j e) ∙ f))
    (λ e. ap (λ b. cond {A = ℕ} b (weight i side a) 0) e))
  where
    none_of : (d x y s : Bool) (b : ℕ) → y ≡ false → cond x (cond (d && (y && s)) b 0) 0 ≡ 0
    none_of true true y s b e = rw e
    none_of true false y s b e = refl
    none_of false true y s b e = refl
    none_of false false y s b e = refl

none_left : (j : ℕ) (out : List Action) → count (also is_data (on_circuit j)) (keep (non (on_circuit j)) out) ≡ 0
none_left j out = total-keep (one (also is_data (on_circuit j))) (non (on_circuit j)) out
    ∙ total-zero (only (non (on_circuit j)) (one (also is_data (on_circuit j)))) out
    (λ a. tests (is_data a) (on_circuit j a))
  where
    tests : (d x : Bool) → cond (not x) (cond {A = ℕ} (d && x) 1 0) 0 ≡ 0
    tests true true = refl
    tests true false = refl
    tests false true = refl
    tests false false = refl

pub end_circuit_lem : {S : ℕ → Bool} {u : World} (w : World) (h : Past) (j : ℕ) (S' : ℕ → Bool)
    → ((i : ℕ) → S' i ≡ false → eqb j i ≡ false → S i ≡ false)
    → Keeps S u w h → Keeps S' u (end_circuit w j) (circuit_ended h j)
unfolding end_circuit without_actions dropped action_under
end_circuit_lem {S} w h j S' sw K = record {
  full = record {
    acts = drop-acts F.acts (on_circuit j);
    circs = remove_circs F.circs j (at j false h.active) (λ i. refl);
    queue =
        remove_queue (drop-queue (suspend F.queue S'' (λ i s. first (S i) (eqb j i) s)) (on_circuit j)
        (λ i s a side. drop-off j i h.out side (second (S i) (eqb j i) s))) F.circs j S' (at j false h.active)
        (none_left j h.out) back (λ i. refl);
    pends = F.pends;
    disjoint =
        λ i s. split (eqb j i)
        (λ q. ap (λ b. cond b false (h.active i)) q)
        (λ q. ap (λ b. cond b false (h.active i)) q ∙ F.disjoint i s);
    real = λ i a. F.real i (at-false j h.active i a);
    real_p = F.real_p;
  };
  rest = record {
    ledger = K.rest.ledger;
    clock = K.rest.clock;
    generation = K.rest.generation;
    enabled = K.rest.enabled;
    config = K.rest.config;
  };
}
  where
    F : Full S w h
    F = K.full

    S'' : ℕ → Bool
    S'' i = S i || eqb j i

    first : (a b : Bool) → (a || b) ≡ false → a ≡ false
    first true b e = absurd (true≢false e)
    first false b e = refl

    second : (a b : Bool) → (a || b) ≡ false → b ≡ false
    second true b e = absurd (true≢false e)
    second false b e = e

    back : (i : ℕ) → S' i ≡ false → eqb j i ≡ false → S'' i ≡ false
    back i s e = ap (λ b. b || eqb j i) (sw i s e) ∙ e

pub remove_pends : {ps : List RelayPending} {st : ℕ → Bool} {kn : ℕ → Asked} → Tells pending_keys ps st kn → (j : ℕ)
    → Tells pending_keys (edit (pending_at j) clear_pending ps) (at j false st) kn
unfolding pending_at
remove_pends {ps} {st} {kn} T j = rw (edit-clear (pending_at j) clear_pending ps (T.once j))
    (clear-tells pending_keys T (pending_at j) (λ i. eqb j i)
    (λ i a. keyed-at pending_keys j i (pick (pending_at i) no_pending ps)
    (pick-has (pending_at i) no_pending ps (T.found i ∙ a))
    ∙ eqb_comm i j) (at j false st) (λ i. end_test (eqb j i) (st i)))

pub end_pending_lem : {S : ℕ → Bool} {u : World} (w : World) (h : Past) (j : ℕ) → h.opens.standing j ≡ true
    → Keeps S u w h
    → Keeps S u (end_pending w (pending_at j) j) (open_ended h j)
unfolding end_pending without_pending without_actions dropped action_under
end_pending_lem {S} w h j a K = record {
  full = record {
    acts = drop-acts F.acts (on_circuit j);
    circs = F.circs;
    queue =
        drop-queue F.queue (on_circuit j)
        (λ i s t side. drop-off j i h.out side
        (split (eqb j i) (λ e. clash (ap h.active (eqb-true j i e) ∙ t) (F.disjoint j a)) (λ e. e)));
    pends = remove_pends F.pends j;
    disjoint = λ i s. F.disjoint i (at-false j h.opens.standing i s);
    real = F.real;
    real_p = λ i s. F.real_p i (at-false j h.opens.standing i s);
  };
  rest = record {
    ledger = K.rest.ledger;
    clock = K.rest.clock;
    generation = K.rest.generation;
    enabled = K.rest.enabled;
    config = K.rest.config;
  };
}
  where
    F : Full S w h
    F = K.full
