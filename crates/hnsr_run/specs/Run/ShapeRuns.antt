-- Every call keeps the invariant of the world alone, whatever it answers, 6 included; a taken `new` starts it; so the
-- world that any list of calls leaves has it.
use Rattle.std.specs.Prelude.{ℕ, zero, suc, ◌≤◌, ◌<◌, ◌≡◌, refl, Bool, true, false, Ok, Err}
use Rattle.std.specs.Prelude.{not, ◌||◌, List, [], ◌∷◌, ltb, eqb, length, get_or}
use Rattle.std.proofs.Common.{arith, sym, subst, ltb-false}
use Rattle.std.proofs.lemmas.Bool.{eqb-false, not-false}
use Rattle.hns_encoding.specs.Bytes.{all_zero}
use Rattle.hns_encoding.specs.Laws.Tests.{choose, clash, neither}
use Rattle.hnsr_circuit.specs.declared.records.RelayCircuit.{RelayCircuit}
use Rattle.hnsr_circuit.specs.declared.records.RelaySide.{RelaySide}
use Rattle.hnsr_circuit.specs.declared.records.RelaySide.TheVariants.{Requester, Endpoint}
use Rattle.hnsr_circuit.specs.declared.records.InflightAction.{InflightAction}
use Rattle.hnsr_circuit.specs.declared.records.InflightKind.{InflightKind}
use Rattle.hnsr_circuit.specs.declared.records.InflightKind.TheVariants.{Incoming, Opened, Data, Control, Close}
use Rattle.hnsr_circuit.specs.declared.answer.HnsrRuntimeError.TheVariants.{InvalidSession, InvalidConfig, Short}
use Rattle.hnsr_circuit.specs.Answers.{HnsrAnswer, check, ◌then◌}
use Rattle.hnsr_circuit.specs.Table.{pick, clear}
use Rattle.hnsr_circuit.specs.Config.{config_good, validate_config}
use Rattle.hnsr_circuit.specs.Runtime.{new_runtime}
use Rattle.hnsr_circuit.specs.Entry.{too_few, tables_short}
use Rattle.hnsr_circuit.specs.Pending.{no_pending, is_pending, pending_at, clear_pending}
use Rattle.hnsr_circuit.specs.Circuits.{no_circuit, is_circuit, circuit_at, credit_of, clear_circuit, lowered}
use Rattle.hnsr_circuit.specs.Ledger.{no_usage, is_usage, usage_at, clear_usage}
use Rattle.hnsr_circuit.specs.Inflight.{is_action, toward_side, action_at, clear_action}
use Rattle.hnsr_circuit.specs.World.{World, Outcome, done, proceed, with_circuits, at_time}
use Rattle.hnsr_circuit.specs.Acknowledge.{lower_for, released, fail_pending, fail_incoming}
use Rattle.hnsr_circuit.specs.Acknowledge.{undelivered, settled, acknowledge_action, acknowledge}
use Rattle.hnsr_circuit.specs.Revocation.{has_pending}
use Rattle.hnsr_circuit.specs.RevokingCalls.{changes, disconnect_peer, disconnect, revoke_under, revoke_reservation}
use Rattle.hnsr_circuit.specs.RevokingCalls.{expire_at, expire, switched, switch_to, replace_enabled}
use Rattle.hnsr_circuit.specs.New.{session_answer, new_answer, emptied, new_relay, observe_time}
use Rattle.hnsr_circuit.specs.Status.{status}
use Rattle.hnsr_circuit.specs.NextDue.{next_due}
use Rattle.hnsr_circuit.specs.Call.{Start, Call, call_status, call_next_due, call_observe_time}
use Rattle.hnsr_circuit.specs.Call.{call_replace_enabled, call_handle, call_acknowledge, call_disconnect}
use Rattle.hnsr_circuit.specs.Call.{call_revoke_reservation, call_expire, start, step, left_by}
use Rattle.hnsr_circuit.specs.Laws.Answers.{then_taken, check-taken}
use Rattle.hnsr_circuit.specs.Laws.Marks.{clear-length}
use Rattle.hnsr_circuit.specs.Laws.Edits.{length-edit}
use Rattle.hnsr_circuit.specs.Laws.Places.{length-dropped}
use Rattle.hnsr_run.specs.Run.Rel.{Places}
use Rattle.hnsr_run.specs.Run.Start.{none-counted}
use Rattle.hnsr_run.specs.Run.ShapeTables.{less-edit, Fits}
use Rattle.hnsr_run.specs.Run.Shape.{PendingShape, CircuitShape, Shape}
use Rattle.hnsr_run.specs.Run.ShapeParts.{Recounted, recounted_shape, pending-off, circuit-off}
use Rattle.hnsr_run.specs.Run.ShapeParts.{usage_off, pending-unmarked, circuit-unmarked, actions_shape}
use Rattle.hnsr_run.specs.Run.ShapeParts.{less-ledger, proceed_shape, send_shape, without_pending_shape}
use Rattle.hnsr_run.specs.Run.ShapeParts.{revoke_pending_shape, disconnect_pending_shape}
use Rattle.hnsr_run.specs.Run.ShapeParts.{revoke_there_shape, revoke_circuit_shape, revoke_all_shape}
use Rattle.hnsr_run.specs.Run.ShapeCalls.{usage_unmarked, lapsed_shape, handle_shape}

-- ---- acknowledge
lowered-moves : (side : RelaySide) (n : ℕ) (c : RelayCircuit) → Recounted c (lowered side n c)
lowered-moves Requester n c = record { used = refl; id = refl; requester = refl; endpoint = refl }
lowered-moves Endpoint n c = record { used = refl; id = refl; requester = refl; endpoint = refl }

lowered-credit : (toward side : RelaySide) (n : ℕ) (c : RelayCircuit)
    → credit_of side (lowered toward n c) ≡ credit_of side c
lowered-credit Requester Requester n c = refl
lowered-credit Requester Endpoint n c = refl
lowered-credit Endpoint Requester n c = refl
lowered-credit Endpoint Endpoint n c = refl

lower_shape : (k : InflightKind) (a : InflightAction) (w : World) → Shape w
    → Shape (with_circuits w (lower_for k a w.circuits))
unfolding lower_for
lower_shape Data a w S =
    let toward = toward_side a in
    let p = circuit_at a.circuit_id in
    recounted_shape w p (lowered toward a.bytes) S (lowered-moves toward a.bytes)
    (λ C side. omega (arith, C.credits side, lowered-credit toward side a.bytes (pick p no_circuit w.circuits)))
lower_shape Incoming a w S = S
lower_shape Opened a w S = S
lower_shape Control a w S = S
lower_shape Close a w S = S

undelivered_shape : (k : InflightKind) (w : World) (id : ℕ) → Shape w → Shape (undelivered k w id).world
unfolding undelivered fail_incoming fail_pending
undelivered_shape Incoming w id S = choose (λ (o : Outcome). Shape o.world) (has_pending w id) _ (done w [])
    (λ e. send_shape _ _ (without_pending_shape w _ S)) (λ e. S)
undelivered_shape Opened w id S = revoke_circuit_shape _ w id S
undelivered_shape Data w id S = revoke_circuit_shape _ w id S
undelivered_shape Control w id S = revoke_circuit_shape _ w id S
undelivered_shape Close w id S = S

settled_shape : (w : World) (a : InflightAction) (delivered : Bool) → Shape w → Shape (settled w a delivered).world
unfolding settled
settled_shape w a true S = S
settled_shape w a false S = undelivered_shape _ w _ S

released_shape : (w : World) (a : InflightAction) → Shape w → Shape (released w a)
unfolding released
released_shape w a S = lower_shape _ a w S

acknowledge_shape : (w : World) (generation sequence : ℕ) (delivered : Bool) (room : ℕ) → Shape w
    → Shape (acknowledge w generation sequence delivered room).world
unfolding acknowledge acknowledge_action
acknowledge_shape w generation sequence delivered room S = proceed_shape w _ _ S (λ e.
    settled_shape _ _ delivered (released_shape _ _ (actions_shape S
    (length-edit (action_at generation sequence) clear_action w.inflight))))

-- ---- the revoking calls. A switch raises the generation
switched_shape : (w : World) (on : Bool) → Shape w → Shape (switched w on)
switched_shape w on S = record {
  runtime = record { session = S.runtime.session; generation = omega arith; config = S.runtime.config };
  pending = S.pending;
  circuits = S.circuits;
  once = S.once;
  ledger = S.ledger;
  actions = omega (arith, S.actions, length-dropped is_action w.inflight);
}

switch_shape : (w : World) (on : Bool) → Shape w → Shape (switch_to w on).world
unfolding switch_to
switch_shape w true S = switched_shape w true S
switch_shape w false S = revoke_all_shape _ _ _ _ (switched w false) (revoke_pending_shape _) (revoke_there_shape _)
    (switched_shape w false S)

-- ---- every call, every answer
pub step_shape : (w : World) (c : Call) → Shape w → Shape (step w c).world
unfolding step status next_due observe_time replace_enabled disconnect disconnect_peer revoke_reservation revoke_under
    expire expire_at
step_shape w (call_status peer circuit) S = proceed_shape w _ _ S (λ e. S)
step_shape w call_next_due S = proceed_shape w _ _ S (λ e. S)
step_shape w (call_observe_time now) S = proceed_shape w _ _ S (λ e. S)
step_shape w (call_replace_enabled expected on room) S = proceed_shape w _ _ S (λ e.
    choose (λ (o : Outcome). Shape o.world) (changes w on) (switch_to w on) (done w []) (λ a. switch_shape w on S)
    (λ a. S))
step_shape w (call_handle q room) S = handle_shape w q room S
step_shape w (call_acknowledge generation sequence delivered room) S =
    acknowledge_shape w generation sequence delivered room S
step_shape w (call_disconnect peer room) S = proceed_shape w _ _ S (λ e.
    revoke_all_shape _ _ _ _ _ (disconnect_pending_shape _) (revoke_there_shape _)
    (actions_shape S (length-dropped _ w.inflight)))
step_shape w (call_revoke_reservation id room) S = proceed_shape w _ _ S (λ e.
    revoke_all_shape _ _ _ _ _ (revoke_pending_shape _) (revoke_there_shape _)
    (less-ledger S (less-edit is_usage no_usage (usage_at id) clear_usage w.ledger usage_unmarked)))
step_shape w (call_expire now room) S = proceed_shape w _ _ S (λ e.
    revoke_all_shape _ _ _ _ _ (revoke_pending_shape _) (revoke_there_shape _) (lapsed_shape (at_time w now) now S))

-- ---- `new`: its rows, and tables in which no place is used
proceed-taken : (w : World) (a : HnsrAnswer) (o : Outcome) → (proceed w a o).answer ≡ Ok tt → a ≡ Ok tt
unfolding proceed
proceed-taken w (Ok _) o h = refl
proceed-taken w (Err x) o h = h

new-taken : (w : World) (s : Start) → (start w s).answer ≡ Ok tt
    → new_answer w s.session s.generation s.config ≡ Ok tt
unfolding start new_relay
new-taken w s e =
    proceed-taken w (new_answer w s.session s.generation s.config)
    (done (emptied w (new_runtime s.session s.generation s.config s.now)) []) e

new-world : (w : World) (s : Start) → new_answer w s.session s.generation s.config ≡ Ok tt
    → (start w s).world ≡ emptied w (new_runtime s.session s.generation s.config s.now)
unfolding start new_relay proceed
new-world w s e = rw e

record NewRows (w : World) (s : Start) : Type 0 where
  session : all_zero s.session ≡ false
  generation : 0 < s.generation
  good : config_good s.config ≡ true
  pending : s.config.maximum_pending ≤ length w.pending
  circuits : s.config.maximum_circuits ≤ length w.circuits
  inflight : s.config.maximum_inflight_actions ≤ length w.inflight
  ledger : 0 < length w.ledger

new-rows : (w : World) (s : Start) → new_answer w s.session s.generation s.config ≡ Ok tt → NewRows w s
unfolding new_answer session_answer validate_config tables_short too_few
new-rows w s e =
    let c = s.config in
    let zeros = all_zero s.session in
    let none = eqb s.generation 0 in
    let bad = not (config_good c) in
    let x = ltb (length w.pending) c.maximum_pending in
    let y = ltb (length w.circuits) c.maximum_circuits in
    let z = ltb (length w.inflight) c.maximum_inflight_actions in
    let empty = eqb (length w.ledger) 0 in
    let valid = check bad InvalidConfig in
    let long = check ((x || y || z) || empty) Short in
    let rows = then_taken (check (zeros || none) InvalidSession) (valid then long) e in
    let rest = then_taken valid long rows.1 in
    let a = neither zeros none (check-taken (zeros || none) InvalidSession rows.0) in
    let b = neither (x || y || z) empty (check-taken ((x || y || z) || empty) Short rest.1) in
    let d = neither (x || y) z b.0 in
    let f = neither x y d.0 in
    record {
      session = a.0;
      generation = some s.generation a.1;
      good = not-false (config_good c) (check-taken bad InvalidConfig rest.0);
      pending = ltb-false (length w.pending) c.maximum_pending f.0;
      circuits = ltb-false (length w.circuits) c.maximum_circuits f.1;
      inflight = ltb-false (length w.inflight) c.maximum_inflight_actions d.1;
      ledger = some (length w.ledger) b.1;
    }
  where
    some : (n : ℕ) → eqb n 0 ≡ false → 0 < n
    some n h = let k = eqb-false n 0 h in omega arith

module _ {A : Type 0} (used : A → Bool) (unmark : A → A) (off : (a : A) → used (unmark a) ≡ false) (d : A)
    (past : used d ≡ false) where
  unused-at : (t : List A) (k : ℕ) → used (get_or (clear unmark used t) k d) ≡ false
  unused-at [] k = past
  unused-at (x ∷ xs) zero = choose (λ (a : A). used a ≡ false) (used x) (unmark x) x (λ e. off x) (λ e. e)
  unused-at (x ∷ xs) (suc k) = unused-at xs k

  empty_fits : (Form : A → Type 0) (most : ℕ) (t : List A) → most ≤ length t
      → Fits used d Form most (clear unmark used t)
  empty_fits Form most t l = record {
    places = omega (arith, clear-length used unmark off used t);
    few = omega (arith, none-counted used unmark off used (λ a e. e) t);
    each = λ place u. clash u (unused-at t place);
  }

empty_shape : (w : World) (s : Start) → NewRows w s
    → Shape (emptied w (new_runtime s.session s.generation s.config s.now))
unfolding emptied is_pending is_circuit
empty_shape w s D = record {
  runtime = record { session = D.session; generation = D.generation; config = D.good };
  pending = empty_fits is_pending clear_pending pending-unmarked no_pending refl PendingShape
      s.config.maximum_pending w.pending D.pending;
  circuits = empty_fits is_circuit clear_circuit circuit-unmarked no_circuit refl CircuitShape
      s.config.maximum_circuits w.circuits D.circuits;
  once = λ id. omega (
    arith,
    none-counted is_pending clear_pending pending-unmarked (pending_at id) (pending-off id) w.pending,
    none-counted is_circuit clear_circuit circuit-unmarked (circuit_at id) (circuit-off id) w.circuits,
  );
  ledger = record {
    places = omega (arith, D.ledger, clear-length is_usage clear_usage usage_unmarked is_usage w.ledger);
    once = λ r. omega (arith, none-counted is_usage clear_usage usage_unmarked (usage_at r) (usage_off r) w.ledger);
  };
  actions = omega (arith, D.inflight, length-dropped is_action w.inflight);
}

pub start_shape : (w : World) (s : Start) → (start w s).answer ≡ Ok tt → Shape (start w s).world
start_shape w s e = let t = new-taken w s e in subst Shape (sym (new-world w s t)) (empty_shape w s (new-rows w s t))

-- ---- a run
pub calls_shape : (cs : List Call) (w : World) → Shape w → Shape (left_by w cs)
unfolding left_by
calls_shape [] w S = S
calls_shape (c ∷ cs) w S = calls_shape cs (step w c).world (step_shape w c S)

pub run_shape : (w : World) (s : Start) (cs : List Call) → (start w s).answer ≡ Ok tt
    → Shape (left_by (start w s).world cs)
run_shape w s cs e = calls_shape cs (start w s).world (start_shape w s e)

-- so the tables are as long as `new` asked: no history is needed for that
pub shape_places : (w : World) → Shape w → Places w
shape_places w S = record { pending = S.pending.places; circuits = S.circuits.places; inflight = S.actions }
