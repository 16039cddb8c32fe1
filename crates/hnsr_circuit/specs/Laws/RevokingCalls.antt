-- What the code does for a revoking call that is not refused is the definition's.
use Rattle.std.specs.Prelude.{ℕ, ◌≤◌, ◌<◌, ◌≡◌, refl, Bool, true, false, ◌&&◌, List, [], length, eqb}
use Rattle.std.specs.Prelude.{Result, Ok, Err}
use Rattle.std.specs.Result.{result_and}
use Rattle.std.proofs.Common.{arith, sym, ap, ◌∙◌}
use borrow.Author.Tests.{eqb-false}
use Rattle.hns_encoding.specs.Numbers.{top}
use Rattle.hns_encoding.specs.Laws.Tests.{on-true, on-false}
use Rattle.hnsr_body.specs.declared.values.ReservationId.{ReservationId}
use Rattle.hnsr_circuit.specs.declared.answer.HnsrRuntimeError.{HnsrRuntimeError}
use Rattle.hnsr_circuit.specs.declared.answer.HnsrRuntimeError.TheVariants.{GenerationExhausted}
use Rattle.hnsr_circuit.specs.declared.calls.revocation.Walks.{Walks}
use Rattle.hnsr_circuit.specs.declared.tables.question.Revoking.{Revoking}
use Rattle.hnsr_circuit.specs.declared.tables.question.Revoking.TheVariants.{Disabled, Disconnected, Reservation}
use Rattle.hnsr_circuit.specs.declared.tables.question.Revoking.TheVariants.{Expired}
use Rattle.hnsr_circuit.specs.Answers.{HnsrAnswer, ◌then◌}
use Rattle.hnsr_circuit.specs.Table.{clear, edit}
use Rattle.hnsr_circuit.specs.Peer.{peer_of}
use Rattle.hnsr_circuit.specs.Ledger.{usage_at, clear_usage, lapsed}
use Rattle.hnsr_circuit.specs.Inflight.{is_action, action_toward, clear_action, dropped}
use Rattle.hnsr_circuit.specs.Runtime.{with_enabled}
use Rattle.hnsr_circuit.specs.World.{World, done, with_runtime, with_ledger, with_inflight}
use Rattle.hnsr_circuit.specs.World.{at_time}
use Rattle.hnsr_circuit.specs.Queue.{generation_of}
use Rattle.hnsr_circuit.specs.Entry.{room_answer, revoking_words, peer_answer, clock_answer}
use Rattle.hnsr_circuit.specs.Acknowledge.{generation_answer}
use Rattle.hnsr_circuit.specs.RevokingCalls.{disconnect, disconnect_peer, revoke_reservation, revoke_under}
use Rattle.hnsr_circuit.specs.RevokingCalls.{expire, expire_at, changes, change_answer, switch_to, replace_enabled}
use Rattle.hnsr_circuit.specs.Code.Question.{pending_revoked, circuit_revoked}
use Rattle.hnsr_circuit.specs.Code.Revoking.{ending_pending, revoking_all, walks_of, entered}
use Rattle.hnsr_circuit.specs.Laws.Answers.{check-taken, then_taken}
use Rattle.hnsr_circuit.specs.Laws.Seen.{passed}

-- ---- the entry: what it lets pass, and what it refuses
ok_and : {X : Type 0} (a : HnsrAnswer) (x y : X) → result_and {U = X} a (Ok x) ≡ Ok y → (a ≡ Ok tt) × (y ≡ x)
ok_and (Ok _) x y h = (refl, cc)
ok_and (Err e) x y h = cc

err_and : {X : Type 0} (a : HnsrAnswer) (x : X) (e : HnsrRuntimeError) → result_and {U = X} a (Ok x) ≡ Err e
    → a ≡ Err e
err_and (Ok _) x e h = cc
err_and (Err d) x e h = cc

module _ (v : Revoking) (w : World) (room : ℕ) {own rows : HnsrAnswer} (same : own ≡ rows)
    {s : Result Walks HnsrRuntimeError} (is : s ≡ entered v w room own) where
  -- the walks that it begins
  pub entry_walks : (k : Walks) → s ≡ Ok k → k ≡ walks_of v w.pending w.circuits
  entry_walks k e = (ok_and _ (walks_of v w.pending w.circuits) k (sym is ∙ e)).1

  pub entry_own : (k : Walks) → s ≡ Ok k → k ≡ walks_of k.revoking w.pending w.circuits
  entry_own k e =
      entry_walks k e ∙ ap (λ (x : Walks). walks_of x.revoking w.pending w.circuits) (sym (entry_walks k e))

  pub entry_passed : (k : Walks) → s ≡ Ok k → (room_answer w room (revoking_words w) then rows) ≡ Ok tt
  entry_passed k e =
      ap (λ (r : HnsrAnswer). room_answer w room (revoking_words w) then r) (sym same)
      ∙ (ok_and _ (walks_of v w.pending w.circuits) k (sym is ∙ e)).0

  pub entry_refused : (e : HnsrRuntimeError) → s ≡ Err e
      → (room_answer w room (revoking_words w) then rows) ≡ Err e
  entry_refused e h =
      ap (λ (r : HnsrAnswer). room_answer w room (revoking_words w) then r) (sym same)
      ∙ err_and _ (walks_of v w.pending w.circuits) e (sym is ∙ h)

pub then_nothing : (a : HnsrAnswer) → (a then Ok tt) ≡ a
then_nothing (Ok _) = refl
then_nothing (Err e) = refl

-- ---- a changed state
module _ (w : World) where
  pub switched_on : (on : Bool) → on ≡ true
      → done (with_inflight (with_runtime w (with_enabled w.runtime on)) (clear clear_action is_action w.inflight)) []
      ≡ switch_to w on
  unfolding switch_to dropped
  switched_on true e = refl
  switched_on false e = cc

  pub switched_off : (on : Bool) → on ≡ false
      → revoking_all Disabled
      (with_inflight (with_runtime w (with_enabled w.runtime on)) (clear clear_action is_action w.inflight))
      ≡ switch_to w on
  unfolding switch_to dropped ending_pending pending_revoked circuit_revoked
  switched_off true e = cc
  switched_off false e = refl

-- ---- each call, where its entry lets it pass
module _ (w : World) (room : ℕ) where
  abbrev room_row : HnsrAnswer
  room_row = room_answer w room (revoking_words w)

  pub disconnected : (peer : List ℕ) → (room_row then peer_answer (length peer)) ≡ Ok tt
      → revoking_all (Disconnected (peer_of peer))
      (with_inflight w (clear clear_action (action_toward (peer_of peer)) w.inflight))
      ≡ disconnect w peer room
  unfolding disconnect disconnect_peer dropped ending_pending pending_revoked circuit_revoked
  disconnected peer e = passed w _ (disconnect_peer w (peer_of peer)) e

  pub revoked_under : (id : ReservationId) → room_row ≡ Ok tt
      → revoking_all (Reservation id) (with_ledger w (edit (usage_at id) clear_usage w.ledger))
      ≡ revoke_reservation w id room
  unfolding revoke_reservation revoke_under ending_pending pending_revoked circuit_revoked
  revoked_under id e = passed w _ (revoke_under w id) e

  pub expired : (time : ℕ) → (room_row then clock_answer w.runtime.trusted_time_high_water time) ≡ Ok tt
      → revoking_all (Expired time) (with_ledger (at_time w time) (lapsed time w.ledger)) ≡ expire w time room
  unfolding expire expire_at ending_pending pending_revoked circuit_revoked
  expired time e = passed w _ (expire_at w time) e

  module _ (expected : ℕ) (on : Bool)
      (e : (room_row
      then generation_answer (generation_of w) expected
      then change_answer (generation_of w) (changes w on)) ≡ Ok tt) where
    pub changed_state : changes w on ≡ true → switch_to w on ≡ replace_enabled w expected on room
    unfolding replace_enabled
    changed_state t = sym (on-true _ (switch_to w on) (done w []) t) ∙ passed w _ _ e

    pub same_state : changes w on ≡ false → done w [] ≡ replace_enabled w expected on room
    unfolding replace_enabled
    same_state t = sym (on-false _ (switch_to w on) (done w []) t) ∙ passed w _ _ e

    -- a state that changes has a generation to go to
    pub below_top : generation_of w ≤ top 64 → changes w on ≡ true → generation_of w < top 64
    unfolding change_answer
    below_top k t =
        let b = changes w on in
        let rest = (then_taken room_row (generation_answer (generation_of w) expected
        then change_answer (generation_of w) b) e).1 in
        let last =
        (then_taken (generation_answer (generation_of w) expected) (change_answer (generation_of w) b) rest).1 in
        let no_top = check-taken (b && eqb (generation_of w) (top 64)) GenerationExhausted last in
        let differs = eqb-false (generation_of w) (top 64) (rw t at no_top) in
        omega arith
