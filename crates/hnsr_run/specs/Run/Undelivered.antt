-- Acknowledge, delivered or not, keeps the invariant.
use Rattle.std.specs.Prelude.{ℕ, ◌<◌, ◌≡◌, Bool, true, cond, not, ◌||◌, [], leb, ltb, eqb, Ok, Err}
use Rattle.std.proofs.Math.Path.{refl, subst}
use Rattle.std.proofs.Common.{sym, ap, ◌∙◌}
use Rattle.std.proofs.Math.Bool.{false}
use Rattle.std.proofs.lemmas.Bool.{not-false}
use Rattle.hns_encoding.specs.Numbers.{top}
use Rattle.hns_encoding.specs.Laws.Tests.{split, choose, clash}
use Rattle.hnsr_body.specs.declared.messages.Notice.{Notice}
use Rattle.hnsr_circuit.specs.declared.peer.HnsrPeerId.{HnsrPeerId}
use Rattle.hnsr_body.specs.declared.messages.Notice.TheVariants.{EndpointWriteFailed, OuterWriteFailed}
use Rattle.hnsr_circuit.specs.declared.records.InflightAction.{InflightAction}
use Rattle.hnsr_circuit.specs.declared.answer.HnsrRuntimeError.{HnsrRuntimeError}
use Rattle.hnsr_circuit.specs.declared.answer.HnsrRuntimeError.TheVariants.{Short, StaleGeneration, UnknownAction}
use Rattle.hnsr_circuit.specs.Answers.{HnsrAnswer, error_number, number, check, ◌then◌}
use Rattle.hnsr_circuit.specs.Table.{any, pick}
use Rattle.hnsr_circuit.specs.Pending.{pending_at}
use Rattle.hnsr_circuit.specs.Circuits.{circuit_at}
use Rattle.hnsr_circuit.specs.declared.records.InflightKind.TheVariants.{Close, Incoming}
use Rattle.hnsr_circuit.specs.Inflight.{kind_number, kind_of, no_action, action_at}
use Rattle.hnsr_circuit.specs.World.{World, Outcome, config_of, done, counting}
use Rattle.hnsr_circuit.specs.Queue.{Sent, finished, generation_of, sequence_of}
use Rattle.hnsr_circuit.specs.Opcode.{op_close, op_error}
use Rattle.hnsr_circuit.specs.Entry.{tables_short, room_answer, acknowledge_words}
use Rattle.hnsr_circuit.specs.Runtime.{count_revoked}
use Rattle.hnsr_circuit.specs.Revocation.{without_pending, error_to_requester, close_to}
use Rattle.hnsr_circuit.specs.Revocation.{has_pending, pending_in, revoke_circuit}
use Rattle.hnsr_circuit.specs.Acknowledge.{generation_answer, action_answer, without_action, released}
use Rattle.hnsr_circuit.specs.Acknowledge.{fail_pending, fail_incoming, undelivered, settled}
use Rattle.hnsr_circuit.specs.Acknowledge.{acknowledge_taken, acknowledge_action, acknowledge}
use Rattle.hnsr_circuit.specs.Call.{call_acknowledge}
use Rattle.hnsr_circuit.specs.Laws.Lookups.{total-key}
use Rattle.hnsr_circuit.specs.Laws.Answers.{then_taken, check-taken}
use Rattle.hnsr_circuit.specs.Laws.Bag.{held_any}
use Rattle.hnsr_run.specs.Past.{Action, Past, at, numbered, nothing, heard, emit, without, unstood, circuit_ended}
use Rattle.hnsr_run.specs.History.{ends, failed_in, acknowledge_in, after}
use Rattle.hnsr_run.specs.Run.Actions.{actions, view, both-once, found-is}
use Rattle.hnsr_run.specs.Run.Circuits.{none}
use Rattle.hnsr_run.specs.Run.Walks.{when-cases}
use Rattle.hnsr_run.specs.Run.Books.{one-ledger}
use Rattle.hnsr_run.specs.Run.Full.{Full, Keeps, Quiet, rest-same, rest_then, queued-rest, can-room, queue-full}
use Rattle.hnsr_run.specs.Run.Ended.{at-false, remove_pends}
use Rattle.hnsr_run.specs.Run.Ends.{quiet-about, pending-is, pending-there, circuit-there, revoke-circuit}
use Rattle.hnsr_run.specs.Run.Acknowledge.{by_kind, settled-keeps}
use Rattle.hnsr_run.specs.Run.Rel.{Rel, proceed-cases, not_taken, send-cases, emit-nothing, shrink}

-- what an outcome says of the past
abbrev Ends : (about : ℕ) → Past → Outcome → Type 0
Ends j g o = (ends o.answer ≡ true) × Rel o.world (emit g (heard (λ r. j)) o.routes)

-- ---- Incoming: the pending record ends, other actions staying
less-pending : {w : World} {g : Past} → Rel w g → (j : ℕ)
    → Keeps none w (counting count_revoked (without_pending w (pending_at j))) (unstood g j)
unfolding without_pending
less-pending {w} {g} R j = let F = R.base.full in record {
  full = record {
    acts = F.acts;
    circs = F.circs;
    queue = F.queue;
    pends = remove_pends F.pends j;
    disjoint = λ i s. F.disjoint i (at-false j g.opens.standing i s);
    real = F.real;
    real_p = λ i s. F.real_p i (at-false j g.opens.standing i s);
  };
  rest = record { ledger = one-ledger w.ledger; clock = refl; generation = refl; enabled = refl; config = refl };
}

same-sequence : (w : World) (j : ℕ)
    → sequence_of (counting count_revoked (without_pending w (pending_at j))) ≡ sequence_of w
unfolding without_pending
same-sequence w j = refl

error-context : {w : World} {g : Past} → Rel w g → (j : ℕ) → g.opens.standing j ≡ true
    → eqb (error_to_requester EndpointWriteFailed (pending_in w j)).context 0 ≡ false
unfolding error_to_requester pending_at
error-context {w} {g} R j a = let A = R.base.full.pends.agree j a in ap (λ x. eqb x 0) A.context ∙ A.some

quiet_failed : {w : World} {g : Past} → Rel w g → (j : ℕ) → g.opens.standing j ≡ true
    → Quiet (heard (λ r. j)) (error_to_requester EndpointWriteFailed (pending_in w j))
unfolding error_to_requester
quiet_failed {w} {g} R j a =
    quiet-about _ j _ op_error _ EndpointWriteFailed (sym (pending-is w g R.base.full j a)) refl

quiet-revoked : (j : ℕ) (n : Notice) (peer : HnsrPeerId) → Quiet (heard (λ r. j)) (close_to n peer j)
unfolding close_to
quiet-revoked j n peer = quiet-about peer j j op_close j n refl refl

fail-pending : {w : World} {g : Past} → Rel w g → (j : ℕ) → g.opens.standing j ≡ true → sequence_of w < top 64
    → Ends j (unstood g j) (fail_pending w j (pending_in w j))
unfolding fail_pending
fail-pending {w} {g} R j a l =
    let v = counting count_revoked (without_pending w (pending_at j)) in
    let m = error_to_requester EndpointWriteFailed (pending_in w j) in
    let K = less-pending R j in
    send-cases (λ (o : Outcome). Ends j (unstood g j) o) v m (error-context R j a)
    (subst (λ n. n < top 64) (sym (same-sequence w j)) l)
    (λ e. (
      refl,
      shrink R g.active (at j false g.opens.standing) _ (record {
        full = queue-full v (unstood g j) m K.full (quiet_failed R j a) (can-room m v e);
        rest = rest_then K.rest (queued-rest m v);
      })
          (λ i x. x) (at-false j g.opens.standing),
    )) (
      refl,
      emit-nothing (shrink R g.active (at j false g.opens.standing) g.out K (λ i x. x)
          (at-false j g.opens.standing)),
    )

-- ---- what an undelivered action of a kind does
abbrev failed_as : (kind circuit : ℕ) → Past → Past
failed_as n j g =
    cond (eqb n (kind_number Incoming)) (cond (g.opens.standing j) (unstood g j) g)
    (cond (leb (kind_number Close) n) g (cond (g.active j) (circuit_ended g j) g))

module _ {w : World} {g : Past} (R : Rel w g) (n j : ℕ) (l : sequence_of w < top 64) where
  stays : Ends j g (done w [])
  stays = (refl, emit-nothing R)

  incoming : eqb n 0 ≡ true → Ends j (failed_as n j g) (fail_incoming w j)
  unfolding fail_incoming
  incoming e =
      subst (λ (b : Bool). Ends j
      (cond b (cond (g.opens.standing j) (unstood g j) g)
      (cond (leb 4 n) g (cond (g.active j) (circuit_ended g j) g))) (fail_incoming w j)) (sym e)
      (split (g.opens.standing j)
      (λ a. subst (λ (b : Bool). Ends j (cond b (unstood g j) g) (fail_incoming w j)) (sym a)
      (choose (λ (o : Outcome). Ends j (unstood g j) o) (has_pending w j) (fail_pending w j (pending_in w j))
      (done w [])
      (λ x. fail-pending R j a l)
      (λ x. clash (pending-there w g R.base.full j ∙ a) x)))
      (λ a. subst (λ (b : Bool). Ends j (cond b (unstood g j) g) (fail_incoming w j)) (sym a)
      (choose (λ (o : Outcome). Ends j g o) (has_pending w j) (fail_pending w j (pending_in w j)) (done w [])
      (λ x. clash x (pending-there w g R.base.full j ∙ a))
      (λ x. stays))))

  circuit : eqb n 0 ≡ false → leb 4 n ≡ false
      → Ends j (failed_as n j g) (finished (revoke_circuit OuterWriteFailed w j))
  unfolding revoke_circuit
  circuit e f =
      subst (λ (b : Bool). Ends j
      (cond b (cond (g.opens.standing j) (unstood g j) g)
      (cond (leb 4 n) g (cond (g.active j) (circuit_ended g j) g))) (finished (revoke_circuit OuterWriteFailed w j)))
      (sym e)
      (subst (λ (b : Bool).
      Ends j (cond b g (cond (g.active j) (circuit_ended g j) g)) (finished (revoke_circuit OuterWriteFailed w j)))
      (sym f)
      (split (g.active j)
      (λ a. subst (λ (b : Bool). Ends j (cond b (circuit_ended g j) g) (finished (revoke_circuit OuterWriteFailed w j)))
      (sym a) (
        refl,
        shrink R (at j false g.active) g.opens.standing _
            (revoke-circuit OuterWriteFailed w g j none (λ i s t. refl) (λ side. quiet-revoked j OuterWriteFailed _)
            (record {
              full = R.base.full;
              rest = rest-same w;
            }) a) (at-false j g.active) (λ i x. x),
      ))
      (λ a. subst (λ (b : Bool). Ends j (cond b (circuit_ended g j) g) (finished (revoke_circuit OuterWriteFailed w j)))
      (sym a)
      (when-cases (λ (s : Sent). Ends j g (finished s)) (any (circuit_at j) w.circuits) _ w
      (λ x. clash x (circuit-there w g R.base.full j ∙ a))
      (λ x. stays)))))

  closing : eqb n 0 ≡ false → leb 4 n ≡ true → Ends j (failed_as n j g) (done w [])
  closing e f =
      subst (λ (b : Bool). Ends j
      (cond b (cond (g.opens.standing j) (unstood g j) g)
      (cond (leb 4 n) g (cond (g.active j) (circuit_ended g j) g))) (done w [])) (sym e)
      (subst (λ (b : Bool). Ends j (cond b g (cond (g.active j) (circuit_ended g j) g)) (done w [])) (sym f) stays)

  undelivered-keeps : Ends j (failed_as n j g) (undelivered (kind_of n) w j)
  unfolding undelivered
  undelivered-keeps =
      by_kind (λ k. Ends j (failed_as n j g) (undelivered k w j)) n
      (λ a b. incoming a)
      (λ a b c. circuit a c)
      (λ a b c. circuit a c)
      (λ a b c. circuit a c)
      (λ a b c. closing a c)

-- ---- acknowledge
three-rows : (m : ℕ) (x y z : Bool) → eqb 0 m ≡ false → eqb 22 m ≡ false → eqb 5 m ≡ false → eqb 20 m ≡ false
    → eqb (number (check x Short then check y StaleGeneration then check z UnknownAction)) m ≡ false
three-rows m true y z t a b c = a
three-rows m false true z t a b c = b
three-rows m false false true t a b c = c
three-rows m false false false t a b c = t

never_ends : (w : World) (g s room m : ℕ) → eqb 0 m ≡ false → eqb 22 m ≡ false → eqb 5 m ≡ false → eqb 20 m ≡ false
    → eqb (number (acknowledge_taken w g s room)) m ≡ false
unfolding acknowledge_taken room_answer generation_answer action_answer
never_ends w g s room m t a b c =
    three-rows m (ltb room acknowledge_words || tables_short (config_of w) w) (not (eqb g (generation_of w)))
    (not (any (action_at g s) w.inflight)) t a b c

-- refused with neither 10 nor 6: nothing ended
pub refused_ends : (a : HnsrAnswer) (e : HnsrRuntimeError) → a ≡ Err e → eqb (number a) 10 ≡ false
    → eqb (number a) 6 ≡ false → ends (Err e) ≡ false
refused_ends a e f x y =
    let x' = ap (λ b. eqb (number b) 10) (sym f) ∙ x in let y' = ap (λ b. eqb (number b) 6) (sym f) ∙ y in
    ap (λ b. b || (eqb (error_number e) 10 || eqb (error_number e) 6)) (not_taken e)
    ∙ ap (λ b. b || eqb (error_number e) 6) x'
    ∙ y'

settled-ends : {w : World} {h : Past} → Rel w h → (a : InflightAction) (x : Action) → a.kind ≡ x.kind
    → a.circuit_id ≡ x.circuit → sequence_of w < top 64
    → (delivered : Bool) → Ends x.circuit (cond delivered h (failed_in x h)) (settled w a delivered)
unfolding settled
settled-ends R a x ek ec l true = (refl, emit-nothing R)
settled-ends {w} {h} R a x ek ec l false =
    subst (λ n. Ends x.circuit (failed_as n x.circuit h) (undelivered (kind_of a.kind) w a.circuit_id)) ek
    (subst (λ j. Ends j (failed_as a.kind j h) (undelivered (kind_of a.kind) w a.circuit_id)) ec
    (undelivered-keeps R a.kind a.circuit_id l))

released-sequence : (w : World) (g s : ℕ) (a : InflightAction)
    → sequence_of (released (without_action w g s) a) ≡ sequence_of w
unfolding released
released-sequence w g s a = refl

pub action-found : (w : World) (h : Past) → Full none w h → (g s : ℕ)
    → any (action_at g s) w.inflight ≡ any (numbered g s) h.out
unfolding action_at
action-found w h F g s = held_any actions F.acts.held (numbered g s)

taken-found : (w : World) (g s room : ℕ) → acknowledge_taken w g s room ≡ Ok tt → any (action_at g s) w.inflight ≡ true
unfolding acknowledge_taken generation_answer action_answer
taken-found w g s room e =
    let third = action_answer (any (action_at g s) w.inflight) in
    let second = generation_answer (generation_of w) g in
    let k = (then_taken second third (then_taken (room_answer w room acknowledge_words) (second then third) e).1).1 in
    not-false (any (action_at g s) w.inflight) (check-taken (not (any (action_at g s) w.inflight)) UnknownAction k)

pub acknowledge-keeps : {w : World} {h : Past} → Rel w h → sequence_of w < top 64
    → (g s : ℕ) (delivered : Bool) (room : ℕ)
    → let o = acknowledge w g s delivered room in
    Rel o.world (after h (call_acknowledge g s delivered room) o.answer o.routes)
unfolding acknowledge acknowledge_action
acknowledge-keeps {w} {h} R l g s delivered room = proceed-cases
    (λ (o : Outcome). Rel o.world (acknowledge_in g s delivered o.answer o.routes h)) w
    (acknowledge_taken w g s room) (settled W a delivered)
    (λ e. let f = sym (action-found w h R.base.full g s) ∙ taken-found w g s room e in
    let K = settled-keeps w h R.base.full g s f in
    let R₁ = shrink R h.active h.opens.standing _ K (λ i x. x) (λ i x. x) in
    let same : (p : Action → ℕ) → p (view a) ≡ p x = λ p. sym (found-is R.base.full.acts g s f p)
    ∙ total-key (numbered g s) p nothing h.out (both-once R.base.full.acts.held g s) f in
    let r = settled-ends R₁ a x (same (λ b. b.kind)) (same (λ b. b.circuit))
    (subst (λ n. n < top 64) (sym (released-sequence w g s a)) l) delivered in
    subst (λ b. Rel (settled W a delivered).world
    (cond b
    (emit (cond delivered (without h (numbered g s)) (failed_in x (without h (numbered g s)))) (heard (λ r. x.circuit))
    (settled W a delivered).routes) h)) (sym r.0) r.1)
    (λ e f. subst (λ b. Rel w
    (cond b
    (emit (cond delivered (without h (numbered g s)) (failed_in x (without h (numbered g s))))
    (heard (λ r. x.circuit)) []) h))
    (sym (refused_ends (acknowledge_taken w g s room) e f (never_ends w g s room 10 refl refl refl refl)
    (never_ends w g s room 6 refl refl refl refl))) R)
  where
    a : InflightAction
    a = pick (action_at g s) no_action w.inflight

    W : World
    W = released (without_action w g s) a

    x : Action
    x = pick (numbered g s) nothing h.out
