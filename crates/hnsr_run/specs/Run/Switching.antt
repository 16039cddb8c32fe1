-- replace_enabled keeps the invariant: switched on nothing was active, switched off everything ends.
use Rattle.std.specs.Prelude.{ℕ, ◌+◌, ◌≡◌, refl, Bool, true, false, cond, not, List, [], map, Ok}
use Rattle.std.proofs.Common.{arith, sym, ap, ◌∙◌, subst, true≢false}
use Rattle.std.specs.Bool.{beq}
use Rattle.std.proofs.Math.Bool.{and-false, and-true}
use Rattle.std.proofs.lemmas.Bool.{not-true, not-false}
use Rattle.hns_encoding.specs.Laws.Tests.{choose, clash}
use Rattle.hns_encoding.specs.Laws.Sums.{total-zero}
use Rattle.hnsr_body.specs.declared.messages.Notice.TheVariants.{RelayDisabled}
use Rattle.hnsr_circuit.specs.declared.config.OpaqueRelayConfig.{OpaqueRelayConfig}
use Rattle.hnsr_circuit.specs.declared.records.InflightAction.{InflightAction}
use Rattle.hnsr_circuit.specs.Answers.{◌then◌}
use Rattle.hnsr_circuit.specs.Pending.{is_pending}
use Rattle.hnsr_circuit.specs.Circuits.{is_circuit}
use Rattle.hnsr_circuit.specs.Inflight.{is_action, clear_action, dropped}
use Rattle.hnsr_circuit.specs.World.{World, Outcome, done}
use Rattle.hnsr_circuit.specs.Entry.{room_answer, revoking_words}
use Rattle.hnsr_circuit.specs.Acknowledge.{generation_answer}
use Rattle.hnsr_circuit.specs.Queue.{generation_of}
use Rattle.hnsr_circuit.specs.Revocation.{revoke_pending, revoke_all}
use Rattle.hnsr_circuit.specs.RevokingCalls.{changes, change_answer, switched, switch_to, replace_enabled}
use Rattle.hnsr_circuit.specs.Call.{call_replace_enabled}
use Rattle.hnsr_circuit.specs.Laws.Marks.{clear-total, clear-length}
use Rattle.hnsr_run.specs.Past.{Action, Past, heard, emit}
use Rattle.hnsr_run.specs.History.{taken, every_open, every_circuit, about, revoked, switched_to, enable_in, after}
use Rattle.hnsr_run.specs.Run.Actions.{Acts, view, in_use}
use Rattle.hnsr_run.specs.Run.Full.{rest-same, suspending}
use Rattle.hnsr_run.specs.Run.Ends.{by_error, labelled, revoking}
use Rattle.hnsr_run.specs.Run.Revocations.{revoke-all}
use Rattle.hnsr_run.specs.Run.Rel.{Base, Rel, proceed-cases, if-taken, shrink-base}
use Rattle.hnsr_run.specs.Run.Revoking.{less}

-- ---- replace_enabled
all-dropped : {c : OpaqueRelayConfig} {g next : ℕ} {t : List InflightAction} {out : List Action} → Acts c g next t out
    → (g' : ℕ)
    → Acts c g' 1 (dropped is_action t) []
unfolding dropped is_action
all-dropped {t = t} A g' = record {
  places = omega (arith, A.places, clear-length in_use clear_action (λ i. refl) in_use t);
  held = record {
    same =
        λ f. clear-total in_use clear_action (λ i. refl) in_use (λ i. f (view i)) t
        ∙ total-zero _ t (λ i. off i.used (f (view i)));
    once = λ q. omega arith;
    below = λ q l. refl;
  };
  ours = refl;
}
  where
    off : (u : Bool) (n : ℕ) → cond u (cond (not u) n 0) 0 ≡ 0
    off true n = refl
    off false n = refl

switched-base : {w : World} {h : Past} → Rel w h → (on : Bool) → Base (λ i. true) (switched w on) (switched_to h on)
switched-base {w} {h} R on = record {
  full = record {
    acts = all-dropped R.base.full.acts (generation_of w + 1);
    circs = R.base.full.circs;
    queue = record { queued = λ j s. absurd (true≢false s); honest = refl };
    pends = R.base.full.pends;
    disjoint = R.base.full.disjoint;
    real = R.base.full.real;
    real_p = R.base.full.real_p;
  };
  books = R.base.books;
  kept = R.base.kept;
  kept_p = R.base.kept_p;
  heads = record {
    generation = ap (λ n. n + 1) R.base.heads.generation;
    enabled = refl;
    clock = R.base.heads.clock;
    config = R.base.heads.config;
  };
  names = R.base.names;
  drawn = R.base.drawn;
  drawn_p = R.base.drawn_p;
  good = R.base.good;
  below = R.base.below;
}

-- switched on: nothing was active
on-keeps : {w : World} {h : Past} → Rel w h → h.head.enabled ≡ false → Rel (switched w true) (switched_to h true)
on-keeps {w} {h} R off = let B = switched-base R true in record {
  base = record {
    full = suspending (λ j s a. clash a (R.quiet off j)) B.full;
    books = B.books;
    kept = B.kept;
    kept_p = B.kept_p;
    heads = B.heads;
    names = B.names;
    drawn = B.drawn;
    drawn_p = B.drawn_p;
    good = B.good;
    below = B.below;
  };
  quiet = λ e. absurd (true≢false e);
  quiet_p = λ e. absurd (true≢false e);
}

off-keeps : {w : World} {h : Past} → Rel w h
    → let o = switch_to w false in
    Rel o.world (revoked (switched_to h false) every_open every_circuit (map (heard (about h)) o.routes))
unfolding switch_to revoke_all is_pending is_circuit
off-keeps {w} {h} R = let B = switched-base R false in
    let K = revoke-all by_error (about h) (switched w false) (switched_to h false) (revoke_pending RelayDisabled)
    RelayDisabled is_pending (λ x. true) every_open
    (λ x. sym (and-true x.used))
    (λ x k A. refl)
    is_circuit (λ x. true) every_circuit (λ x. sym (and-true x.used)) (λ x k A. refl)
    (λ i s a. refl) (revoking every_open RelayDisabled)
    (labelled every_open every_circuit (switched_to h false) R.base.names)
    (record { full = B.full; rest = rest-same (switched w false) }) in record {
      base =
          shrink-base B _ _ _ K
          (λ i. less h.active (λ j. not true) i)
          (λ i. less h.opens.standing (λ j. not true) i);
      quiet = λ e j. and-false (h.active j);
      quiet_p = λ e j. and-false (h.opens.standing j);
    }

beq_off : (x y : Bool) → not (beq x y) ≡ false → beq x y ≡ true
beq_off x y e = not-false (beq x y) e

beq_false : (x : Bool) → beq x true ≡ false → x ≡ false
beq_false true e = absurd (true≢false e)
beq_false false e = refl

switch_keeps : {w : World} {h : Past} → Rel w h → (on : Bool) → beq h.head.enabled on ≡ false
    → let o = switch_to w on in Rel o.world (enable_in on o.routes h) × (o.answer ≡ Ok tt)
unfolding switch_to revoke_all
switch_keeps {w} {h} R true e = (
  subst (λ b. Rel (switched w true) (cond b h (switched_to h true))) (sym e)
      (on-keeps R (beq_false h.head.enabled e)),
  refl,
)
switch_keeps {w} {h} R false e = (
  subst (λ b. Rel (switch_to w false).world
      (cond b h
      (revoked (switched_to h false) every_open every_circuit (map (heard (about h)) (switch_to w false).routes))))
      (sym e) (off-keeps R),
  refl,
)

pub replace_keeps : {w : World} {h : Past} → Rel w h → (expected : ℕ) (on : Bool) (room : ℕ)
    → let o = replace_enabled w expected on room in
    Rel o.world (after h (call_replace_enabled expected on room) o.answer o.routes)
unfolding replace_enabled
replace_keeps {w} {h} R expected on room =
    proceed-cases P w
    (room_answer w room (revoking_words w)
    then generation_answer (generation_of w) expected
    then change_answer (generation_of w) (changes w on)) (cond (changes w on) (switch_to w on) (done w []))
    (λ e. choose P (changes w on) (switch_to w on) (done w [])
    (λ c. let s = switch_keeps R on
    (ap (λ b. beq b on) (sym R.base.heads.enabled) ∙ not-true (beq w.runtime.enabled on) c) in
    subst (λ a. Rel (switch_to w on).world (cond (taken a) (enable_in on (switch_to w on).routes h) h))
    (sym s.1) s.0)
    (λ c. subst (λ b. Rel w
    (cond b h
    (cond on (emit (switched_to h on) (heard (λ r. r.context)) [])
    (revoked (switched_to h on) every_open every_circuit []))))
    (sym (ap (λ b. beq b on) (sym R.base.heads.enabled) ∙ beq_off w.runtime.enabled on c)) R))
    (λ e f. if-taken (λ (g : Past). Rel w g) e _ h R)
  where
    P : Outcome → Type 0
    P o = Rel o.world (after h (call_replace_enabled expected on room) o.answer o.routes)
