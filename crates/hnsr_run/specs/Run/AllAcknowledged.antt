-- Every order of the outstanding actions: acknowledging each once as delivered is taken each time, and leaves nothing
-- outstanding.
use Rattle.std.specs.Prelude.{ℕ, ◌≤◌, ◌<◌, ◌≡◌, refl, Bool, true, false, cond, not, Ok}
use Rattle.std.specs.Prelude.{◌&&◌, List, [], ◌∷◌, map, eqb, length, replicate}
use Rattle.std.proofs.Common.{arith, sym, ap, ◌∙◌, subst, eqb-true, eq-eqb, le-ltb}
use Rattle.hns_encoding.specs.Numbers.{top}
use Rattle.hns_encoding.specs.Sums.{only, one, non, total, count}
use Rattle.hnsr_circuit.specs.Answers.{HnsrAnswer, check, ◌then◌}
use Rattle.hnsr_circuit.specs.declared.answer.HnsrRuntimeError.TheVariants.{Short, StaleGeneration, UnknownAction}
use Rattle.hnsr_circuit.specs.Table.{any, pick, keep}
use Rattle.hnsr_circuit.specs.Inflight.{no_action, action_at}
use Rattle.hnsr_circuit.specs.World.{World, Outcome, config_of, done, proceed}
use Rattle.hnsr_circuit.specs.Queue.{generation_of, sequence_of}
use Rattle.hnsr_circuit.specs.Entry.{acknowledge_words}
use Rattle.hnsr_circuit.specs.Acknowledge.{generation_answer, action_answer, without_action, released}
use Rattle.hnsr_circuit.specs.Acknowledge.{settled, acknowledge_taken, acknowledge_action, acknowledge}
use Rattle.hnsr_circuit.specs.Call.{call_acknowledge, step}
use Rattle.hnsr_circuit.specs.Laws.Totals.{total-keep, total-others}
use Rattle.hnsr_circuit.specs.Laws.Lookups.{count-any}
use Rattle.hnsr_run.specs.Past.{Action, Past, numbered, without, with_out}
use Rattle.hnsr_run.specs.Claim.{Reordered, left_by, events, delivered}
use Rattle.hnsr_run.specs.Run.Actions.{foreign, both-once}
use Rattle.hnsr_run.specs.Run.Undelivered.{action-found}
use Rattle.hnsr_run.specs.Run.Acknowledge.{settled-keeps}
use Rattle.hnsr_run.specs.Run.Rel.{Rel, Places, shrink}
use Rattle.hnsr_run.specs.Run.Steps.{room-same}
use Rattle.hnsr_run.specs.Run.Runs.{places-kept}

-- ---- an order's first, and its rest
module _ (a : Action) (rest out : List Action) (s : Reordered (a ∷ rest) out) where
  abbrev me : Action → Bool
  me = numbered a.generation a.sequence

  itself : numbered a.generation a.sequence a ≡ true
  itself =
      ap (λ b. b && eqb a.sequence a.sequence) (eq-eqb a.generation a.generation refl)
      ∙ eq-eqb a.sequence a.sequence refl

  one-me : one me a ≡ 1
  one-me = ap (λ b. cond {A = ℕ} b 1 0) itself

  pub first-there : any me out ≡ true
  first-there = count-any me out (let k = s (one me) in omega (arith, one-me))

  pub first-ours : (g : ℕ) → count (foreign g) out ≡ 0 → a.generation ≡ g
  first-ours g z =
      eqb-true a.generation g (flip (eqb a.generation g) (let k = s (one (foreign g)) in omega arith))
    where
      flip : (b : Bool) → cond {A = ℕ} (not b) 1 0 ≡ 0 → b ≡ true
      flip true e = refl
      flip false e = absurd (omega arith)

  pub rest_ordered : count me out ≤ 1 → Reordered rest (keep (non me) out)
  rest_ordered c f =
      let k = s (one me) in
      let z : count me rest ≡ 0 = omega (arith, one-me) in
      let l = s (only (non me) f) in
      let m : only (non me) f a ≡ 0 = ap (λ b. cond (not b) (f a) 0) itself in
      omega (arith, total-others me f rest z, total-keep f (non me) out)

nothing_left : {A : Type 0} (t : List A) → total (λ a. 1) t ≡ 0 → t ≡ []
nothing_left [] h = refl
nothing_left (x ∷ xs) h = absurd (omega arith)

-- ---- one acknowledged
ack_taken : (w : World) → Places w → (g s room : ℕ) → g ≡ generation_of w → any (action_at g s) w.inflight ≡ true
    → acknowledge_words ≤ room
    → acknowledge_taken w g s room ≡ Ok tt
unfolding acknowledge_taken generation_answer action_answer
ack_taken w H g s room e f l =
    ap (λ (a : HnsrAnswer). a
    then check (not (eqb g (generation_of w))) StaleGeneration
    then check (not (any (action_at g s) w.inflight)) UnknownAction)
    (room-same w H room acknowledge_words ∙ ap (λ b. check b Short) (le-ltb room acknowledge_words l))
    ∙ ap (λ b. check (not b) StaleGeneration then check (not (any (action_at g s) w.inflight)) UnknownAction)
    (eq-eqb g (generation_of w) e)
    ∙ ap (λ b. check (not b) UnknownAction) f

abbrev next : World → ℕ → ℕ → World
next w g s = released (without_action w g s) (pick (action_at g s) no_action w.inflight)

ack_step : (w : World) (g s room : ℕ) → acknowledge_taken w g s room ≡ Ok tt
    → step w (call_acknowledge g s true room) ≡ done (next w g s) []
unfolding step acknowledge acknowledge_action settled proceed
ack_step w g s room e = rw e

next-sequence : (w : World) (g s : ℕ) → sequence_of (next w g s) ≡ sequence_of w
unfolding released
next-sequence w g s = refl

-- ---- all of them
pub record AllAcknowledged (rooms : Action → ℕ) (order : List Action) (w : World) (h : Past) : Type 0 where
  pub answers : map (λ e. e.answer) (events step w (map (delivered step rooms) order))
      ≡ replicate (length order) (Ok tt)
  pub rel : Rel (left_by step w (map (delivered step rooms) order)) (with_out h [])
  pub places : Places (left_by step w (map (delivered step rooms) order))
  pub low : sequence_of (left_by step w (map (delivered step rooms) order)) < top 64

acknowledge-one : (rooms : Action → ℕ) (a : Action) (rest : List Action) (w v : World) (h : Past) (p : Action → Bool)
    → step w (delivered step rooms a) ≡ done v []
    → AllAcknowledged rooms rest v (without h p) → AllAcknowledged rooms (a ∷ rest) w h
acknowledge-one rooms a rest w v h p st D = record {
  answers =
      subst
      (λ (o : Outcome). (o.answer ∷ map (λ e. e.answer) (events step o.world (map (delivered step rooms) rest)))
      ≡ replicate (length (a ∷ rest)) (Ok tt)) (sym st) (ap {B = List HnsrAnswer} (λ l. Ok tt ∷ l) D.answers);
  rel =
      subst (λ (o : Outcome). Rel (left_by step o.world (map (delivered step rooms) rest)) (with_out h []))
      (sym st) D.rel;
  places =
      subst (λ (o : Outcome). Places (left_by step o.world (map (delivered step rooms) rest))) (sym st) D.places;
  low =
      subst (λ (o : Outcome). sequence_of (left_by step o.world (map (delivered step rooms) rest)) < top 64)
      (sym st) D.low;
}

pub acknowledge-all : (rooms : Action → ℕ) → ((a : Action) → acknowledge_words ≤ rooms a)
    → (order : List Action) (w : World) (h : Past) → Rel w h → Places w
    → sequence_of w < top 64 → Reordered order h.out → AllAcknowledged rooms order w h
acknowledge-all rooms enough [] w h R H low s = record {
  answers = refl;
  rel = subst (λ o. Rel w (with_out h o)) (nothing_left h.out (sym (s (λ a. 1)))) R;
  places = H;
  low = low;
}
acknowledge-all rooms enough (a ∷ rest) w h R H low s =
    let A = R.base.full.acts in
    let g = a.generation in
    let q = a.sequence in
    let f = first-there a rest h.out s in
    let e = first-ours a rest h.out s (generation_of w) A.ours in
    let t = ack_taken w H g q (rooms a) e (action-found w h R.base.full g q ∙ f) (enough a) in
    let st = ack_step w g q (rooms a) t in
    let R₁ = shrink R h.active h.opens.standing (keep (non (numbered g q)) h.out)
    (settled-keeps w h R.base.full g q f) (λ i x. x) (λ i x. x) in
    let H₁ = subst (λ (o : Outcome). Places o.world) st
    (places-kept (call_acknowledge g q true (rooms a)) H
    (ap (λ (o : Outcome). config_of o.world) st ∙ R₁.base.heads.config ∙ sym R.base.heads.config)) in
    acknowledge-one rooms a rest w (next w g q) h (numbered g q) st
    (acknowledge-all rooms enough rest (next w g q) (without h (numbered g q)) R₁ H₁ (subst
    (λ n. n < top 64) (sym (next-sequence w g q)) low) (rest_ordered a rest h.out s (both-once A.held g q)))
