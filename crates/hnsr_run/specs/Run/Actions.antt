-- The table of actions holds what is outstanding: for every f the total over the used places is the total over the
-- list. What queueing, dropping and removing one do to that.
use Rattle.std.specs.Prelude.{ℕ, ◌+◌, ◌≤◌, ◌<◌, ◌≡◌, refl, Bool, true, false, Ok}
use Rattle.std.specs.Prelude.{cond, not, ◌&&◌, List, [], ◌∷◌, ◌++◌, length}
use native.Mathlib.Omega.{arith}
use Rattle.std.proofs.Math.Path.{sym}
use Rattle.std.proofs.Common.{◌∙◌, eq-eqb}
use Rattle.std.proofs.Math.Dec.{eqb}
use Rattle.std.proofs.lemmas.Bool.{eqb-false}
use Rattle.hns_encoding.specs.Laws.Tests.{split}
use Rattle.hns_encoding.specs.Sums.{only, one, non, total, count}
use Rattle.hns_encoding.specs.Laws.Sums.{total_ext, total-le, total-append}
use Rattle.hnsr_circuit.specs.declared.peer.HnsrPeerId.{HnsrPeerId}
use Rattle.hnsr_circuit.specs.declared.config.OpaqueRelayConfig.{OpaqueRelayConfig}
use Rattle.hnsr_circuit.specs.declared.records.InflightAction.{InflightAction}
use Rattle.hnsr_circuit.specs.declared.answer.HnsrRuntimeError.TheVariants.{Capacity}
use Rattle.hnsr_circuit.specs.Table.{also, any, pick, put, edit, clear, keep}
use Rattle.hnsr_circuit.specs.Inflight.{no_action, is_action, action_at, action_under, action_toward}
use Rattle.hnsr_circuit.specs.Inflight.{clear_action, retained, tallied, capacity_left, capacity_answer}
use Rattle.hnsr_circuit.specs.Peer.{same_peer}
use Rattle.hnsr_circuit.specs.Queue.{Message, action_for}
use Rattle.hnsr_circuit.specs.Laws.Totals.{total-keep, keep-le, total-also, ones_length}
use Rattle.hnsr_circuit.specs.Laws.Lookups.{count_none, total-key}
use Rattle.hnsr_circuit.specs.Laws.Marks.{clear-total, clear-length, length-put}
use Rattle.hnsr_circuit.specs.Laws.Edits.{edit-clear}
use Rattle.hnsr_circuit.specs.Laws.Answers.{check-taken}
use Rattle.hnsr_circuit.specs.Laws.Inflight.{all-counted, some-counted}
use Rattle.hnsr_circuit.specs.Laws.Bag.{Bag, Held, held-count, held_any, queue-held}
use Rattle.hnsr_run.specs.Past.{Action, on_circuit, toward, numbered, tally}

abbrev pub view : InflightAction → Action
view i = record {
  generation = i.generation;
  sequence = i.sequence;
  circuit = i.circuit_id;
  destination = i.destination;
  kind = i.kind;
  to_endpoint = i.to_endpoint;
  bytes = i.bytes;
}

abbrev pub marked : Action → InflightAction
marked a = record {
  used = true;
  generation = a.generation;
  sequence = a.sequence;
  circuit_id = a.circuit;
  destination = a.destination;
  kind = a.kind;
  to_endpoint = a.to_endpoint;
  bytes = a.bytes;
}

abbrev pub in_use : InflightAction → Bool
in_use i = i.used

abbrev pub actions : Bag InflightAction Action
actions = record {
  used = in_use;
  unmark = clear_action;
  off = λ i. refl;
  blank = no_action;
  view = view;
  mark = marked;
  view-mark = λ a. refl;
  used-mark = λ a. refl;
  number = λ a. a.sequence;
}

abbrev pub holding : (Action → Bool) → InflightAction → Bool
holding p i = i.used && p (view i)

-- an action of another generation
abbrev pub foreign : ℕ → Action → Bool
foreign g a = not (eqb a.generation g)

pub record Acts (c : OpaqueRelayConfig) (g next : ℕ) (t : List InflightAction) (out : List Action) : Type 0 where
  pub places : c.maximum_inflight_actions ≤ length t
  pub held : Held actions t out next
  pub ours : count (foreign g) out ≡ 0

-- at most one has both numbers
pub both-once : {t : List InflightAction} {out : List Action} {next : ℕ} → Held actions t out next → (g s : ℕ)
    → count (numbered g s) out ≤ 1
both-once {t} {out} H g s =
    omega (arith, H.once s, total-le (one (numbered g s)) (one (λ a. eqb a.sequence s)) out each)
  where
    each : (a : Action) → one (numbered g s) a ≤ one (λ a. eqb a.sequence s) a
    each a = split (eqb a.generation g) (λ e. rw e (omega arith)) (λ e. rw e (omega arith))

-- a put of what no lookup finds does not depend on the lookup
put-fresh : {A : Type 0} (used p q : A → Bool) (r : A) (t : List A) → any p t ≡ false → any q t ≡ false
    → put used p r t ≡ put used q r t
put-fresh used p q r t e f = rw (e, f)

module _ {c : OpaqueRelayConfig} {g next : ℕ} {t : List InflightAction} {out : List Action}
    (R : Acts c g next t out) where
  -- no used action has the next number, or one behind it
  pub none-numbered : (s : ℕ) → next ≤ s → any (action_at g s) t ≡ false
  unfolding action_at
  none-numbered s l = count_none _ t (held-count actions R.held (numbered g s) ∙ none)
    where
      none : count (numbered g s) out ≡ 0
      none = let z = R.held.below s l in
          let k = total-le (one (numbered g s)) (one (λ a. eqb a.sequence s)) out
          (λ a. split (eqb a.generation g) (λ e. rw e (omega arith)) (λ e. rw e (omega arith))) in
          omega arith

  queue-table : (r : InflightAction)
      → put is_action (action_at g next) r t ≡ put in_use (λ i. i.used && eqb i.sequence next) r t
  unfolding is_action action_at
  queue-table r =
      put-fresh in_use (λ i. i.used && (eqb i.generation g && eqb i.sequence next))
      (λ i. i.used && eqb i.sequence next) r t
      (none-numbered next (omega arith))
      (count_none _ t (held-count actions R.held (λ a. eqb a.sequence next) ∙ R.held.below next (omega arith)))

  pub queue-acts : (m : Message) → count in_use t < c.maximum_inflight_actions
      → Acts c g (next + 1) (put is_action (action_at g next) (action_for m g next) t)
      (out ++ (view (action_for m g next) ∷ []))
  queue-acts m l =
      rw (queue-table (action_for m g next))
      (record {
        places =
            omega (
              arith,
              R.places,
              length-put in_use clear_action (λ i. i.used && eqb i.sequence next) (action_for m g next) t,
            );
        held = queue-held actions R.held (view (action_for m g next)) (omega (arith, R.places)) refl;
        ours = omega (arith, total-append (one (foreign g)) out (view (action_for m g next) ∷ []), R.ours, own);
      })
    where
      own : one (foreign g) (view (action_for m g next)) ≡ 0
      own = rw (eq-eqb g g refl)

  pub drop-acts : (p : Action → Bool) → Acts c g next (clear clear_action (holding p) t) (keep (non p) out)
  drop-acts p = record {
    places = omega (arith, R.places, clear-length in_use clear_action (λ i. refl) (holding p) t);
    held = record {
      same =
          λ f. clear-total in_use clear_action (λ i. refl) (holding p) (λ i. f (view i)) t
          ∙ total_ext _ _ t (λ i. each i.used (p (view i)) (f (view i)))
          ∙ R.held.same (only (non p) f) ∙ sym (total-keep f (non p) out);
      once = λ q. omega (arith, keep-le (one (λ a. eqb a.sequence q)) (non p) out, R.held.once q);
      below = λ q l. omega (arith, keep-le (one (λ a. eqb a.sequence q)) (non p) out, R.held.below q l);
    };
    ours = omega (arith, keep-le (one (foreign g)) (non p) out, R.ours);
  }
    where
      each : (u b : Bool) (n : ℕ) → cond u (cond (not (u && b)) n 0) 0 ≡ cond u (cond (not b) n 0) 0
      each true b n = refl
      each false b n = refl

  -- the one that is acknowledged
  pub remove_acts : (g' s : ℕ) → Acts c g next (edit (action_at g' s) clear_action t) (keep (non (numbered g' s)) out)
  unfolding action_at
  remove_acts g' s = rw (edit-clear (holding (numbered g' s)) clear_action t (omega (
    arith,
    held-count actions R.held (numbered g' s),
    both-once
        R.held g' s,
  ))) (drop-acts (numbered g' s))

  -- f of the record found is f of the action in the list
  pub found-is : (g' s : ℕ) → any (numbered g' s) out ≡ true → (f : Action → ℕ)
      → total (only (numbered g' s) f) out ≡ f (view (pick (action_at g' s) no_action t))
  unfolding action_at
  found-is g' s e f =
      sym (R.held.same (only (numbered g' s) f))
      ∙ sym (total-also in_use (λ i. numbered g' s (view i)) (λ i. f (view i)) t)
      ∙ total-key (holding (numbered g' s)) (λ i. f (view i)) no_action t
      (omega (arith, held-count actions R.held (numbered g' s), both-once R.held g' s))
      (held_any actions R.held (numbered g' s) ∙ e)

-- ---- room
pub room_of_lem : (c : OpaqueRelayConfig) (circuit : ℕ) (peer : HnsrPeerId) (t : List InflightAction)
    → capacity_answer c (tallied false circuit peer t) ≡ Ok tt
    → count in_use t < c.maximum_inflight_actions
unfolding capacity_answer capacity_left tallied is_action
room_of_lem c circuit peer t h =
    let e = check-taken (eqb (capacity_left c (tallied false circuit peer t)) 0) Capacity h in
    omega (
      arith,
      eqb-false (capacity_left c (tallied false circuit peer t)) 0 e,
      all-counted circuit t,
    )

-- the counts of the table are those of the list
pub tally-held : {c : OpaqueRelayConfig} {g next : ℕ} {t : List InflightAction} {out : List Action}
    → Acts c g next t out → (j : ℕ) (peer : HnsrPeerId)
    → tallied false j peer t ≡ tally j peer out
unfolding tallied is_action action_under action_toward
tally-held {t = t} {out = out} R j peer = λ i. record { total = all i; for_circuit = on i; for_peer = to i }
  where
    all : count (retained false j) t ≡ length out
    all = all-counted j t ∙ R.held.same (λ a. 1) ∙ ones_length out

    on : count (also (retained false j) (λ i. i.used && eqb i.circuit_id j)) t ≡ count (on_circuit j) out
    on = some-counted j t (λ i. on_circuit j (view i)) ∙ R.held.same (one (on_circuit j))

    to : count (also (retained false j) (λ i. i.used && same_peer i.destination peer)) t ≡ count (toward peer) out
    to = some-counted j t (λ i. toward peer (view i)) ∙ R.held.same (one (toward peer))
