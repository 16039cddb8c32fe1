-- A taken `new` starts the invariant; and over a run the tables stay as long as they were.
use Rattle.std.specs.Prelude.{ℕ, ◌≤◌, ◌<◌, ◌≡◌, Bool, not, ◌&&◌, ◌||◌, List, [], ltb, eqb, length, Ok, Err}
use native.Mathlib.Omega.{arith}
use Rattle.std.proofs.Math.Path.{refl}
use Rattle.std.proofs.Common.{sym, ap, ◌∙◌, subst, true≢false, ltb-false}
use Rattle.std.proofs.Math.Bool.{true, false, cond}
use Rattle.std.proofs.lemmas.Bool.{false≢true, not-false}
use Rattle.hns_encoding.specs.Numbers.{top}
use Rattle.hns_encoding.specs.Laws.Tests.{choose, neither}
use Rattle.hns_encoding.specs.Sums.{one, count}
use Rattle.hns_encoding.specs.Laws.Sums.{total-map, total-zero}
use Rattle.hnsr_circuit.specs.declared.config.OpaqueRelayConfig.{OpaqueRelayConfig}
use Rattle.hnsr_circuit.specs.declared.answer.HnsrRuntimeError.TheVariants.{Short, InvalidConfig}
use Rattle.hnsr_circuit.specs.Answers.{HnsrAnswer, check, ◌then◌}
use Rattle.hnsr_circuit.specs.Table.{any, clear, cleared}
use Rattle.hnsr_circuit.specs.Config.{config_good, validate_config}
use Rattle.hnsr_circuit.specs.Pending.{is_pending, pending_at, clear_pending}
use Rattle.hnsr_circuit.specs.Circuits.{is_circuit, circuit_at, clear_circuit}
use Rattle.hnsr_circuit.specs.Ledger.{is_usage, usage_at, clear_usage}
use Rattle.hnsr_circuit.specs.Inflight.{is_action, clear_action, dropped}
use Rattle.hnsr_circuit.specs.Runtime.{new_runtime}
use Rattle.hnsr_circuit.specs.World.{World, done, proceed}
use Rattle.hnsr_circuit.specs.Queue.{sequence_of}
use Rattle.hnsr_circuit.specs.Entry.{too_few, tables_short}
use Rattle.hnsr_circuit.specs.New.{session_answer, new_answer, emptied, new_relay}
use Rattle.hnsr_circuit.specs.Call.{Start, start}
use Rattle.hnsr_circuit.specs.Laws.Answers.{then_taken, check-taken}
use Rattle.hnsr_circuit.specs.Laws.Lookups.{count_none}
use Rattle.hnsr_circuit.specs.Laws.Marks.{clear-total, clear-length}
use Rattle.hnsr_run.specs.History.{begin}
use Rattle.hnsr_run.specs.Run.Actions.{view}
use Rattle.hnsr_run.specs.Run.Rel.{Rel, Places, refused_differs}

-- ---- NEW.4: every place is unused
module _ {A : Type 0} (used : A → Bool) (unmark : A → A) (off : (a : A) → used (unmark a) ≡ false) (p : A → Bool)
    (under : (a : A) → used a ≡ false → p a ≡ false) where
  blank : (a : A) → p (cleared unmark used a) ≡ false
  blank a = choose (λ (x : A). p x ≡ false) (used a) (unmark a) a (λ e. under (unmark a) (off a)) (λ e. under a e)

  pub none-counted : (t : List A) → count p (clear unmark used t) ≡ 0
  none-counted t =
      total-map (one p) (cleared unmark used) t
      ∙ total-zero (λ a. one p (cleared unmark used a)) t (λ a. ap (λ b. cond {A = ℕ} b 1 0) (blank a))

  pub none_found : (t : List A) → any p (clear unmark used t) ≡ false
  none_found t = count_none p (clear unmark used t) (none-counted t)

unused : (u b : Bool) → u ≡ false → (u && b) ≡ false
unused u b e = ap (λ x. x && b) e

new-taken : (w : World) (s : Start) → (start w s).answer ≡ Ok tt
    → new_answer w s.session s.generation s.config ≡ Ok tt
unfolding start new_relay proceed
new-taken w s e = from (new_answer w s.session s.generation s.config) e
  where
    from : (a : HnsrAnswer)
        → (proceed w a (done (emptied w (new_runtime s.session s.generation s.config s.now)) [])).answer
        ≡ Ok tt → a ≡ Ok tt
    from (Ok _) h = refl
    from (Err x) h = refused_differs h

new-world : (w : World) (s : Start) → new_answer w s.session s.generation s.config ≡ Ok tt
    → (start w s).world ≡ emptied w (new_runtime s.session s.generation s.config s.now)
unfolding start new_relay proceed
new-world w s e = rw e

record NewRows (w : World) (c : OpaqueRelayConfig) : Type 0 where
  good : config_good c ≡ true
  short : tables_short c w ≡ false

new-rows : (w : World) (s : Start) → new_answer w s.session s.generation s.config ≡ Ok tt
    → NewRows w s.config
unfolding new_answer validate_config
new-rows w s e =
    let session = session_answer s.session s.generation in
    let valid = check (not (config_good s.config)) InvalidConfig in
    let none = eqb (length w.ledger) 0 in
    let last = check (tables_short s.config w || none) Short in
    let a = then_taken valid last (then_taken session (valid then last) e).1 in record {
      good = not-false (config_good s.config) (check-taken (not (config_good s.config)) InvalidConfig a.0);
      short =
          (neither (tables_short s.config w) none (check-taken (tables_short s.config w || none) Short a.1)).0;
    }

record Long (w : World) (c : OpaqueRelayConfig) : Type 0 where
  pending : c.maximum_pending ≤ length w.pending
  circuits : c.maximum_circuits ≤ length w.circuits
  inflight : c.maximum_inflight_actions ≤ length w.inflight

long : (w : World) (c : OpaqueRelayConfig) → tables_short c w ≡ false → Long w c
unfolding tables_short too_few
long w c e =
    let x = ltb (length w.pending) c.maximum_pending in
    let y = ltb (length w.circuits) c.maximum_circuits in
    let z = ltb (length w.inflight) c.maximum_inflight_actions in
    let a = neither (x || y) z e in
    let b = neither x y a.0 in
    record {
      pending = ltb-false (length w.pending) c.maximum_pending b.0;
      circuits = ltb-false (length w.circuits) c.maximum_circuits b.1;
      inflight = ltb-false (length w.inflight) c.maximum_inflight_actions a.1;
    }

module _ (w : World) (s : Start) (D : NewRows w s.config)
    (low : s.config.maximum_bytes_per_circuit < top 64) where
  abbrev fresh : World
  fresh = emptied w (new_runtime s.session s.generation s.config s.now)

  lengths : Long w s.config
  lengths = long w s.config D.short

  empty_places : Places fresh
  unfolding emptied dropped is_pending is_circuit is_action
  empty_places = record {
    pending = omega (arith, lengths.pending, clear-length is_pending clear_pending (λ p. refl) is_pending w.pending);
    circuits =
        omega (arith, lengths.circuits, clear-length is_circuit clear_circuit (λ p. refl) is_circuit w.circuits);
    inflight = omega (arith, lengths.inflight, clear-length is_action clear_action (λ p. refl) is_action w.inflight);
  }

  empty_rel : Rel fresh (begin s)
  unfolding emptied dropped is_pending is_circuit is_action is_usage pending_at circuit_at usage_at
  empty_rel = record {
    base = record {
      full = record {
        acts = record {
          places = empty_places.inflight;
          held = record {
            same =
                λ f. clear-total is_action clear_action (λ i. refl) is_action (λ i. f (view i)) w.inflight
                ∙ total-zero _ w.inflight (λ i. gone i.used (f (view i)));
            once = λ q. omega arith;
            below = λ q l. refl;
          };
          ours = refl;
        };
        circs = record {
          once = λ j. omega (
            arith,
            none-counted is_circuit clear_circuit (λ c. refl) (circuit_at j)
                (λ c e. unused c.used (eqb c.circuit_id j) e) w.circuits,
          );
          found =
              λ j. none_found is_circuit clear_circuit (λ c. refl) (circuit_at j)
              (λ c e. unused c.used (eqb c.circuit_id j) e) w.circuits;
          agree = λ j a. absurd (false≢true a);
        };
        queue = record { queued = λ j s a. absurd (false≢true a); honest = refl };
        pends = record {
          once = λ j. omega (
            arith,
            none-counted is_pending clear_pending (λ c. refl) (pending_at j)
                (λ c e. unused c.used (eqb c.circuit_id j) e) w.pending,
          );
          found =
              λ j. none_found is_pending clear_pending (λ c. refl) (pending_at j)
              (λ c e. unused c.used (eqb c.circuit_id j) e) w.pending;
          agree = λ j a. absurd (false≢true a);
        };
        disjoint = λ j s. refl;
        real = λ j a. absurd (false≢true a);
        real_p = λ j a. absurd (false≢true a);
      };
      books = record {
        once =
            λ r. omega
            (arith, none-counted is_usage clear_usage (λ c. refl) (usage_at r) (λ u e. unused u.used _ e) w.ledger);
        there = λ r e. absurd (false≢true e);
        stands = λ r e. absurd (false≢true e);
        known =
            λ r f e. absurd (true≢false
            (sym f ∙ none_found is_usage clear_usage (λ c. refl) (usage_at r) (λ u e. unused u.used _ e) w.ledger));
      };
      kept = λ j a. absurd (false≢true a);
      kept_p = λ j a. absurd (false≢true a);
      heads = record { generation = refl; enabled = refl; clock = refl; config = refl };
      names = λ j a. absurd (false≢true a);
      drawn = λ j a. absurd (false≢true a);
      drawn_p = λ j a. absurd (false≢true a);
      good = D.good;
      below = low;
    };
    quiet = λ e. absurd (true≢false e);
    quiet_p = λ e. absurd (true≢false e);
  }
    where
      gone : (u : Bool) (n : ℕ) → cond u (cond (not u) n 0) 0 ≡ 0
      gone true n = refl
      gone false n = refl

empty_sequence : (w : World) (s : Start)
    → sequence_of (emptied w (new_runtime s.session s.generation s.config s.now)) ≡ 1
unfolding emptied
empty_sequence w s = refl

pub start-rel : (w : World) (s : Start) → (start w s).answer ≡ Ok tt → s.config.maximum_bytes_per_circuit < top 64
    → Rel (start w s).world (begin s) × Places (start w s).world × (sequence_of (start w s).world ≡ 1)
start-rel w s e low =
    let t = new-taken w s e in
    let D = new-rows w s t in
    let p = sym (new-world w s t) in (
      subst (λ v. Rel v (begin s)) p (empty_rel w s D low),
      subst Places p (empty_places w s D low),
      ap sequence_of (new-world w s t) ∙ empty_sequence w s,
    )
