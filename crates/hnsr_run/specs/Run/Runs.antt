-- The invariant over a whole run: the configuration stays, so the tables stay long enough, and each step keeps the
-- rest.
use Rattle.std.specs.Prelude.{◌+◌, ◌<◌, ◌≡◌, true, cond, List, [], ◌∷◌, ltb, eqb, length}
use Rattle.std.proofs.Common.{arith, sym, ap, ◌∙◌, ltb-true}
use Rattle.hns_encoding.specs.Numbers.{top}
use Rattle.hns_encoding.specs.Laws.Tests.{both}
use Rattle.hnsr_circuit.specs.declared.config.OpaqueRelayConfig.{OpaqueRelayConfig}
use Rattle.hnsr_circuit.specs.World.{World, config_of}
use Rattle.hnsr_circuit.specs.Queue.{sequence_of}
use Rattle.hnsr_circuit.specs.Call.{Call, step}
use Rattle.hnsr_circuit.specs.Laws.StepPlaces.{step-places}
use Rattle.hnsr_run.specs.Past.{Past}
use Rattle.hnsr_run.specs.History.{Event, after_event, reckon}
use Rattle.hnsr_run.specs.Sequence.{same-config, next-after}
use Rattle.hnsr_run.specs.Claim.{left_by, events, below, limits_below}
use Rattle.hnsr_run.specs.Run.Rel.{Rel, Places, numbering-rel}
use Rattle.hnsr_run.specs.Run.Steps.{event_of, step_keeps}
use Rattle.hnsr_run.specs.Run.Numbers.{step-numbered}

-- ---- between two calls of a run
pub record Between (w : World) (h : Past) : Type 0 where
  pub rel : Rel w h
  pub places : Places w
  -- the sequence is what the events tell
  pub next : sequence_of w ≡ h.head.next

pub places-kept : {w : World} (c : Call) → Places w → config_of (step w c).world ≡ config_of w → Places (step w c).world
places-kept {w} c H e = let m = step-places w c in record {
  pending = omega (arith, H.pending, m.pending, ap (λ (k : OpaqueRelayConfig). k.maximum_pending) e);
  circuits = omega (arith, H.circuits, m.circuits, ap (λ (k : OpaqueRelayConfig). k.maximum_circuits) e);
  inflight = omega (arith, H.inflight, m.inflight, ap (λ (k : OpaqueRelayConfig). k.maximum_inflight_actions) e);
}

-- ---- one step, and a run
step-between : {w : World} {h : Past} → Between w h → sequence_of w < top 64 → (c : Call) → limits_below c ≡ true
    → (after_event h (event_of w c)).head.next < top 64 → Between (step w c).world (after_event h (event_of w c))
step-between {w} {h} B low c lim next =
    let R = B.rel in
    let R₁ = numbering-rel (step_keeps R B.places B.next low c lim next) (length (step w c).routes) in
    record {
      rel = R₁;
      places = places-kept c B.places
          (R₁.base.heads.config ∙ same-config h (event_of w c) ∙ sym R.base.heads.config);
      next = step-numbered w c
          ∙ (λ i. cond (eqb (R₁.base.heads.generation i) (R.base.heads.generation i)) (B.next i) 1
          + length (step w c).routes)
          ∙ sym (next-after h (event_of w c));
    }

below-now : (h : Past) (es : List Event) → below h es ≡ true → h.head.next < top 64
below-now h [] b = ltb-true h.head.next (top 64) b
below-now h (e ∷ es) b = ltb-true h.head.next (top 64) (both (ltb h.head.next (top 64)) _ b).0

pub run-between : (cs : List Call) (w : World) (h : Past) → Between w h → below h (events step w cs) ≡ true
    → Between (left_by step w cs) (reckon h (events step w cs)) × (sequence_of (left_by step w cs) < top 64)
run-between [] w h B b = (B, omega (arith, B.next, below-now h [] b))
run-between (c ∷ cs) w h B b =
    let g = after_event h (event_of w c) in
    let es = events step (step w c).world cs in
    let x = both (limits_below c) (below g es) (both (ltb h.head.next (top 64)) _ b).1 in
    let low : sequence_of w < top 64 = omega (arith, B.next, below-now h (event_of w c ∷ es) b) in
    run-between cs (step w c).world g (step-between B low c x.0 (below-now g es x.1)) x.1
