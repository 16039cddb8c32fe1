-- `expire` and next due, on any world: what a taken `expire` leaves behind is not over. And on one that has `Shape`:
-- before next due nothing is over, so `expire` moves the clock and does nothing else.
use Rattle.std.specs.Prelude.{ℕ, ◌≤◌, ◌≡◌, Bool, false, ◌&&◌, ◌||◌, ltb, set, Ok}
use Rattle.std.proofs.Common.{arith, ◌∙◌, leb-true, le-leb, le-ltb}
use Rattle.std.proofs.Math.Path.{refl, ap}
use Rattle.std.proofs.Math.Bool.{true}
use mathlib.Core.List.{List, []}
use Rattle.std.proofs.Math.Dec.{leb}
use Rattle.hns_encoding.specs.Laws.Tests.{split, both, join, clash}
use Rattle.hnsr_body.specs.declared.messages.Notice.{Notice}
use Rattle.hnsr_body.specs.declared.messages.Notice.TheVariants.{AcceptanceExpired, TicketExpired}
use Rattle.hnsr_circuit.specs.declared.records.RelayPending.{RelayPending}
use Rattle.hnsr_circuit.specs.declared.records.RelayCircuit.{RelayCircuit}
use Rattle.hnsr_circuit.specs.declared.records.ReservationUsage.{ReservationUsage}
use Rattle.hnsr_circuit.specs.declared.answer.HnsrRuntimeError.TheVariants.{Short, ClockRollback}
use Rattle.hnsr_circuit.specs.Answers.{HnsrAnswer, check, ◌then◌}
use Rattle.hnsr_circuit.specs.Table.{any, pick, also}
use Rattle.hnsr_circuit.specs.Pending.{no_pending, pending_id, is_pending, overdue, pending_over, clear_pending}
use Rattle.hnsr_circuit.specs.Circuits.{no_circuit, circuit_id, is_circuit, circuit_over, clear_circuit}
use Rattle.hnsr_circuit.specs.Ledger.{is_usage, usage_over, clear_usage, lapsed}
use Rattle.hnsr_circuit.specs.World.{World, Outcome, due_is, done, proceed, telling, with_ledger, at_time}
use Rattle.hnsr_circuit.specs.Queue.{Sent, and_then, finished}
use Rattle.hnsr_circuit.specs.Entry.{revoking_words, room_answer, tables_answer, clock_answer}
use Rattle.hnsr_circuit.specs.Revocation.{without_actions, pending_there, circuit_there, end_pending_there}
use Rattle.hnsr_circuit.specs.Revocation.{end_circuit_there, revoke_pending, revoke_circuit_there, walk}
use Rattle.hnsr_circuit.specs.Revocation.{pending_table, circuit_table, revoke_all}
use Rattle.hnsr_circuit.specs.RevokingCalls.{without_lapsed, expire_at, expire}
use Rattle.hnsr_circuit.specs.NextDue.{deadline_of, due_of, next_due}
use Rattle.hnsr_circuit.specs.Ends.{ends_by, NoneEndsBy}
use Rattle.hnsr_circuit.specs.Call.{step, call_next_due, call_expire}
use Rattle.hnsr_circuit.specs.Laws.Answers.{taken-check, taken_then}
use Rattle.hnsr_circuit.specs.Laws.Lookups.{pick-has, any_imp, any-pick}
use Rattle.hnsr_circuit.specs.Laws.Marks.{clear-same}
use Rattle.hnsr_circuit.specs.Laws.Due.{due-none, due-is-one, due-later}
use Rattle.hnsr_run.specs.Waking.{Wakes}
use Rattle.hnsr_run.specs.Run.Full.{SameTables, two-tables}
use Rattle.hnsr_run.specs.Run.Rel.{proceed-cases, refused_differs}
use Rattle.hnsr_run.specs.Run.Steps.{long_enough, room-same}
use Rattle.hnsr_run.specs.Run.WalkEnds.{nothing-cleared, walk_ends, walk-idle, walk-keeps}
use Rattle.hnsr_run.specs.Run.ShapeTables.{pick-fits}
use Rattle.hnsr_run.specs.Run.Shape.{Shape}
use Rattle.hnsr_run.specs.Run.ShapeCalls.{usage_unmarked}
use Rattle.hnsr_run.specs.Run.ShapeRuns.{step_shape, shape_places}

-- ---- an end clears the record at its place, and no other table
pending-ended : (n : Notice) (w : World) (place : ℕ)
    → SameTables (end_pending_there w place) (revoke_pending n w place).world
unfolding revoke_pending
pending-ended n w place = two-tables _ _ (end_pending_there w place)

circuit-ended : (n : Notice) (w : World) (place : ℕ)
    → SameTables (end_circuit_there w place) (revoke_circuit_there n w place).world
unfolding revoke_circuit_there
circuit-ended n w place = two-tables _ _ (end_circuit_there w place)

module _ (n : Notice) (w : World) (place : ℕ) where
  pending_clears : (revoke_pending n w place).world.pending
      ≡ set w.pending place (clear_pending (pending_there w place))
  unfolding end_pending_there without_actions
  pending_clears = (pending-ended n w place).pending

  pending-keeps-ledger : (revoke_pending n w place).world.ledger ≡ w.ledger
  unfolding end_pending_there without_actions
  pending-keeps-ledger = (pending-ended n w place).ledger

  circuit_clears : (revoke_circuit_there n w place).world.circuits
      ≡ set w.circuits place (clear_circuit (circuit_there w place))
  unfolding end_circuit_there without_actions
  circuit_clears = (circuit-ended n w place).circuits

  circuit-keeps-pending : (revoke_circuit_there n w place).world.pending ≡ w.pending
  unfolding end_circuit_there without_actions
  circuit-keeps-pending = (circuit-ended n w place).pending

  circuit-keeps-ledger : (revoke_circuit_there n w place).world.ledger ≡ w.ledger
  unfolding end_circuit_there without_actions
  circuit-keeps-ledger = (circuit-ended n w place).ledger

-- ---- after it, on any world
module _ (now : ℕ) where
  pending-off : (p : RelayPending) → pending_over now (clear_pending p) ≡ false
  unfolding pending_over
  pending-off p = refl

  circuit-off : (c : RelayCircuit) → circuit_over now (clear_circuit c) ≡ false
  unfolding circuit_over
  circuit-off c = refl

  usage_off : (u : ReservationUsage) → is_usage u ≡ false → usage_over now u ≡ false
  unfolding is_usage usage_over
  usage_off u e = ap (λ b. b && leb u.expires_at now) e

  -- a deadline that is over makes a pending record over
  none-by-deadline : (t : List RelayPending) → any (pending_over now) t ≡ false
      → any (ends_by is_pending deadline_of now) t ≡ false
  unfolding pending_over is_pending
  none-by-deadline t h = split (any (ends_by is_pending deadline_of now) t)
      (λ e. clash (any_imp (ends_by is_pending deadline_of now) (pending_over now) t over e) h) (λ e. e)
    where
      over : (p : RelayPending) → (p.used && leb p.deadline now) ≡ true → (p.used && overdue now p) ≡ true
      over p e = let k = both p.used (leb p.deadline now) e in
          join p.used (overdue now p) k.0 (ap (λ b. b || leb p.ticket.expires_at now) k.1)

  abbrev pending_walk : World → Sent
  pending_walk v = walk pending_id pending_table (pending_over now) (revoke_pending AcceptanceExpired) v

  abbrev circuit_walk : World → Sent
  circuit_walk v = walk circuit_id circuit_table (circuit_over now) (revoke_circuit_there TicketExpired) v

  left-none-over : (w : World) → NoneEndsBy (expire_at w now).world now
  unfolding expire_at revoke_all is_circuit circuit_over is_usage usage_over lapsed
  left-none-over w =
      let v = without_lapsed (at_time w now) now in
      let u = (pending_walk v).world in
      let same : (circuit_walk u).world.pending ≡ u.pending =
      walk-keeps circuit_id circuit_table (circuit_over now) (revoke_circuit_there TicketExpired) (λ x. x.pending)
      (circuit-keeps-pending TicketExpired) u in
      let kept : (circuit_walk u).world.ledger ≡ v.ledger =
      walk-keeps circuit_id circuit_table (circuit_over now) (revoke_circuit_there TicketExpired) (λ x. x.ledger)
      (circuit-keeps-ledger TicketExpired) u
      ∙ walk-keeps pending_id pending_table (pending_over now) (revoke_pending AcceptanceExpired) (λ x. x.ledger)
      (pending-keeps-ledger AcceptanceExpired) v in (
        none-by-deadline (circuit_walk u).world.pending
            (ap (λ (t : List RelayPending). any (pending_over now) t) same
            ∙ walk_ends pending_id pending_table (pending_over now) no_pending clear_pending
            (revoke_pending AcceptanceExpired) (pending_clears AcceptanceExpired) pending-off v),
        walk_ends circuit_id circuit_table (circuit_over now) no_circuit clear_circuit
            (revoke_circuit_there TicketExpired) (circuit_clears TicketExpired) circuit-off u,
        ap (λ (t : List ReservationUsage). any (usage_over now) t) kept
            ∙ clear-same is_usage clear_usage usage_unmarked (usage_over now) (usage_over now) w.ledger usage_off
            (λ a e. e),
      )

  taken-none-over : (w : World) (room : ℕ) → (step w (call_expire now room)).answer ≡ Ok tt
      → NoneEndsBy (step w (call_expire now room)).world now
  unfolding step expire
  taken-none-over w room = proceed-cases (λ (o : Outcome). o.answer ≡ Ok tt → NoneEndsBy o.world now) w
      (room_answer w room (revoking_words w) then clock_answer w.runtime.trusted_time_high_water now)
      (expire_at w now) (λ e x. left-none-over w) (λ e f x. refused_differs x)

  -- ---- before it: nothing is over, and nothing happens
  expire-idle : (w : World) → any (pending_over now) w.pending ≡ false → any (circuit_over now) w.circuits ≡ false
      → any (usage_over now) w.ledger ≡ false → expire_at w now ≡ done (at_time w now) []
  unfolding expire_at revoke_all lapsed
  expire-idle w p c l =
      let v = at_time w now in
      ap (λ (t : List ReservationUsage). finished (and_then (pending_walk (with_ledger v t)) circuit_walk))
      (nothing-cleared clear_usage (usage_over now) w.ledger l)
      ∙ ap (λ (s : Sent). finished (and_then s circuit_walk))
      (walk-idle pending_id pending_table (pending_over now) no_pending clear_pending (revoke_pending AcceptanceExpired)
      (pending_clears AcceptanceExpired) pending-off v p)
      ∙ ap (λ (s : Sent). finished (record { world = s.world; routes = s.routes }))
      (walk-idle circuit_id circuit_table (circuit_over now) no_circuit clear_circuit
      (revoke_circuit_there TicketExpired) (circuit_clears TicketExpired) circuit-off v c)

-- ---- next due, where the tables are long enough
module _ (w : World) (S : Shape w) where
  pub due-told : step w call_next_due ≡ telling w (due_is (due_of w))
  unfolding step next_due tables_answer proceed
  due-told = ap (λ b. proceed w (check b Short) (telling w (due_is (due_of w)))) (long_enough w (shape_places w S))

  -- a pending record that is over is so by its deadline: that is not later than its expiry
  none-overdue : (now : ℕ) → any (ends_by is_pending deadline_of now) w.pending ≡ false
      → any (pending_over now) w.pending ≡ false
  unfolding pending_over is_pending
  none-overdue now h = split (any (pending_over now) w.pending) (λ e. clash (found e) h) (λ e. e)
    where
      p : RelayPending
      p = pick (pending_over now) no_pending w.pending

      by : RelayPending → Bool
      by = ends_by is_pending deadline_of now

      found : any (pending_over now) w.pending ≡ true → any by w.pending ≡ true
      found e =
          let k = both p.used (overdue now p) (pick-has (pending_over now) no_pending w.pending e) in
          let F = pick-fits S.pending (pending_over now) k.0 in
          let late : leb p.deadline now ≡ true = split (leb p.deadline now) (λ x. x)
          (λ x. le-leb p.deadline now
          (omega (arith, F.deadline, leb-true p.ticket.expires_at now (rw x at k.1)))) in
          any_imp (also (pending_over now) by) by w.pending (λ a x. (both (pending_over now a) (by a) x).1)
          (any-pick (pending_over now) by no_pending w.pending e (join p.used (leb p.deadline now) k.0 late))

  pub expire-taken : (now room : ℕ) → w.runtime.trusted_time_high_water ≤ now → revoking_words w ≤ room
      → step w (call_expire now room) ≡ expire_at w now
  unfolding step expire clock_answer proceed
  expire-taken now room l m =
      let high = w.runtime.trusted_time_high_water in
      ap (λ (a : HnsrAnswer). proceed w a (expire_at w now))
      (taken_then (room_answer w room (revoking_words w)) (check (ltb now high) ClockRollback)
      (room-same w (shape_places w S) room (revoking_words w)
      ∙ taken-check (ltb room (revoking_words w)) Short (le-ltb room (revoking_words w) m))
      (taken-check (ltb now high) ClockRollback (le-ltb now high l)))

pub wakes : (w : World) → Shape w → Wakes step w
unfolding is_circuit circuit_over is_usage usage_over
wakes w S = record {
  due = due_of w;
  told = due-told w S;
  none = (due-none w).0;
  one = due-is-one w;
  before = λ now room l d m. let z = (due-later w now).0 d in
      expire-taken w S now room l m ∙ expire-idle now w (none-overdue w S now z.0) z.1 z.2;
  after = λ now room t.
      let v = (step w (call_expire now room)).world in (
        due_of v,
        ap (λ (o : Outcome). o.told) (due-told v (step_shape w (call_expire now room) S)),
        (due-later v now).1 (taken-none-over now w room t),
      );
  ended = λ now room t. taken-none-over now w room t;
}
