-- What the parts of a call do to the invariant of the world alone: one table replaced, answers, messages, ends,
-- revocations, walks.
use Prim.Native.Nat.{ℕ, zero, suc, ◌≤◌}
use Rattle.std.proofs.Common.{arith, sym, ap, ◌∙◌, subst, length-set}
use Rattle.std.specs.Prelude.{◌≡◌, refl, Bool, true, false, ◌&&◌, List, eqb, length, Ok, Err}
use Rattle.std.specs.Prelude.{Option, Some}
use Rattle.hns_encoding.specs.Sums.{count}
use Rattle.hnsr_body.specs.declared.values.ReservationId.{ReservationId}
use Rattle.hnsr_body.specs.declared.messages.Notice.{Notice}
use Rattle.hnsr_body.specs.Values.{most_window, same_reservation}
use Rattle.hnsr_circuit.specs.declared.peer.HnsrPeerId.{HnsrPeerId}
use Rattle.hnsr_circuit.specs.declared.config.OpaqueRelayConfig.{OpaqueRelayConfig}
use Rattle.hnsr_circuit.specs.declared.records.RelayPending.{RelayPending}
use Rattle.hnsr_circuit.specs.declared.records.RelayCircuit.{RelayCircuit}
use Rattle.hnsr_circuit.specs.declared.records.RelaySide.{RelaySide}
use Rattle.hnsr_circuit.specs.declared.records.ReservationUsage.{ReservationUsage}
use Rattle.hnsr_circuit.specs.declared.tables.scan.Walked.{Walked}
use Rattle.hnsr_circuit.specs.Answers.{HnsrAnswer}
use Rattle.hnsr_circuit.specs.Table.{pick, edit, not_yet, next}
use Rattle.hnsr_circuit.specs.Pending.{no_pending, pending_id, is_pending, pending_at, clear_pending}
use Rattle.hnsr_circuit.specs.Circuits.{no_circuit, circuit_id, is_circuit, circuit_at, credit_of, clear_circuit}
use Rattle.hnsr_circuit.specs.Ledger.{no_usage, is_usage, usage_at}
use Rattle.hnsr_circuit.specs.World.{World, Outcome, proceed, with_circuits}
use Rattle.hnsr_circuit.specs.Queue.{Message, queued, can_queue, send, Sent, tell_if, tell}
use Rattle.hnsr_circuit.specs.Packet.{has_circuit}
use Rattle.hnsr_circuit.specs.Revocation.{without_actions, without_pending, end_pending, end_circuit}
use Rattle.hnsr_circuit.specs.Revocation.{pending_there, circuit_there, end_pending_there, end_circuit_there}
use Rattle.hnsr_circuit.specs.Revocation.{revoke_pending, revoke_circuit_there, revoke_circuit, walk_from}
use Rattle.hnsr_circuit.specs.Revocation.{walk, pending_table, circuit_table, revoke_all}
use Rattle.hnsr_circuit.specs.RevokingCalls.{disconnect_pending}
use Rattle.hnsr_circuit.specs.Laws.Places.{length-dropped}
use Rattle.hnsr_circuit.specs.Laws.Walks.{where-cases}
use Rattle.hnsr_run.specs.Run.Walks.{when-cases}
use Rattle.hnsr_run.specs.Run.ShapeTables.{count-edit, Less, less-set, less-edit, less-fits, edit-fits, pick-fits}
use Rattle.hnsr_run.specs.Run.Shape.{Named, CircuitShape, CircuitsShape, LedgerShape, ShapeOf, Shape}

-- ---- an unused record has no id
pub pending-off : (id : ℕ) (p : RelayPending) → is_pending p ≡ false → pending_at id p ≡ false
unfolding is_pending pending_at
pending-off id p e = ap (λ u. u && eqb p.circuit_id id) e

pub circuit-off : (id : ℕ) (c : RelayCircuit) → is_circuit c ≡ false → circuit_at id c ≡ false
unfolding is_circuit circuit_at
circuit-off id c e = ap (λ u. u && eqb c.circuit_id id) e

pub usage_off : (r : ReservationId) (u : ReservationUsage) → is_usage u ≡ false → usage_at r u ≡ false
unfolding is_usage usage_at
usage_off r u e = ap (λ b. b && same_reservation u.reservation_id r) e

-- ---- one part replaced
module _ {s : List ℕ} {g : ℕ} {c : OpaqueRelayConfig} {ps : List RelayPending} {cs : List RelayCircuit}
    {ls : List ReservationUsage} {n : ℕ} (S : ShapeOf s g c ps cs ls n) where
  pub actions_shape : {m : ℕ} → m ≡ n → ShapeOf s g c ps cs ls m
  actions_shape e = record {
    runtime = S.runtime;
    pending = S.pending;
    circuits = S.circuits;
    once = S.once;
    ledger = S.ledger;
    actions = omega (arith, S.actions);
  }

  pub less-pending : {t : List RelayPending} → Less is_pending no_pending ps t → ShapeOf s g c t cs ls n
  less-pending L = record {
    runtime = S.runtime;
    pending = less-fits S.pending L;
    circuits = S.circuits;
    once = λ id. omega (arith, S.once id, L.counts (pending_at id) (pending-off id));
    ledger = S.ledger;
    actions = S.actions;
  }

  -- ended, or changed in place
  pub circuits_shape : {t : List RelayCircuit} → CircuitsShape c t
      → ((id : ℕ) → count (circuit_at id) t ≤ count (circuit_at id) cs) → ShapeOf s g c ps t ls n
  circuits_shape F few = record {
    runtime = S.runtime;
    pending = S.pending;
    circuits = F;
    once = λ id. omega (arith, S.once id, few id);
    ledger = S.ledger;
    actions = S.actions;
  }

  pub less-circuits : {t : List RelayCircuit} → Less is_circuit no_circuit cs t → ShapeOf s g c ps t ls n
  less-circuits L = circuits_shape (less-fits S.circuits L) (λ id. L.counts (circuit_at id) (circuit-off id))

  pub ledger_shape : {t : List ReservationUsage} → LedgerShape t → ShapeOf s g c ps cs t n
  ledger_shape L = record {
    runtime = S.runtime;
    pending = S.pending;
    circuits = S.circuits;
    once = S.once;
    ledger = L;
    actions = S.actions;
  }

  pub less-ledger : {t : List ReservationUsage} → Less is_usage no_usage ls t → ShapeOf s g c ps cs t n
  less-ledger L = ledger_shape (record {
    places = omega (arith, S.ledger.places, L.places);
    once = λ r. omega (arith, S.ledger.once r, L.counts (usage_at r) (usage_off r));
  })

-- ---- d is c with other counts
pub record Recounted (c d : RelayCircuit) : Type 0 where
  pub used : d.used ≡ c.used
  pub id : d.circuit_id ≡ c.circuit_id
  pub requester : d.requester ≡ c.requester
  pub endpoint : d.endpoint ≡ c.endpoint

recounted_used : {c d : RelayCircuit} → Recounted c d → is_circuit d ≡ is_circuit c
unfolding is_circuit
recounted_used R = R.used

recounted_at : {c d : RelayCircuit} (id : ℕ) → Recounted c d → circuit_at id d ≡ circuit_at id c
unfolding circuit_at
recounted_at id R = λ i. R.used i && eqb (R.id i) id

-- the circuit that is found, with other counts of which the credits stay within the most
pub recounted_shape : (w : World) (p : RelayCircuit → Bool) (g : RelayCircuit → RelayCircuit) → Shape w
    → ((c : RelayCircuit) → Recounted c (g c))
    → (CircuitShape (pick p no_circuit w.circuits) → (side : RelaySide)
    → credit_of side (g (pick p no_circuit w.circuits)) ≤ most_window)
    → Shape (with_circuits w (edit p g w.circuits))
recounted_shape w p g S moves credits =
    circuits_shape S (edit-fits S.circuits p g (λ c. recounted_used (moves c)) formed)
    (λ id. omega (arith, count-edit (circuit_at id) p g w.circuits (λ c. recounted_at id (moves c))))
  where
    formed : is_circuit (g (pick p no_circuit w.circuits)) ≡ true → CircuitShape (g (pick p no_circuit w.circuits))
    formed u =
        let R = moves (pick p no_circuit w.circuits) in
        let C = pick-fits S.circuits p (sym (recounted_used R) ∙ u) in
        record {
          some = ap (λ n. eqb n 0) R.id ∙ C.some;
          requester = subst Named (sym R.requester) C.requester;
          endpoint = subst Named (sym R.endpoint) C.endpoint;
          credits = credits C;
        }

-- ---- answers and messages
pub proceed_shape : (w : World) (a : HnsrAnswer) (o : Outcome) → Shape w → (a ≡ Ok tt → Shape o.world)
    → Shape (proceed w a o).world
unfolding proceed
proceed_shape w (Ok _) o S t = t refl
proceed_shape w (Err e) o S t = S

queued_shape : (m : Message) (w : World) → Shape w → Shape (queued m w)
unfolding queued
queued_shape m w S = actions_shape S (simp length-set)

pub send_shape : (w : World) (m : Message) → Shape w → Shape (send w m).world
unfolding send
send_shape w m S = proceed_shape w _ _ S (λ e. queued_shape m w S)

tell_if_shape : (a : HnsrAnswer) (m : Message) (w : World) → Shape w → Shape (tell_if a m w).world
unfolding tell_if
tell_if_shape (Ok _) m w S = queued_shape m w S
tell_if_shape (Err e) m w S = S

tell_shape : (m : Message) (w : World) → Shape w → Shape (tell m w).world
unfolding tell
tell_shape m w S = tell_if_shape (can_queue m w) m w S

-- ---- records end
pub pending-unmarked : (p : RelayPending) → is_pending (clear_pending p) ≡ false
unfolding is_pending
pending-unmarked p = refl

pub circuit-unmarked : (c : RelayCircuit) → is_circuit (clear_circuit c) ≡ false
unfolding is_circuit
circuit-unmarked c = refl

without_actions_shape : (w : World) (id : ℕ) → Shape w → Shape (without_actions w id)
unfolding without_actions
without_actions_shape w id S = actions_shape S (length-dropped _ _)

pub without_pending_shape : (w : World) (p : RelayPending → Bool) → Shape w → Shape (without_pending w p)
unfolding without_pending
without_pending_shape w p S =
    less-pending S (less-edit is_pending no_pending p clear_pending w.pending pending-unmarked)

pub end_pending_shape : (w : World) (p : RelayPending → Bool) (id : ℕ) → Shape w → Shape (end_pending w p id)
unfolding end_pending
end_pending_shape w p id S = without_actions_shape (without_pending w p) id (without_pending_shape w p S)

pub end_circuit_shape : (w : World) (id : ℕ) → Shape w → Shape (end_circuit w id)
unfolding end_circuit
end_circuit_shape w id S =
    without_actions_shape _ id
    (less-circuits S (less-edit is_circuit no_circuit (circuit_at id) clear_circuit w.circuits circuit-unmarked))

end_pending_there_shape : (w : World) (place : ℕ) → Shape w → Shape (end_pending_there w place)
unfolding end_pending_there
end_pending_there_shape w place S = let p = pending_there w place in
    without_actions_shape _ _
    (less-pending S (less-set is_pending no_pending w.pending place (clear_pending p) (pending-unmarked p)))

end_circuit_there_shape : (w : World) (place : ℕ) → Shape w → Shape (end_circuit_there w place)
unfolding end_circuit_there
end_circuit_there_shape w place S = let c = circuit_there w place in
    without_actions_shape _ _
    (less-circuits S (less-set is_circuit no_circuit w.circuits place (clear_circuit c) (circuit-unmarked c)))

-- ---- revocations and walks
pub revoke_pending_shape : (n : Notice) (w : World) (place : ℕ) → Shape w → Shape (revoke_pending n w place).world
unfolding revoke_pending
revoke_pending_shape n w place S = tell_shape _ _ (tell_shape _ _ (end_pending_there_shape w place S))

pub disconnect_pending_shape : (peer : HnsrPeerId) (w : World) (place : ℕ) → Shape w
    → Shape (disconnect_pending peer w place).world
unfolding disconnect_pending
disconnect_pending_shape peer w place S = tell_shape _ _ (end_pending_there_shape w place S)

pub revoke_there_shape : (n : Notice) (w : World) (place : ℕ) → Shape w → Shape (revoke_circuit_there n w place).world
unfolding revoke_circuit_there
revoke_there_shape n w place S = tell_shape _ _ (tell_shape _ _ (end_circuit_there_shape w place S))

pub revoke_circuit_shape : (n : Notice) (w : World) (id : ℕ) → Shape w → Shape (revoke_circuit n w id).world
unfolding revoke_circuit
revoke_circuit_shape n w id S = when-cases (λ (s : Sent). Shape s.world) (has_circuit w id) _ w
    (λ e. revoke_there_shape n w _ S) (λ e. S)

module _ {A : Type 0} (id_of : A → ℕ) (table : World → List A) (p : A → Bool) (end : World → ℕ → Sent)
    (keeps : (w : World) (place : ℕ) → Shape w → Shape (end w place).world) where
  walk_from_shape : (turns : ℕ) (c : Option Walked) (w : World) → Shape w
      → Shape (walk_from id_of table p end turns c w).world
  unfolding walk_from
  walk_from_shape zero c w S = S
  walk_from_shape (suc turns) c w S =
      where-cases (λ (s : Sent). Shape s.world) end (walk_from id_of table p end turns) (next id_of p c (table w)) w
      (λ n e. walk_from_shape turns (Some n) (end w n.place).world (keeps w n.place S)) (λ e. S)

  walk_shape : (w : World) → Shape w → Shape (walk id_of table p end w).world
  unfolding walk
  walk_shape w S = walk_from_shape (length (table w)) not_yet w S

pub revoke_all_shape : (end_p : World → ℕ → Sent) (p : RelayPending → Bool) (end_c : World → ℕ → Sent)
    (c : RelayCircuit → Bool) (w : World)
    → ((w : World) (place : ℕ) → Shape w → Shape (end_p w place).world)
    → ((w : World) (place : ℕ) → Shape w → Shape (end_c w place).world) → Shape w
    → Shape (revoke_all end_p p end_c c w).world
unfolding revoke_all
revoke_all_shape end_p p end_c c w kp kc S =
    walk_shape circuit_id circuit_table c end_c kc (walk pending_id pending_table p end_p w).world
    (walk_shape pending_id pending_table p end_p kp w S)
