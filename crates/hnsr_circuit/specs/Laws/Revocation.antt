-- What the code does to end the record at a place is the definition's revocation: the record unmarked, its actions
-- dropped, the end counted, and then the messages told.
use Prim.Native.Nat.{ℕ, zero, suc}
use Rattle.std.specs.Prelude.{◌≡◌, Bool, true, false, cond, Option, None, Some, List, get_or, set, length}
use Rattle.std.proofs.Math.Path.{refl, ap}
use Rattle.std.proofs.Common.{sym, ◌∙◌}
use Rattle.hnsr_body.specs.declared.messages.Notice.{Notice}
use Rattle.hnsr_body.specs.declared.messages.Notice.TheVariants.{PeerDisconnected}
use Rattle.hnsr_body.specs.Messages.{notice_body}
use Rattle.hnsr_circuit.specs.declared.records.RelayPending.{RelayPending}
use Rattle.hnsr_circuit.specs.declared.records.RelayCircuit.{RelayCircuit}
use Rattle.hnsr_circuit.specs.declared.records.InflightAction.{InflightAction}
use Rattle.hnsr_circuit.specs.declared.output.queue.Outgoing.{Outgoing}
use Rattle.hnsr_circuit.specs.declared.peer.HnsrPeerId.{HnsrPeerId}
use Rattle.hnsr_circuit.specs.declared.tables.lookup.Found.{Found}
use Rattle.hnsr_circuit.specs.declared.tables.places.Places.{Places}
use Rattle.hnsr_circuit.specs.declared.tables.question.Revoking.{Revoking}
use Rattle.hnsr_circuit.specs.declared.tables.question.Revoking.TheVariants.{Disabled, Disconnected, Reservation}
use Rattle.hnsr_circuit.specs.declared.tables.question.Revoking.TheVariants.{Expired}
use Rattle.hnsr_circuit.specs.declared.tables.scan.Walked.{Walked}
use Rattle.hnsr_circuit.specs.declared.records.ReservationUsage.{ReservationUsage}
use Rattle.hnsr_circuit.specs.declared.runtime.OpaqueRelayRuntime.{OpaqueRelayRuntime}
use Rattle.hnsr_circuit.specs.declared.runtime.RelayState.{RelayState}
use Rattle.hnsr_circuit.specs.declared.runtime.Sending.{Sending}
use Rattle.hnsr_circuit.specs.Table.{any, place_of, not_yet, next}
use Rattle.hnsr_circuit.specs.Peer.{same_peer}
use Rattle.hnsr_circuit.specs.Pending.{no_pending, pending_id, clear_pending}
use Rattle.hnsr_circuit.specs.Circuits.{no_circuit, circuit_id, circuit_at, clear_circuit}
use Rattle.hnsr_circuit.specs.Inflight.{action_under, dropped}
use Rattle.hnsr_circuit.specs.Runtime.{count_revoked, with_counters}
use Rattle.hnsr_circuit.specs.World.{World, world_of, with_pending, with_circuits}
use Rattle.hnsr_circuit.specs.Queue.{Message, Sent, silently, and_then, when, finished, tell}
use Rattle.hnsr_circuit.specs.Revocation.{without_actions, pending_there, circuit_there}
use Rattle.hnsr_circuit.specs.Revocation.{end_pending_there, end_circuit_there, error_to_requester}
use Rattle.hnsr_circuit.specs.Revocation.{close_to_requester, close_to_endpoint, close_to, revoke_pending}
use Rattle.hnsr_circuit.specs.Revocation.{revoke_circuit_there, revoke_circuit, where_reached, walk_from, walk}
use Rattle.hnsr_circuit.specs.Revocation.{pending_table, circuit_table, revoke_all}
use Rattle.hnsr_circuit.specs.RevokingCalls.{close_to_other, disconnect_pending}
use Rattle.hnsr_circuit.specs.Code.Held.{held, held_pending, held_circuits, held_ledger, held_actions, lent_seen}
use Rattle.hnsr_circuit.specs.Code.Held.{underway_seen, sending_seen}
use Rattle.hnsr_circuit.specs.Code.Progress.{message_of, filled_to, placed, Progress, progress, advanced, advance}
use Rattle.hnsr_circuit.specs.Code.Revoking.{error_out, close_out, close_side, tell_both, tell_other, close_both}
use Rattle.hnsr_circuit.specs.Code.Revoking.{pending_closings, circuit_closings, circuit_notice}
use Rattle.hnsr_circuit.specs.Code.Revoking.{told_too, told, ended, ending_pending, revoking_all}
use Rattle.hnsr_circuit.specs.Code.Question.{pending_revoked, circuit_revoked}
use Rattle.hnsr_circuit.specs.Code.Lookup.{circuit_found}
use Rattle.hnsr_circuit.specs.Laws.Lookups.{pick_at, found_is, not_found}
use Rattle.hnsr_circuit.specs.Laws.Progress.{advance_then}

-- ---- a record gone from its table, its actions from theirs, its end counted
module _ (h : OpaqueRelayRuntime) (n : Places) (w : World) where
  pub pending_ends : (t t' : List RelayPending) (i : List InflightAction) (place : ℕ)
      → held_pending n t'
      ≡ set (held_pending n t) place (clear_pending (get_or (held_pending n t) place no_pending))
      → end_pending_there (lent_seen h n (with_pending w t) i) place
      ≡ lent_seen (with_counters h (count_revoked h.counters)) n (with_pending w t')
      (dropped (action_under (get_or (held_pending n t) place no_pending).circuit_id) i)
  unfolding end_pending_there without_actions
  pending_ends t t' i place e =
      ap
      (λ (p : List RelayPending). world_of (with_counters h (count_revoked h.counters)) p (held_circuits n w.circuits)
      (held_ledger n w.ledger) (dropped (action_under (get_or (held_pending n t) place no_pending).circuit_id) i))
      (sym e)

  pub circuit_ends : (t t' : List RelayCircuit) (i : List InflightAction) (place : ℕ)
      → held_circuits n t'
      ≡ set (held_circuits n t) place (clear_circuit (get_or (held_circuits n t) place no_circuit))
      → end_circuit_there (lent_seen h n (with_circuits w t) i) place
      ≡ lent_seen (with_counters h (count_revoked h.counters)) n (with_circuits w t')
      (dropped (action_under (get_or (held_circuits n t) place no_circuit).circuit_id) i)
  unfolding end_circuit_there without_actions
  circuit_ends t t' i place e =
      ap (λ (c : List RelayCircuit). world_of (with_counters h (count_revoked h.counters)) (held_pending n w.pending) c
      (held_ledger n w.ledger) (dropped (action_under (get_or (held_circuits n t) place no_circuit).circuit_id) i))
      (sym e)

-- ---- what is told of it
either : (s : Bool) (m n : Outgoing) (body : List ℕ)
    → message_of (cond s m n) body ≡ cond s (message_of m body) (message_of n body)
either true m n body = refl
either false m n body = refl

pub pending_told : (v : Revoking) (w : World) (place : ℕ)
    → told (pending_closings v (pending_there w place)) (end_pending_there w place) ≡ ending_pending v w place
unfolding pending_closings ending_pending revoke_pending disconnect_pending close_to_other error_to_requester
    close_to_requester close_to_endpoint
pending_told Disabled w place = refl
pending_told (Disconnected peer) w place =
    ap (λ m. tell m (end_pending_there w place))
    (either (same_peer (pending_there w place).requester peer) _ _ (notice_body PeerDisconnected))
pending_told (Reservation id) w place = refl
pending_told (Expired now) w place = refl

-- with any notice, or on the disconnect of any peer
pub both_told : (n : Notice) (w : World) (place : ℕ)
    → told (tell_both n (pending_there w place)) (end_pending_there w place) ≡ revoke_pending n w place
unfolding revoke_pending error_to_requester close_to_endpoint
both_told n w place = refl

pub other_told : (peer : HnsrPeerId) (w : World) (place : ℕ)
    → told (tell_other peer (pending_there w place)) (end_pending_there w place) ≡ disconnect_pending peer w place
unfolding pending_closings ending_pending
other_told peer w place = pending_told (Disconnected peer) w place

pub sides_told : (n : Notice) (w : World) (place : ℕ)
    → told (close_both n (circuit_there w place)) (end_circuit_there w place) ≡ revoke_circuit_there n w place
unfolding revoke_circuit_there close_to
sides_told n w place = refl

pub circuit_told : (v : Revoking) (w : World) (place : ℕ)
    → told (circuit_closings v (circuit_there w place)) (end_circuit_there w place)
    ≡ revoke_circuit_there (circuit_notice v) w place
unfolding circuit_closings
circuit_told v w place = sides_told (circuit_notice v) w place

-- both walks of a call, as the definition has them
pub walks_told : (v : Revoking) (w : World)
    → finished (and_then (walk pending_id pending_table (pending_revoked v)
    (ended pending_table no_pending (pending_closings v) end_pending_there) w)
    (walk circuit_id circuit_table (circuit_revoked v)
    (ended circuit_table no_circuit (circuit_closings v) end_circuit_there)))
    ≡ revoking_all v w
unfolding revoke_all
walks_told v w = λ j.
    finished
    (and_then (walk pending_id pending_table (pending_revoked v) (λ u place. pending_told v u place j) w)
    (walk circuit_id circuit_table (circuit_revoked v) (λ u place. circuit_told v u place j)))

-- one message, or two, once the record is ended: the second after the first
module _ (w u : World) (at : ℕ) (out : List ℕ) (n : Notice) (m : Outgoing) (second : Option Outgoing) where
  pub one_told : second ≡ None
      → advance (tell (message_of m (notice_body n))) (progress u at out)
      ≡ advanced (progress w at out) (told_too n second (tell (message_of m (notice_body n)) u))
  one_told e =
      ap (λ (k : Option Outgoing). advanced (progress w at out) (told_too n k (tell (message_of m (notice_body n)) u)))
      (sym e)

  pub two_told : (k : Outgoing) → second ≡ Some k
      → advance (tell (message_of k (notice_body n)))
      (advance (tell (message_of m (notice_body n))) (progress u at out))
      ≡ advanced (progress w at out) (told_too n second (tell (message_of m (notice_body n)) u))
  two_told k e =
      sym
      (advance_then (progress w at out) (tell (message_of m (notice_body n)) u) (tell (message_of k (notice_body n))))
      ∙ ap
      (λ (k : Option Outgoing). advanced (progress w at out) (told_too n k (tell (message_of m (notice_body n)) u)))
      (sym e)

-- the record at a place ended, and then all that is told of it, with any notice
module _ (n : Notice) (place : ℕ) (h : OpaqueRelayRuntime) (p : List RelayPending) (c : List RelayCircuit)
    (l : List ReservationUsage) (i : List InflightAction) (at : ℕ) (out : List ℕ) where
  pub circuit-revoked : (first second : Message) (c' : List RelayCircuit) (i' : List InflightAction)
      (h' : OpaqueRelayRuntime) → (let k = get_or c place no_circuit in
      first ≡ message_of (close_side k k.requester) (notice_body n)
      → second ≡ message_of (close_side k k.endpoint) (notice_body n)
      → c' ≡ set c place (clear_circuit k) → i' ≡ dropped (action_under k.circuit_id) i
      → h' ≡ with_counters h (count_revoked h.counters)
      → advance (tell second) (advance (tell first) (progress (world_of h' p c' l i') at out))
      ≡ advance (λ w. revoke_circuit_there n w place) (progress (world_of h p c l i) at out))
  unfolding revoke_circuit_there end_circuit_there without_actions close_to
  circuit-revoked first second c' i' h' e1 e2 ec ei eh =
      let w = world_of h p c l i in
      let k = get_or c place no_circuit in
      (λ x. advance (tell (e2 x)) (advance (tell (e1 x)) (progress (world_of (eh x) p (ec x) l (ei x)) at out)))
      ∙ sym
      (advance_then (progress w at out) (tell (close_to n k.requester k.circuit_id) (end_circuit_there w place))
      (tell (close_to n k.endpoint k.circuit_id)))

  pub pending-revoked : (first second : Message) (p' : List RelayPending) (i' : List InflightAction)
      (h' : OpaqueRelayRuntime) → (let k = get_or p place no_pending in
      first ≡ message_of (error_out k) (notice_body n) → second ≡ message_of (close_out k) (notice_body n)
      → p' ≡ set p place (clear_pending k) → i' ≡ dropped (action_under k.circuit_id) i
      → h' ≡ with_counters h (count_revoked h.counters)
      → advance (tell second) (advance (tell first) (progress (world_of h' p' c l i') at out))
      ≡ advance (λ w. revoke_pending n w place) (progress (world_of h p c l i) at out))
  unfolding revoke_pending end_pending_there without_actions error_to_requester close_to_endpoint
  pending-revoked first second p' i' h' e1 e2 ep ei eh =
      let w = world_of h p c l i in
      let k = get_or p place no_pending in
      (λ x. advance (tell (e2 x)) (advance (tell (e1 x)) (progress (world_of (eh x) (ep x) c l (ei x)) at out)))
      ∙ sym
      (advance_then (progress w at out) (tell (error_to_requester n k) (end_pending_there w place))
      (tell (close_to_endpoint n k)))

-- on the disconnect of any peer: the one message
pub pending-disconnected : (peer : HnsrPeerId) (place : ℕ) (h : OpaqueRelayRuntime) (p : List RelayPending)
    (c : List RelayCircuit) (l : List ReservationUsage) (i : List InflightAction) (at : ℕ) (out : List ℕ)
    (first : Message) (p' : List RelayPending) (i' : List InflightAction) (h' : OpaqueRelayRuntime)
    → (let k = get_or p place no_pending in
    first ≡ message_of (tell_other peer k).first (notice_body PeerDisconnected)
    → p' ≡ set p place (clear_pending k) → i' ≡ dropped (action_under k.circuit_id) i
    → h' ≡ with_counters h (count_revoked h.counters)
    → advance (tell first) (progress (world_of h' p' c l i') at out)
    ≡ advance (λ w. disconnect_pending peer w place) (progress (world_of h p c l i) at out))
unfolding end_pending_there without_actions
pending-disconnected peer place h p c l i at out first p' i' h' e1 ep ei eh =
    let w = world_of h p c l i in
    (λ x. advance (tell (e1 x)) (progress (world_of (eh x) (ep x) c l (ei x)) at out))
    ∙ ap (advanced (progress w at out)) (other_told peer w place)

-- the record at a place unmarked, its actions dropped, its end counted, and the first message told
module _ {A : Type 0} (unmark : A → A) (none : A) (id : A → ℕ) (in_use : Places → ℕ)
    (with_table : World → List A → World) (without : World → ℕ → World)
    (ends : (h : OpaqueRelayRuntime) (n : Places) (w : World) (t t' : List A) (i : List InflightAction) (place : ℕ)
    → held unmark (in_use n) t'
    ≡ set (held unmark (in_use n) t) place (unmark (get_or (held unmark (in_use n) t) place none))
    → without (lent_seen h n (with_table w t) i) place
    ≡ lent_seen (with_counters h (count_revoked h.counters)) n (with_table w t')
    (dropped (action_under (id (get_or (held unmark (in_use n) t) place none))) i)) where
  pub first_told : (s : Sending) (w : World) (t t' : List A) (i : List InflightAction) (out : List ℕ) (place : ℕ)
      (m : Message) (number k : ℕ) (r : RelayState) (f : Sending) (i' : List InflightAction) (out' : List ℕ)
      → number ≡ in_use s.state.places
      → held unmark number t' ≡ set (held unmark number t) place (unmark (get_or (held unmark number t) place none))
      → k ≡ id (get_or (held unmark number t) place none)
      → (r.runtime ≡ with_counters s.state.runtime (count_revoked s.state.runtime.counters))
      × (r.places ≡ s.state.places)
      → ((p : List RelayPending) (c : List RelayCircuit) (l : List ReservationUsage)
      → underway_seen f p c l i' out'
      ≡ advance (tell m) (progress (world_of r.runtime (held_pending r.places p) (held_circuits r.places c)
      (held_ledger r.places l) (dropped (action_under k) (held_actions r.places i))) s.position out))
      → sending_seen f (with_table w t') i' out'
      ≡ advance (tell m) (progress
      (without (lent_seen s.state.runtime s.state.places (with_table w t) (held_actions s.state.places i)) place)
      s.position out)
  first_told s w t t' i out place m number k r f i' out' en eu ek er ef =
      let n = s.state.places in
      let acts = held_actions n i in
      let w' = with_table w t' in
      ef w'.pending w'.circuits w'.ledger
      ∙ (λ x. advance (tell m) (progress (lent_seen (er.0 x) (er.1 x) w' (dropped
      (action_under ((ek ∙ (λ y. id (get_or (held unmark (en y) t) place none))) x)) (held_actions (er.1 x) i)))
      s.position out))
      ∙ ap (λ (u : World). advance (tell m) (progress u s.position out))
      (sym (ends s.state.runtime n w t t' acts place (rw en at eu)))

-- ---- by id
module _ (n : Notice) (w : World) (id : ℕ) where
  by_test : (b : Bool) → any (circuit_at id) w.circuits ≡ b
      → revoke_circuit n w id ≡ when b (λ v. revoke_circuit_there n v (place_of (circuit_at id) v.circuits)) w
  unfolding revoke_circuit
  by_test b e = ap (λ t. when t (λ v. revoke_circuit_there n v (place_of (circuit_at id) v.circuits)) w) e

  pub revoked-found : any (circuit_at id) w.circuits ≡ true
      → revoke_circuit n w id ≡ revoke_circuit_there n w (place_of (circuit_at id) w.circuits)
  unfolding when
  revoked-found e = by_test true e

  pub revoked-none : any (circuit_at id) w.circuits ≡ false → revoke_circuit n w id ≡ silently w
  unfolding when
  revoked-none e = by_test false e

  -- what a lookup finds
  pub found_told : (f : Found RelayCircuit) → circuit_found (circuit_at id) w.circuits ≡ Some f
      → told (close_both n f.row) (end_circuit_there w f.place) ≡ revoke_circuit n w id
  found_told f e =
      let k = found_is (circuit_at id) no_circuit w.circuits f e in
      let row = k.2 ∙ sym (pick_at (circuit_at id) no_circuit w.circuits) in
      (λ x. told (close_both n (row x)) (end_circuit_there w (k.1 x)))
      ∙ sides_told n w (place_of (circuit_at id) w.circuits)
      ∙ sym (revoked-found k.0)

  pub none_told : circuit_found (circuit_at id) w.circuits ≡ None → silently w ≡ revoke_circuit n w id
  unfolding when
  none_told e = sym (by_test false (not_found (circuit_at id) no_circuit w.circuits e))

-- ---- a walk whose next record is known: a turn, and its end
module _ {A : Type 0} (id_of : A → ℕ) (table : World → List A) (q : A → Bool) (end : World → ℕ → Sent) where
  abbrev pub walk_on : (turns : ℕ) → Option Walked → World → Sent
  walk_on zero n w = silently w
  walk_on (suc turns) n w = where_reached end (walk_from id_of table q end turns) n w

  pub walk_on-is : (s : Progress) (k : ℕ) (cursor n : Option Walked) → n ≡ next id_of q cursor (table s.world)
      → advance (walk_on k n) s ≡ advance (walk_from id_of table q end k cursor) s
  unfolding walk_from
  walk_on-is s zero cursor n e = refl
  walk_on-is s (suc k) cursor n e = ap (λ (x : Option Walked). advance (walk_on (suc k) x) s) e

  pub walk_begins : (s : Progress) (t : List A) (k : ℕ) (n : Option Walked) → table s.world ≡ t → k ≡ length t
      → n ≡ next id_of q not_yet t → advance (walk_on k n) s ≡ advance (walk id_of table q end) s
  unfolding walk
  walk_begins s t k n e el en =
      walk_on-is s k not_yet n (en ∙ ap (next id_of q not_yet) (sym e))
      ∙ ap (λ (m : ℕ). advance (walk_from id_of table q end m not_yet) s) (el ∙ sym (ap length e))

  module _ (s : Progress) (k : ℕ) (n : Option Walked) where
    pub walk_turn : (here : Walked) → n ≡ Some here
        → advance (walk_on (suc k) n) s
        ≡ advance (walk_from id_of table q end k (Some here)) (advance (λ w. end w here.place) s)
    unfolding where_reached
    walk_turn here e =
        ap (λ (x : Option Walked). advance (walk_on (suc k) x) s) e
        ∙ advance_then s (end s.world here.place) (walk_from id_of table q end k (Some here))

    pub walk_stops : n ≡ None → advance (walk_on (suc k) n) s ≡ s
    unfolding where_reached filled_to placed
    walk_stops e = ap (λ (x : Option Walked). advance (walk_on (suc k) x) s) e

    pub walk_over : advance (walk_on 0 n) s ≡ s
    unfolding filled_to placed
    walk_over = refl
