-- What fits, of the parts that end records: each writes at most two closings and clears one used record of its own
-- table, and the walk over pending records leaves the circuits alone. So a revoking call writes at most two closings
-- for each used pending record and circuit.
--
use Prim.Native.Nat.{ℕ, zero, suc, ◌+◌, ◌*◌, ◌≤◌, ◌<◌}
use Rattle.std.proofs.Common.{arith, ap, ◌∙◌}
use Rattle.std.specs.Prelude.{◌≡◌, Bool, true, false, cond, List, length, Ok, Err, Option, Some}
use Rattle.std.proofs.Math.Path.{refl}
use Rattle.hnsr_body.specs.declared.messages.Notice.{Notice}
use Rattle.hnsr_body.specs.declared.messages.Notice.TheVariants.{RelayDisabled, PeerDisconnected, ReservationRevoked}
use Rattle.hnsr_body.specs.declared.messages.Notice.TheVariants.{AcceptanceExpired}
use Rattle.hnsr_body.specs.Messages.{notice_body}
use Rattle.hnsr_circuit.specs.declared.peer.HnsrPeerId.{HnsrPeerId}
use Rattle.hnsr_circuit.specs.declared.records.RelayPending.{RelayPending}
use Rattle.hnsr_circuit.specs.declared.records.RelayCircuit.{RelayCircuit}
use Rattle.hnsr_circuit.specs.declared.tables.scan.Walked.{Walked}
use Rattle.hnsr_circuit.specs.Answers.{HnsrAnswer}
use Rattle.hns_encoding.specs.Sums.{count}
use Rattle.hnsr_circuit.specs.Table.{not_yet, next}
use Rattle.hnsr_circuit.specs.Peer.{same_peer}
use Rattle.hnsr_circuit.specs.Pending.{no_pending, pending_id, is_pending, clear_pending}
use Rattle.hnsr_circuit.specs.Circuits.{no_circuit, circuit_id, is_circuit, clear_circuit}
use Rattle.hnsr_circuit.specs.World.{World}
use Rattle.hnsr_circuit.specs.Queue.{Message, queued, can_queue, Sent, tell_if, tell}
use Rattle.hnsr_circuit.specs.Entry.{closing_words}
use Rattle.hnsr_circuit.specs.Revocation.{without_actions, pending_there, circuit_there, end_pending_there}
use Rattle.hnsr_circuit.specs.Revocation.{end_circuit_there, error_to_requester, close_to_requester, close_to_endpoint}
use Rattle.hnsr_circuit.specs.Revocation.{close_to, revoke_pending, revoke_circuit_there, revoke_circuit}
use Rattle.hnsr_circuit.specs.Revocation.{walk_from, walk, pending_table, circuit_table, revoke_all}
use Rattle.hnsr_circuit.specs.RevokingCalls.{close_to_other, disconnect_pending}
use Rattle.hnsr_circuit.specs.declared.tables.question.Revoking.{Revoking}
use Rattle.hnsr_circuit.specs.declared.tables.question.Revoking.TheVariants.{Disabled, Disconnected, Reservation}
use Rattle.hnsr_circuit.specs.declared.tables.question.Revoking.TheVariants.{Expired}
use Rattle.hnsr_circuit.specs.Code.Revoking.{ending_pending}
use Rattle.hnsr_circuit.specs.Laws.Walks.{where-cases}
use Rattle.hnsr_circuit.specs.Laws.Room.{filled, filled-append, notice_told}
use Rattle.hnsr_circuit.specs.Laws.Room.{two-told, when-fits, one_fewer, walk-fits}

-- ---- telling leaves both tables alone
tell-if-pending : (a : HnsrAnswer) (m : Message) (w : World) → (tell_if a m w).world.pending ≡ w.pending
unfolding tell_if queued
tell-if-pending (Ok _) m w = refl
tell-if-pending (Err e) m w = refl

tell-if-circuits : (a : HnsrAnswer) (m : Message) (w : World) → (tell_if a m w).world.circuits ≡ w.circuits
unfolding tell_if queued
tell-if-circuits (Ok _) m w = refl
tell-if-circuits (Err e) m w = refl

tell-pending : (m : Message) (w : World) → (tell m w).world.pending ≡ w.pending
unfolding tell
tell-pending m w = tell-if-pending (can_queue m w) m w

tell-circuits : (m : Message) (w : World) → (tell m w).world.circuits ≡ w.circuits
unfolding tell
tell-circuits m w = tell-if-circuits (can_queue m w) m w

pending-fewer : (w : World) (place : ℕ) → place < length w.pending → (pending_there w place).used ≡ true
    → count is_pending (end_pending_there w place).pending + 1 ≡ count is_pending w.pending
unfolding is_pending end_pending_there without_actions
pending-fewer w place l h = one_fewer is_pending clear_pending no_pending w.pending (λ a. refl) place l h

circuit-fewer : (w : World) (place : ℕ) → place < length w.circuits → (circuit_there w place).used ≡ true
    → count is_circuit (end_circuit_there w place).circuits + 1 ≡ count is_circuit w.circuits
unfolding is_circuit end_circuit_there without_actions
circuit-fewer w place l h = one_fewer is_circuit clear_circuit no_circuit w.circuits (λ a. refl) place l h

-- ---- a pending record revoked
pub revoke-pending-fits : (n : Notice) (w : World) (place : ℕ)
    → filled (revoke_pending n w place).routes ≤ closing_words
unfolding revoke_pending error_to_requester close_to_endpoint
revoke-pending-fits n w place = two-told _ _ n _ refl refl

pub revoke-pending-circuits : (n : Notice) (w : World) (place : ℕ)
    → (revoke_pending n w place).world.circuits ≡ w.circuits
unfolding revoke_pending end_pending_there without_actions
revoke-pending-circuits n w place = tell-circuits _ _ ∙ tell-circuits _ _

pub revoke-pending-fewer : (n : Notice) (w : World) (place : ℕ) → place < length w.pending
    → (pending_there w place).used ≡ true
    → count is_pending (revoke_pending n w place).world.pending + 1 ≡ count is_pending w.pending
unfolding revoke_pending
revoke-pending-fewer n w place l h =
    ap (λ t. count is_pending t + 1)
    (tell-pending (close_to_endpoint n (pending_there w place)) _
    ∙ tell-pending (error_to_requester n (pending_there w place)) (end_pending_there w place))
    ∙ pending-fewer w place l h

-- ---- a pending record of a peer that disconnected
other-body : (peer : HnsrPeerId) (p : RelayPending) → (close_to_other peer p).body ≡ notice_body PeerDisconnected
unfolding close_to_other close_to_endpoint close_to_requester
other-body peer p = by (same_peer p.requester peer)
  where
    by : (b : Bool)
        → (cond b (close_to_endpoint PeerDisconnected p) (close_to_requester PeerDisconnected p)).body
        ≡ notice_body PeerDisconnected
    by true = refl
    by false = refl

pub disconnect-pending-fits : (peer : HnsrPeerId) (w : World) (place : ℕ)
    → filled (disconnect_pending peer w place).routes ≤ closing_words
unfolding disconnect_pending
disconnect-pending-fits peer w place =
    omega (
      arith,
      notice_told (close_to_other peer (pending_there w place)) PeerDisconnected (end_pending_there w place)
          (other-body peer (pending_there w place)),
    )

pub disconnect-pending-circuits : (peer : HnsrPeerId) (w : World) (place : ℕ)
    → (disconnect_pending peer w place).world.circuits ≡ w.circuits
unfolding disconnect_pending end_pending_there without_actions
disconnect-pending-circuits peer w place = tell-circuits _ _

pub disconnect-pending-fewer : (peer : HnsrPeerId) (w : World) (place : ℕ) → place < length w.pending
    → (pending_there w place).used ≡ true
    → count is_pending (disconnect_pending peer w place).world.pending + 1 ≡ count is_pending w.pending
unfolding disconnect_pending
disconnect-pending-fewer peer w place l h =
    ap (λ t. count is_pending t + 1)
    (tell-pending (close_to_other peer (pending_there w place)) (end_pending_there w place))
    ∙ pending-fewer w place l h

-- ---- a circuit revoked
pub revoke-there-fits : (n : Notice) (w : World) (place : ℕ)
    → filled (revoke_circuit_there n w place).routes ≤ closing_words
unfolding revoke_circuit_there close_to
revoke-there-fits n w place = two-told _ _ n _ refl refl

pub revoke-circuit-fits : (n : Notice) (w : World) (id : ℕ) → filled (revoke_circuit n w id).routes ≤ closing_words
unfolding revoke_circuit
revoke-circuit-fits n w id = when-fits _ _ w closing_words (λ e. revoke-there-fits n w _)

pub revoke-there-fewer : (n : Notice) (w : World) (place : ℕ) → place < length w.circuits
    → (circuit_there w place).used ≡ true
    → count is_circuit (revoke_circuit_there n w place).world.circuits + 1 ≡ count is_circuit w.circuits
unfolding revoke_circuit_there
revoke-there-fewer n w place l h =
    let c = circuit_there w place in
    ap (λ t. count is_circuit t + 1)
    (tell-circuits (close_to n c.endpoint c.circuit_id) _
    ∙ tell-circuits (close_to n c.requester c.circuit_id) (end_circuit_there w place))
    ∙ circuit-fewer w place l h

-- ---- the walk over pending records leaves the circuits alone
module _ {A : Type 0} (id_of : A → ℕ) (table : World → List A) (p : A → Bool) (end : World → ℕ → Sent)
    (keep : (w : World) (place : ℕ) → (end w place).world.circuits ≡ w.circuits) where
  walk-from-circuits : (turns : ℕ) (c : Option Walked) (w : World)
      → (walk_from id_of table p end turns c w).world.circuits ≡ w.circuits
  unfolding walk_from
  walk-from-circuits zero c w = refl
  walk-from-circuits (suc turns) c w =
      where-cases (λ (s : Sent). s.world.circuits ≡ w.circuits) end (walk_from id_of table p end turns)
      (next id_of p c (table w)) w (λ r e. walk-from-circuits turns (Some r) (end w r.place).world ∙ keep w r.place)
      (λ e. refl)

  walk-circuits : (w : World) → (walk id_of table p end w).world.circuits ≡ w.circuits
  unfolding walk
  walk-circuits w = walk-from-circuits (length (table w)) not_yet w

pub walk-pending-circuits : (v : Revoking) (p : RelayPending → Bool) (w : World)
    → (walk pending_id pending_table p (ending_pending v) w).world.circuits ≡ w.circuits
unfolding ending_pending
walk-pending-circuits v p w = walk-circuits pending_id pending_table p (ending_pending v) (either_way v) w
  where
    either_way : (v : Revoking) (w : World) (place : ℕ) → (ending_pending v w place).world.circuits ≡ w.circuits
    either_way Disabled w place = revoke-pending-circuits RelayDisabled w place
    either_way (Disconnected peer) w place = disconnect-pending-circuits peer w place
    either_way (Reservation id) w place = revoke-pending-circuits ReservationRevoked w place
    either_way (Expired now) w place = revoke-pending-circuits AcceptanceExpired w place

-- ---- all that have a property
pub revoke-all-fits : (end_p : World → ℕ → Sent) (p : RelayPending → Bool) (n : Notice)
    (c : RelayCircuit → Bool) (w : World)
    → ((r : RelayPending) → p r ≡ true → r.used ≡ true) → ((r : RelayCircuit) → c r ≡ true → r.used ≡ true)
    → ((w : World) (place : ℕ) → filled (end_p w place).routes ≤ closing_words)
    → ((w : World) (place : ℕ) → place < length w.pending → (pending_there w place).used ≡ true
    → count is_pending (end_p w place).world.pending + 1 ≡ count is_pending w.pending)
    → ((w : World) (place : ℕ) → (end_p w place).world.circuits ≡ w.circuits)
    → filled (revoke_all end_p p (revoke_circuit_there n) c w).routes
    ≤ closing_words * (count is_pending w.pending + count is_circuit w.circuits)
unfolding revoke_all is_pending is_circuit
revoke-all-fits end_p p n c w up uc each fewer keep =
    let v = walk pending_id pending_table p end_p w in
    let a = walk-fits pending_id pending_table p end_p is_pending no_pending up each fewer w in
    let b = walk-fits circuit_id circuit_table c (revoke_circuit_there n) is_circuit no_circuit uc (revoke-there-fits n)
    (revoke-there-fewer n) v.world in
    omega (
      arith,
      filled-append v.routes (walk circuit_id circuit_table c (revoke_circuit_there n) v.world).routes,
      ap (count is_circuit) (walk-circuits pending_id pending_table p end_p keep w),
    )
