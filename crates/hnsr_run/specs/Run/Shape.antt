-- An invariant of runs that is of the world alone: no history, no bound on the action sequence, every answer
-- (`start_shape`, `step_shape`, `run_shape` of ShapeRuns). And what it says by id.
use Rattle.std.specs.Prelude.{ℕ, ◌+◌, ◌-◌, ◌≤◌, ◌<◌, min, ◌≡◌, refl, true, false}
use Rattle.std.specs.Prelude.{List, ◌++◌, leb, eqb, length, take, replicate}
use Rattle.std.proofs.Common.{arith, sym, ap, ◌∙◌, append-nil, take-append-drop}
use Rattle.std.proofs.Common.{drop_of_length-le, take_at, leb-true, eqb-true}
use Rattle.hns_encoding.specs.Bytes.{all_zero, padded}
use Rattle.hns_encoding.specs.Laws.Tests.{split, both, clash}
use Rattle.hns_encoding.specs.Sums.{count}
use Rattle.hnsr_body.specs.declared.values.ReservationId.{ReservationId}
use Rattle.hnsr_body.specs.Values.{most_window}
use Rattle.hnsr_circuit.specs.declared.peer.HnsrPeerId.{HnsrPeerId}
use Rattle.hnsr_circuit.specs.declared.config.OpaqueRelayConfig.{OpaqueRelayConfig}
use Rattle.hnsr_circuit.specs.declared.records.RelayPending.{RelayPending}
use Rattle.hnsr_circuit.specs.declared.records.RelayCircuit.{RelayCircuit}
use Rattle.hnsr_circuit.specs.declared.records.RelaySide.{RelaySide}
use Rattle.hnsr_circuit.specs.declared.records.ReservationUsage.{ReservationUsage}
use Rattle.hnsr_circuit.specs.Config.{config_good}
use Rattle.hnsr_circuit.specs.Peer.{maximum_peer, peer_good, peer_of, peer_bytes}
use Rattle.hnsr_circuit.specs.Pending.{no_pending, is_pending, pending_at}
use Rattle.hnsr_circuit.specs.Circuits.{no_circuit, is_circuit, circuit_at, credit_of}
use Rattle.hnsr_circuit.specs.Ledger.{usage_at}
use Rattle.hnsr_circuit.specs.World.{World, config_of}
use Rattle.hnsr_circuit.specs.Queue.{generation_of}
use Rattle.hnsr_circuit.specs.Packet.{has_circuit, circuit_in}
use Rattle.hnsr_circuit.specs.Revocation.{has_pending, pending_in}
use Rattle.hnsr_circuit.specs.Laws.Lookups.{pick-has, any-count, count_none}
use Rattle.hnsr_run.specs.Run.ShapeTables.{Fits, pick-fits}

-- ---- records
-- a name as a host gave it: 1 to `maximum_peer` bytes, and nothing but zeros behind them
pub record Named (p : HnsrPeerId) : Type 0 where
  pub name : List ℕ
  pub good : peer_good (length name) ≡ true
  pub stored : p ≡ peer_of name

-- a used pending record: its id is drawn and so not 0; its names were tested; its deadline is not later than its
-- ticket's expiry
pub record PendingShape (p : RelayPending) : Type 0 where
  pub some : eqb p.circuit_id 0 ≡ false
  pub requester : Named p.requester
  pub endpoint : Named p.endpoint
  pub deadline : p.deadline ≤ p.ticket.expires_at

-- a used circuit: the same, and no credit passes the most that ACCEPT and WINDOW let it have
pub record CircuitShape (c : RelayCircuit) : Type 0 where
  pub some : eqb c.circuit_id 0 ≡ false
  pub requester : Named c.requester
  pub endpoint : Named c.endpoint
  pub credits : (side : RelaySide) → credit_of side c ≤ most_window

-- ---- the world
-- what `new` tested of the runtime; a switch raises the generation
pub record RuntimeShape (s : List ℕ) (g : ℕ) (c : OpaqueRelayConfig) : Type 0 where
  pub session : all_zero s ≡ false
  pub generation : 0 < g
  pub config : config_good c ≡ true

-- the ledger has a place, and a reservation's id is in one used record at most
pub record LedgerShape (t : List ReservationUsage) : Type 0 where
  pub places : 0 < length t
  pub once : (r : ReservationId) → count (usage_at r) t ≤ 1

-- as long as the configuration's maximum, no more used, each used record as above
abbrev pub PendingsShape : OpaqueRelayConfig → List RelayPending → Type 0
PendingsShape c t = Fits is_pending no_pending PendingShape c.maximum_pending t

abbrev pub CircuitsShape : OpaqueRelayConfig → List RelayCircuit → Type 0
CircuitsShape c t = Fits is_circuit no_circuit CircuitShape c.maximum_circuits t

-- over the parts of a world, so that a change of another part leaves it as it stands: clock, sequence, counters,
-- `enabled`, and what the actions hold
pub record ShapeOf (s : List ℕ) (g : ℕ) (c : OpaqueRelayConfig) (ps : List RelayPending) (cs : List RelayCircuit)
    (ls : List ReservationUsage) (places : ℕ) : Type 0 where
  pub runtime : RuntimeShape s g c
  pub pending : PendingsShape c ps
  pub circuits : CircuitsShape c cs
  -- an id is in one used record at most, of both tables together
  pub once : (id : ℕ) → count (pending_at id) ps + count (circuit_at id) cs ≤ 1
  pub ledger : LedgerShape ls
  pub actions : c.maximum_inflight_actions ≤ places

abbrev pub Shape : World → Type 0
Shape w = ShapeOf w.runtime.session (generation_of w) (config_of w) w.pending w.circuits w.ledger
    (length w.inflight)

-- ---- by id: what a lookup finds
pub pending-used : (w : World) (id : ℕ) → has_pending w id ≡ true
    → (is_pending (pending_in w id) ≡ true) × ((pending_in w id).circuit_id ≡ id)
unfolding is_pending pending_at
pending-used w id f =
    let p = pending_in w id in
    let k = both p.used (eqb p.circuit_id id) (pick-has (pending_at id) no_pending w.pending f) in
    (k.0, eqb-true p.circuit_id id k.1)

pub circuit-used : (w : World) (id : ℕ) → has_circuit w id ≡ true
    → (is_circuit (circuit_in w id) ≡ true) × ((circuit_in w id).circuit_id ≡ id)
unfolding is_circuit circuit_at
circuit-used w id f =
    let c = circuit_in w id in
    let k = both c.used (eqb c.circuit_id id) (pick-has (circuit_at id) no_circuit w.circuits f) in
    (k.0, eqb-true c.circuit_id id k.1)

module _ (w : World) (S : Shape w) where
  pub pending-formed : (id : ℕ) → has_pending w id ≡ true → PendingShape (pending_in w id)
  pending-formed id f = pick-fits S.pending (pending_at id) (pending-used w id f).0

  pub circuit-formed : (id : ℕ) → has_circuit w id ≡ true → CircuitShape (circuit_in w id)
  circuit-formed id f = pick-fits S.circuits (circuit_at id) (circuit-used w id f).0

  pub pending-once : (id : ℕ) → count (pending_at id) w.pending ≤ 1
  pending-once id = omega (arith, S.once id)

  pub circuit-once : (id : ℕ) → count (circuit_at id) w.circuits ≤ 1
  circuit-once id = omega (arith, S.once id)

  -- no id is both
  pub pending-alone : (id : ℕ) → has_pending w id ≡ true → has_circuit w id ≡ false
  pending-alone id f = count_none (circuit_at id) w.circuits
      (omega (arith, S.once id, any-count (pending_at id) w.pending f))

  -- none is 0
  pub pending-some : has_pending w 0 ≡ false
  pending-some = split (has_pending w 0)
      (λ f. clash (ap (λ m. eqb m 0) (pending-used w 0 f).1) (pending-formed 0 f).some) (λ f. f)

  pub circuit-some : has_circuit w 0 ≡ false
  circuit-some = split (has_circuit w 0)
      (λ f. clash (ap (λ m. eqb m 0) (circuit-used w 0 f).1) (circuit-formed 0 f).some) (λ f. f)

-- ---- a stored name is its bytes, and zeros: written and read back it is the same record
take_whole : (n : ℕ) (xs : List ℕ) → length xs ≤ n → take n xs ≡ xs
take_whole n xs l =
    sym (append-nil (take n xs)) ∙ ap (λ (d : List ℕ). take n xs ++ d) (sym (drop_of_length-le xs l))
    ∙ take-append-drop n xs

pub name-bytes : (name : List ℕ) → length name ≤ maximum_peer → peer_bytes (peer_of name) ≡ name
unfolding peer_bytes peer_of padded
name-bytes name l =
    let whole : min (length name) maximum_peer ≡ length name = omega arith in
    rw (take_whole maximum_peer name l, whole)
    (take_at name (replicate (maximum_peer - length name) 0) (length name) refl)

pub name-again : (p : HnsrPeerId) → Named p → (peer_of (peer_bytes p) ≡ p) × (peer_good (length (peer_bytes p)) ≡ true)
name-again p N =
    let n = N.name in
    let most = leb-true (length n) maximum_peer (both (leb 1 (length n)) (leb (length n) maximum_peer) N.good).1 in
    let e = ap peer_bytes N.stored ∙ name-bytes n most in
    (ap peer_of e ∙ sym N.stored, ap (λ (x : List ℕ). peer_good (length x)) e ∙ N.good)
