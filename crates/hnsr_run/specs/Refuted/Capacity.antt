-- Machines that tell another number of actions that still fit.
use Rattle.std.specs.Prelude.{ℕ, ◌+◌, ◌-◌, min, ◌≡◌, refl, true, false, cond, [], ◌∷◌, ◌++◌, map}
use Rattle.std.proofs.Common.{arith}
use Rattle.hnsr_circuit.specs.declared.peer.HnsrPeerId.{HnsrPeerId}
use Rattle.hnsr_circuit.specs.declared.tables.scan.InflightTally.{InflightTally}
use Rattle.hnsr_circuit.specs.Table.{any}
use Rattle.hnsr_circuit.specs.Peer.{peer_of}
use Rattle.hnsr_circuit.specs.Inflight.{action_marked, action_toward, tallied, capacity_left}
use Rattle.hnsr_circuit.specs.World.{World, config_of, status_is, telling}
use Rattle.hnsr_circuit.specs.Status.{status_of, action_capacity}
use Rattle.hnsr_circuit.specs.Worked.Cases.{lent, not_admitted}
use Rattle.hnsr_circuit.specs.Worked.All.{machine}
use Rattle.hnsr_run.specs.Claim.{Machine, world_at, past_at, Claim}
use Rattle.hnsr_run.specs.Talk.{tight, grant, opens, widens}
use Rattle.hnsr_run.specs.Refuted.Machines.{telling-status, opened, run-from, run_of, capacity_tells}

-- the relay with another number beside its status
abbrev telling_capacity : (World → HnsrPeerId → (circuit : ℕ) → ℕ) → Machine
telling_capacity f =
    telling-status (λ w peer circuit. telling w (status_is (status_of w) (f w (peer_of peer) circuit)))

abbrev tally_for : World → HnsrPeerId → (circuit : ℕ) → InflightTally
tally_for w peer circuit = tallied false circuit peer w.inflight

-- ---- the limit of a circuit is not asked. Four actions in all, two on a circuit, two toward a peer: OPENED and a
-- WINDOW leave none on circuit 7, also toward a peer that has none
abbrev pub circuitless : Machine
circuitless =
    telling_capacity (λ w peer circuit. let t = tally_for w peer circuit in
    min ((config_of w).maximum_inflight_actions - t.total)
    ((config_of w).maximum_inflight_actions_per_peer - t.for_peer))

pub circuitless_refuted : Claim circuitless → ⊥
unfolding machine lent not_admitted
circuitless_refuted C =
    let r = run-from tight circuitless refl (omega arith) (opened ++ (widens 2 7 1000 100 ∷ [])) refl in
    let k : ◌≡◌ {A = ℕ} 2 0 = capacity_tells circuitless.step (world_at circuitless r) (past_at circuitless r) (C r)
    (3 ∷ []) 7 refl in
    omega arith

-- ---- the limit of a peer is not asked
abbrev pub peerless : Machine
peerless =
    telling_capacity (λ w peer circuit. let t = tally_for w peer circuit in
    min ((config_of w).maximum_inflight_actions - t.total)
    ((config_of w).maximum_inflight_actions_per_circuit - t.for_circuit))

pub peerless_refuted : Claim peerless → ⊥
unfolding machine lent not_admitted
peerless_refuted C =
    let r = run-from tight peerless refl (omega arith) (opened ++ (widens 2 7 1000 100 ∷ [])) refl in
    let k : ◌≡◌ {A = ℕ} 2 0 = capacity_tells peerless.step (world_at peerless r) (past_at peerless r) (C r)
    (1 ∷ []) 8 refl in
    omega arith

-- ---- the limit of all is not asked: four actions on two circuits toward two peers leave none for anybody
abbrev pub boundless : Machine
boundless =
    telling_capacity (λ w peer circuit. let t = tally_for w peer circuit in
    min ((config_of w).maximum_inflight_actions_per_circuit - t.for_circuit)
    ((config_of w).maximum_inflight_actions_per_peer - t.for_peer))

pub boundless_refuted : Claim boundless → ⊥
unfolding machine lent not_admitted
boundless_refuted C =
    let r = run-from tight boundless refl (omega arith)
    (opened
    ++ (widens 2 7 1000 100 ∷ opens 1 2 8 (8 ∷ []) (grant 5 100) 100 ∷ opens 3 2 9 (9 ∷ []) (grant 5 100) 100 ∷ []))
    refl in
    let k : ◌≡◌ {A = ℕ} 2 0 = capacity_tells boundless.step (world_at boundless r) (past_at boundless r) (C r)
    (4 ∷ []) 5 refl in
    omega arith

-- ---- one too many
abbrev pub generous : Machine
generous = telling_capacity (λ w peer circuit. action_capacity w peer circuit + 1)

pub generous_refuted : Claim generous → ⊥
unfolding machine lent not_admitted
generous_refuted C =
    let r = run_of generous refl opened refl in
    let k : ◌≡◌ {A = ℕ} 8 7 = capacity_tells generous.step (world_at generous r) (past_at generous r) (C r)
    (1 ∷ []) 7 refl in
    omega arith

-- ---- unused places are counted
abbrev pub littered : Machine
littered =
    telling_capacity (λ w peer circuit.
    capacity_left (config_of w) (tallied false circuit peer (map (action_marked true) w.inflight)))

pub littered_refuted : Claim littered → ⊥
unfolding machine lent not_admitted
littered_refuted C =
    let r = run_of littered refl [] refl in
    let k : ◌≡◌ {A = ℕ} 0 8 = capacity_tells littered.step (world_at littered r) (past_at littered r) (C r)
    (1 ∷ []) 7 refl in
    omega arith

-- ---- nothing fits toward a peer that no action goes to
abbrev pub acquainted : Machine
acquainted =
    telling_capacity (λ w peer circuit.
    cond (any (action_toward peer) w.inflight) (action_capacity w peer circuit) 0)

pub acquainted_refuted : Claim acquainted → ⊥
unfolding machine lent not_admitted
acquainted_refuted C =
    let r = run_of acquainted refl opened refl in
    let k : ◌≡◌ {A = ℕ} 0 7 = capacity_tells acquainted.step (world_at acquainted r) (past_at acquainted r) (C r)
    (3 ∷ []) 7 refl in
    omega arith

-- ---- the count of an ACCEPT, which leaves the actions of the circuit out
abbrev pub replaced : Machine
replaced = telling_capacity (λ w peer circuit. capacity_left (config_of w) (tallied true circuit peer w.inflight))

pub replaced_refuted : Claim replaced → ⊥
unfolding machine lent not_admitted
replaced_refuted C =
    let r = run_of replaced refl opened refl in
    let k : ◌≡◌ {A = ℕ} 8 7 = capacity_tells replaced.step (world_at replaced r) (past_at replaced r) (C r)
    (1 ∷ []) 7 refl in
    omega arith
