-- A wrong `new`.
use Rattle.std.specs.Prelude.{ℕ, ◌≡◌, refl, true, false, [], ◌∷◌, replicate}
use Rattle.std.proofs.Common.{arith}
use Rattle.hnsr_circuit.specs.declared.records.InflightAction.{InflightAction}
use Rattle.hnsr_circuit.specs.Peer.{no_peer}
use Rattle.hnsr_circuit.specs.Inflight.{no_action}
use Rattle.hnsr_circuit.specs.World.{World, Outcome, with_runtime, with_inflight}
use Rattle.hnsr_circuit.specs.Worked.Cases.{lent}
use Rattle.hnsr_circuit.specs.Call.{Start, start, step}
use Rattle.hnsr_circuit.specs.Worked.All.{machine}
use Rattle.hnsr_run.specs.Claim.{Machine, Run, world_at, past_at, Claim}
use Rattle.hnsr_run.specs.Talk.{tables, fresh}
use Rattle.hnsr_run.specs.Refuted.Machines.{status-tells}

-- ---- `new` leaves the marks that it finds: an action that nobody sent counts, and can never be acknowledged by a host
-- that does not know it
abbrev marks_left : World → Start → Outcome
marks_left w s =
    let o = start w s in
    record { world = with_runtime w o.world.runtime; answer = o.answer; routes = o.routes; told = o.told }

abbrev pub uncleared : Machine
uncleared = record { new = marks_left; step = step }

abbrev found : InflightAction
found = record {
  used = true;
  generation = 1;
  sequence = 1;
  circuit_id = 7;
  destination = no_peer;
  kind = 0;
  to_endpoint = false;
  bytes = 0;
}

abbrev found_tables : World
found_tables = with_inflight tables (found ∷ replicate 15 no_action)

pub uncleared_refuted : Claim uncleared → ⊥
unfolding machine lent
uncleared_refuted C =
    let r : Run uncleared =
    record { lent = found_tables; began = fresh; new-taken = refl; limit = omega arith; calls = []; bounded = refl } in
    let k : ◌≡◌ {A = ℕ} 1 0 = status-tells step (world_at uncleared r) (past_at uncleared r) (C r) in
    omega arith
