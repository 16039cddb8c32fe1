-- Machines whose status is not the number of outstanding actions.
use Rattle.std.specs.Prelude.{ℕ, ◌≡◌, refl, Bool, cond, ◌&&◌, List, [], ◌∷◌, ◌++◌, map, eqb}
use Rattle.std.proofs.Common.{arith}
use Rattle.hnsr_circuit.specs.declared.runtime.HnsrRuntimeStatus.{HnsrRuntimeStatus}
use Rattle.hnsr_circuit.specs.declared.records.InflightAction.{InflightAction}
use Rattle.hnsr_circuit.specs.declared.records.RelayPending.{RelayPending}
use Rattle.hnsr_circuit.specs.declared.records.InflightKind.TheVariants.{Incoming}
use Rattle.hnsr_circuit.specs.Table.{any, pick, clear}
use Rattle.hnsr_circuit.specs.Peer.{peer_of, same_peer}
use Rattle.hnsr_circuit.specs.Pending.{no_pending}
use Rattle.hnsr_circuit.specs.Circuits.{is_circuit, clear_circuit}
use Rattle.hnsr_circuit.specs.Inflight.{no_action, kind_number, action_at}
use Rattle.hnsr_circuit.specs.World.{World, Outcome, status_is, telling, with_circuits, with_inflight}
use Rattle.hnsr_circuit.specs.Route.{Route}
use Rattle.hnsr_circuit.specs.Opcode.{op_open, op_incoming}
use Rattle.hnsr_circuit.specs.Status.{status_of, action_capacity}
use Rattle.hnsr_circuit.specs.Worked.Cases.{lent, not_admitted}
use Rattle.hnsr_circuit.specs.Call.{step, call_handle, call_disconnect}
use Rattle.hnsr_circuit.specs.Worked.All.{machine}
use Rattle.hnsr_run.specs.Claim.{Machine, world_at, past_at, Claim}
use Rattle.hnsr_run.specs.Talk.{tight, grant, opens, widens, closes, leaves}
use Rattle.hnsr_run.specs.Refuted.Machines.{handling, disconnecting, telling-status}
use Rattle.hnsr_run.specs.Refuted.Machines.{opened, talk, run-from, run_of, status-tells}

-- ---- status from an invented counter: the ACCEPTs so far
abbrev invented_status : HnsrRuntimeStatus → ℕ → HnsrRuntimeStatus
invented_status s n = record {
  generation = s.generation;
  enabled = s.enabled;
  pending_circuits = s.pending_circuits;
  active_circuits = s.active_circuits;
  queued_bytes = s.queued_bytes;
  queued_actions = n;
  trusted_time_high_water = s.trusted_time_high_water;
  admitted_opens = s.admitted_opens;
  opened_circuits = s.opened_circuits;
  bytes_sent = s.bytes_sent;
  bytes_received = s.bytes_received;
  revoked_work = s.revoked_work;
}

abbrev pub invented : Machine
invented =
    telling-status (λ w peer circuit. telling w
    (status_is (invented_status (status_of w) (status_of w).opened_circuits)
    (action_capacity w (peer_of peer) circuit)))

pub invented_refuted : Claim invented → ⊥
unfolding machine lent not_admitted
invented_refuted C =
    let r = run_of invented refl talk refl in
    let k : ◌≡◌ {A = ℕ} 1 2 = status-tells invented.step (world_at invented r) (past_at invented r) (C r) in
    omega arith

-- ---- INCOMING is stored under circuit 0, and labelled so in its route: ACCEPT does not drop it
abbrev stray : InflightAction → InflightAction
stray a = record {
  used = a.used;
  generation = a.generation;
  sequence = a.sequence;
  circuit_id = cond (eqb a.kind (kind_number Incoming)) 0 a.circuit_id;
  destination = a.destination;
  kind = a.kind;
  to_endpoint = a.to_endpoint;
  bytes = a.bytes;
}

abbrev mislabelled : Route → Route
mislabelled r = record {
  circuit = cond (eqb r.opcode op_incoming) 0 r.circuit;
  destination = r.destination;
  generation = r.generation;
  sequence = r.sequence;
  opcode = r.opcode;
  context = r.context;
  body = r.body;
}

abbrev astray : Outcome → Outcome
astray o = record {
  world = with_inflight o.world (map stray o.world.inflight);
  answer = o.answer;
  routes = map mislabelled o.routes;
  told = o.told;
}

abbrev pub lingering : Machine
lingering =
    handling
    (λ w q room. cond (eqb q.opcode op_open) (astray (step w (call_handle q room))) (step w (call_handle q room)))

pub lingering_refuted : Claim lingering → ⊥
unfolding machine lent not_admitted
lingering_refuted C =
    let r = run_of lingering refl opened refl in
    let k : ◌≡◌ {A = ℕ} 2 1 = status-tells lingering.step (world_at lingering r) (past_at lingering r) (C r) in
    omega arith

-- ---- an OPEN looks at pending records alone, and draws the id of a circuit that stands: its CLOSE drops that
-- circuit's actions too
abbrev unseen : World → World
unseen w = with_circuits w (clear clear_circuit is_circuit w.circuits)

abbrev restored : World → Outcome → Outcome
restored w o =
    record { world = with_circuits o.world w.circuits; answer = o.answer; routes = o.routes; told = o.told }

abbrev pub twice : Machine
twice =
    handling (λ w q room.
    cond (eqb q.opcode op_open) (restored w (step (unseen w) (call_handle q room))) (step w (call_handle q room)))

pub twice_refuted : Claim twice → ⊥
unfolding machine lent not_admitted
twice_refuted C =
    let r = run_of twice refl (talk ++ (opens 3 2 9 (7 ∷ []) (grant 5 100) 100 ∷ closes 3 9 100 ∷ [])) refl in
    let k : ◌≡◌ {A = ℕ} 1 3 = status-tells twice.step (world_at twice r) (past_at twice r) (C r) in
    omega arith

-- ---- after a disconnect a CLOSE is stored, and labelled, under the OPEN of its peer that has the CLOSE's number for
-- its context, although it is the CLOSE of the circuit of that number: the next record of that id ends without dropping
-- it
abbrev asks_under : InflightAction → RelayPending → Bool
asks_under a p = p.used && (same_peer p.requester a.destination && eqb p.requester_context a.circuit_id)

abbrev mistook : World → InflightAction → InflightAction
mistook w a = record {
  used = a.used;
  generation = a.generation;
  sequence = a.sequence;
  circuit_id =
      cond (any (asks_under a) w.pending) (pick (asks_under a) no_pending w.pending).circuit_id a.circuit_id;
  destination = a.destination;
  kind = a.kind;
  to_endpoint = a.to_endpoint;
  bytes = a.bytes;
}

abbrev taken_for : InflightAction → Route → Route
taken_for a r = record {
  circuit = a.circuit_id;
  destination = r.destination;
  generation = r.generation;
  sequence = r.sequence;
  opcode = r.opcode;
  context = r.context;
  body = r.body;
}

abbrev labelled_as : List InflightAction → Route → Route
labelled_as t r = taken_for (pick (action_at r.generation r.sequence) no_action t) r

abbrev mistaken_in : World → Outcome → Outcome
mistaken_in w o =
    let t = map (mistook w) o.world.inflight in record {
      world = with_inflight o.world t;
      answer = o.answer;
      routes = map (labelled_as t) o.routes;
      told = o.told;
    }

abbrev pub mistaken : Machine
mistaken = disconnecting (λ w peer room. mistaken_in w (step w (call_disconnect peer room)))

-- the peer 1 has the circuit 7 with 2, and toward 2 an OPEN 8 under its own context 7; two actions of circuit 7 toward
-- 1 leave no capacity for the OPEN's CLOSE
pub mistaken_refuted : Claim mistaken → ⊥
unfolding machine lent not_admitted
mistaken_refuted C =
    let r = run-from tight mistaken refl (omega arith)
    (opened
    ++ (widens 2 7 1000 100 ∷ opens 1 2 7 (8 ∷ []) (grant 5 100) 100 ∷ leaves 2 ∷ opens 3 4 6 (7 ∷ []) (grant 5 100) 100
    ∷ closes 3 6 100 ∷ [])) refl in
    let k : ◌≡◌ {A = ℕ} 2 1 = status-tells mistaken.step (world_at mistaken r) (past_at mistaken r) (C r) in
    omega arith
