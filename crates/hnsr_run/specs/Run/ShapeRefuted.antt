-- What the invariant of the world alone rules out: of each of these machines it is false, by a run that is computed.
use Rattle.std.specs.Prelude.{ℕ, ◌+◌, ◌≤◌, ◌≡◌, refl, cond, List, [], ◌∷◌, ◌++◌, map, eqb, get_or, set}
use Rattle.std.proofs.Common.{arith, ap}
use Rattle.hns_encoding.specs.Sums.{non}
use Rattle.hnsr_body.specs.Data.{window_fields}
use Rattle.hnsr_circuit.specs.declared.peer.HnsrPeerId.{HnsrPeerId}
use Rattle.hnsr_circuit.specs.declared.records.RelayPending.{RelayPending}
use Rattle.hnsr_circuit.specs.declared.records.RelaySide.TheVariants.{Requester}
use Rattle.hnsr_circuit.specs.declared.records.InflightKind.TheVariants.{Control}
use Rattle.hnsr_circuit.specs.Table.{place_of}
use Rattle.hnsr_circuit.specs.Peer.{peer_of}
use Rattle.hnsr_circuit.specs.Circuits.{side_of}
use Rattle.hnsr_circuit.specs.Ledger.{is_usage, fresh_usage}
use Rattle.hnsr_circuit.specs.World.{World, Outcome, with_pending, with_ledger, at_time}
use Rattle.hnsr_circuit.specs.Queue.{send}
use Rattle.hnsr_circuit.specs.Opcode.{op_open, op_window}
use Rattle.hnsr_circuit.specs.Packet.{Packet, sender, named_circuit, forwarded}
use Rattle.hnsr_circuit.specs.Window.{with_window}
use Rattle.hnsr_circuit.specs.Worked.Cases.{lent, not_admitted}
use Rattle.hnsr_circuit.specs.Call.{Call, call_handle, step}
use Rattle.hnsr_circuit.specs.Worked.All.{machine}
use Rattle.hnsr_run.specs.Claim.{Machine, left_by}
use Rattle.hnsr_run.specs.Talk.{tables, fresh, grant, opens, widens}
use Rattle.hnsr_run.specs.Refuted.Machines.{handling, opened}
use Rattle.hnsr_run.specs.Refuted.Status.{twice}
use Rattle.hnsr_run.specs.Run.Shape.{Shape, name-again}

-- the world that a machine leaves
abbrev after : Machine → List Call → World
after m calls = left_by m.step (m.new tables fresh).world calls

-- ---- an OPEN draws the id of a circuit that stands
pub twice_refuted : Shape (after twice (opened ++ (opens 3 2 9 (7 ∷ []) (grant 5 100) 100 ∷ []))) → ⊥
unfolding machine lent not_admitted
twice_refuted S = let k : 2 ≤ 1 = S.once 7 in omega arith

-- ---- a WINDOW is not held to 1,048,576
abbrev widened : World → Packet → Outcome
widened w q =
    let c = named_circuit w q in
    send (with_window w q.context (side_of (sender q) c) (window_fields q.body).credit_delta)
    (forwarded q c Control)

abbrev pub generous : Machine
generous = handling (λ w q room. cond (eqb q.opcode op_window) (widened (at_time w q.now) q)
    (step w (call_handle q room)))

pub generous_refuted : Shape (after generous (opened ++ (widens 2 7 1048576 100 ∷ []))) → ⊥
unfolding machine lent not_admitted
generous_refuted S = let k : 1064960 ≤ 1048576 = (S.circuits.each 0 refl).credits Requester in omega arith

-- ---- names are stored with another byte behind them: the same names, and other records once written and read back
abbrev dirty : HnsrPeerId → HnsrPeerId
dirty p = record { len = p.len; bytes = set p.bytes p.len 3 }

abbrev dirtied : RelayPending → RelayPending
dirtied p = record {
  used = p.used;
  circuit_id = p.circuit_id;
  requester = p.requester;
  endpoint = dirty p.endpoint;
  requester_context = p.requester_context;
  ticket = p.ticket;
  initial_window = p.initial_window;
  deadline = p.deadline;
}

abbrev smeared : Outcome → Outcome
smeared o = record {
  world = with_pending o.world (map dirtied o.world.pending);
  answer = o.answer;
  routes = o.routes;
  told = o.told;
}

abbrev pub smearing : Machine
smearing = handling (λ w q room. smeared (step w (call_handle q room)))

pub smearing_refuted : Shape (after smearing (opens 1 2 9 (7 ∷ []) (grant 5 100) 100 ∷ [])) → ⊥
unfolding machine lent not_admitted
smearing_refuted S =
    let p = dirty (peer_of (2 ∷ [])) in
    let k : ◌≡◌ {A = ℕ} 0 3 = ap (λ (x : HnsrPeerId). get_or x.bytes 1 0)
    (name-again p (S.pending.each 0 refl).endpoint).0 in
    omega arith

-- ---- every OPEN makes a ledger record, also where one lives
abbrev rebooked : Packet → Outcome → Outcome
rebooked q o = record {
  world = with_ledger o.world (set o.world.ledger (place_of (non is_usage) o.world.ledger)
      (fresh_usage q.admission.ticket));
  answer = o.answer;
  routes = o.routes;
  told = o.told;
}

abbrev pub rebooking : Machine
rebooking = handling (λ w q room. cond (eqb q.opcode op_open) (rebooked q (step w (call_handle q room)))
    (step w (call_handle q room)))

pub rebooking_refuted : Shape (after rebooking (opens 1 2 9 (7 ∷ []) (grant 5 100) 100 ∷ [])) → ⊥
unfolding machine lent not_admitted
rebooking_refuted S = let k : 2 ≤ 1 = S.ledger.once (record { high = 0; low = 5 }) in omega arith

-- ---- an OPEN may be accepted later than its ticket lasts
abbrev patient : RelayPending → RelayPending
patient p = record {
  used = p.used;
  circuit_id = p.circuit_id;
  requester = p.requester;
  endpoint = p.endpoint;
  requester_context = p.requester_context;
  ticket = p.ticket;
  initial_window = p.initial_window;
  deadline = p.deadline + 1000;
}

abbrev postponed : Outcome → Outcome
postponed o = record {
  world = with_pending o.world (map patient o.world.pending);
  answer = o.answer;
  routes = o.routes;
  told = o.told;
}

abbrev pub postponing : Machine
postponing = handling (λ w q room. postponed (step w (call_handle q room)))

pub postponing_refuted : Shape (after postponing (opens 1 2 9 (7 ∷ []) (grant 5 100) 100 ∷ [])) → ⊥
unfolding machine lent not_admitted
postponing_refuted S = let k : 1110 ≤ 1000 = (S.pending.each 0 refl).deadline in omega arith
