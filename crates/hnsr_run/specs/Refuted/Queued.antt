-- Machines whose queued counts are not the bytes of DATA taken and unacknowledged.
use Rattle.std.specs.Prelude.{ℕ, ◌+◌, ◌-◌, ◌≡◌, refl, cond, ◌&&◌, [], ◌∷◌, ◌++◌, eqb, length, take}
use Rattle.std.proofs.Common.{arith}
use Rattle.hnsr_circuit.specs.declared.records.RelayCircuit.{RelayCircuit}
use Rattle.hnsr_circuit.specs.declared.records.RelaySide.{RelaySide}
use Rattle.hnsr_circuit.specs.declared.records.RelaySide.TheVariants.{Requester, Endpoint}
use Rattle.hnsr_circuit.specs.declared.records.InflightKind.TheVariants.{Data}
use Rattle.hnsr_circuit.specs.Answers.{number}
use Rattle.hnsr_circuit.specs.Table.{any, edit, pick}
use Rattle.hnsr_circuit.specs.Circuits.{circuit_at, side_of, other_side, queued_to, moved, charged}
use Rattle.hnsr_circuit.specs.Ledger.{usage_at, spent}
use Rattle.hnsr_circuit.specs.Runtime.{count_bytes}
use Rattle.hnsr_circuit.specs.Inflight.{no_action, is_action, action_at, to_endpoint}
use Rattle.hnsr_circuit.specs.World.{World, Outcome, done, proceed, with_circuits, with_ledger, counting, at_time}
use Rattle.hnsr_circuit.specs.Queue.{Message, can_queue, queued, routed, send}
use Rattle.hnsr_circuit.specs.Opcode.{op_data}
use Rattle.hnsr_circuit.specs.Packet.{Packet, sender, named_circuit, receiver}
use Rattle.hnsr_circuit.specs.Data.{data_message, data_taken}
use Rattle.hnsr_circuit.specs.Acknowledge.{acknowledge_taken, without_action, settled}
use Rattle.hnsr_circuit.specs.Worked.Cases.{lent, not_admitted}
use Rattle.hnsr_circuit.specs.Call.{step, call_handle}
use Rattle.hnsr_circuit.specs.Worked.All.{machine}
use Rattle.hnsr_run.specs.Claim.{Machine, Claim}
use Rattle.hnsr_run.specs.Talk.{sends, acked}
use Rattle.hnsr_run.specs.Refuted.Machines.{handling, acknowledging, entering, talk, run_of}

-- ---- routes are queued, but an acknowledgement is taken and leaves the state alone
abbrev pub idle : Machine
idle = acknowledging (λ w g s delivered room. done w [])

pub idle_refuted : Claim idle → ⊥
unfolding machine lent not_admitted
idle_refuted C =
    let k : ◌≡◌ {A = ℕ} 40 0 = (C (run_of idle refl (talk ++ (acked 1 3 ∷ [])) refl)).queued 7 refl Endpoint in
    omega arith

-- ---- an acknowledgement drops the action and forgets the queue
abbrev pub forgetful : Machine
forgetful =
    acknowledging (λ w g s delivered room. proceed w (acknowledge_taken w g s room)
    (settled (without_action w g s) (pick (action_at g s) no_action w.inflight) delivered))

pub forgetful_refuted : Claim forgetful → ⊥
unfolding machine lent not_admitted
forgetful_refuted C =
    let k : ◌≡◌ {A = ℕ} 40 0 = (C (run_of forgetful refl (talk ++ (acked 1 3 ∷ [])) refl)).queued 7 refl Endpoint in
    omega arith

-- ---- a circuit's first DATA is real, later ones are only routed
abbrev only_routed : World → Packet → Outcome
only_routed w q =
    let c = named_circuit w q in
    done w (routed (data_message q c (side_of (sender q) c) (length q.body)) w ∷ [])

abbrev pub routed_only : Machine
routed_only = handling (λ w q room.
    cond (eqb q.opcode op_data)
    (cond (eqb (named_circuit w q).forwarded_bytes 0) (step w (call_handle q room)) (only_routed w q))
    (step w (call_handle q room)))

pub routed_refuted : Claim routed_only → ⊥
unfolding machine lent not_admitted
routed_refuted C =
    let k : ◌≡◌ {A = ℕ} 40 50 =
    (C (run_of routed_only refl (talk ++ (sends 1 7 10 100 ∷ [])) refl)).queued 7 refl Endpoint in
    omega arith

-- ---- no queue is kept: DATA is stored under circuit 0, and labelled so in its route, and is never queued
abbrev unqueue : RelayCircuit → RelayCircuit
unqueue c = moved c c.used c.requester_credit c.endpoint_credit c.forwarded_bytes 0 0

abbrev mislabelled : Packet → RelayCircuit → RelaySide → Message
mislabelled q c side = record {
  destination = receiver c (sender q);
  circuit = 0;
  opcode = q.opcode;
  context = q.context;
  body = q.body;
  kind = Data;
  to_endpoint = to_endpoint (other_side side);
  bytes = length q.body;
}

abbrev unqueued_world : World → Packet → RelayCircuit → RelaySide → World
unqueued_world w q c side =
    let n = length q.body in
    counting (count_bytes n)
    (with_ledger (with_circuits w (edit (circuit_at q.context) (λ x. unqueue (charged side n x)) w.circuits))
    (edit (usage_at c.reservation_id) (spent n) w.ledger))

abbrev unqueued_data : World → Packet → Outcome
unqueued_data w q =
    let c = named_circuit w q in
    let side = side_of (sender q) c in
    let v = unqueued_world w q c side in
    proceed w (data_taken w q c side (length q.body))
    (done (queued (mislabelled q c side) v) (routed (mislabelled q c side) v ∷ []))

abbrev pub unqueued : Machine
unqueued = handling (λ w q room.
    cond (eqb q.opcode op_data && w.runtime.enabled)
    (proceed w (entering w q room) (unqueued_data (at_time w q.now) q))
    (step w (call_handle q room)))

pub unqueued_refuted : Claim unqueued → ⊥
unfolding machine lent not_admitted
unqueued_refuted C =
    let k : ◌≡◌ {A = ℕ} 0 40 = (C (run_of unqueued refl talk refl)).queued 7 refl Endpoint in
    omega arith

-- ---- while DATA is under way toward a side, later DATA toward it is cut to one byte, and only that byte is queued
abbrev cut_to : (bytes : ℕ) → RelaySide → RelayCircuit → RelayCircuit
cut_to n Requester c =
    moved c c.used c.requester_credit c.endpoint_credit c.forwarded_bytes c.queued_to_requester
    (c.queued_to_endpoint - n + 1)
cut_to n Endpoint c =
    moved c c.used c.requester_credit c.endpoint_credit c.forwarded_bytes
    (c.queued_to_requester - n + 1) c.queued_to_endpoint

abbrev cut_world : World → Packet → RelayCircuit → RelaySide → World
cut_world w q c side =
    let n = length q.body in
    counting (count_bytes n)
    (with_ledger (with_circuits w (edit (circuit_at q.context) (λ x. cut_to n side (charged side n x)) w.circuits))
    (edit (usage_at c.reservation_id) (spent n) w.ledger))

abbrev cut_message : Packet → RelayCircuit → RelaySide → Message
cut_message q c side = record {
  destination = receiver c (sender q);
  circuit = q.context;
  opcode = q.opcode;
  context = q.context;
  body = take 1 q.body;
  kind = Data;
  to_endpoint = to_endpoint (other_side side);
  bytes = 1;
}

abbrev cut_data : World → Packet → Outcome
cut_data w q =
    let c = named_circuit w q in
    let side = side_of (sender q) c in
    proceed w (data_taken w q c side (length q.body)) (send (cut_world w q c side) (cut_message q c side))

abbrev under_way : World → Packet → ℕ
under_way w q = let c = named_circuit w q in queued_to (other_side (side_of (sender q) c)) c

abbrev pub cutting : Machine
cutting =
    handling (λ w q room. cond (eqb q.opcode op_data)
    (cond (eqb (under_way w q) 0) (step w (call_handle q room))
    (proceed w (entering w q room) (cut_data (at_time w q.now) q))) (step w (call_handle q room)))

pub cutting_refuted : Claim cutting → ⊥
unfolding machine lent not_admitted
cutting_refuted C =
    let k : ◌≡◌ {A = ℕ} 41 50 =
    (C (run_of cutting refl (talk ++ (sends 1 7 10 100 ∷ [])) refl)).queued 7 refl Endpoint in
    omega arith

-- ---- while anything is outstanding, DATA is sent and queued twice
abbrev queued_again : (bytes : ℕ) → RelaySide → RelayCircuit → RelayCircuit
queued_again n Requester c =
    moved c c.used c.requester_credit c.endpoint_credit c.forwarded_bytes c.queued_to_requester
    (c.queued_to_endpoint + n)
queued_again n Endpoint c =
    moved c c.used c.requester_credit c.endpoint_credit c.forwarded_bytes
    (c.queued_to_requester + n) c.queued_to_endpoint

abbrev again : World → Packet → Outcome → Outcome
again w q o =
    let c = named_circuit w q in
    let side = side_of (sender q) c in
    let n = length q.body in
    let m = data_message q c side n in
    let v = with_circuits o.world (edit (circuit_at q.context) (queued_again n side) o.world.circuits) in
    cond (eqb (number o.answer) 0 && eqb (number (can_queue m v)) 0)
    (record { world = queued m v; answer = o.answer; routes = o.routes ++ (routed m v ∷ []); told = o.told })
    o

abbrev pub doubling : Machine
doubling =
    handling (λ w q room. cond (eqb q.opcode op_data && any is_action w.inflight)
    (again w q (step w (call_handle q room))) (step w (call_handle q room)))

pub doubling_refuted : Claim doubling → ⊥
unfolding machine lent not_admitted
doubling_refuted C =
    let k : ◌≡◌ {A = ℕ} 80 40 = (C (run_of doubling refl talk refl)).queued 7 refl Endpoint in
    omega arith
