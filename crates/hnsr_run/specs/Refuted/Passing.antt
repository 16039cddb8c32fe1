-- Machines in which, all acknowledged, DATA within what is left does not pass, or DATA beyond it does.
use Rattle.std.specs.Prelude.{ℕ, ◌+◌, ◌-◌, ◌≡◌, refl, false, cond, not, ◌&&◌}
use Rattle.std.specs.Prelude.{List, [], ◌∷◌, ◌++◌, eqb, length, replicate}
use Rattle.std.proofs.Common.{arith, ap}
use Rattle.hnsr_body.specs.Data.{data_checked}
use Rattle.hnsr_circuit.specs.declared.answer.HnsrRuntimeError.TheVariants.{UnknownCircuit}
use Rattle.hnsr_circuit.specs.declared.records.RelayCircuit.{RelayCircuit}
use Rattle.hnsr_circuit.specs.declared.records.ReservationUsage.{ReservationUsage}
use Rattle.hnsr_circuit.specs.declared.records.RelaySide.{RelaySide}
use Rattle.hnsr_circuit.specs.declared.records.RelaySide.TheVariants.{Requester, Endpoint}
use Rattle.hnsr_circuit.specs.Answers.{HnsrAnswer, number, check, body_answer, ◌then◌}
use Rattle.hnsr_circuit.specs.Table.{edit}
use Rattle.hnsr_circuit.specs.Circuits.{circuit_at, side_of, moved, charged}
use Rattle.hnsr_circuit.specs.Ledger.{usage_with, usage_at, has_usage, usage_of, spent}
use Rattle.hnsr_circuit.specs.Inflight.{tallied, capacity_answer}
use Rattle.hnsr_circuit.specs.World.{World, Outcome, proceed, with_circuits, with_ledger, at_time}
use Rattle.hnsr_circuit.specs.Queue.{send}
use Rattle.hnsr_circuit.specs.Opcode.{op_open, op_data}
use Rattle.hnsr_circuit.specs.Entry.{handle_words, acknowledge_words}
use Rattle.hnsr_circuit.specs.Packet.{Packet, sender, has_circuit, named_circuit, receiver}
use Rattle.hnsr_circuit.specs.Data.{with_data, data_message, data_taken, bytes_answer, flow_answer}
use Rattle.hnsr_circuit.specs.Worked.Cases.{lent, not_admitted}
use Rattle.hnsr_circuit.specs.Call.{Call, step, call_handle}
use Rattle.hnsr_circuit.specs.Worked.All.{machine}
use Rattle.hnsr_run.specs.Claim.{Machine, past_at, Claim}
use Rattle.hnsr_run.specs.Talk.{granting, grant, opens, accepts, packet, sends, acked}
use Rattle.hnsr_run.specs.Refuted.Machines.{handling, entering, talk, run_of, can-send}

abbrev bytes : (from count : ℕ) → Packet
bytes from n = packet from op_data 7 (replicate n 65) 100

-- another call's outcome with its circuits or its ledger changed
abbrev recircuited : (RelayCircuit → RelayCircuit) → Packet → Outcome → Outcome
recircuited f q o = record {
  world = with_circuits o.world (edit (circuit_at q.context) f o.world.circuits);
  answer = o.answer;
  routes = o.routes;
  told = o.told;
}

-- ---- DATA charges its reservation twice: 60 bytes are left, and 30 do not pass (if; reservation left)
abbrev charged_again : Packet → Outcome → World → Outcome
charged_again q o w =
    let c = named_circuit w q in record {
      world =
          with_ledger o.world (edit (usage_at c.reservation_id) (spent (length q.body)) o.world.ledger);
      answer = o.answer;
      routes = o.routes;
      told = o.told;
    }

abbrev pub doubly : Machine
doubly =
    handling (λ w q room.
    cond (eqb q.opcode op_data) (charged_again q (step w (call_handle q room)) w) (step w (call_handle q room)))

pub doubly_refuted : Claim doubly → ⊥
unfolding machine lent not_admitted
doubly_refuted C =
    let r = run_of doubly refl (talk ++ (acked 1 2 ∷ acked 1 3 ∷ [])) refl in
    let d = (C r).acknowledged [] (λ f. refl) (λ a. acknowledge_words) (λ a. omega arith) in
    let p = (d.1 7 refl Requester (bytes 1 30) handle_words
    (can-send (past_at doubly r) 7 Requester (bytes 1 30) handle_words refl)).1
    (omega arith, omega arith, omega arith) in
    let k : ◌≡◌ {A = ℕ} 18 0 = ap number p.taken in
    omega arith

-- ---- a stranger's DATA is taken as the endpoint's, and spends its credit: 16,384 bytes are left, and they do not pass
-- (if; credit)
abbrev strange_taken : World → Packet → RelayCircuit → RelaySide → (n : ℕ) → HnsrAnswer
strange_taken w q c side n =
    body_answer (data_checked n)
    then check (not (has_circuit w q.context)) UnknownCircuit
    then capacity_answer w.runtime.config (tallied false q.context (receiver c (sender q)) w.inflight)
    then bytes_answer (has_usage c.reservation_id w.ledger) (usage_of c.reservation_id w.ledger) c n
    then flow_answer w.runtime.config c side n

abbrev strange_data : World → Packet → Outcome
strange_data w q =
    let c = named_circuit w q in
    let side = side_of (sender q) c in
    let n = length q.body in
    proceed w (strange_taken w q c side n)
    (send (with_data w q.context c.reservation_id side n) (data_message q c side n))

abbrev pub stranger : Machine
stranger = handling (λ w q room.
    cond (eqb q.opcode op_data && w.runtime.enabled)
    (proceed w (entering w q room) (strange_data (at_time w q.now) q))
    (step w (call_handle q room)))

abbrev wide : List Call
wide = opens 1 2 9 (7 ∷ []) (granting 5 40000 40000) 100 ∷ accepts 2 7 100 ∷ []

pub stranger_refuted : Claim stranger → ⊥
unfolding machine lent not_admitted
stranger_refuted C =
    let r = run_of stranger refl (wide ++ (sends 3 7 10 100 ∷ acked 1 2 ∷ acked 1 3 ∷ [])) refl in
    let d = (C r).acknowledged [] (λ f. refl) (λ a. acknowledge_words) (λ a. omega arith) in
    let p = (d.1 7 refl Endpoint (bytes 2 16384) handle_words
    (can-send (past_at stranger r) 7 Endpoint (bytes 2 16384) handle_words refl)).1
    (omega arith, omega arith, omega arith) in
    let k : ◌≡◌ {A = ℕ} 17 0 = ap number p.taken in
    omega arith

-- ---- DATA does not lower the sender's credit: none is left, and one byte more passes (only if; credit)
abbrev recredited : RelaySide → ℕ → RelayCircuit → RelayCircuit
recredited Requester n c =
    moved c c.used (c.requester_credit + n) c.endpoint_credit c.forwarded_bytes
    c.queued_to_requester c.queued_to_endpoint
recredited Endpoint n c =
    moved c c.used c.requester_credit (c.endpoint_credit + n) c.forwarded_bytes
    c.queued_to_requester c.queued_to_endpoint

abbrev pub uncredited : Machine
uncredited = handling (λ w q room.
    let o = step w (call_handle q room) in
    cond (eqb q.opcode op_data && eqb (number o.answer) 0)
    (recircuited (recredited (side_of (sender q) (named_circuit w q)) (length q.body)) q o)
    o)

pub uncredited_refuted : Claim uncredited → ⊥
unfolding machine lent not_admitted
uncredited_refuted C =
    let r = run_of uncredited refl (wide ++ (sends 1 7 16384 100 ∷ acked 1 2 ∷ acked 1 3 ∷ [])) refl in
    let d = (C r).acknowledged [] (λ f. refl) (λ a. acknowledge_words) (λ a. omega arith) in
    let p = (d.1 7 refl Requester (bytes 1 1) handle_words
    (can-send (past_at uncredited r) 7 Requester (bytes 1 1) handle_words refl)).0
    (record { taken = refl; route = _; one = refl; to = refl; opcode = refl; context = refl; body = refl }) in
    omega (arith, p.0)

-- ---- DATA is not counted in the circuit's own bytes: 10 are left of 50, and 20 pass (only if; circuit left)
abbrev uncounted : ℕ → RelayCircuit → RelayCircuit
uncounted n c =
    moved c c.used c.requester_credit c.endpoint_credit (c.forwarded_bytes - n)
    c.queued_to_requester c.queued_to_endpoint

abbrev pub unmeasured : Machine
unmeasured = handling (λ w q room.
    let o = step w (call_handle q room) in
    cond (eqb q.opcode op_data && eqb (number o.answer) 0) (recircuited (uncounted (length q.body)) q o) o)

pub unmeasured_refuted : Claim unmeasured → ⊥
unfolding machine lent not_admitted
unmeasured_refuted C =
    let r = run_of unmeasured refl
    (opens 1 2 9 (7 ∷ []) (granting 5 50 4000) 100 ∷ accepts 2 7 100 ∷ sends 1 7 40 100 ∷ acked 1 2 ∷ acked 1 3 ∷ [])
    refl in
    let d = (C r).acknowledged [] (λ f. refl) (λ a. acknowledge_words) (λ a. omega arith) in
    let p = (d.1 7 refl Requester (bytes 1 20) handle_words
    (can-send (past_at unmeasured r) 7 Requester (bytes 1 20) handle_words refl)).0
    (record { taken = refl; route = _; one = refl; to = refl; opcode = refl; context = refl; body = refl }) in
    omega (arith, p.1)

-- ---- a circuit's first DATA is charged; later ones are routed and queued, and charge nothing: 40 bytes are left, and
-- 50 pass (only if; reservation left)
abbrev uncharge : (bytes : ℕ) → RelaySide → RelayCircuit → RelayCircuit
uncharge n side c = recredited side n (uncounted n c)

abbrev free_data : World → Packet → Outcome
free_data w q =
    let c = named_circuit w q in
    let side = side_of (sender q) c in
    let n = length q.body in
    proceed w (data_taken w q c side n)
    (send (with_circuits w (edit (circuit_at q.context) (λ x. uncharge n side (charged side n x)) w.circuits))
    (data_message q c side n))

abbrev pub uncharged : Machine
uncharged = handling (λ w q room.
    cond (eqb q.opcode op_data)
    (cond (eqb (named_circuit w q).forwarded_bytes 0)
    (step w (call_handle q room))
    (proceed w (entering w q room) (free_data (at_time w q.now) q)))
    (step w (call_handle q room)))

pub uncharged_refuted : Claim uncharged → ⊥
unfolding machine lent not_admitted
uncharged_refuted C =
    let r = run_of uncharged refl (talk ++ (sends 1 7 20 100 ∷ acked 1 2 ∷ acked 1 3 ∷ acked 1 4 ∷ [])) refl in
    let d = (C r).acknowledged [] (λ f. refl) (λ a. acknowledge_words) (λ a. omega arith) in
    let p = (d.1 7 refl Requester (bytes 1 50) handle_words
    (can-send (past_at uncharged r) 7 Requester (bytes 1 50) handle_words refl)).0
    (record { taken = refl; route = _; one = refl; to = refl; opcode = refl; context = refl; body = refl }) in
    omega (arith, p.2)

-- ---- every OPEN begins its reservation's count again: 60 bytes are left, and 70 pass (only if; reservation left)
abbrev zeroed : ReservationUsage → ReservationUsage
zeroed u = usage_with u u.used 0

abbrev restarted : Packet → Outcome → Outcome
restarted q o = record {
  world = with_ledger o.world (edit (usage_at q.admission.ticket.reservation_id) zeroed o.world.ledger);
  answer = o.answer;
  routes = o.routes;
  told = o.told;
}

abbrev pub resetting : Machine
resetting =
    handling
    (λ w q room. cond (eqb q.opcode op_open) (restarted q (step w (call_handle q room))) (step w (call_handle q room)))

pub resetting_refuted : Claim resetting → ⊥
unfolding machine lent not_admitted
resetting_refuted C =
    let r = run_of resetting refl
    (talk ++ (opens 3 2 9 (8 ∷ []) (grant 5 100) 100 ∷ acked 1 2 ∷ acked 1 3 ∷ acked 1 4 ∷ [])) refl in
    let d = (C r).acknowledged [] (λ f. refl) (λ a. acknowledge_words) (λ a. omega arith) in
    let p = (d.1 7 refl Requester (bytes 1 70) handle_words
    (can-send (past_at resetting r) 7 Requester (bytes 1 70) handle_words refl)).0
    (record { taken = refl; route = _; one = refl; to = refl; opcode = refl; context = refl; body = refl }) in
    omega (arith, p.2)
