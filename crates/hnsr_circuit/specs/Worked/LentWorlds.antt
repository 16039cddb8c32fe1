-- Worlds as a host may lend them, and what is looked at, for the examples of Lent and LentMore. Names of one byte: the
-- requester is 1, the endpoint 2, as in the cases.
use Rattle.std.specs.Prelude.{ℕ, ◌-◌, Bool, true, List, [], ◌∷◌, replicate, get_or}
use Rattle.hns_encoding.specs.Numbers.{top}
use Rattle.hnsr_circuit.specs.declared.peer.HnsrPeerId.{HnsrPeerId}
use Rattle.hnsr_circuit.specs.declared.records.RelayTicket.{RelayTicket}
use Rattle.hnsr_circuit.specs.declared.records.RelayPending.{RelayPending}
use Rattle.hnsr_circuit.specs.declared.records.RelayCircuit.{RelayCircuit}
use Rattle.hnsr_circuit.specs.declared.records.ReservationUsage.{ReservationUsage}
use Rattle.hnsr_circuit.specs.declared.records.InflightAction.{InflightAction}
use Rattle.hnsr_circuit.specs.declared.config.OpaqueRelayConfig.{OpaqueRelayConfig}
use Rattle.hnsr_circuit.specs.declared.runtime.OpaqueRelayRuntime.{OpaqueRelayRuntime}
use Rattle.hnsr_circuit.specs.Answers.{HnsrAnswer}
use Rattle.hnsr_circuit.specs.Peer.{maximum_peer}
use Rattle.hnsr_circuit.specs.Circuits.{no_circuit}
use Rattle.hnsr_circuit.specs.Pending.{pending_record}
use Rattle.hnsr_circuit.specs.Ledger.{usage_for, usage_with}
use Rattle.hnsr_circuit.specs.Inflight.{action_record, no_action}
use Rattle.hnsr_circuit.specs.Runtime.{new_runtime, with_sequence}
use Rattle.hnsr_circuit.specs.Route.{Route, out_words, output}
use Rattle.hnsr_circuit.specs.World.{World, Told, silent, status_is, due_is, with_runtime}
use Rattle.hnsr_circuit.specs.Call.{Call, call_status, call_next_due, step}
use Rattle.hnsr_circuit.specs.Code.Told.{capacity_in}
use Rattle.hnsr_circuit.specs.Worked.All.{machine}
use Rattle.hnsr_circuit.specs.Worked.Cases.{case_config}

-- ---- records
unfoldable pub peer : ℕ → HnsrPeerId
peer b = record { len = 1; bytes = b ∷ replicate (maximum_peer - 1) 0 }

unfoldable pub found_ticket : RelayTicket
found_ticket = record {
  reservation_id = record { high = 0; low = 5 };
  expires_at = 1000;
  max_active_circuits = 2;
  max_bytes_per_circuit = 20000;
  max_total_bytes = 30000;
}

unfoldable pub pending_between : (id context : ℕ) → (requester endpoint : HnsrPeerId) → RelayPending
unfolding found_ticket
pending_between id context requester endpoint = pending_record id requester endpoint context found_ticket 32768 110

unfoldable pub pending_on : (id context : ℕ) → RelayPending
unfolding peer pending_between
pending_on id context = pending_between id context (peer 1) (peer 2)

-- another deadline, in use
unfoldable pub until : (deadline : ℕ) → RelayPending → RelayPending
until deadline p =
    pending_record p.circuit_id p.requester p.endpoint p.requester_context p.ticket
    p.initial_window deadline

unfoldable pub circuit_on : (id : ℕ) → (requester endpoint : HnsrPeerId) → (forwarded queued : ℕ) → RelayCircuit
circuit_on id requester endpoint forwarded queued = record {
  used = true;
  circuit_id = id;
  requester = requester;
  endpoint = endpoint;
  reservation_id = record { high = 0; low = 5 };
  expires_at = 1000;
  maximum_bytes = (top 64);
  maximum_total_bytes = (top 64);
  requester_credit = 32768;
  endpoint_credit = 32768;
  forwarded_bytes = forwarded;
  queued_to_requester = 0;
  queued_to_endpoint = queued;
}

unfoldable pub usage_on : (low bytes : ℕ) → ReservationUsage
usage_on low bytes = usage_with (usage_for (record { high = 0; low = low }) 1000) true bytes

unfoldable pub action_on : (sequence id kind bytes : ℕ) → InflightAction
unfolding peer
action_on sequence id kind bytes = action_record 1 sequence id (peer 2) kind true bytes

-- ---- worlds
unfoldable pub found : List RelayPending → List RelayCircuit → List ReservationUsage → List InflightAction → World
unfolding case_config machine
found pending circuits ledger inflight = record {
  runtime = new_runtime (replicate 16 1) 1 (case_config 65536) 100;
  pending = pending;
  circuits = circuits;
  ledger = ledger;
  inflight = inflight;
}

unfoldable pub free : ℕ → List InflightAction
free n = replicate n no_action

-- the next action number and the generation at their tops
unfoldable pub last_sequence : World → World
last_sequence w = with_runtime w (with_sequence w.runtime (top 64))

unfoldable pub last_generation : World → World
unfolding case_config
last_generation w = with_runtime w (new_runtime (replicate 16 1) (top 64) (case_config 65536) 100)

-- other limits of the actions: of all, of those of a circuit, of those toward a peer
unfoldable pub limits : (all circuit peer : ℕ) → OpaqueRelayConfig
limits all circuit peer = record {
  maximum_pending = 2;
  maximum_circuits = 2;
  maximum_circuits_per_peer = 2;
  maximum_queue_bytes = 65536;
  maximum_inflight_actions = all;
  maximum_inflight_actions_per_circuit = circuit;
  maximum_inflight_actions_per_peer = peer;
  maximum_bytes_per_circuit = 20000;
  accept_timeout_seconds = 10;
}

unfoldable pub limited : OpaqueRelayConfig → World → World
limited c w = with_runtime w (new_runtime (replicate 16 1) 1 c 100)

-- ---- what is looked at
unfoldable pub answer_of : World → Call → HnsrAnswer
unfolding machine
answer_of w c = (step w c).answer

unfoldable pub told_of : World → Call → Told
unfolding machine
told_of w c = (step w c).told

unfoldable pub due_after : World → Call → Told
unfolding machine
due_after w c = (step (step w c).world call_next_due).told

unfoldable pub words_of : World → Call → List ℕ
unfolding machine
words_of w c = out_words (step w c).routes

unfoldable pub output_after : World → Call → List ℕ → List ℕ
unfolding machine
output_after w c out = output out (step w c).routes

-- of each route its sequence number, to whom (the first byte of the name), opcode and context
unfoldable pub routes_of : List Route → List (List ℕ)
routes_of [] = []
routes_of (r ∷ rs) = (r.sequence ∷ get_or r.destination.bytes 0 0 ∷ r.opcode ∷ r.context ∷ []) ∷ routes_of rs

unfoldable pub routes : World → Call → List (List ℕ)
unfolding machine routes_of
routes w c = routes_of (step w c).routes

unfoldable pub pending_marks : List RelayPending → List Bool
pending_marks [] = []
pending_marks (p ∷ ps) = p.used ∷ pending_marks ps

unfoldable pub pending_after : World → Call → List Bool
unfolding machine pending_marks
pending_after w c = pending_marks (step w c).world.pending

unfoldable pub first_circuit : World → Call → RelayCircuit
unfolding machine
first_circuit w c = get_or (step w c).world.circuits 0 no_circuit

unfoldable pub first_action : World → Call → InflightAction
unfolding machine
first_action w c = get_or (step w c).world.inflight 0 no_action

unfoldable pub runtime_after : World → Call → OpaqueRelayRuntime
unfolding machine
runtime_after w c = (step w c).world.runtime

unfoldable pub queued_actions : Told → ℕ
queued_actions silent = 0
queued_actions (status_is s capacity) = s.queued_actions
queued_actions (due_is d) = 0

unfoldable pub bytes_told : Told → ℕ
bytes_told silent = 0
bytes_told (status_is s capacity) = s.queued_bytes
bytes_told (due_is d) = 0

-- toward a peer, by the byte of its name, and on a circuit
unfoldable pub capacity_of : World → (peer circuit : ℕ) → ℕ
unfolding machine
capacity_of w peer circuit = capacity_in (step w (call_status (peer ∷ []) circuit)).told

unfoldable pub bytes_queued : World → ℕ
unfolding machine bytes_told
bytes_queued w = bytes_told (step w (call_status (1 ∷ []) 0)).told

unfoldable pub actions_after : World → Call → ℕ
unfolding machine queued_actions
actions_after w c = queued_actions (step (step w c).world (call_status (1 ∷ []) 0)).told
