-- The sixteen cases as one table (CASE.1, CASE.2), and that the definition gives their last answers.
use Rattle.std.specs.Prelude.{ℕ, ◌≡◌, refl, true, false, List, [], ◌∷◌, ◌++◌, replicate}
use Rattle.hns_encoding.specs.Bytes.{le_bytes}
use Rattle.hnsr_circuit.specs.declared.records.RelayTicket.{RelayTicket}
use Rattle.hnsr_circuit.specs.declared.config.OpaqueRelayConfig.{OpaqueRelayConfig}
use Rattle.hnsr_circuit.specs.Answers.{number}
use Rattle.hnsr_circuit.specs.Config.{default_config}
use Rattle.hnsr_circuit.specs.Pending.{no_ticket, no_pending}
use Rattle.hnsr_circuit.specs.Circuits.{no_circuit}
use Rattle.hnsr_circuit.specs.Ledger.{no_usage}
use Rattle.hnsr_circuit.specs.Inflight.{no_action}
use Rattle.hnsr_circuit.specs.Runtime.{new_runtime}
use Rattle.hnsr_circuit.specs.World.{World, Outcome}
use Rattle.hnsr_circuit.specs.Opcode.{op_open, op_accept, op_data, op_window, op_close, op_error}
use Rattle.hnsr_circuit.specs.Entry.{handle_words, acknowledge_words}
use Rattle.hnsr_circuit.specs.Packet.{Admission}
use Rattle.hnsr_circuit.specs.Call.{Start, Call, call_handle, call_acknowledge}
use Rattle.hnsr_circuit.specs.Worked.All.{machine}

unfoldable pub case_config : (queue : ℕ) → OpaqueRelayConfig
case_config queue = record {
  maximum_pending = 2;
  maximum_circuits = 2;
  maximum_circuits_per_peer = default_config.maximum_circuits_per_peer;
  maximum_queue_bytes = queue;
  maximum_inflight_actions = 8;
  maximum_inflight_actions_per_circuit = 8;
  maximum_inflight_actions_per_peer = 8;
  maximum_bytes_per_circuit = default_config.maximum_bytes_per_circuit;
  accept_timeout_seconds = default_config.accept_timeout_seconds;
}

-- what the host lends: so many places of each table, all unused; the runtime means nothing before `new`
unfoldable pub lent : (pending circuits inflight ledger : ℕ) → World
lent pending circuits inflight ledger = record {
  runtime = new_runtime [] 0 default_config 0;
  pending = replicate pending no_pending;
  circuits = replicate circuits no_circuit;
  ledger = replicate ledger no_usage;
  inflight = replicate inflight no_action;
}

-- ---- the calls of the cases
unfoldable pub requester_peer : List ℕ
requester_peer = 1 ∷ []

unfoldable pub endpoint_peer : List ℕ
endpoint_peer = 2 ∷ []

unfoldable pub third_peer : List ℕ
third_peer = 3 ∷ []

-- the circuit's id: the one draw
unfoldable pub circuit : ℕ
circuit = 7

unfoldable pub case_ticket : RelayTicket
case_ticket = record {
  reservation_id = record { high = 0; low = 5 };
  expires_at = 1000;
  max_active_circuits = 1;
  max_bytes_per_circuit = 20000;
  max_total_bytes = 30000;
}

unfoldable pub new_at : (queue : ℕ) → Start
unfolding case_config
new_at queue = record { session = replicate 16 1; generation = 1; config = case_config queue; now = 100 }

-- with packets other than OPEN nothing is admitted
unfoldable pub not_admitted : Admission
not_admitted = record { admitted = false; endpoint = []; ticket = no_ticket }

unfoldable pub packet_call : (source : List ℕ) → (opcode context : ℕ) → (body : List ℕ) → (now : ℕ) → Call
unfolding not_admitted
packet_call source opcode context body now =
    call_handle
    (record {
      source = source;
      opcode = opcode;
      context = context;
      body = body;
      now = now;
      key_valid = true;
      admission = not_admitted;
      random = [];
    }) handle_words

unfoldable pub open_call : Call
unfolding requester_peer endpoint_peer case_ticket circuit le_bytes
open_call =
    call_handle
    (record {
      source = requester_peer;
      opcode = op_open;
      context = 9;
      body =
          replicate 32 1 ++ replicate 15 0 ++ (5 ∷ []) ++ replicate 33 2 ++ le_bytes 2 1 ++ replicate 16 3
          ++ le_bytes 4 32768;
      now = 100;
      key_valid = true;
      admission = record { admitted = true; endpoint = endpoint_peer; ticket = case_ticket };
      random = replicate 7 0 ++ (circuit ∷ []);
    })
    handle_words

unfoldable pub accept_call : ℕ → Call
unfolding packet_call endpoint_peer circuit le_bytes
accept_call now = packet_call endpoint_peer op_accept circuit (le_bytes 4 32768 ++ replicate 16 4) now

unfoldable pub data_call : List ℕ → ℕ → ℕ → Call
unfolding packet_call circuit
data_call source size now = packet_call source op_data circuit (replicate size 65) now

unfoldable pub window_call : ℕ → Call
unfolding packet_call endpoint_peer circuit le_bytes
window_call delta = packet_call endpoint_peer op_window circuit (le_bytes 4 delta) 100

-- the first DATA's route has sequence 3: INCOMING was 1, OPENED 2
unfoldable pub delivered : Call
delivered = call_acknowledge 1 3 true acknowledge_words

-- ---- the table: the queue limit, the calls after `new`, and the last answer, 0 taken
pub record Case : Type 0 where
  pub queue : ℕ
  pub calls : List Call
  pub answer : ℕ

abbrev pub plain : ℕ
plain = default_config.maximum_queue_bytes

-- the circuit active
unfoldable pub active : List Call → List Call
unfolding open_call accept_call
active calls = open_call ∷ accept_call 100 ∷ calls

unfoldable pub sends : ℕ → Call
unfolding data_call requester_peer
sends size = data_call requester_peer size 100

unfoldable pub table : List Case
unfolding active open_call accept_call data_call sends window_call packet_call requester_peer third_peer
    circuit delivered
table =
    record { queue = plain; calls = active (sends 0 ∷ []); answer = 1 }
    ∷ record { queue = plain; calls = active (sends 16384 ∷ []); answer = 0 }
    ∷ record { queue = plain; calls = active (sends 16385 ∷ []); answer = 1 }
    ∷ record { queue = plain; calls = active (sends 16384 ∷ sends 3617 ∷ []); answer = 18 }
    ∷ record { queue = plain; calls = active (sends 16384 ∷ sends 3616 ∷ []); answer = 0 }
    ∷ record { queue = plain; calls = active (window_call 1015808 ∷ []); answer = 0 }
    ∷ record { queue = plain; calls = active (window_call 1015809 ∷ []); answer = 17 }
    ∷ record { queue = plain; calls = active (window_call 0 ∷ []); answer = 1 }
    ∷ record { queue = plain; calls = active (data_call requester_peer 1 99 ∷ []); answer = 7 }
    ∷ record { queue = plain; calls = open_call ∷ accept_call 110 ∷ []; answer = 11 }
    ∷ record { queue = plain; calls = open_call ∷ accept_call 109 ∷ []; answer = 0 }
    ∷ record {
      queue = plain;
      calls = active (packet_call requester_peer op_error circuit (0xFF ∷ 0xFF ∷ 0x00 ∷ []) 100 ∷ []);
      answer = 0;
    }
    ∷ record {
      queue = plain;
      calls = active (packet_call requester_peer op_close circuit (0 ∷ 0 ∷ 2 ∷ 0xC0 ∷ 0x80 ∷ []) 100 ∷ []);
      answer = 1;
    }
    ∷ record { queue = plain; calls = active (data_call third_peer 1 100 ∷ []); answer = 15 }
    ∷ record { queue = 16384; calls = active (sends 16384 ∷ sends 1 ∷ []); answer = 17 }
    ∷ record { queue = 16384; calls = active (sends 16384 ∷ delivered ∷ sends 1 ∷ []); answer = 0 }
    ∷ []

-- ---- the last answer of each case by the definition, and as the table has it
unfoldable pub last_answer : List Outcome → ℕ
last_answer [] = 0
last_answer (o ∷ []) = number o.answer
last_answer (o ∷ p ∷ os) = last_answer (p ∷ os)

unfoldable pub answers : List Case → List ℕ
unfolding last_answer lent new_at machine
answers [] = []
answers (c ∷ cs) = last_answer (machine (lent 2 2 8 1) (new_at c.queue) c.calls) ∷ answers cs

unfoldable pub expected : List Case → List ℕ
expected [] = []
expected (c ∷ cs) = c.answer ∷ expected cs

pub cases : answers table ≡ expected table
unfolding answers expected table
cases = refl
