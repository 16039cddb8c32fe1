-- The calls that the computed runs are made of, and the tables and the start that they run from.
use Rattle.std.specs.Prelude.{ℕ, true, false, List, [], ◌∷◌, ◌++◌, replicate}
use Rattle.hns_encoding.specs.Bytes.{le_bytes, be_bytes}
use Rattle.hnsr_circuit.specs.declared.config.OpaqueRelayConfig.{OpaqueRelayConfig}
use Rattle.hnsr_circuit.specs.declared.records.RelayTicket.{RelayTicket}
use Rattle.hnsr_circuit.specs.Answers.{number}
use Rattle.hnsr_circuit.specs.World.{World}
use Rattle.hnsr_circuit.specs.Opcode.{op_open, op_accept, op_data, op_window, op_close, op_error}
use Rattle.hnsr_circuit.specs.Entry.{handle_words, acknowledge_words}
use Rattle.hnsr_circuit.specs.Packet.{Packet}
use Rattle.hnsr_circuit.specs.Worked.Cases.{lent, not_admitted}
use Rattle.hnsr_circuit.specs.Call.{Start, start, Call, step, call_handle, call_acknowledge}
use Rattle.hnsr_circuit.specs.Call.{call_disconnect, call_revoke_reservation}
use Rattle.hnsr_run.specs.Past.{Past}
use Rattle.hnsr_run.specs.History.{Event, begin, reckon}
use Rattle.hnsr_run.specs.Claim.{left_by, events}

abbrev pub few_places : OpaqueRelayConfig
few_places = record {
  maximum_pending = 3;
  maximum_circuits = 3;
  maximum_circuits_per_peer = 32;
  maximum_queue_bytes = 65536;
  maximum_inflight_actions = 16;
  maximum_inflight_actions_per_circuit = 8;
  maximum_inflight_actions_per_peer = 16;
  maximum_bytes_per_circuit = 16777216;
  accept_timeout_seconds = 10;
}

abbrev pub tables : World
tables = lent 3 3 16 2

abbrev pub fresh : Start
fresh = record { session = replicate 16 1; generation = 1; config = few_places; now = 100 }

-- few actions: four in all, two on a circuit, two toward a peer
abbrev few_actions : OpaqueRelayConfig
few_actions = record {
  maximum_pending = 3;
  maximum_circuits = 3;
  maximum_circuits_per_peer = 32;
  maximum_queue_bytes = 65536;
  maximum_inflight_actions = 4;
  maximum_inflight_actions_per_circuit = 2;
  maximum_inflight_actions_per_peer = 2;
  maximum_bytes_per_circuit = 16777216;
  accept_timeout_seconds = 10;
}

abbrev pub tight : Start
tight = record { session = replicate 16 1; generation = 1; config = few_actions; now = 100 }

-- at most 4 circuits, expiry 1,000
abbrev pub granting : (reservation bytes total : ℕ) → RelayTicket
granting r bytes total = record {
  reservation_id = record { high = 0; low = r };
  expires_at = 1000;
  max_active_circuits = 4;
  max_bytes_per_circuit = bytes;
  max_total_bytes = total;
}

-- and 4,000 bytes a circuit
abbrev pub grant : (reservation total : ℕ) → RelayTicket
grant r total = granting r 4000 total

-- peers are names of one byte, draws of ids are numbers
abbrev pub drawing : List ℕ → List ℕ
drawing [] = []
drawing (id ∷ ids) = be_bytes 8 id ++ drawing ids

abbrev pub opens : (from to context : ℕ) → (ids : List ℕ) → RelayTicket → (now : ℕ) → Call
opens from to context ids ticket now =
    call_handle
    (record {
      source = from ∷ [];
      opcode = op_open;
      context = context;
      body =
          replicate 32 1 ++ be_bytes 8 0 ++ be_bytes 8 ticket.reservation_id.low ++ replicate 33 2 ++ le_bytes 2 1
          ++ replicate 16 3 ++ le_bytes 4 32768;
      now = now;
      key_valid = true;
      admission = record { admitted = true; endpoint = to ∷ []; ticket = ticket };
      random = drawing ids;
    })
    handle_words

abbrev pub packet : (from opcode context : ℕ) → (body : List ℕ) → (now : ℕ) → Packet
packet from opcode context body now = record {
  source = from ∷ [];
  opcode = opcode;
  context = context;
  body = body;
  now = now;
  key_valid = true;
  admission = not_admitted;
  random = [];
}

abbrev pub accepts : (from id now : ℕ) → Call
accepts from id now = call_handle (packet from op_accept id (le_bytes 4 16384 ++ replicate 16 4) now) handle_words

abbrev pub sends : (from id size now : ℕ) → Call
sends from id size now = call_handle (packet from op_data id (replicate size 65) now) handle_words

abbrev pub widens : (from id delta now : ℕ) → Call
widens from id delta now = call_handle (packet from op_window id (le_bytes 4 delta) now) handle_words

abbrev pub closes : (from context now : ℕ) → Call
closes from context now = call_handle (packet from op_close context (0 ∷ 0 ∷ 0 ∷ []) now) handle_words

abbrev pub fails : (from context now : ℕ) → Call
fails from context now = call_handle (packet from op_error context (0 ∷ 0 ∷ 0 ∷ []) now) handle_words

abbrev pub acked : (generation sequence : ℕ) → Call
acked generation sequence = call_acknowledge generation sequence true acknowledge_words

-- not delivered
abbrev pub lost : (generation sequence : ℕ) → Call
lost generation sequence = call_acknowledge generation sequence false acknowledge_words

-- room for all that a revoking call may say
abbrev pub ample : ℕ
ample = 1000

abbrev pub leaves : (peer : ℕ) → Call
leaves peer = call_disconnect (peer ∷ []) ample

abbrev pub revokes : (reservation : ℕ) → Call
revokes r = call_revoke_reservation (record { high = 0; low = r }) ample

-- ---- a run from the start, and what its events tell
abbrev pub world_from : Start → List Call → World
world_from s calls = left_by step (start tables s).world calls

abbrev pub events_from : Start → List Call → List Event
events_from s calls = events step (start tables s).world calls

abbrev pub past_from : Start → List Call → Past
past_from s calls = reckon (begin s) (events_from s calls)

abbrev pub world_after : List Call → World
world_after calls = world_from fresh calls

abbrev pub past_after : List Call → Past
past_after calls = past_from fresh calls

abbrev pub number_of : Event → ℕ
number_of e = number e.answer
