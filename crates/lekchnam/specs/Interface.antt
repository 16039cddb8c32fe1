-- What the archive tells of itself: the number of its C interface, and a sample of every struct that passes, alone or
-- in another. A host that finds another sample than its own has other structs than the archive.
use Rattle.std.specs.Prelude.{ℕ, ◌+◌, true, false, replicate}
use Rattle.hnsr_body.specs.declared.open_body.OpenBody.{OpenBody}
use Rattle.hnsr_body.specs.declared.incoming_body.IncomingBody.{IncomingBody}
use Rattle.hnsr_body.specs.declared.accept_body.AcceptBody.{AcceptBody}
use Rattle.hnsr_body.specs.declared.accept_body.OpenedBody.{OpenedBody}
use Rattle.hnsr_body.specs.declared.data_body.WindowBody.{WindowBody}
use Rattle.hnsr_body.specs.declared.detail_body.ReasonDetail.{ReasonDetail}
use Rattle.hnsr_circuit.specs.Peer.{maximum_peer}
use Rattle.hnsr_circuit.specs.declared.records.RelayPending.{RelayPending}
use Rattle.hnsr_circuit.specs.declared.records.RelayCircuit.{RelayCircuit}
use Rattle.hnsr_circuit.specs.declared.records.ReservationUsage.{ReservationUsage}
use Rattle.hnsr_circuit.specs.declared.records.InflightAction.{InflightAction}
use Rattle.hnsr_circuit.specs.declared.runtime.RelayPacket.{RelayPacket}
use Rattle.hnsr_circuit.specs.declared.runtime.OpaqueRelayRuntime.{OpaqueRelayRuntime}
use Rattle.hnsr_circuit.specs.declared.tables.places.Places.{Places}
use Rattle.lekchnam.specs.declared.relay.RelayReply.{RelayReply}
use Rattle.lekchnam.specs.declared.relay.StatusReply.{StatusReply}
use Rattle.lekchnam.specs.declared.relay.DueReply.{DueReply}
use Rattle.lekchnam.specs.declared.interface.Layout.{Layout}

-- raised with every change of a C function or of a struct that passes
abbrev pub interface_version : ℕ
interface_version = 3

-- ---- the sample of a field: its number, with the highest bit of its width set, so that it fills the width
abbrev pub byte : ℕ → ℕ
byte n = 128 + n

abbrev pub half : ℕ → ℕ
half n = 32768 + n

abbrev pub word : ℕ → ℕ
word n = 2147483648 + n

abbrev pub wide : ℕ → ℕ
wide n = 9223372036854775808 + n

-- ---- the samples: no number stands twice
abbrev pub pending_sample : RelayPending
pending_sample = record {
  used = true;
  circuit_id = wide 2;
  requester = record { len = wide 3; bytes = replicate maximum_peer (byte 4) };
  endpoint = record { len = wide 5; bytes = replicate maximum_peer (byte 6) };
  requester_context = wide 7;
  ticket = record {
    reservation_id = record { high = wide 8; low = wide 9 };
    expires_at = wide 10;
    max_active_circuits = half 11;
    max_bytes_per_circuit = wide 12;
    max_total_bytes = wide 13;
  };
  initial_window = word 14;
  deadline = wide 15;
}

abbrev pub circuit_sample : RelayCircuit
circuit_sample = record {
  used = true;
  circuit_id = wide 17;
  requester = record { len = wide 18; bytes = replicate maximum_peer (byte 19) };
  endpoint = record { len = wide 20; bytes = replicate maximum_peer (byte 21) };
  reservation_id = record { high = wide 22; low = wide 23 };
  expires_at = wide 24;
  maximum_bytes = wide 25;
  maximum_total_bytes = wide 26;
  requester_credit = word 27;
  endpoint_credit = word 28;
  forwarded_bytes = wide 29;
  queued_to_requester = wide 30;
  queued_to_endpoint = wide 31;
}

abbrev pub usage_sample : ReservationUsage
usage_sample = record {
  used = true;
  reservation_id = record { high = wide 33; low = wide 34 };
  bytes = wide 35;
  expires_at = wide 36;
}

abbrev pub action_sample : InflightAction
action_sample = record {
  used = true;
  generation = wide 38;
  sequence = wide 39;
  circuit_id = wide 40;
  destination = record { len = wide 41; bytes = replicate maximum_peer (byte 42) };
  kind = byte 43;
  to_endpoint = false;
  bytes = wide 45;
}

abbrev pub packet_sample : RelayPacket
packet_sample = record {
  opcode = byte 46;
  context_id = wide 47;
  now = wide 48;
  key_valid = true;
  admitted = false;
  ticket = record {
    reservation_id = record { high = wide 51; low = wide 52 };
    expires_at = wide 53;
    max_active_circuits = half 54;
    max_bytes_per_circuit = wide 55;
    max_total_bytes = wide 56;
  };
}

abbrev pub runtime_sample : OpaqueRelayRuntime
runtime_sample = record {
  session = replicate 16 (byte 57);
  generation = wide 58;
  enabled = true;
  trusted_time_high_water = wide 60;
  config = record {
    maximum_pending = wide 61;
    maximum_circuits = wide 62;
    maximum_circuits_per_peer = half 63;
    maximum_queue_bytes = wide 64;
    maximum_inflight_actions = wide 65;
    maximum_inflight_actions_per_circuit = wide 66;
    maximum_inflight_actions_per_peer = wide 67;
    maximum_bytes_per_circuit = wide 68;
    accept_timeout_seconds = wide 69;
  };
  next_action_sequence = wide 70;
  counters = record {
    admitted_opens = wide 71;
    opened_circuits = wide 72;
    bytes_sent = wide 73;
    bytes_received = wide 74;
    revoked_work = wide 75;
  };
}

abbrev pub places_sample : Places
places_sample = record {
  pending = wide 76;
  circuits = wide 77;
  ledger = wide 78;
  actions = wide 79;
}

abbrev pub reply_sample : RelayReply
reply_sample = record {
  answer = word 80;
  cause = record { kind = word 81; first = wide 82; second = wide 83 };
  words = wide 84;
  runtime = runtime_sample;
  places = places_sample;
}

abbrev pub status_reply_sample : StatusReply
status_reply_sample = record {
  answer = word 85;
  status = record {
    generation = wide 86;
    enabled = true;
    pending_circuits = wide 88;
    active_circuits = wide 89;
    queued_bytes = wide 90;
    queued_actions = wide 91;
    trusted_time_high_water = wide 92;
    admitted_opens = wide 93;
    opened_circuits = wide 94;
    bytes_sent = wide 95;
    bytes_received = wide 96;
    revoked_work = wide 97;
  };
  action_capacity = wide 121;
}

abbrev pub due_reply_sample : DueReply
due_reply_sample = record {
  answer = word 98;
  some = true;
  due = wide 100;
}

abbrev pub open_body_sample : OpenBody
open_body_sample = record {
  ticket_id = replicate 32 (byte 101);
  reservation_id = record { high = wide 102; low = wide 103 };
  endpoint_key = replicate 33 (byte 104);
  profile = half 105;
  requester_nonce = replicate 16 (byte 106);
  initial_window = word 107;
}

abbrev pub incoming_body_sample : IncomingBody
incoming_body_sample = record {
  ticket_id = replicate 32 (byte 108);
  open_request_id = wide 109;
  profile = half 110;
  requester_nonce = replicate 16 (byte 111);
  initial_window = word 112;
}

abbrev pub accept_body_sample : AcceptBody
accept_body_sample = record {
  accepted_window = word 113;
  endpoint_nonce = replicate 16 (byte 114);
}

abbrev pub opened_body_sample : OpenedBody
opened_body_sample = record {
  circuit_id = wide 115;
  accepted_window = word 116;
  endpoint_nonce = replicate 16 (byte 117);
}

abbrev pub window_body_sample : WindowBody
window_body_sample = record {
  credit_delta = word 118;
}

abbrev pub reason_detail_sample : ReasonDetail
reason_detail_sample = record {
  reason = half 119;
  detail_length = wide 120;
}

abbrev pub layout_sample : Layout
layout_sample = record {
  pending = pending_sample;
  circuit = circuit_sample;
  usage = usage_sample;
  action = action_sample;
  packet = packet_sample;
  reply = reply_sample;
  status_reply = status_reply_sample;
  due_reply = due_reply_sample;
  open_body = open_body_sample;
  incoming_body = incoming_body_sample;
  accept_body = accept_body_sample;
  opened_body = opened_body_sample;
  window_body = window_body_sample;
  reason_detail = reason_detail_sample;
}
