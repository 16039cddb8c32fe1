-- The world, the output and the next output word while a call sends, as the code goes through them: each part of a call
-- takes one such state to the next. A route that finds no room is not written and counts all the same, so that every
-- state has a next one; where all routes fit, which `routes-fit` proves of every call, the output is the definition's
-- (`Laws.Progress`).
use Rattle.std.specs.Prelude.{ℕ, false, List, [], ◌∷◌, length}
use Rattle.hns_encoding.specs.Numbers.{saturating_add}
use Rattle.hns_encoding.specs.Cursor.{written}
use Rattle.hnsr_circuit.specs.declared.records.RelayPending.{RelayPending}
use Rattle.hnsr_circuit.specs.declared.records.RelayCircuit.{RelayCircuit}
use Rattle.hnsr_circuit.specs.declared.records.ReservationUsage.{ReservationUsage}
use Rattle.hnsr_circuit.specs.declared.records.InflightAction.{InflightAction}
use Rattle.hnsr_circuit.specs.declared.output.queue.Outgoing.{Outgoing}
use Rattle.hnsr_circuit.specs.declared.tables.scan.ActionQuestion.{ActionQuestion}
use Rattle.hnsr_circuit.specs.declared.runtime.OpaqueRelayRuntime.{OpaqueRelayRuntime}
use Rattle.hnsr_circuit.specs.declared.runtime.Relayed.{Relayed}
use Rattle.hnsr_circuit.specs.declared.runtime.Sending.{Sending}
use Rattle.hnsr_circuit.specs.Answers.{HnsrAnswer}
use Rattle.hnsr_circuit.specs.Route.{Route, route_words, out_words, output}
use Rattle.hnsr_circuit.specs.World.{World, Outcome, world_of}
use Rattle.hnsr_circuit.specs.Queue.{Message, Sent}
use Rattle.hnsr_circuit.specs.Packet.{Packet}
use Rattle.hnsr_circuit.specs.declared.runtime.RelayPacket.{RelayPacket}

-- the message that the code sends with a body
abbrev pub message_of : Outgoing → (body : List ℕ) → Message
message_of m body = record {
  destination = m.destination;
  circuit = m.circuit_id;
  opcode = m.opcode;
  context = m.context_id;
  body = body;
  kind = m.kind;
  to_endpoint = m.to_endpoint;
  bytes = m.bytes;
}

-- the packet that the code is handed, with the slices that it is lent
abbrev pub packet_of : RelayPacket → (source body endpoint random : List ℕ) → Packet
packet_of q source body endpoint random = record {
  source = source;
  opcode = q.opcode;
  context = q.context_id;
  body = body;
  now = q.now;
  key_valid = q.key_valid;
  admission = record { admitted = q.admitted; endpoint = endpoint; ticket = q.ticket };
  random = random;
}

-- what a message asks of the actions
abbrev pub asking : OpaqueRelayRuntime → Outgoing → ActionQuestion
asking h m = record {
  replacing = false;
  circuit_id = m.circuit_id;
  peer = m.destination;
  generation = h.generation;
  sequence = h.next_action_sequence;
}

-- ---- routes into the output, one after the other
unfoldable pub filled_to : (position : ℕ) → List Route → ℕ
filled_to at [] = at
filled_to at (r ∷ rs) = filled_to (saturating_add 64 at (length (route_words r))) rs

unfoldable pub placed : (out : List ℕ) → (position : ℕ) → List Route → List ℕ
placed out at [] = out
placed out at (r ∷ rs) = placed (written out at (route_words r)) (saturating_add 64 at (length (route_words r))) rs

-- ---- a call under way
pub record Progress : Type 0 where
  pub world : World
  pub position : ℕ
  pub output : List ℕ

abbrev pub progress : World → (position : ℕ) → (output : List ℕ) → Progress
progress w at out = record { world = w; position = at; output = out }

-- what the code holds, with the tables that it was lent
abbrev pub underway : Sending → List RelayPending → List RelayCircuit → List ReservationUsage → List InflightAction
    → (out : List ℕ) → Progress
underway s p c l i out = progress (world_of s.state.runtime p c l i) s.position out

abbrev pub advanced : Progress → Sent → Progress
advanced s r = progress r.world (filled_to s.position r.routes) (placed s.output s.position r.routes)

-- a part of a call that cannot be refused
abbrev pub advance : (World → Sent) → Progress → Progress
advance f s = advanced s (f s.world)

-- ---- a call that is over
pub record Ended : Type 0 where
  pub world : World
  pub answer : HnsrAnswer
  pub words : ℕ
  pub output : List ℕ

abbrev pub result : World → HnsrAnswer → (words : ℕ) → (output : List ℕ) → Ended
result w a words out = record { world = w; answer = a; words = words; output = out }

abbrev pub handed_back : Relayed → List RelayPending → List RelayCircuit → List ReservationUsage → List InflightAction
    → (out : List ℕ) → Ended
handed_back r p c l i out = result (world_of r.state.runtime p c l i) r.answer r.words out

-- what a part of the code that ends a call leaves
abbrev pub ending : (out : List ℕ) → Outcome → Ended
ending out o = result o.world o.answer (filled_to 0 o.routes) (placed out 0 o.routes)

-- the whole outcome of a call: the world, the answer, how many words, and the output as the routes' words and then the
-- old tail
abbrev pub outcome : (out : List ℕ) → Outcome → Ended
outcome out o = result o.world o.answer (length (out_words o.routes)) (output out o.routes)
