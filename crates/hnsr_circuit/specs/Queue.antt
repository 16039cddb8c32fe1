-- Queueing (QUEUE.1, QUEUE.3, QUEUE.6 to QUEUE.8; Inflight has the others): a message becomes a route and an
-- outstanding action.
-- The last step of a call sends, and can be refused; a revocation tells, and leaves out what cannot be sent.
use Rattle.std.specs.Prelude.{ℕ, ◌+◌, Bool, true, false, List, [], ◌∷◌, ◌++◌, eqb, Ok, Err}
use Rattle.hns_encoding.specs.Numbers.{top}
use Rattle.hnsr_body.specs.declared.error.HnsrInvalid.TheVariants.{ContextZero}
use Rattle.hnsr_body.specs.declared.error.HnsrProtocolError.TheVariants.{Invalid}
use Rattle.hnsr_circuit.specs.declared.peer.HnsrPeerId.{HnsrPeerId}
use Rattle.hnsr_circuit.specs.declared.config.OpaqueRelayConfig.{OpaqueRelayConfig}
use Rattle.hnsr_circuit.specs.declared.records.InflightAction.{InflightAction}
use Rattle.hnsr_circuit.specs.declared.tables.scan.InflightTally.{InflightTally}
use Rattle.hnsr_circuit.specs.declared.answer.HnsrRuntimeError.TheVariants.{Protocol, GenerationExhausted}
use Rattle.hnsr_circuit.specs.Table.{put}
use Rattle.hnsr_circuit.specs.Answers.{HnsrAnswer, check, ◌then◌}
use Rattle.hnsr_circuit.specs.declared.records.InflightKind.{InflightKind}
use Rattle.hnsr_circuit.specs.Inflight.{action_record, kind_number, is_action, action_at, tallied, capacity_answer}
use Rattle.hnsr_circuit.specs.Route.{Route}
use Rattle.hnsr_circuit.specs.Runtime.{with_sequence}
use Rattle.hnsr_circuit.specs.World.{World, Outcome, config_of, done, proceed, with_runtime, with_inflight}

-- ---- a message: where it goes, the circuit that it is about, the packet, and what its action holds. The direction and
-- the bytes are of Data alone
pub record Message : Type 0 where
  pub destination : HnsrPeerId
  pub circuit : ℕ
  pub opcode : ℕ
  pub context : ℕ
  pub body : List ℕ
  pub kind : InflightKind
  pub to_endpoint : Bool
  pub bytes : ℕ

abbrev pub message : HnsrPeerId → (circuit opcode context : ℕ) → (body : List ℕ) → InflightKind → Message
message destination circuit opcode context body kind = record {
  destination = destination;
  circuit = circuit;
  opcode = opcode;
  context = context;
  body = body;
  kind = kind;
  to_endpoint = false;
  bytes = 0;
}

-- ---- 1, 10, 6 (QUEUE.6). A made body is never too large, so of what `HnsrPacket::new` refuses only the zero context
-- is left
unfoldable pub queue_answer : OpaqueRelayConfig → InflightTally → (sequence context : ℕ) → HnsrAnswer
queue_answer c t sequence context =
    check (eqb context 0) (Protocol (Invalid ContextZero))
    then capacity_answer c t
    then check (eqb sequence (top 64)) GenerationExhausted

abbrev pub action_for : Message → (generation sequence : ℕ) → InflightAction
action_for m generation sequence =
    action_record generation sequence m.circuit m.destination (kind_number m.kind) m.to_endpoint m.bytes

abbrev pub route_for : Message → (generation sequence : ℕ) → Route
route_for m generation sequence = record {
  circuit = m.circuit;
  destination = m.destination;
  generation = generation;
  sequence = sequence;
  opcode = m.opcode;
  context = m.context;
  body = m.body;
}

abbrev pub generation_of : World → ℕ
generation_of w = w.runtime.generation

abbrev pub sequence_of : World → ℕ
sequence_of w = w.runtime.next_action_sequence

-- whether a message can be queued now
unfoldable pub can_queue : Message → World → HnsrAnswer
can_queue m w =
    queue_answer (config_of w) (tallied false m.circuit m.destination w.inflight) (sequence_of w) m.context

-- the action written and the sequence moved on
unfoldable pub queued : Message → World → World
queued m w =
    with_runtime
    (with_inflight w
    (put is_action (action_at (generation_of w) (sequence_of w)) (action_for m (generation_of w) (sequence_of w))
    w.inflight)) (with_sequence w.runtime (sequence_of w + 1))

abbrev pub routed : Message → World → Route
routed m w = route_for m (generation_of w) (sequence_of w)

-- ---- the last step of a call (QUEUE.7): what it has written stays, also if the message is refused
unfoldable pub send : World → Message → Outcome
send w m = proceed w (can_queue m w) (done (queued m w) (routed m w ∷ []))

-- ---- a part of a call that cannot be refused: the world that it leaves and the routes that it adds
pub record Sent : Type 0 where
  pub world : World
  pub routes : List Route

abbrev pub silently : World → Sent
silently w = record { world = w; routes = [] }

abbrev pub and_then : Sent → (World → Sent) → Sent
and_then s g = let r = g s.world in record { world = r.world; routes = s.routes ++ r.routes }

-- a part that is there only where a test holds
unfoldable pub when : Bool → (World → Sent) → World → Sent
when true part w = part w
when false part w = silently w

abbrev pub finished : Sent → Outcome
finished s = done s.world s.routes

-- QUEUE.8: what cannot be queued is left out
unfoldable pub tell_if : HnsrAnswer → Message → World → Sent
tell_if (Ok _) m w = record { world = queued m w; routes = routed m w ∷ [] }
tell_if (Err e) m w = silently w

unfoldable pub tell : Message → World → Sent
tell m w = tell_if (can_queue m w) m w
