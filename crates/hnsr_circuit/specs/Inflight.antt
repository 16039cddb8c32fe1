-- Outstanding actions: what is asked of one, the kinds, and the action capacity.
use Rattle.std.specs.Prelude.{ℕ, ◌-◌, min, Bool, true, false, cond, not, ◌&&◌, List, eqb}
use Rattle.hnsr_circuit.specs.declared.peer.HnsrPeerId.{HnsrPeerId}
use Rattle.hnsr_circuit.specs.declared.config.OpaqueRelayConfig.{OpaqueRelayConfig}
use Rattle.hnsr_circuit.specs.declared.records.InflightAction.{InflightAction}
use Rattle.hnsr_circuit.specs.declared.tables.scan.InflightTally.{InflightTally}
use Rattle.hnsr_circuit.specs.declared.records.InflightKind.{InflightKind}
use Rattle.hnsr_circuit.specs.declared.records.InflightKind.TheVariants.{Incoming, Opened, Data, Control, Close}
use Rattle.hnsr_circuit.specs.declared.records.RelaySide.{RelaySide}
use Rattle.hnsr_circuit.specs.declared.records.RelaySide.TheVariants.{Requester, Endpoint}
use Rattle.hnsr_circuit.specs.declared.answer.HnsrRuntimeError.TheVariants.{Capacity}
use Rattle.hns_encoding.specs.Sums.{count}
use Rattle.hnsr_circuit.specs.Table.{also, clear}
use Rattle.hnsr_circuit.specs.Answers.{HnsrAnswer, check}
use Rattle.hnsr_circuit.specs.Peer.{no_peer, same_peer}

-- a record in use; its mark replaced
abbrev pub action_record : (generation sequence circuit : ℕ) → HnsrPeerId → (kind : ℕ) → (to_endpoint : Bool)
    → (bytes : ℕ) → InflightAction
action_record generation sequence circuit destination kind to_endpoint bytes = record {
  used = true;
  generation = generation;
  sequence = sequence;
  circuit_id = circuit;
  destination = destination;
  kind = kind;
  to_endpoint = to_endpoint;
  bytes = bytes;
}

abbrev pub action_marked : (used : Bool) → InflightAction → InflightAction
action_marked used a = record {
  used = used;
  generation = a.generation;
  sequence = a.sequence;
  circuit_id = a.circuit_id;
  destination = a.destination;
  kind = a.kind;
  to_endpoint = a.to_endpoint;
  bytes = a.bytes;
}

-- what a table has past its end
abbrev pub no_action : InflightAction
no_action = action_marked false (action_record 0 0 0 no_peer 0 false 0)

-- ---- kinds (QUEUE.2). A stored kind is a number
abbrev pub kind_number : InflightKind → ℕ
kind_number Incoming = 0
kind_number Opened = 1
kind_number Data = 2
kind_number Control = 3
kind_number Close = 4

-- anything above 3 reads as Close
unfoldable pub kind_of : ℕ → InflightKind
kind_of n = cond (eqb n 0) Incoming (cond (eqb n 1) Opened (cond (eqb n 2) Data (cond (eqb n 3) Control Close)))

-- ---- the side that a Data goes to
abbrev pub to_endpoint : RelaySide → Bool
to_endpoint Requester = false
to_endpoint Endpoint = true

abbrev pub toward_side : InflightAction → RelaySide
toward_side a = cond a.to_endpoint Endpoint Requester

-- ---- questions
unfoldable pub is_action : InflightAction → Bool
is_action a = a.used

unfoldable pub action_at : (generation sequence : ℕ) → InflightAction → Bool
action_at generation sequence a = a.used && (eqb a.generation generation && eqb a.sequence sequence)

-- QUEUE.10: all that are stored under the id
unfoldable pub action_under : (id : ℕ) → InflightAction → Bool
action_under id a = a.used && eqb a.circuit_id id

unfoldable pub action_toward : HnsrPeerId → InflightAction → Bool
action_toward peer a = a.used && same_peer a.destination peer

-- ---- changes
abbrev pub clear_action : InflightAction → InflightAction
clear_action a = action_marked false a

unfoldable pub dropped : (InflightAction → Bool) → List InflightAction → List InflightAction
dropped p inflight = clear clear_action p inflight

-- ---- action capacity: three counts, of all actions, of those under the circuit, of those toward the peer. ACCEPT
-- replaces the actions of its own circuit: they are counted nowhere
abbrev pub retained : (replacing : Bool) → (circuit : ℕ) → InflightAction → Bool
retained replacing circuit a = a.used && not (replacing && eqb a.circuit_id circuit)

unfoldable pub tallied : (replacing : Bool) → (circuit : ℕ) → HnsrPeerId → List InflightAction → InflightTally
tallied replacing circuit peer inflight = record {
  total = count (retained replacing circuit) inflight;
  for_circuit = count (also (retained replacing circuit) (action_under circuit)) inflight;
  for_peer = count (also (retained replacing circuit) (action_toward peer)) inflight;
}

-- how many further actions fit: the smallest of the three distances
unfoldable pub capacity_left : OpaqueRelayConfig → InflightTally → ℕ
capacity_left c t =
    min (c.maximum_inflight_actions - t.total)
    (min (c.maximum_inflight_actions_per_circuit - t.for_circuit)
    (c.maximum_inflight_actions_per_peer - t.for_peer))

-- 10 actions: no capacity is 0 left
unfoldable pub capacity_answer : OpaqueRelayConfig → InflightTally → HnsrAnswer
capacity_answer c t = check (eqb (capacity_left c t) 0) Capacity
