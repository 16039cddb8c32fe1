-- `acknowledge` (ACK.1 to ACK.9): an action goes, and with it what it held; what was not delivered ends its record.
use Rattle.std.specs.Prelude.{ℕ, Bool, true, false, cond, not, List, [], eqb}
use Rattle.hnsr_body.specs.declared.messages.Notice.TheVariants.{EndpointWriteFailed, OuterWriteFailed}
use Rattle.hnsr_circuit.specs.declared.records.RelayPending.{RelayPending}
use Rattle.hnsr_circuit.specs.declared.records.RelayCircuit.{RelayCircuit}
use Rattle.hnsr_circuit.specs.declared.records.InflightAction.{InflightAction}
use Rattle.hnsr_circuit.specs.declared.answer.HnsrRuntimeError.TheVariants.{StaleGeneration, UnknownAction}
use Rattle.hnsr_circuit.specs.Table.{any, pick, edit}
use Rattle.hnsr_circuit.specs.Answers.{HnsrAnswer, check, ◌then◌}
use Rattle.hnsr_circuit.specs.Pending.{pending_at}
use Rattle.hnsr_circuit.specs.Circuits.{circuit_at, lowered}
use Rattle.hnsr_circuit.specs.declared.records.InflightKind.{InflightKind}
use Rattle.hnsr_circuit.specs.declared.records.InflightKind.TheVariants.{Incoming, Opened, Data, Control, Close}
use Rattle.hnsr_circuit.specs.Inflight.{no_action, action_at, clear_action, kind_of, toward_side}
use Rattle.hnsr_circuit.specs.Runtime.{count_revoked}
use Rattle.hnsr_circuit.specs.World.{World, Outcome, done, proceed, with_circuits, with_inflight, counting}
use Rattle.hnsr_circuit.specs.Queue.{finished, send, generation_of}
use Rattle.hnsr_circuit.specs.Entry.{acknowledge_words, room_answer}
use Rattle.hnsr_circuit.specs.Revocation.{without_pending, error_to_requester, has_pending, pending_in, revoke_circuit}

-- ---- rows
-- 5 (ACK.1, SWITCH.1): another generation is current
unfoldable pub generation_answer : (current given : ℕ) → HnsrAnswer
generation_answer current given = check (not (eqb given current)) StaleGeneration

-- 20 (ACK.2): no such action
unfoldable pub action_answer : (found : Bool) → HnsrAnswer
action_answer found = check (not found) UnknownAction

-- ---- the action removed (ACK.3)
abbrev pub without_action : World → (generation sequence : ℕ) → World
without_action w generation sequence = with_inflight w (edit (action_at generation sequence) clear_action w.inflight)

-- ACK.4: a Data's bytes leave the queue
unfoldable pub lower_for : InflightKind → InflightAction → List RelayCircuit → List RelayCircuit
lower_for Data a circuits = edit (circuit_at a.circuit_id) (lowered (toward_side a) a.bytes) circuits
lower_for Incoming a circuits = circuits
lower_for Opened a circuits = circuits
lower_for Control a circuits = circuits
lower_for Close a circuits = circuits

unfoldable pub released : World → InflightAction → World
released w a = with_circuits w (lower_for (kind_of a.kind) a w.circuits)

-- ---- undelivered
-- INCOMING: the pending record ends alone, and the requester hears (ACK.6, ACK.7)
unfoldable pub fail_pending : World → (id : ℕ) → RelayPending → Outcome
fail_pending w id p =
    send (counting count_revoked (without_pending w (pending_at id))) (error_to_requester EndpointWriteFailed p)

unfoldable pub fail_incoming : World → (id : ℕ) → Outcome
fail_incoming w id = cond (has_pending w id) (fail_pending w id (pending_in w id)) (done w [])

-- ACK.6, ACK.8, ACK.9, by kind
unfoldable pub undelivered : InflightKind → World → (id : ℕ) → Outcome
undelivered Incoming w id = fail_incoming w id
undelivered Opened w id = finished (revoke_circuit OuterWriteFailed w id)
undelivered Data w id = finished (revoke_circuit OuterWriteFailed w id)
undelivered Control w id = finished (revoke_circuit OuterWriteFailed w id)
undelivered Close w id = done w []

unfoldable pub settled : World → InflightAction → (delivered : Bool) → Outcome
settled w a true = done w []
settled w a false = undelivered (kind_of a.kind) w a.circuit_id

-- ---- the steps, in the order of the rows
unfoldable pub acknowledge_taken : World → (generation sequence room : ℕ) → HnsrAnswer
acknowledge_taken w generation sequence room =
    room_answer w room acknowledge_words
    then generation_answer (generation_of w) generation
    then action_answer (any (action_at generation sequence) w.inflight)

unfoldable pub acknowledge_action : World → (generation sequence : ℕ) → (delivered : Bool) → InflightAction → Outcome
acknowledge_action w generation sequence delivered a =
    settled (released (without_action w generation sequence) a) a delivered

unfoldable pub acknowledge : World → (generation sequence : ℕ) → (delivered : Bool) → (room : ℕ) → Outcome
acknowledge w generation sequence delivered room =
    proceed w (acknowledge_taken w generation sequence room)
    (acknowledge_action w generation sequence delivered (pick (action_at generation sequence) no_action w.inflight))
