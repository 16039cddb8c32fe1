-- What the code decides of a message that is to be queued, and what it writes of one that is.
use Rattle.std.specs.Prelude.{ℕ, ◌+◌, ◌≡◌, List, [], length, set, Result, Ok}
use Rattle.std.specs.Option.{option_or, unwrap_or}
use Rattle.std.specs.Result.{result_and}
use Rattle.hnsr_circuit.specs.declared.output.queue.Outgoing.{Outgoing}
use Rattle.hnsr_circuit.specs.declared.tables.scan.ActionScan.{ActionScan}
use Rattle.hnsr_circuit.specs.declared.output.queue.Queued.{Queued}
use Rattle.hnsr_circuit.specs.declared.runtime.OpaqueRelayRuntime.{OpaqueRelayRuntime}
use Rattle.hnsr_circuit.specs.declared.answer.HnsrRuntimeError.{HnsrRuntimeError}
use Rattle.hns_encoding.specs.Numbers.{saturating_add}
use Rattle.hns_encoding.specs.Words.{word_count}
use Rattle.hns_encoding.specs.Cursor.{written}
use Rattle.hnsr_circuit.specs.declared.records.InflightAction.{InflightAction}
use Rattle.hnsr_circuit.specs.declared.runtime.RelayState.{RelayState}
use Rattle.hnsr_circuit.specs.declared.runtime.Sending.{Sending}
use Rattle.hnsr_circuit.specs.Runtime.{with_sequence}
use Rattle.hnsr_circuit.specs.Route.{route_words, head_words}
use Rattle.hnsr_circuit.specs.Queue.{queue_answer, action_for, route_for}
use Rattle.hnsr_circuit.specs.Code.Progress.{message_of}
use Rattle.hnsr_circuit.specs.Code.Held.{held_actions}

-- what refuses the message is the answer; else the sequence is moved on, and the action stands at its place
abbrev pub queueing : OpaqueRelayRuntime → Outgoing → ActionScan → Result Queued HnsrRuntimeError
queueing h m s =
    result_and (queue_answer h.config s.tally h.next_action_sequence m.context_id) (Ok (record {
      runtime = with_sequence h (h.next_action_sequence + 1);
      place = option_or s.found s.spare;
      action = action_for (message_of m []) h.generation h.next_action_sequence;
    }))

-- what a queued message leaves: its action stored, the other tables' numbers as they were, and its route in the output
pub record Written (m : Outgoing) (body : List ℕ) (q : Queued) (s : RelayState) (at : ℕ) (i : List InflightAction)
    (out : List ℕ) (r : Sending) (i' : List InflightAction) (out' : List ℕ) : Type 0 where
  pub runtime : r.state.runtime ≡ q.runtime
  pub pending : r.state.places.pending ≡ s.places.pending
  pub circuits : r.state.places.circuits ≡ s.places.circuits
  pub ledger : r.state.places.ledger ≡ s.places.ledger
  pub actions : held_actions r.state.places i' ≡ set (held_actions s.places i) (unwrap_or q.place (length i)) q.action
  pub position : r.position ≡ saturating_add 64 at (head_words + word_count (length body))
  pub output : out'
      ≡ written out at (route_words (route_for (message_of m body) s.runtime.generation s.runtime.next_action_sequence))
