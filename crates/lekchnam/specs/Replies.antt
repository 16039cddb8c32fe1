-- What the C functions hand back: the outcome of a call with its answer in numbers.
use Rattle.std.specs.Prelude.{ℕ, ◌≡◌, false, cond, List, Option, is_some, unwrap_or, Ok, Err}
use Rattle.std.specs.Prelude.{Result}
use Rattle.hnsr_body.specs.declared.error.Cause.{Cause}
use Rattle.hnsr_circuit.specs.declared.records.RelayPending.{RelayPending}
use Rattle.hnsr_circuit.specs.declared.records.RelayCircuit.{RelayCircuit}
use Rattle.hnsr_circuit.specs.declared.records.ReservationUsage.{ReservationUsage}
use Rattle.hnsr_circuit.specs.declared.records.InflightAction.{InflightAction}
use Rattle.hnsr_circuit.specs.declared.runtime.Relayed.{Relayed}
use Rattle.hnsr_circuit.specs.declared.runtime.StatusTold.{StatusTold}
use Rattle.hnsr_circuit.specs.declared.answer.HnsrRuntimeError.{HnsrRuntimeError}
use Rattle.hnsr_circuit.specs.Answers.{number, error_number, cause_of, taken}
use Rattle.hnsr_circuit.specs.Code.Told.{no_status}
use Rattle.hnsr_circuit.specs.Runtime.{no_runtime}
use Rattle.hnsr_circuit.specs.World.{World, Outcome, world_of}
use Rattle.hnsr_circuit.specs.Code.Held.{no_place, every_place, world_seen}
use Rattle.hnsr_circuit.specs.Code.Progress.{Ended}
use Rattle.lekchnam.specs.declared.relay.RelayReply.{RelayReply}
use Rattle.lekchnam.specs.declared.relay.StatusReply.{StatusReply}
use Rattle.lekchnam.specs.declared.relay.DueReply.{DueReply}

-- runtime and tables, the answer's number and cause, how many words, and the output
pub record Replied : Type 0 where
  pub world : World
  pub answer : ℕ
  pub cause : Cause
  pub words : ℕ
  pub output : List ℕ

-- what a call hands back, with its answer in numbers
abbrev pub reply_of : Relayed → RelayReply
reply_of r = record {
  answer = number r.answer;
  cause = cause_of r.answer;
  words = r.words;
  runtime = r.state.runtime;
  places = r.state.places;
}

-- what a C function hands back, with the tables that it leaves, as they are seen, and the output
abbrev pub replied : RelayReply → List RelayPending → List RelayCircuit → List ReservationUsage → List InflightAction
    → (out : List ℕ) → Replied
replied r p c l i out = record {
  world = world_seen r.runtime r.places p c l i;
  answer = r.answer;
  cause = r.cause;
  words = r.words;
  output = out;
}

-- a call's result with its answer in numbers
abbrev pub numbered : Ended → Replied
numbered r = record {
  world = r.world;
  answer = number r.answer;
  cause = cause_of r.answer;
  words = r.words;
  output = r.output;
}

-- what `new` hands back: its answer; the tables as they are seen; the runtime that it makes with no place in use, or,
-- where it is refused, zeros and off, with the marks alone to decide
pub record MadeReply (r : RelayReply) (p : List RelayPending) (c : List RelayCircuit) (l : List ReservationUsage)
    (i : List InflightAction) (o : Outcome) : Type 0 where
  pub answer : r.answer ≡ number o.answer
  pub cause : r.cause ≡ cause_of o.answer
  pub tables : world_of o.world.runtime p c l i ≡ o.world
  pub runtime : r.runtime ≡ cond (taken o.answer) o.world.runtime no_runtime
  pub places : r.places ≡ cond (taken o.answer) no_place every_place
  pub words : r.words ≡ 0

-- a refusal tells zeros
abbrev pub status_numbered : Result StatusTold HnsrRuntimeError → StatusReply
status_numbered (Ok t) = record { answer = 0; status = t.status; action_capacity = t.action_capacity }
status_numbered (Err e) = record { answer = error_number e; status = no_status; action_capacity = 0 }

-- a refusal tells that nothing is due
abbrev pub due_numbered : Result (Option ℕ) HnsrRuntimeError → DueReply
due_numbered (Ok d) = record { answer = 0; some = is_some d; due = unwrap_or d 0 }
due_numbered (Err e) = record { answer = error_number e; some = false; due = 0 }
