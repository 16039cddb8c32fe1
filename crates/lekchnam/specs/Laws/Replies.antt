-- What a call ensures, said of its reply in numbers.
use Rattle.std.specs.Prelude.{ℕ, ◌≡◌, List}
use Rattle.std.proofs.Common.{◌∙◌, ap}
use Rattle.hnsr_circuit.specs.declared.records.RelayPending.{RelayPending}
use Rattle.hnsr_circuit.specs.declared.records.RelayCircuit.{RelayCircuit}
use Rattle.hnsr_circuit.specs.declared.records.ReservationUsage.{ReservationUsage}
use Rattle.hnsr_circuit.specs.declared.records.InflightAction.{InflightAction}
use Rattle.hnsr_circuit.specs.declared.runtime.Relayed.{Relayed}
use Rattle.hnsr_circuit.specs.Answers.{number, cause_of}
use Rattle.hnsr_circuit.specs.World.{Outcome}
use Rattle.hnsr_circuit.specs.Code.Held.{held_pending, held_circuits, held_ledger}
use Rattle.hnsr_circuit.specs.Code.Held.{held_actions, world_seen, handed_seen}
use Rattle.hnsr_circuit.specs.Code.Progress.{Ended}
use Rattle.hnsr_circuit.specs.Code.Told.{Made}
use Rattle.lekchnam.specs.declared.relay.RelayReply.{RelayReply}
use Rattle.lekchnam.specs.Replies.{reply_of, replied, numbered, MadeReply}

pub in_numbers : {r : RelayReply} {d : Relayed} (p : List RelayPending) (c : List RelayCircuit)
    (l : List ReservationUsage) (i : List InflightAction) (out : List ℕ) {R : Ended}
    → r ≡ reply_of d → handed_seen d p c l i out ≡ R → replied r p c l i out ≡ numbered R
in_numbers p c l i out e h = ap (λ (q : RelayReply). replied q p c l i out) e ∙ ap numbered h

pub made_in_numbers : {r : RelayReply} {d : Relayed} (p : List RelayPending) (c : List RelayCircuit)
    (l : List ReservationUsage) (i : List InflightAction) (o : Outcome) → r ≡ reply_of d
    → Made d (held_pending d.state.places p) (held_circuits d.state.places c) (held_ledger d.state.places l)
    (held_actions d.state.places i) o
    → MadeReply r (held_pending r.places p) (held_circuits r.places c) (held_ledger r.places l)
    (held_actions r.places i) o
made_in_numbers p c l i o e m = record {
  answer = ap (λ (q : RelayReply). q.answer) e ∙ ap number m.answer;
  cause = ap (λ (q : RelayReply). q.cause) e ∙ ap cause_of m.answer;
  tables = ap (λ (q : RelayReply). world_seen o.world.runtime q.places p c l i) e ∙ m.tables;
  runtime = ap (λ (q : RelayReply). q.runtime) e ∙ m.runtime;
  places = ap (λ (q : RelayReply). q.places) e ∙ m.places;
  words = ap (λ (q : RelayReply). q.words) e ∙ m.words;
}
