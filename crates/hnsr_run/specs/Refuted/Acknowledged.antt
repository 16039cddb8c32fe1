-- Machines that do not take every acknowledgement of an outstanding action, or not in every order.
use Rattle.std.specs.Prelude.{ℕ, ◌≡◌, refl, Bool, true, false, cond, ◌&&◌, List, [], ◌∷◌, ◌++◌, eqb, ltb}
use Rattle.std.proofs.Common.{arith, ap}
use Rattle.hnsr_circuit.specs.declared.answer.HnsrRuntimeError.TheVariants.{UnknownAction}
use Rattle.hnsr_circuit.specs.declared.records.InflightAction.{InflightAction}
use Rattle.hnsr_circuit.specs.declared.records.InflightKind.{InflightKind}
use Rattle.hnsr_circuit.specs.declared.records.InflightKind.TheVariants.{Opened, Data, Close}
use Rattle.hnsr_circuit.specs.Answers.{HnsrAnswer, number}
use Rattle.hnsr_circuit.specs.Table.{any}
use Rattle.hnsr_circuit.specs.Peer.{peer_of}
use Rattle.hnsr_circuit.specs.Inflight.{kind_number, action_at}
use Rattle.hnsr_circuit.specs.World.{refuse}
use Rattle.hnsr_circuit.specs.Entry.{acknowledge_words}
use Rattle.hnsr_circuit.specs.Worked.Cases.{lent, not_admitted}
use Rattle.hnsr_circuit.specs.Call.{step, call_acknowledge}
use Rattle.hnsr_circuit.specs.Worked.All.{machine}
use Rattle.hnsr_run.specs.Past.{Action}
use Rattle.hnsr_run.specs.Orders.{swapped, any_order}
use Rattle.hnsr_run.specs.Claim.{Machine, Claim}
use Rattle.hnsr_run.specs.Talk.{closes}
use Rattle.hnsr_run.specs.Refuted.Machines.{acknowledging, opened, talk, run_of}

-- the actions of the runs, by their numbers
abbrev action_of : (sequence peer : ℕ) → InflightKind → (to_endpoint : Bool) → (bytes : ℕ) → Action
action_of sequence peer kind to_endpoint bytes = record {
  generation = 1;
  sequence = sequence;
  circuit = 7;
  destination = peer_of (peer ∷ []);
  kind = kind_number kind;
  to_endpoint = to_endpoint;
  bytes = bytes;
}

abbrev first_of : List HnsrAnswer → ℕ
first_of [] = 0
first_of (a ∷ rest) = number a

-- ---- the acknowledgement of a CLOSE or an ERROR is refused, in whatever order
abbrev is_close : (generation sequence : ℕ) → InflightAction → Bool
is_close g s a = action_at g s a && eqb a.kind (kind_number Close)

abbrev pub deaf : Machine
deaf = acknowledging (λ w g s delivered room.
    cond (any (is_close g s) w.inflight) (refuse w UnknownAction) (step w (call_acknowledge g s delivered room)))

pub deaf_refuted : Claim deaf → ⊥
unfolding machine lent not_admitted
deaf_refuted C =
    let d = (C (run_of deaf refl (opened ++ (closes 1 7 100 ∷ [])) refl)).acknowledged
    (action_of 3 2 Close false 0 ∷ []) (λ f. refl) (λ a. acknowledge_words) (λ a. omega arith) in
    let k : ◌≡◌ {A = ℕ} 20 0 = ap first_of d.0 in
    omega arith

-- ---- only the oldest action may be acknowledged
abbrev older : ℕ → InflightAction → Bool
older s a = a.used && ltb a.sequence s

abbrev pub in_order : Machine
in_order = acknowledging (λ w g s delivered room.
    cond (any (older s) w.inflight) (refuse w UnknownAction) (step w (call_acknowledge g s delivered room)))

pub in_order_refuted : Claim in_order → ⊥
unfolding machine lent not_admitted
in_order_refuted C =
    let first = action_of 2 1 Opened false 0 in
    let last = action_of 3 2 Data true 40 in
    let d = (C (run_of in_order refl talk refl)).acknowledged (last ∷ first ∷ [])
    (any_order (last ∷ first ∷ []) (first ∷ last ∷ []) (swapped last first [])) (λ a. acknowledge_words)
    (λ a. omega arith) in
    let k : ◌≡◌ {A = ℕ} 20 0 = ap first_of d.0 in
    omega arith
