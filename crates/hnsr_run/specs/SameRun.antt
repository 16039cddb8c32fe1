-- The claim's events and last world are those of the definition's own run (hnsr_circuit's `Call`): the same answers and
-- routes, in order, and the same world left.
use Rattle.std.specs.Prelude.{◌≡◌, refl, List, [], ◌∷◌, map}
use Rattle.std.proofs.Common.{ap}
use Rattle.hnsr_circuit.specs.Answers.{HnsrAnswer}
use Rattle.hnsr_circuit.specs.Route.{Route}
use Rattle.hnsr_circuit.specs.World.{World}
use Rattle.hnsr_circuit.specs.Call.{Call, step, steps}
use Rattle.hnsr_circuit.specs.Call.{left_by as left_by_calls}
use Rattle.hnsr_run.specs.Claim.{left_by, events}

pub same-world : (w : World) (calls : List Call) → left_by step w calls ≡ left_by_calls w calls
unfolding left_by_calls
same-world w [] = refl
same-world w (c ∷ cs) = same-world (step w c).world cs

pub same-answers : (w : World) (calls : List Call)
    → map (λ e. e.answer) (events step w calls) ≡ map (λ o. o.answer) (steps w calls)
unfolding steps
same-answers w [] = refl
same-answers w (c ∷ cs) = ap {B = List HnsrAnswer} (λ l. (step w c).answer ∷ l) (same-answers (step w c).world cs)

pub same-routes : (w : World) (calls : List Call)
    → map (λ e. e.routes) (events step w calls) ≡ map (λ o. o.routes) (steps w calls)
unfolding steps
same-routes w [] = refl
same-routes w (c ∷ cs) = ap {B = List (List Route)} (λ l. (step w c).routes ∷ l) (same-routes (step w c).world cs)

pub same-calls : (w : World) (calls : List Call) → map (λ e. e.call) (events step w calls) ≡ calls
same-calls w [] = refl
same-calls w (c ∷ cs) = ap {B = List Call} (λ l. c ∷ l) (same-calls (step w c).world cs)
