-- Messages queued one after the other, in the words of the theorems about the action capacity.
use Rattle.std.specs.Prelude.{ℕ, ◌+◌, ◌≤◌, ◌≡◌, false, List, [], ◌∷◌, eqb, length}
use Prim.{Unit}
use Rattle.hnsr_circuit.specs.declared.peer.HnsrPeerId.{HnsrPeerId}
use Rattle.hnsr_circuit.specs.Answers.{HnsrAnswer}
use Rattle.hnsr_circuit.specs.Table.{any}
use Rattle.hnsr_circuit.specs.Inflight.{action_at, tallied}
use Rattle.hnsr_circuit.specs.World.{World, config_of}
use Rattle.hnsr_circuit.specs.Queue.{Message, generation_of, sequence_of, send}

-- each is sent from the world that the one before left: what they are answered, and the world after the last
abbrev pub answers_to : World → List Message → List HnsrAnswer
answers_to w [] = []
answers_to w (m ∷ ms) = (send w m).answer ∷ answers_to (send w m).world ms

abbrev pub sent_all : World → List Message → World
sent_all w [] = w
sent_all w (m ∷ ms) = sent_all (send w m).world ms

-- a message to this peer about this circuit, with a context: without one it could not be formed
pub record Toward (peer : HnsrPeerId) (circuit : ℕ) (m : Message) : Type 0 where
  pub destination : m.destination ≡ peer
  pub about : m.circuit ≡ circuit
  pub formed : eqb m.context 0 ≡ false

abbrev pub AllToward : HnsrPeerId → (circuit : ℕ) → List Message → Type 0
AllToward peer circuit [] = Unit {0}
AllToward peer circuit (m ∷ ms) = Toward peer circuit m × AllToward peer circuit ms

-- the table has the places of its limit, and no used action has the next number or one behind it: as a run leaves it
pub record Ready (w : World) : Type 0 where
  pub places : (config_of w).maximum_inflight_actions ≤ length w.inflight
  pub fresh : (s : ℕ) → sequence_of w ≤ s → any (action_at (generation_of w) s) w.inflight ≡ false

-- none of the three counts is over its limit
pub record Within (w : World) (peer : HnsrPeerId) (circuit : ℕ) : Type 0 where
  pub all : (tallied false circuit peer w.inflight).total ≤ (config_of w).maximum_inflight_actions
  pub under : (tallied false circuit peer w.inflight).for_circuit
      ≤ (config_of w).maximum_inflight_actions_per_circuit
  pub toward : (tallied false circuit peer w.inflight).for_peer
      ≤ (config_of w).maximum_inflight_actions_per_peer

-- a number and another that is the same, or one more
abbrev pub OneApart : (less more : ℕ) → Type 0
OneApart less more = (less ≤ more) × (more ≤ less + 1)
