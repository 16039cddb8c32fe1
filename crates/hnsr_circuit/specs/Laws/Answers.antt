-- Laws of answers: rows in order are taken exactly where each is, a check exactly where its test is false, and which
-- numbers a list of rows never gives.
use Rattle.std.specs.Prelude.{ℕ, ◌≡◌, refl, Bool, true, false, eqb, Ok, Err}
use Rattle.std.proofs.Common.{true≢false}
use Rattle.std.proofs.lemmas.Bool.{eqb-false}
use Rattle.hnsr_circuit.specs.declared.answer.HnsrRuntimeError.{HnsrRuntimeError}
use Rattle.hnsr_circuit.specs.declared.answer.HnsrRuntimeError.TheVariants.{Protocol, InvalidConfig}
use Rattle.hnsr_circuit.specs.declared.answer.HnsrRuntimeError.TheVariants.{InvalidSession, InvalidPeer}
use Rattle.hnsr_circuit.specs.declared.answer.HnsrRuntimeError.TheVariants.{StaleGeneration, GenerationExhausted}
use Rattle.hnsr_circuit.specs.declared.answer.HnsrRuntimeError.TheVariants.{ClockRollback, Randomness, Disabled}
use Rattle.hnsr_circuit.specs.declared.answer.HnsrRuntimeError.TheVariants.{Capacity, InvalidAdmission, Deadline}
use Rattle.hnsr_circuit.specs.declared.answer.HnsrRuntimeError.TheVariants.{UnknownRequest, UnknownCircuit}
use Rattle.hnsr_circuit.specs.declared.answer.HnsrRuntimeError.TheVariants.{WrongPeer, UnexpectedOpcode}
use Rattle.hnsr_circuit.specs.declared.answer.HnsrRuntimeError.TheVariants.{FlowControl, ByteLimit, NoQueuedData}
use Rattle.hnsr_circuit.specs.declared.answer.HnsrRuntimeError.TheVariants.{UnknownAction, CorruptSnapshot}
use Rattle.hnsr_circuit.specs.declared.answer.HnsrRuntimeError.TheVariants.{Short, LedgerFull}
use Rattle.hnsr_circuit.specs.Answers.{HnsrAnswer, error_number, number, check, ◌then◌, taken}

pub check-taken : (b : Bool) (e : HnsrRuntimeError) → check b e ≡ Ok tt → b ≡ false
check-taken true e h = cc
check-taken false e h = refl

pub taken-check : (b : Bool) (e : HnsrRuntimeError) → b ≡ false → check b e ≡ Ok tt
taken-check b e h = rw h

pub then_taken : (a b : HnsrAnswer) → (a then b) ≡ Ok tt → (a ≡ Ok tt) × (b ≡ Ok tt)
then_taken (Ok _) b h = (refl, h)
then_taken (Err e) b h = (h, cc)

pub taken_then : (a b : HnsrAnswer) → a ≡ Ok tt → b ≡ Ok tt → (a then b) ≡ Ok tt
taken_then a b h k = rw (h, k)

-- three rows as one, and what comes behind
pub then_three : (a b c d : HnsrAnswer) → ((a then b then c) then d) ≡ (a then b then c then d)
then_three (Ok _) (Ok _) c d = refl
then_three (Ok _) (Err e) c d = refl
then_three (Err e) b c d = refl

-- ---- the first refusal is the answer, whatever rows come behind
pub stop : (a x : HnsrAnswer) → taken a ≡ false → a ≡ (a then x)
stop (Ok _) x t = absurd (true≢false t)
stop (Err e) x t = refl

pub stop-two : (a b x : HnsrAnswer) → taken (a then b) ≡ false → (a then b) ≡ (a then b then x)
stop-two (Ok _) b x t = stop b x t
stop-two (Err e) b x t = refl

pub stop-three : (a b c x : HnsrAnswer) → taken (a then b then c) ≡ false → (a then b then c) ≡ (a then b then c then x)
stop-three (Ok _) b c x t = stop-two b c x t
stop-three (Err e) b c x t = refl

-- ---- numbers that are never given
pub check-never : (m : ℕ) (b : Bool) (e : HnsrRuntimeError) → eqb 0 m ≡ false → eqb (error_number e) m ≡ false
    → eqb (number (check b e)) m ≡ false
check-never m true e z h = h
check-never m false e z h = z

pub then_never : (m : ℕ) (a b : HnsrAnswer) → eqb (number a) m ≡ false → eqb (number b) m ≡ false
    → eqb (number (a then b)) m ≡ false
then_never m (Ok _) b h k = k
then_never m (Err e) b h k = h

-- ---- 0 is taken, and nothing else is
error-some : (e : HnsrRuntimeError) → eqb (error_number e) 0 ≡ false
error-some (Protocol cause) = refl
error-some InvalidConfig = refl
error-some InvalidSession = refl
error-some InvalidPeer = refl
error-some StaleGeneration = refl
error-some GenerationExhausted = refl
error-some ClockRollback = refl
error-some Randomness = refl
error-some Disabled = refl
error-some Capacity = refl
error-some InvalidAdmission = refl
error-some Deadline = refl
error-some UnknownRequest = refl
error-some UnknownCircuit = refl
error-some WrongPeer = refl
error-some UnexpectedOpcode = refl
error-some FlowControl = refl
error-some ByteLimit = refl
error-some NoQueuedData = refl
error-some UnknownAction = refl
error-some CorruptSnapshot = refl
error-some Short = refl
error-some LedgerFull = refl

pub number-zero : (a : HnsrAnswer) → number a ≡ 0 → a ≡ Ok tt
number-zero (Ok _) h = refl
number-zero (Err e) h = absurd (eqb-false (error_number e) 0 (error-some e) h)
