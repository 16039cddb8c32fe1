-- What a call answers, and the number of each answer (ANS.5). 19 and 21 are the requester's and the snapshot's: no call
-- here gives them.
use Rattle.std.specs.Prelude.{ℕ, Bool, true, false, Result, Ok, Err, is_ok}
use Rattle.std.specs.Result.{result_and}
use Rattle.hnsr_body.specs.declared.error.Cause.{Cause}
use Rattle.hnsr_body.specs.declared.error.HnsrProtocolError.{HnsrProtocolError}
use Rattle.hnsr_body.specs.Causes.{cause_numbers}
use Rattle.hnsr_circuit.specs.declared.answer.HnsrRuntimeError.{HnsrRuntimeError}
use Rattle.hnsr_circuit.specs.declared.answer.HnsrRuntimeError.TheVariants.{Protocol, InvalidConfig}
use Rattle.hnsr_circuit.specs.declared.answer.HnsrRuntimeError.TheVariants.{InvalidSession, InvalidPeer}
use Rattle.hnsr_circuit.specs.declared.answer.HnsrRuntimeError.TheVariants.{StaleGeneration, GenerationExhausted}
use Rattle.hnsr_circuit.specs.declared.answer.HnsrRuntimeError.TheVariants.{ClockRollback, Randomness, Disabled}
use Rattle.hnsr_circuit.specs.declared.answer.HnsrRuntimeError.TheVariants.{Capacity, InvalidAdmission, Deadline}
use Rattle.hnsr_circuit.specs.declared.answer.HnsrRuntimeError.TheVariants.{UnknownRequest, UnknownCircuit}
use Rattle.hnsr_circuit.specs.declared.answer.HnsrRuntimeError.TheVariants.{WrongPeer, UnexpectedOpcode}
use Rattle.hnsr_circuit.specs.declared.answer.HnsrRuntimeError.TheVariants.{FlowControl, ByteLimit, NoQueuedData}
use Rattle.hnsr_circuit.specs.declared.answer.HnsrRuntimeError.TheVariants.{UnknownAction, CorruptSnapshot}
use Rattle.hnsr_circuit.specs.declared.answer.HnsrRuntimeError.TheVariants.{Short, LedgerFull}

-- `Ok` is taken, `Err` refused
abbrev pub HnsrAnswer : Type 0
HnsrAnswer = Result Unit HnsrRuntimeError

abbrev pub error_number : HnsrRuntimeError → ℕ
error_number (Protocol cause) = 1
error_number InvalidConfig = 2
error_number InvalidSession = 3
error_number InvalidPeer = 4
error_number StaleGeneration = 5
error_number GenerationExhausted = 6
error_number ClockRollback = 7
error_number Randomness = 8
error_number Disabled = 9
error_number Capacity = 10
error_number InvalidAdmission = 11
error_number Deadline = 12
error_number UnknownRequest = 13
error_number UnknownCircuit = 14
error_number WrongPeer = 15
error_number UnexpectedOpcode = 16
error_number FlowControl = 17
error_number ByteLimit = 18
error_number NoQueuedData = 19
error_number UnknownAction = 20
error_number CorruptSnapshot = 21
error_number Short = 22
error_number LedgerFull = 23

-- 0 is taken
abbrev pub number : HnsrAnswer → ℕ
number (Ok _) = 0
number (Err e) = error_number e

-- ---- the cause that a 1 carries, as three numbers: its kind (0 where there is none) and its values
abbrev pub no_cause : Cause
no_cause = cause_numbers {A = Unit} (Ok tt)

abbrev pub error_cause : HnsrRuntimeError → Cause
error_cause (Protocol cause) = cause_numbers {A = Unit} (Err cause)
error_cause e = no_cause

abbrev pub cause_of : HnsrAnswer → Cause
cause_of (Ok _) = no_cause
cause_of (Err e) = error_cause e

-- ---- rows (ANS.2): a test and its refusal; a body and its cause; rows in order, of which the first refusal is the
-- answer
abbrev pub check : Bool → HnsrRuntimeError → HnsrAnswer
check true e = Err e
check false e = Ok tt

abbrev pub body_answer : Result Unit HnsrProtocolError → HnsrAnswer
body_answer (Ok done) = Ok tt
body_answer (Err cause) = Err (Protocol cause)

infixr 20 ◌then◌
abbrev pub ◌then◌ : HnsrAnswer → HnsrAnswer → HnsrAnswer
a then b = result_and a b

abbrev pub taken : HnsrAnswer → Bool
taken a = is_ok a
