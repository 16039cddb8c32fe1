-- The number and the values of each cause of a 1 (ANS.6, ANS.7). A host gets a cause as these three numbers; 0 is no
-- cause.
use Rattle.std.specs.Prelude.{ℕ, Bool, true, false, Result, Ok, Err}
use Rattle.hns_encoding.specs.declared.decoder.DecodeError.{DecodeError}
use Rattle.hns_encoding.specs.declared.decoder.DecodeError.TheVariants.{UnexpectedEnd, TrailingBytes}
use Rattle.hnsr_body.specs.declared.error.HnsrInvalid.{HnsrInvalid}
use Rattle.hnsr_body.specs.declared.error.HnsrInvalid.TheVariants.{ContextZero, OpenParameters}
use Rattle.hnsr_body.specs.declared.error.HnsrInvalid.TheVariants.{IncomingParameters, AcceptResponse}
use Rattle.hnsr_body.specs.declared.error.HnsrInvalid.TheVariants.{CircuitZero, DataSize, WindowCredit}
use Rattle.hnsr_body.specs.declared.error.HnsrInvalid.TheVariants.{DiagnosticDetail, NotUtf8}
use Rattle.hnsr_body.specs.declared.error.HnsrProtocolError.{HnsrProtocolError}
use Rattle.hnsr_body.specs.declared.error.HnsrProtocolError.TheVariants.{Decode, Invalid, TooLarge, Admission}
use Rattle.hnsr_body.specs.declared.error.Cause.{Cause}

-- which text
abbrev pub text_number : HnsrInvalid → ℕ
text_number ContextZero = 1
text_number OpenParameters = 2
text_number IncomingParameters = 3
text_number AcceptResponse = 4
text_number CircuitZero = 5
text_number DataSize = 6
text_number WindowCredit = 7
text_number DiagnosticDetail = 8
text_number NotUtf8 = 9

-- a cause as a host gets it: its kind and its values
abbrev pub decode_cause : DecodeError → Cause
decode_cause (UnexpectedEnd offset needed) = record { kind = 1; first = offset; second = needed }
decode_cause (TrailingBytes remaining) = record { kind = 2; first = remaining; second = 0 }

abbrev pub error_cause : HnsrProtocolError → Cause
error_cause (Decode error) = decode_cause error
error_cause (Invalid text) = record { kind = 3; first = text_number text; second = 0 }
error_cause (TooLarge actual maximum) = record { kind = 4; first = actual; second = maximum }
error_cause Admission = record { kind = 5; first = 0; second = 0 }

-- and whether there is one
abbrev pub cause_numbers : {A : Type 0} → Result A HnsrProtocolError → Cause
cause_numbers (Ok given) = record { kind = 0; first = 0; second = 0 }
cause_numbers (Err error) = error_cause error

-- what a reader answers: the layout's refusal first, then that of the values
abbrev pub answer : Result Unit HnsrProtocolError → Bool → HnsrInvalid → Result Unit HnsrProtocolError
answer (Err error) valid text = Err error
answer (Ok done) true text = Ok tt
answer (Ok done) false text = Err (Invalid text)

-- what a writer hands out: where nothing is refused, what it wrote
abbrev pub given : {A : Type 0} → Result Unit HnsrProtocolError → A → Result A HnsrProtocolError
given (Ok done) a = Ok a
given (Err error) a = Err error
