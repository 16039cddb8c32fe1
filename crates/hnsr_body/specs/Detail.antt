-- CLOSE and ERROR (BODY.12, BODY.13): the length says how many bytes follow, so that none is ever left over. Every
-- reason is accepted, in ERROR too (BODY.14).
use Rattle.std.specs.Prelude.{ℕ, ◌+◌, ◌-◌, Bool, cond, ◌&&◌, List, [], ◌∷◌}
use Rattle.std.specs.Prelude.{◌++◌, eqb, leb, length, drop, replicate, Result, Ok, Err}
use Rattle.hns_encoding.specs.Bytes.{le, le_bytes}
use Rattle.hnsr_body.specs.declared.detail_body.ReasonDetail.{ReasonDetail}
use Rattle.hnsr_body.specs.declared.error.HnsrInvalid.TheVariants.{DiagnosticDetail, NotUtf8}
use Rattle.hnsr_body.specs.declared.error.HnsrProtocolError.TheVariants.{TooLarge}
use Rattle.hnsr_body.specs.declared.error.HnsrProtocolError.{HnsrProtocolError}
use Rattle.hnsr_body.specs.declared.layout.Read.{Read}
use Rattle.hnsr_body.specs.Causes.{answer, given}
use Rattle.hnsr_body.specs.declared.layout.Padded.{Padded}
use Rattle.hnsr_body.specs.Layout.{walked, handed_on, field_of, padded_in}
use Rattle.hnsr_body.specs.Utf8.{utf8}

abbrev pub most_detail : ℕ
most_detail = 128

-- the two fields in front of the detail
abbrev pub detail_widths : List ℕ
detail_widths = 2 ∷ 1 ∷ []

abbrev pub head_size : ℕ
head_size = 3

abbrev pub detail_size : ℕ
detail_size = head_size + most_detail

abbrev pub reason_of : List ℕ → ℕ
reason_of body = le (field_of detail_widths 0 body)

abbrev pub length_of : List ℕ → ℕ
length_of body = le (field_of detail_widths 1 body)

abbrev pub detail_of : List ℕ → List ℕ
detail_of body = drop head_size body

-- BODY.13: it is not too long, and no byte more or less follows it
abbrev pub length_is : List ℕ → ℕ → Bool
length_is body n = leb n most_detail && eqb (length body - head_size) n

abbrev pub length_good : List ℕ → Bool
length_good body = length_is body (length_of body)

unfoldable pub reason_detail : List ℕ → ReasonDetail
reason_detail body = record { reason = reason_of body; detail_length = length_of body }

-- the two fields in front are there, whatever follows them; then the length and the text are right
unfoldable pub decode_detail : List ℕ → Read ReasonDetail
decode_detail body = record {
  result =
      answer
      (answer (handed_on (walked detail_widths body (record { position = 0 }))) (length_good body) DiagnosticDetail)
      (utf8 (detail_of body)) NotUtf8;
  body = reason_detail body;
}

unfoldable pub detail_bytes : ℕ → List ℕ → List ℕ
detail_bytes reason detail = le_bytes 2 reason ++ (length detail ∷ detail)

-- a detail that the reader would refuse is not written
abbrev pub short : List ℕ → Result Unit HnsrProtocolError
short detail = cond (leb (length detail) most_detail) (Ok tt) (Err (TooLarge (length detail) most_detail))

abbrev pub detail_good : List ℕ → Bool
detail_good detail = leb (length detail) most_detail && utf8 detail

-- the bytes stand in front of zeros; `length` says how many they are
unfoldable pub encode_detail : ℕ → List ℕ → Result (Padded detail_size) HnsrProtocolError
encode_detail reason detail =
    given (answer (short detail) (utf8 detail) NotUtf8) (padded_in detail_size (detail_bytes reason detail))

-- no bytes: what a host gets of one that is refused
abbrev pub no_detail : Padded detail_size
no_detail = record { length = 0; bytes = replicate detail_size 0 }
