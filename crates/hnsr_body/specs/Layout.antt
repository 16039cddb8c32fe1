-- A body of fixed size is fields of given widths, one after the other (BODY.3, BODY.4).
use Rattle.std.specs.Prelude.{ℕ, zero, suc, ◌+◌, List, [], ◌∷◌, length, get_or, Result, Ok, Err}
use Rattle.hns_encoding.specs.declared.decoder.Decoder.{Decoder}
use Rattle.hns_encoding.specs.declared.decoder.DecodeError.{DecodeError}
use Rattle.hns_encoding.specs.Bytes.{padded}
use Rattle.hns_encoding.specs.Cursor.{array_read, steps, finishes}
use Rattle.hnsr_body.specs.declared.error.HnsrProtocolError.{HnsrProtocolError}
use Rattle.hnsr_body.specs.declared.error.HnsrProtocolError.TheVariants.{Decode}
use Rattle.hnsr_body.specs.declared.layout.Padded.{Padded}

-- the field of so many bytes at an offset
abbrev pub bytes_at : ℕ → List ℕ → ℕ → List ℕ
bytes_at width body at = array_read width body (record { position = at })

-- what comes behind a step: it goes on from the cursor, and an early end is handed on
abbrev pub behind_step : {A : Type 0} → (Decoder → Result A DecodeError) → Result Decoder DecodeError
    → Result A DecodeError
behind_step go (Ok d) = go d
behind_step go (Err e) = Err e

-- the cursor behind fields of these widths, or the first that ends early
unfoldable pub walked : List ℕ → List ℕ → Decoder → Result Decoder DecodeError
walked [] input d = Ok d
walked (width ∷ widths) input d = behind_step (walked widths input) (steps width input d)

-- what the cursor answers, as a reader hands it on: its refusal, and nothing of what it read
abbrev pub handed_on : {A : Type 0} → Result A DecodeError → Result Unit HnsrProtocolError
handed_on (Ok read) = Ok tt
handed_on (Err e) = Err (Decode e)

-- and then nothing is left
abbrev pub finished : List ℕ → Result Decoder DecodeError → Result Unit HnsrProtocolError
finished input (Ok d) = handed_on (finishes input d)
finished input (Err e) = Err (Decode e)

unfoldable pub laid_out : List ℕ → List ℕ → Result Unit HnsrProtocolError
laid_out widths input = finished input (walked widths input (record { position = 0 }))

-- where a field starts, and its bytes; fields are counted from 0. Where the body ends early, and is refused, a field
-- reads as zeros
abbrev pub offset : List ℕ → ℕ → ℕ
offset [] i = 0
offset (width ∷ widths) zero = 0
offset (width ∷ widths) (suc i) = width + offset widths i

abbrev pub field_of : List ℕ → ℕ → List ℕ → List ℕ
field_of widths i body = bytes_at (get_or widths i 0) body (offset widths i)

-- bytes in a buffer of so many, zeros behind them
abbrev pub padded_in : (size : ℕ) → List ℕ → Padded size
padded_in size bytes = record { length = length bytes; bytes = padded size bytes }
