-- A field read from the step that the field before handed back (BODY.2). An early end is handed on, and what stands
-- behind it reads as zeros.
use Rattle.std.specs.Prelude.{ℕ, List, [], drop, replicate, Result, Ok, Err}
use Rattle.hns_encoding.specs.declared.decoder.Decoder.{Decoder}
use Rattle.hns_encoding.specs.declared.decoder.DecodeError.{DecodeError}
use Rattle.hns_encoding.specs.Cursor.{reads_bytes, array_read, steps}

-- in front of the first field
abbrev pub start : Result Decoder DecodeError
start = Ok (record { position = 0 })

-- the field of `width` bytes, with the cursor behind it
abbrev pub read_on : ℕ → List ℕ → Result Decoder DecodeError → Result (List ℕ × Decoder) DecodeError
read_on width input (Ok d) = reads_bytes width input d
read_on width input (Err e) = Err e

-- the step behind it
unfoldable pub stepped : ℕ → List ℕ → Result Decoder DecodeError → Result Decoder DecodeError
stepped width input (Ok d) = steps width input d
stepped width input (Err e) = Err e

-- its bytes
unfoldable pub fetched : ℕ → List ℕ → Result Decoder DecodeError → List ℕ
fetched width input (Ok d) = array_read width input d
fetched width input (Err e) = replicate width 0

-- what stands behind the last field
unfoldable pub left : List ℕ → Result Decoder DecodeError → List ℕ
left input (Ok d) = drop d.position input
left input (Err e) = []
