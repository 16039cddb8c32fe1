-- The cursor (BODY.2). One definition of a field of any width, over bytes and over words alike; each method of
-- `Decoder` and `Encoder` is that definition at its own width and value.
use Rattle.std.specs.Prelude.{ℕ, ◌+◌, ◌-◌, min, ◌≡◌, Bool, cond, List, [], ◌++◌}
use Rattle.std.specs.Prelude.{eqb, ltb, leb, length, get_or, take, drop, replicate, Result, Ok, Err}
use Rattle.hns_encoding.specs.Numbers.{top}
use Rattle.hns_encoding.specs.Bytes.{le, be}
use Rattle.hns_encoding.specs.Words.{bytes_of, from_high_low, word_count}
use Rattle.hns_encoding.specs.declared.decoder.Decoder.{Decoder}
use Rattle.hns_encoding.specs.declared.decoder.DecodeError.{DecodeError}
use Rattle.hns_encoding.specs.declared.decoder.DecodeError.TheVariants.{UnexpectedEnd, TrailingBytes}
use Rattle.hns_encoding.specs.declared.encoder.Encoder.{Encoder}
use Rattle.hns_encoding.specs.declared.encoder.NoRoom.{NoRoom}

-- ---- places
-- whether `width` elements from a position on lie within `size` of them; a position past the end is no exception
abbrev pub within : ℕ → ℕ → ℕ → Bool
within size position width = leb (position + width) size

-- how many elements more that would take; the sum stops at its top
abbrev pub lacking : ℕ → ℕ → ℕ → ℕ
lacking size position width = min (position + width - size) (top 64)

-- the field of `width` elements at a position
abbrev pub field : List ℕ → ℕ → ℕ → List ℕ
field xs position width = take width (drop position xs)

-- a list with `ys` written over it from a position on; the rest stays
abbrev pub written_at : {A : Type 0} → List A → ℕ → List A → List A
written_at xs position ys = take position xs ++ ys ++ drop (position + length ys) xs

-- ---- reading, at a cursor `d` into `xs`
-- the early end of a field: where it starts, and how much is missing
abbrev pub unexpected_end : ℕ → ℕ → ℕ → DecodeError
unexpected_end size position width = UnexpectedEnd position (lacking size position width)

-- whether a field of `width` elements is there
abbrev pub has : ℕ → List ℕ → Decoder → Bool
has width xs d = within (length xs) d.position width

-- the cursor moved on
abbrev pub behind : ℕ → Decoder → Decoder
behind width d = record { position = d.position + width }

-- the step over a field of `width` of `size` elements: the cursor behind it, or the early end
abbrev pub steps_in : ℕ → ℕ → Decoder → Result Decoder DecodeError
steps_in width size d =
    cond (within size d.position width) (Ok (behind width d)) (Err (unexpected_end size d.position width))

abbrev pub steps : ℕ → List ℕ → Decoder → Result Decoder DecodeError
steps width xs d = steps_in width (length xs) d

-- a field read: what `value` makes of it, with the cursor behind it, or the early end
abbrev pub reads : {A : Type 0} → (List ℕ → A) → ℕ → List ℕ → Decoder → Result (A × Decoder) DecodeError
reads value width xs d =
    cond (has width xs d)
    (Ok (value (field xs d.position width), behind width d))
    (Err (unexpected_end (length xs) d.position width))

-- a field that is a number, lowest byte first or first byte weighing most, and the bytes of a field
abbrev pub reads_le : ℕ → List ℕ → Decoder → Result (ℕ × Decoder) DecodeError
reads_le width xs d = reads le width xs d

abbrev pub reads_be : ℕ → List ℕ → Decoder → Result (ℕ × Decoder) DecodeError
reads_be width xs d = reads be width xs d

abbrev pub reads_bytes : ℕ → List ℕ → Decoder → Result (List ℕ × Decoder) DecodeError
reads_bytes width xs d = reads (λ bytes. bytes) width xs d

-- the field as a part of the input; no bytes where it ends early
abbrev pub part : ℕ → List ℕ → Decoder → List ℕ
part width xs d = cond (has width xs d) (field xs d.position width) []

-- the field as an array; zeros where it ends early
abbrev pub array_read : ℕ → List ℕ → Decoder → List ℕ
array_read width xs d = cond (has width xs d) (field xs d.position width) (replicate width 0)

-- the end: everything read; bytes left over; or a cursor past the end, which lacks a field of no bytes
abbrev pub finishes : List ℕ → Decoder → Result Unit DecodeError
finishes xs d =
    cond (eqb d.position (length xs)) (Ok tt)
    (cond (ltb d.position (length xs))
    (Err (TrailingBytes (length xs - d.position)))
    (Err (unexpected_end (length xs) d.position 0)))

-- ---- the same over words
abbrev pub reads_word : List ℕ → Decoder → Result (ℕ × Decoder) DecodeError
reads_word xs d = reads (λ ws. get_or ws 0 0) 1 xs d

-- a number in two words
abbrev pub reads_high_low : List ℕ → Decoder → Result (ℕ × Decoder) DecodeError
reads_high_low xs d = reads (λ ws. from_high_low (get_or ws 0 0) (get_or ws 1 0)) 2 xs d

-- what a list of bytes becomes that is filled from words; it stays where they end early
abbrev pub bytes_read : List ℕ → List ℕ → Decoder → List ℕ
bytes_read out xs d = cond (has (word_count (length out)) xs d) (take (length out) (bytes_of (drop d.position xs))) out

-- ---- writing: `ys`, at a position in `xs`
-- what a write leaves: `ys` at the position where they fit, else everything as it was
abbrev pub written : {A : Type 0} → List A → ℕ → List A → List A
written xs position ys = cond (within (length xs) position (length ys)) (written_at xs position ys) xs

abbrev pub no_room : ℕ → ℕ → ℕ → NoRoom
no_room size position width = record { offset = position; needed = lacking size position width }

-- what a write of `width` elements answers: the cursor behind them, or where it stood and how much room is missing
abbrev pub put : ℕ → ℕ → ℕ → Result Encoder NoRoom
put size position width =
    cond (within size position width)
    (Ok (record { position = position + width }))
    (Err (no_room size position width))

-- the whole outcome of a write: the answer, and the list that it leaves
pub record Puts {A : Type 0} (r : Result Encoder NoRoom) (before after : List A) (position : ℕ) (ys : List A)
    : Type 0 where
  pub answer : r ≡ put (length before) position (length ys)
  pub leaves : after ≡ written before position ys
