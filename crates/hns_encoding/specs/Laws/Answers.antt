-- The laws of `Cursor` and `RoundTrip` for whatever a caller makes of an answer, in any type: `ok` of what was read and
-- of the cursor behind it, and `err` of the error, are any two functions.
use Rattle.std.specs.Prelude.{ℕ, ◌+◌, ◌-◌, ◌≤◌, ◌<◌, ◌^◌, ◌≡◌, Bool, true, false, cond, List}
use Rattle.std.specs.Prelude.{eqb, ltb, length, get_or, Result, Ok, Err, refl}
use Rattle.std.proofs.Common.{sym, ◌∙◌, ap}
use Rattle.hns_encoding.specs.declared.decoder.Decoder.{Decoder}
use Rattle.hns_encoding.specs.declared.decoder.DecodeError.{DecodeError}
use Rattle.hns_encoding.specs.declared.decoder.DecodeError.TheVariants.{TrailingBytes}
use Rattle.hns_encoding.specs.declared.encoder.Encoder.{Encoder}
use Rattle.hns_encoding.specs.declared.encoder.NoRoom.{NoRoom}
use Rattle.hns_encoding.specs.Bytes.{le, le_bytes, be, be_bytes}
use Rattle.hns_encoding.specs.Words.{high_low, from_high_low}
use Rattle.hns_encoding.specs.Cursor.{within, field, has, behind, unexpected_end, steps, reads, reads_bytes}
use Rattle.hns_encoding.specs.Cursor.{reads_le, reads_be, reads_word, reads_high_low, finishes}
use Rattle.hns_encoding.specs.Cursor.{written, no_room, Puts}
use Rattle.hns_encoding.specs.Laws.Tests.{split}
use Rattle.hns_encoding.specs.Laws.Cursor as Cursor
use Rattle.hns_encoding.specs.Laws.RoundTrip as RoundTrip

-- what is made of an answer
abbrev pub outcome : {A E R : Type 0} → (A → R) → (E → R) → Result A E → R
outcome ok err (Ok v) = ok v
outcome ok err (Err e) = err e

-- what is made of a reading: of its value and of the cursor behind it
abbrev pub either_way : {A R : Type 0} → (A → Decoder → R) → (DecodeError → R) → Result (A × Decoder) DecodeError → R
either_way {A} ok err r = outcome (λ (p : A × Decoder). ok p.0 p.1) err r

-- ---- by the test
module _ {R : Type 0} (err : DecodeError → R) (width : ℕ) (xs : List ℕ) (d : Decoder) where
  pub reads_either : {A : Type 0} (value : List ℕ → A) (ok : A → Decoder → R)
      → either_way ok err (reads value width xs d)
      ≡ cond (has width xs d)
      (ok (value (field xs d.position width)) (behind width d))
      (err (unexpected_end (length xs) d.position width))
  reads_either value ok = split (has width xs d) (λ t. rw t) (λ f. rw f)

  pub steps_either : (ok : Decoder → R)
      → outcome ok err (steps width xs d)
      ≡ cond (has width xs d) (ok (behind width d)) (err (unexpected_end (length xs) d.position width))
  steps_either ok = split (has width xs d) (λ t. rw t) (λ f. rw f)

pub finishes_either : {R : Type 0} (ok : R) (err : DecodeError → R) (xs : List ℕ) (d : Decoder)
    → outcome (λ _. ok) err (finishes xs d)
    ≡ cond (eqb d.position (length xs)) ok
    (cond (ltb d.position (length xs))
    (err (TrailingBytes (length xs - d.position)))
    (err (unexpected_end (length xs) d.position 0)))
finishes_either ok err xs d =
    split (eqb d.position (length xs))
    (λ t. rw t)
    (λ f. split (ltb d.position (length xs)) (λ t. rw (f, t)) (λ g. rw (f, g)))

-- ---- a value, and a step, by the bytes of the field
module _ {R : Type 0} (err : DecodeError → R) (xs : List ℕ) (d : Decoder) where
  pub reads_made : {A : Type 0} (value : List ℕ → A) (ok : A → Decoder → R) (width : ℕ)
      → either_way ok err (reads value width xs d)
      ≡ either_way (λ bytes. ok (value bytes)) err (reads_bytes width xs d)
  reads_made value ok width =
      reads_either err width xs d value ok
      ∙ sym (reads_either err width xs d (λ bytes. bytes) (λ bytes. ok (value bytes)))

  pub steps_made : (ok : Decoder → R) (width : ℕ)
      → outcome ok err (steps width xs d) ≡ either_way (λ _. ok) err (reads_bytes width xs d)
  steps_made ok width =
      steps_either err width xs d ok ∙ sym (reads_either err width xs d (λ bytes. bytes) (λ _. ok))

  module _ (ok : ℕ → Decoder → R) where
    pub le_made : (width : ℕ)
        → either_way ok err (reads_le width xs d) ≡ either_way (λ bytes. ok (le bytes)) err (reads_bytes width xs d)
    le_made width = reads_made le ok width

    pub be_made : (width : ℕ)
        → either_way ok err (reads_be width xs d) ≡ either_way (λ bytes. ok (be bytes)) err (reads_bytes width xs d)
    be_made width = reads_made be ok width

    pub word_made : either_way ok err (reads_word xs d)
        ≡ either_way (λ ws. ok (get_or ws 0 0)) err (reads_bytes 1 xs d)
    word_made = reads_made (λ ws. get_or ws 0 0) ok 1

    pub high_low_made : either_way ok err (reads_high_low xs d)
        ≡ either_way (λ ws. ok (from_high_low (get_or ws 0 0) (get_or ws 1 0))) err (reads_bytes 2 xs d)
    high_low_made = reads_made (λ ws. from_high_low (get_or ws 0 0) (get_or ws 1 0)) ok 2

-- ---- a field read, a step: where the test passed, and where it did not
module _ {A R : Type 0} (value : List ℕ → A) (ok : A → Decoder → R) (err : DecodeError → R) (width : ℕ) (xs : List ℕ)
    (d : Decoder) (b : Bool) (e : b ≡ has width xs d) where
  pub read_ok : b ≡ true
      → ok (value (field xs d.position width)) (behind width d) ≡ either_way ok err (reads value width xs d)
  read_ok t = ap (either_way ok err) (Cursor.read_ok value width xs d b e t)

  pub read_err : (error : DecodeError) → b ≡ false → error ≡ unexpected_end (length xs) d.position width
      → err error ≡ either_way ok err (reads value width xs d)
  read_err error f h = ap (either_way ok err) (Cursor.read_err value width xs d b e error f h)

module _ {R : Type 0} (ok : Decoder → R) (err : DecodeError → R) (width : ℕ) (xs : List ℕ) (d : Decoder) (b : Bool)
    (e : b ≡ has width xs d) where
  pub step_ok : b ≡ true → ok (behind width d) ≡ outcome ok err (steps width xs d)
  step_ok t = rw (sym e ∙ t)

  pub step_err : (error : DecodeError) → b ≡ false → error ≡ unexpected_end (length xs) d.position width
      → err error ≡ outcome ok err (steps width xs d)
  step_err error f h = rw (sym e ∙ f, h)

-- ---- a write that does not fit, whatever the answer was told by
pub puts_err : (before : List ℕ) (at : ℕ) (ys : List ℕ) (width : ℕ) → width ≡ length ys → (b : Bool)
    → b ≡ within (length before) at width → (r : Result Encoder NoRoom) → b ≡ false
    → r ≡ Err (no_room (length before) at width) → Puts r before before at ys
puts_err before at ys width w b e r f h =
    rw h (Cursor.puts_err before at ys width w b e (no_room (length before) at width) f refl)

-- ---- an end taken apart: what was answered tells what is made of it
module _ (xs : List ℕ) (d : Decoder) {R : Type 0} (ok : R) (err : DecodeError → R) where
  pub finish_ok : finishes xs d ≡ Ok tt
      → (d.position ≡ length xs) × (outcome (λ _. ok) err (finishes xs d) ≡ ok)
  finish_ok h = (Cursor.finish_ok xs d h, ap (outcome (λ _. ok) err) h)

  pub finish_err : (error : DecodeError) → finishes xs d ≡ Err error
      → outcome (λ _. ok) err (finishes xs d) ≡ err error
  finish_err error h = ap (outcome (λ _. ok) err) h

-- ---- whatever was written is the field that is read, and stepped over
pub reads-written : {A R : Type 0} (value : List ℕ → A) (ok : A → Decoder → R) (err : DecodeError → R) (xs : List ℕ)
    (position : ℕ) (ys : List ℕ) → position + length ys ≤ length xs
    → either_way ok err (reads value (length ys) (written xs position ys) (record { position = position }))
    ≡ ok (value ys) (record { position = position + length ys })
reads-written value ok err xs position ys l = ap (either_way ok err) (RoundTrip.reads-written value xs position ys l)

pub steps-written : {R : Type 0} (ok : Decoder → R) (err : DecodeError → R) (xs : List ℕ) (position : ℕ) (ys : List ℕ)
    → position + length ys ≤ length xs
    → outcome ok err (steps (length ys) (written xs position ys) (record { position = position }))
    ≡ ok (record { position = position + length ys })
steps-written ok err xs position ys l =
    steps_made err (written xs position ys) (record { position = position }) ok (length ys)
    ∙ reads-written (λ bytes. bytes) (λ _. ok) err xs position ys l

module _ {R : Type 0} (ok : ℕ → Decoder → R) (err : DecodeError → R) (xs : List ℕ) (position : ℕ) where
  -- a number of any width, lowest byte first
  pub le_round : (width n : ℕ) → position + width ≤ length xs → n < 256 ^ width
      → either_way ok err (reads_le width (written xs position (le_bytes width n)) (record { position = position }))
      ≡ ok n (record { position = position + width })
  le_round width n l h = ap (either_way ok err) (RoundTrip.le_round xs position width n l h)

  -- and first byte weighing most
  pub be_round : (width n : ℕ) → position + width ≤ length xs → n < 256 ^ width
      → either_way ok err (reads_be width (written xs position (be_bytes width n)) (record { position = position }))
      ≡ ok n (record { position = position + width })
  be_round width n l h = ap (either_way ok err) (RoundTrip.be_round xs position width n l h)

  -- a number in two words
  pub high_low_round : (n : ℕ) → position + 2 ≤ length xs
      → either_way ok err (reads_high_low (written xs position (high_low n)) (record { position = position }))
      ≡ ok n (record { position = position + 2 })
  high_low_round n l = ap (either_way ok err) (RoundTrip.high_low_round xs position n l)
