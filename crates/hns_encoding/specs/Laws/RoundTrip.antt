-- Reading undoes writing, for every width, position and buffer: what the decoder reads where the encoder wrote.
use Rattle.std.specs.Prelude.{ℕ, ◌+◌, ◌≤◌, ◌<◌, ◌^◌, ◌≡◌, true, List, length, get_or, Ok, Err}
use Rattle.std.proofs.Common.{arith, sym, ◌∙◌, ap, ap₂, le-leb}
use Rattle.hns_encoding.specs.Bytes.{le, le_bytes, be, be_bytes}
use Rattle.hns_encoding.specs.Words.{high_low, from_high_low}
use Rattle.hns_encoding.specs.Cursor.{within, field, written_at, written, reads}
use Rattle.hns_encoding.specs.Cursor.{reads_le, reads_be, reads_high_low, unexpected_end}
use Rattle.hns_encoding.specs.Laws.Tests.{on-true}
use Rattle.hns_encoding.specs.Laws.Lists.{field-written, written-length}
use Rattle.hns_encoding.specs.Laws.Bytes.{le_bytes-length, le-again, be_bytes-length, be-again}
use Rattle.hns_encoding.specs.Laws.Words.{high-low-again}

-- whatever was written is the field that is read
pub reads-written : {A : Type 0} (value : List ℕ → A) (xs : List ℕ) (position : ℕ) (ys : List ℕ)
    → position + length ys ≤ length xs
    → reads value (length ys) (written xs position ys) (record { position = position })
    ≡ Ok (value ys, record { position = position + length ys })
reads-written value xs position ys l =
    let fits : within (length xs) position (length ys) ≡ true = le-leb (position + length ys) (length xs) l in
    let same : written xs position ys ≡ written_at xs position ys = on-true _ (written_at xs position ys) xs fits in
    let long = ap length same ∙ written-length xs position ys l in
    let there : within (length (written xs position ys)) position (length ys) ≡ true =
    le-leb (position + length ys) (length (written xs position ys)) (omega arith) in
    on-true _
    (Ok (value (field (written xs position ys) position (length ys)), record { position = position + length ys }))
    (Err (unexpected_end (length (written xs position ys)) position (length ys))) there
    ∙ ap (λ (bytes : List ℕ). Ok (value bytes, record { position = position + length ys }))
    (ap (λ (zs : List ℕ). field zs position (length ys)) same ∙ field-written xs position ys l)

module _ (xs : List ℕ) (position width n : ℕ) where
  -- a number of any width, lowest byte first
  pub le_round : position + width ≤ length xs → n < 256 ^ width
      → reads_le width (written xs position (le_bytes width n)) (record { position = position })
      ≡ Ok (n, record { position = position + width })
  le_round l h =
      let w = le_bytes-length width n in
      ap (λ (k : ℕ). reads_le k (written xs position (le_bytes width n)) (record { position = position })) (sym w)
      ∙ reads-written le xs position (le_bytes width n) (omega arith)
      ∙ ap₂ (λ (m k : ℕ). Ok (m, record { position = position + k })) (le-again width n h) w

  -- and first byte weighing most
  pub be_round : position + width ≤ length xs → n < 256 ^ width
      → reads_be width (written xs position (be_bytes width n)) (record { position = position })
      ≡ Ok (n, record { position = position + width })
  be_round l h =
      let w = be_bytes-length width n in
      ap (λ (k : ℕ). reads_be k (written xs position (be_bytes width n)) (record { position = position })) (sym w)
      ∙ reads-written be xs position (be_bytes width n) (omega arith)
      ∙ ap₂ (λ (m k : ℕ). Ok (m, record { position = position + k })) (be-again width n h) w

-- a number in two words
pub high_low_round : (xs : List ℕ) (position n : ℕ) → position + 2 ≤ length xs
    → reads_high_low (written xs position (high_low n)) (record { position = position })
    ≡ Ok (n, record { position = position + 2 })
high_low_round xs position n l =
    reads-written (λ ws. from_high_low (get_or ws 0 0) (get_or ws 1 0)) xs position (high_low n) l
    ∙ ap (λ (m : ℕ). Ok (m, record { position = position + 2 })) (high-low-again n)
