-- A field read from a step: what the read gave is the step behind the field, and its bytes or zeros.
use Rattle.std.specs.Prelude.{ℕ, ◌+◌, ◌-◌, ◌<◌, ◌≤◌, ◌≡◌, refl, List, [], length, drop, replicate, Result, Ok, Err}
use Rattle.std.proofs.Common.{arith, ◌∙◌, sym, ap, drop_of_length-le, leb-true, leb-false}
use Rattle.std.proofs.lemmas.List.{length-replicate}
use Rattle.std.specs.Int.{Width, byte_len, from_le_bytes, from_be_bytes}
use Rattle.hns_encoding.specs.Bytes.{le, be}
use Rattle.hns_encoding.specs.Laws.Library.{from_le, from_be}
use Rattle.hns_encoding.specs.declared.decoder.Decoder.{Decoder}
use Rattle.hns_encoding.specs.declared.decoder.DecodeError.{DecodeError}
use Rattle.hns_encoding.specs.Cursor.{has, behind, field, part}
use Rattle.hns_encoding.specs.Laws.Tests.{on-true, on-false, split}
use Rattle.hns_encoding.specs.Laws.Lists.{field-length, field-rest}
use Rattle.hnsr_body.specs.Layout.{bytes_at}
use Rattle.hnsr_body.specs.Fields.{read_on, stepped, fetched}

-- a field read at an offset is as long as it should be, also where the input ends early
pub bytes-length : (width : ℕ) (input : List ℕ) (at : ℕ) → length (bytes_at width input at) ≡ width
bytes-length width input at =
    let d : Decoder = record { position = at } in
    split (has width input d)
    (λ t. rw t (field-length input at width (leb-true (at + width) (length input) t)))
    (λ f. rw f (length-replicate width 0))

module _ (width : ℕ) (input : List ℕ) where
  pub on_ok : (s : Result Decoder DecodeError) (bytes : List ℕ) (next : Decoder)
      → Ok (bytes, next) ≡ read_on width input s
      → (bytes ≡ fetched width input s) × (Ok next ≡ stepped width input s)
  unfolding stepped fetched
  on_ok (Ok d) bytes next h =
      split (has width input d)
      (λ t.
      let r = rw t at h in
      let p : (bytes, next) ≡ (field input d.position width, behind width d) = cc in
      rw t (ap (λ (q : List ℕ × Decoder). q.0) p, ap (λ (q : List ℕ × Decoder). Ok q.1) p))
      (λ f. let r = rw f at h in let z : ◌≡◌ {A = ℕ} 0 1 = cc in absurd (omega arith))
  on_ok (Err e) bytes next h = let z : ◌≡◌ {A = ℕ} 0 1 = cc in absurd (omega arith)

  pub on_err : (s : Result Decoder DecodeError) (error : DecodeError) → Err error ≡ read_on width input s
      → (replicate width 0 ≡ fetched width input s) × (Err error ≡ stepped width input s)
  unfolding stepped fetched
  on_err (Ok d) error h =
      split (has width input d)
      (λ t. let r = rw t at h in let z : ◌≡◌ {A = ℕ} 0 1 = cc in absurd (omega arith))
      (λ f. let r = rw f at h in rw f (refl, cc))
  on_err (Err e) error h = let k : error ≡ e = cc in (refl, ap Err k)

  pub fetched-length : (s : Result Decoder DecodeError) → length (fetched width input s) ≡ width
  unfolding fetched
  fetched-length (Ok d) = bytes-length width input d.position
  fetched-length (Err e) = length-replicate width 0

-- as many bytes as remain are what stands behind the cursor
pub part-rest : (input : List ℕ) (d : Decoder) → part (length input - d.position) input d ≡ drop d.position input
part-rest input d =
    let n = length input - d.position in
    let bytes = field input d.position n in
    split (has n input d)
    (λ t. on-true _ bytes [] t ∙ field-rest input d.position)
    (λ f. let l : length input ≤ d.position = omega (arith, leb-false (d.position + n) (length input) f) in
    on-false _ bytes [] f ∙ sym (drop_of_length-le input l))

-- a field that is a number, as the library reads it
module _ (w : Width) (input : List ℕ) (at : ℕ) (l : 0 < byte_len w) where
  pub field_le : from_le_bytes w (bytes_at (byte_len w) input at) ≡ le (bytes_at (byte_len w) input at)
  field_le = from_le w _ (bytes-length (byte_len w) input at) l

  pub field_be : from_be_bytes w (bytes_at (byte_len w) input at) ≡ be (bytes_at (byte_len w) input at)
  field_be = from_be w _ (bytes-length (byte_len w) input at) l
