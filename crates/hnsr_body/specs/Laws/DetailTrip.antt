-- Round trips of CLOSE and ERROR: the reason, the length of the detail and the detail are the fields of a body, whose
-- last width is what is left.
use Rattle.std.specs.Prelude.{ℕ, ◌+◌, ◌-◌, ◌%◌, ◌<◌, ◌≤◌, ◌^◌, ◌≡◌, refl}
use Rattle.std.specs.Prelude.{List, [], ◌∷◌, map, eqb, take, drop, Result, Ok, Err}
use Rattle.std.proofs.Common.{arith, sym, ◌∙◌, append-nil, drop-drop, ap, true, leb}
use Rattle.std.proofs.Common.{length, length-drop, leb-true, le-leb, eqb-true, eq-eqb}
use Rattle.hns_encoding.specs.declared.decoder.Decoder.{Decoder}
use Rattle.hns_encoding.specs.declared.decoder.DecodeError.{DecodeError}
use Rattle.hnsr_body.specs.declared.error.HnsrProtocolError.{HnsrProtocolError}
use Rattle.hns_encoding.specs.Bytes.{Below, le, le_bytes}
use Rattle.hns_encoding.specs.Laws.Tests.{on-true, join, both}
use Rattle.hns_encoding.specs.Laws.Lists.{field-rest}
use Rattle.hns_encoding.specs.Laws.Bytes.{le_bytes-length, le-again}
use Rattle.hnsr_body.specs.declared.error.HnsrInvalid.TheVariants.{DiagnosticDetail, NotUtf8}
use Rattle.hnsr_body.specs.declared.error.HnsrProtocolError.TheVariants.{TooLarge}
use Rattle.hnsr_body.specs.Causes.{answer, given}
use Rattle.hnsr_body.specs.Layout.{walked, handed_on, padded_in}
use Rattle.hnsr_body.specs.Utf8.{utf8}
use Rattle.hnsr_body.specs.Detail.{most_detail, detail_widths, head_size, detail_size, reason_of}
use Rattle.hnsr_body.specs.Detail.{length_of, detail_of, length_good, reason_detail}
use Rattle.hnsr_body.specs.Detail.{decode_detail, detail_bytes, detail_good, encode_detail}
use Rattle.hnsr_body.specs.Laws.Parts.{answered, answer-good, cut, joined, written_parts}
use Rattle.hnsr_body.specs.Laws.Parts.{read_parts, laid-whole, walk_through, walk-there, le-part}

-- the widths where the detail has n bytes
abbrev whole_widths : ℕ → List ℕ
whole_widths n = 2 ∷ 1 ∷ n ∷ []

abbrev detail_parts : ℕ → List ℕ → List (List ℕ)
detail_parts reason detail = le_bytes 2 reason ∷ (length detail ∷ []) ∷ detail ∷ []

detail-joined : (reason : ℕ) (detail : List ℕ) → joined (detail_parts reason detail) ≡ detail_bytes reason detail
unfolding detail_bytes
detail-joined reason detail = rw append-nil

-- a number of one byte
le-one : (n : ℕ) → le (n ∷ []) ≡ n
unfolding le
le-one n = omega arith

le_bytes-one : (n : ℕ) → n < 256 → le_bytes 1 n ≡ n ∷ []
unfolding le_bytes
le_bytes-one n l = let e : n % 256 ≡ n = omega arith in rw e

-- ---- what was written is read
pub detail-again : (reason : ℕ) (detail : List ℕ) → detail_of (detail_bytes reason detail) ≡ detail
unfolding detail_bytes le_bytes
detail-again reason detail = refl

pub detail-size : (reason : ℕ) (detail : List ℕ) → length (detail_bytes reason detail) ≡ head_size + length detail
unfolding detail_bytes le_bytes
detail-size reason detail = omega arith

pub detail-read : (reason : ℕ) (detail : List ℕ) → reason < 2 ^ 16 → detail_good detail ≡ true
    → decode_detail (detail_bytes reason detail)
    ≡ record { result = Ok tt; body = record { reason = reason; detail_length = length detail } }
unfolding decode_detail reason_detail
detail-read reason detail f g =
    let xs = detail_bytes reason detail in
    let sizes : map length (detail_parts reason detail) ≡ whole_widths (length detail) = rw le_bytes-length in
    let P =
    written_parts (whole_widths (length detail)) xs (detail_parts reason detail) sizes (detail-joined reason detail) in
    let size = detail-size reason detail in
    let good = both (leb (length detail) most_detail) (utf8 detail) g in
    let long : length_of xs ≡ length detail = ap le (P.part 1) ∙ le-one (length detail) in
    let head : handed_on (walked detail_widths xs (record { position = 0 })) ≡ Ok tt =
    ap handed_on (walk_through detail_widths xs 0 (omega arith)) in
    let right : length_good xs ≡ true = join _ _ (ap (λ (n : ℕ). leb n most_detail) long ∙ good.0)
    (eq-eqb (length xs - head_size) (length_of xs) (omega arith)) in
    λ i. record {
      result =
          answered NotUtf8 (answered DiagnosticDetail head right) (ap utf8 (detail-again reason detail) ∙ good.1) i;
      body = record { reason = (ap le (P.part 0) ∙ le-again 2 reason f) i; detail_length = long i };
    }

-- ---- what was read is written
head-there : (xs : List ℕ) (s : Result Decoder DecodeError) → walked detail_widths xs (record { position = 0 }) ≡ s
    → handed_on s ≡ Ok tt
    → head_size ≤ length xs
head-there xs (Err error) w h = let z : ◌≡◌ {A = ℕ} 0 1 = cc in absurd (omega arith)
head-there xs (Ok d) w h = omega (arith, walk-there detail_widths xs 0 d (omega arith) w)

-- what the reader found out of a body that it accepts
record Taken (xs : List ℕ) : Type 0 where
  there : head_size ≤ length xs
  most : length_of xs ≤ most_detail
  left : length (detail_of xs) ≡ length_of xs
  text : utf8 (detail_of xs) ≡ true

taken : (xs : List ℕ) → (decode_detail xs).result ≡ Ok tt → Taken xs
unfolding decode_detail
taken xs h =
    let w = walked detail_widths xs (record { position = 0 }) in
    let outer = answer-good (answer (handed_on w) (length_good xs) DiagnosticDetail) (utf8 (detail_of xs)) NotUtf8 h in
    let inner = answer-good (handed_on w) (length_good xs) DiagnosticDetail outer.0 in
    let good = both (leb (length_of xs) most_detail) (eqb (length xs - head_size) (length_of xs)) inner.1 in
    record {
      there = head-there xs w refl inner.0;
      most = leb-true (length_of xs) most_detail good.0;
      left = length-drop head_size xs ∙ eqb-true (length xs - head_size) (length_of xs) good.1;
      text = outer.1;
    }

module _ (xs : List ℕ) (bytes : Below 256 xs) (h : (decode_detail xs).result ≡ Ok tt) where
  pub detail-written : detail_bytes (reason_of xs) (detail_of xs) ≡ xs
  detail-written =
      let T = taken xs h in
      let widths = whole_widths (length xs - head_size) in
      let laid = laid-whole widths xs (omega (arith, T.there)) in
      let number : (length (detail_of xs) ∷ []) ≡ le_bytes 1 (length_of xs) =
      ap (λ (n : ℕ). n ∷ []) T.left ∙ sym (le_bytes-one (length_of xs) (omega (arith, T.most))) in
      let rest : detail_of xs ≡ take (length xs - head_size) (drop 1 (drop 2 xs)) =
      rw (drop-drop 1 2 xs) (sym (field-rest xs head_size)) in
      let same : detail_parts (reason_of xs) (detail_of xs) ≡ cut widths xs =
      λ i. le-part widths xs bytes laid 0 i ∷ (number ∙ le-part widths xs bytes laid 1) i ∷ rest i ∷ [] in
      sym (detail-joined (reason_of xs) (detail_of xs)) ∙ ap joined same ∙ (read_parts widths xs laid).whole

  pub detail-taken : encode_detail (reason_of xs) (detail_of xs) ≡ Ok (padded_in detail_size xs)
  unfolding encode_detail
  detail-taken =
      let T = taken xs h in
      let n = length (detail_of xs) in
      let small : leb n most_detail ≡ true = le-leb n most_detail (omega (arith, T.left, T.most)) in
      ap (λ (r : Result Unit HnsrProtocolError).
      given r (padded_in detail_size (detail_bytes (reason_of xs) (detail_of xs))))
      (answered NotUtf8 (on-true _ (Ok tt) (Err (TooLarge n most_detail)) small) T.text)
      ∙ ap (λ (bytes : List ℕ). Ok (padded_in detail_size bytes)) detail-written
