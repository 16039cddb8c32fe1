-- Encodings are what the ABNF accepts: each line of it has the ranges of its code points, by linear arithmetic with /
-- and %, and texts go by the definition's clauses.

use Rattle.std.specs.Prelude.{ℕ, ◌+◌, ◌-◌, ◌*◌, ◌/◌, ◌≤◌, ◌<◌, ◌≡◌, refl}
use Rattle.std.specs.Prelude.{true, ◌&&◌, ◌||◌, List, [], ◌∷◌, ◌++◌, ◌⊎◌, ltb}
use Rattle.std.proofs.Common.{ap₂, ◌∙◌, inl, inr, ⊎_elim, arith, ltb-true, lt-ltb, le-ltb}
use Rattle.std.proofs.Math.Path.{subst⁻¹}
use Rattle.std.proofs.lemmas.Bool.{false≢true}
use Rattle.std.proofs.Math.Nat.{div-div-eq-div-mul}
use Rattle.hnsr_body.specs.Utf8.{between, utf8_1, utf8_2, utf8_3, utf8_4, utf8}
use Rattle.hns_encoding.specs.Laws.Tests.{both, join, either}
use Rattle.hnsr_body.specs.Laws.Utf8Tests.{left, right, any3, any4, order, Range, in_range}
use Rattle.hnsr_body.specs.Laws.Utf8Tests.{is-between, one-fits, one_test, Fit2, two_fits, two_test}
use Rattle.hnsr_body.specs.Laws.Utf8Tests.{Three, three-fits, three_test, Four, four-fits, four_test}
use Rattle.hnsr_body.specs.Laws.Utf8Form.{three-of, four-of}
use Rattle.hnsr_body.specs.Utf8Encode.{utf8_char, scalar, low6, encode, decode}
use Rattle.hnsr_body.specs.Utf8Encode.{scalars, encode_all, Encodes, Encoded}

-- a scalar value, as facts
abbrev pub Scalar : ℕ → Type 0
Scalar n = (n < 0xD800) ⊎ Range 0xE000 0x10FFFF n

pub scalar_fits : (n : ℕ) → scalar n ≡ true → Scalar n
unfolding scalar
scalar_fits n h =
    ⊎_elim (λ t. inl (ltb-true n 0xD800 t)) (λ t. inr (in_range 0xE000 0x10FFFF n t))
    (either (ltb n 0xD800) (between 0xE000 0x10FFFF n) h)

pub scalar_test : (n : ℕ) → Scalar n → scalar n ≡ true
unfolding scalar
scalar_test n (inl h) = left _ _ (lt-ltb n 0xD800 h)
scalar_test n (inr h) = right (ltb n 0xD800) _ (is-between 0xE000 0x10FFFF n h)

-- the four lines of the table
encode_1 : (n : ℕ) → n < 0x80 → encode n ≡ n ∷ []
unfolding encode
encode_1 n h = simp (lt-ltb n 0x80 h)

encode_2 : (n : ℕ) → 0x80 ≤ n → n < 0x800 → encode n ≡ (0xC0 + n / 0x40) ∷ low6 n ∷ []
unfolding encode
encode_2 n l h = simp (le-ltb n 0x80 l, lt-ltb n 0x800 h)

encode_3 : (n : ℕ) → 0x800 ≤ n → n < 0x10000 → encode n ≡ (0xE0 + n / 0x1000) ∷ low6 (n / 0x40) ∷ low6 n ∷ []
unfolding encode
encode_3 n l h = simp (le-ltb n 0x80 (omega arith), le-ltb n 0x800 l, lt-ltb n 0x10000 h)

encode_4 : (n : ℕ) → 0x10000 ≤ n
    → encode n ≡ (0xF0 + n / 0x40000) ∷ low6 (n / 0x1000) ∷ low6 (n / 0x40) ∷ low6 n ∷ []
unfolding encode
encode_4 n l = simp (le-ltb n 0x80 (omega arith), le-ltb n 0x800 (omega arith), le-ltb n 0x10000 l)

-- from each line's bytes to their code point
value_1 : (a : ℕ) → a ≤ 0x7F → Encodes (decode (a ∷ [])) (a ∷ [])
unfolding decode
value_1 a h = record { is_scalar = scalar_test _ (inl (omega arith)); encoding = encode_1 a (omega arith) }

value_2 : (a b : ℕ) → Fit2 0xC2 0xDF a b → Encodes (decode (a ∷ b ∷ [])) (a ∷ b ∷ [])
unfolding decode
value_2 a b f =
    let n : ℕ = (a - 0xC0) * 0x40 + (b - 0x80) in
    let p : 0xC0 + n / 0x40 ≡ a = omega arith in
    let q : low6 n ≡ b = omega arith in
    record {
      is_scalar = scalar_test _ (inl (omega arith));
      encoding = encode_2 n (omega arith) (omega arith) ∙ λ i. p i ∷ q i ∷ [];
    }

module _ (a b c : ℕ) where
  abbrev value3 : ℕ
  value3 = (a - 0xE0) * 0x1000 + (b - 0x80) * 0x40 + (c - 0x80)

  from_3 : Range 0xE0 0xEF a → Range 0x80 0xBF b → Range 0x80 0xBF c → 0x800 ≤ value3 → Scalar value3
      → Encodes value3 (a ∷ b ∷ c ∷ [])
  from_3 ra rb rc low s =
      let p : 0xE0 + value3 / 0x1000 ≡ a = omega arith in
      let q : low6 (value3 / 0x40) ≡ b = omega arith in
      let r : low6 value3 ≡ c = omega arith in record {
        is_scalar = scalar_test value3 s;
        encoding = encode_3 value3 low (omega arith) ∙ λ i. p i ∷ q i ∷ r i ∷ [];
      }

  value_3 : Three a b c → Encodes (decode (a ∷ b ∷ c ∷ [])) (a ∷ b ∷ c ∷ [])
  unfolding decode
  value_3 (inl f) = from_3 (omega arith) (omega arith) f.2 (omega arith) (inl (omega arith))
  value_3 (inr (inl f)) = from_3 (omega arith) f.1 f.2 (omega arith) (inl (omega arith))
  value_3 (inr (inr (inl f))) = from_3 (omega arith) (omega arith) f.2 (omega arith) (inl (omega arith))
  value_3 (inr (inr (inr f))) = from_3 (omega arith) f.1 f.2 (omega arith) (inr (omega arith))

module _ (a b c d : ℕ) where
  abbrev value4 : ℕ
  value4 = (a - 0xF0) * 0x40000 + (b - 0x80) * 0x1000 + (c - 0x80) * 0x40 + (d - 0x80)

  from_4 : Range 0xF0 0xF4 a → Range 0x80 0xBF b → Range 0x80 0xBF c → Range 0x80 0xBF d → Range 0x10000 0x10FFFF value4
      → Encodes value4 (a ∷ b ∷ c ∷ d ∷ [])
  from_4 ra rb rc rd v =
      let p : 0xF0 + value4 / 0x40000 ≡ a = omega arith in
      let q : low6 (value4 / 0x1000) ≡ b = omega arith in
      let r : low6 (value4 / 0x40) ≡ c = omega arith in
      let s : low6 value4 ≡ d = omega arith in record {
        is_scalar = scalar_test value4 (inr (omega arith));
        encoding = encode_4 value4 v.0 ∙ λ i. p i ∷ q i ∷ r i ∷ s i ∷ [];
      }

  value_4 : Four a b c d → Encodes (decode (a ∷ b ∷ c ∷ d ∷ [])) (a ∷ b ∷ c ∷ d ∷ [])
  unfolding decode
  value_4 (inl f) = from_4 (omega arith) (omega arith) f.2 f.3 (omega arith)
  value_4 (inr (inl f)) = from_4 (omega arith) f.1 f.2 f.3 (omega arith)
  value_4 (inr (inr f)) = from_4 (omega arith) (omega arith) f.2 f.3 (omega arith)

-- every character is the encoding of the scalar value that it decodes to
pub char_encodes : (bytes : List ℕ) → utf8_char bytes ≡ true → Encodes (decode bytes) bytes
unfolding utf8_char
char_encodes [] h = absurd (false≢true h)
char_encodes (a ∷ []) h = value_1 a (one-fits a h)
char_encodes (a ∷ b ∷ []) h = value_2 a b (two_fits a b h)
char_encodes (a ∷ b ∷ c ∷ []) h = value_3 a b c (three-fits a b c h)
char_encodes (a ∷ b ∷ c ∷ d ∷ []) h = value_4 a b c d (four-fits a b c d h)
char_encodes (a ∷ b ∷ c ∷ d ∷ e ∷ rest) h = absurd (false≢true h)

-- from a code point to the bytes of its line
module _ (n : ℕ) (s : Scalar n) where
  fits_3 : 0x800 ≤ n → n < 0x10000 → Three (0xE0 + n / 0x1000) (low6 (n / 0x40)) (low6 n)
  fits_3 low high =
      three-of (0xE0 + n / 0x1000) (low6 (n / 0x40)) (low6 n) (omega arith)
      (⊎_elim (λ h. omega arith) (λ h. omega arith) s)
      (omega arith)

  fits_4 : 0x10000 ≤ n → Four (0xF0 + n / 0x40000) (low6 (n / 0x1000)) (low6 (n / 0x40)) (low6 n)
  fits_4 low =
      let high : n ≤ 0x10FFFF = ⊎_elim (λ h. omega arith) (λ h. h.1) s in
      four-of (0xF0 + n / 0x40000) (low6 (n / 0x1000)) (low6 (n / 0x40)) (low6 n) (omega arith)
      (omega arith)
      (omega arith)
      (omega arith)

-- what holds of the bytes of each line holds of an encoding
by_lines : (P : List ℕ → Type 0) (n : ℕ)
    → (n < 0x80 → P (n ∷ []))
    → (0x80 ≤ n → n < 0x800 → P ((0xC0 + n / 0x40) ∷ low6 n ∷ []))
    → (0x800 ≤ n → n < 0x10000 → P ((0xE0 + n / 0x1000) ∷ low6 (n / 0x40) ∷ low6 n ∷ []))
    → (0x10000 ≤ n → P ((0xF0 + n / 0x40000) ∷ low6 (n / 0x1000) ∷ low6 (n / 0x40) ∷ low6 n ∷ []))
    → P (encode n)
by_lines P n f₁ f₂ f₃ f₄ =
    ⊎_elim
    (λ l₄. subst⁻¹ P (encode_4 n l₄) (f₄ l₄))
    (λ h₃. ⊎_elim (λ l₃. subst⁻¹ P (encode_3 n l₃ h₃) (f₃ l₃ h₃))
    (λ h₂.
    ⊎_elim (λ l₂. subst⁻¹ P (encode_2 n l₂ h₂) (f₂ l₂ h₂)) (λ h₁. subst⁻¹ P (encode_1 n h₁) (f₁ h₁)) (order 0x80 n))
    (order 0x800 n))
    (order 0x10000 n)

-- the encoding of every scalar value is a character
pub encode_char : (n : ℕ) → scalar n ≡ true → utf8_char (encode n) ≡ true
unfolding utf8_char
encode_char n t =
    let s = scalar_fits n t in
    by_lines (λ bytes. utf8_char bytes ≡ true) n
    (λ h. one_test n (omega arith))
    (λ l h. two_test (0xC0 + n / 0x40) (low6 n) (omega arith))
    (λ l h. three_test (0xE0 + n / 0x1000) (low6 (n / 0x40)) (low6 n) (fits_3 n s l h))
    λ l. four_test (0xF0 + n / 0x40000) (low6 (n / 0x1000)) (low6 (n / 0x40)) (low6 n) (fits_4 n s l)

-- two numbers have two encodings
pub decode-encode : (n : ℕ) → decode (encode n) ≡ n
unfolding decode
decode-encode n =
    let six : n / 0x40 / 0x40 ≡ n / 0x1000 = div-div-eq-div-mul n 0x40 0x40 in
    let twelve : n / 0x1000 / 0x40 ≡ n / 0x40000 = div-div-eq-div-mul n 0x1000 0x40 in
    by_lines (λ bytes. decode bytes ≡ n) n (λ h. refl) (λ l h. omega arith) (λ l h. omega arith) λ l. omega arith

-- a character and then UTF8-octets is UTF8-octets
then_1 : (a : ℕ) (rest : List ℕ) → utf8_1 a ≡ true → utf8 rest ≡ true → utf8 (a ∷ rest) ≡ true
unfolding utf8
then_1 a [] h r = h
then_1 a (b ∷ []) h r = left _ _ (join _ _ h r)
then_1 a (b ∷ c ∷ []) h r = left _ _ (left _ _ (join _ _ h r))
then_1 a (b ∷ c ∷ d ∷ rest) h r = left _ _ (left _ _ (left _ _ (join _ _ h r)))

then_2 : (a b : ℕ) (rest : List ℕ) → utf8_2 a b ≡ true → utf8 rest ≡ true → utf8 (a ∷ b ∷ rest) ≡ true
unfolding utf8
then_2 a b [] h r = right (utf8_1 a && utf8 (b ∷ [])) _ h
then_2 a b (c ∷ []) h r = left _ _ (right (utf8_1 a && utf8 (b ∷ c ∷ [])) _ (join _ _ h r))
then_2 a b (c ∷ d ∷ rest) h r = left _ _ (left _ _ (right (utf8_1 a && utf8 (b ∷ c ∷ d ∷ rest)) _ (join _ _ h r)))

then_3 : (a b c : ℕ) (rest : List ℕ) → utf8_3 a b c ≡ true → utf8 rest ≡ true → utf8 (a ∷ b ∷ c ∷ rest) ≡ true
unfolding utf8
then_3 a b c [] h r = right (utf8_1 a && utf8 (b ∷ c ∷ []) || utf8_2 a b && utf8 (c ∷ [])) _ h
then_3 a b c (d ∷ rest) h r =
    left _ _ (right (utf8_1 a && utf8 (b ∷ c ∷ d ∷ rest) || utf8_2 a b && utf8 (c ∷ d ∷ rest)) _ (join _ _ h r))

then_4 : (a b c d : ℕ) (rest : List ℕ) → utf8_4 a b c d ≡ true → utf8 rest ≡ true → utf8 (a ∷ b ∷ c ∷ d ∷ rest) ≡ true
unfolding utf8
then_4 a b c d rest h r =
    right
    (utf8_1 a && utf8 (b ∷ c ∷ d ∷ rest) || utf8_2 a b && utf8 (c ∷ d ∷ rest) || utf8_3 a b c && utf8 (d ∷ rest))
    _
    (join _ _ h r)

char_then : (bytes rest : List ℕ) → utf8_char bytes ≡ true → utf8 rest ≡ true → utf8 (bytes ++ rest) ≡ true
unfolding utf8_char
char_then [] rest h r = absurd (false≢true h)
char_then (a ∷ []) rest h r = then_1 a rest h r
char_then (a ∷ b ∷ []) rest h r = then_2 a b rest h r
char_then (a ∷ b ∷ c ∷ []) rest h r = then_3 a b c rest h r
char_then (a ∷ b ∷ c ∷ d ∷ []) rest h r = then_4 a b c d rest h r
char_then (a ∷ b ∷ c ∷ d ∷ e ∷ more) rest h r = absurd (false≢true h)

pub all_encoded : (numbers : List ℕ) → scalars numbers ≡ true → utf8 (encode_all numbers) ≡ true
unfolding scalars encode_all utf8
all_encoded [] h = refl
all_encoded (n ∷ ns) h =
    let p = both (scalar n) (scalars ns) h in
    char_then (encode n) (encode_all ns) (encode_char n p.0) (all_encoded ns p.1)

none : Encoded []
unfolding scalars encode_all
none = record { numbers = []; all_scalars = refl; encoding = refl }

-- a character in front
add : (bytes rest : List ℕ) → utf8_char bytes ≡ true → Encoded rest → Encoded (bytes ++ rest)
unfolding scalars encode_all
add bytes rest h s =
    let e = char_encodes bytes h in
    record {
      numbers = decode bytes ∷ s.numbers;
      all_scalars = join _ _ e.is_scalar s.all_scalars;
      encoding = ap₂ ◌++◌ e.encoding s.encoding;
    }

pub decoded : (text : List ℕ) → utf8 text ≡ true → Encoded text
unfolding utf8 utf8_char
decoded [] h = none
decoded (a ∷ []) h = add (a ∷ []) [] h none
decoded (a ∷ b ∷ []) h =
    ⊎_elim
    (λ t. let p = both (utf8_1 a) (utf8 (b ∷ [])) t in add (a ∷ []) (b ∷ []) p.0 (decoded (b ∷ []) p.1))
    (λ t. add (a ∷ b ∷ []) [] t none)
    (either (utf8_1 a && utf8 (b ∷ [])) (utf8_2 a b) h)
decoded (a ∷ b ∷ c ∷ []) h =
    ⊎_elim
    (λ t.
    let p = both (utf8_1 a) (utf8 (b ∷ c ∷ [])) t in
    add (a ∷ []) (b ∷ c ∷ []) p.0 (decoded (b ∷ c ∷ []) p.1))
    (⊎_elim
    (λ t. let p = both (utf8_2 a b) (utf8 (c ∷ [])) t in add (a ∷ b ∷ []) (c ∷ []) p.0 (decoded (c ∷ []) p.1))
    (λ t. add (a ∷ b ∷ c ∷ []) [] t none))
    (any3 (utf8_1 a && utf8 (b ∷ c ∷ [])) (utf8_2 a b && utf8 (c ∷ [])) (utf8_3 a b c) h)
decoded (a ∷ b ∷ c ∷ d ∷ rest) h =
    ⊎_elim
    (λ t.
    let p = both (utf8_1 a) (utf8 (b ∷ c ∷ d ∷ rest)) t in
    add (a ∷ []) (b ∷ c ∷ d ∷ rest) p.0 (decoded (b ∷ c ∷ d ∷ rest) p.1))
    (⊎_elim
    (λ t.
    let p = both (utf8_2 a b) (utf8 (c ∷ d ∷ rest)) t in
    add (a ∷ b ∷ []) (c ∷ d ∷ rest) p.0 (decoded (c ∷ d ∷ rest) p.1))
    (⊎_elim
    (λ t.
    let p = both (utf8_3 a b c) (utf8 (d ∷ rest)) t in
    add (a ∷ b ∷ c ∷ []) (d ∷ rest) p.0 (decoded (d ∷ rest) p.1))
    (λ t.
    let p = both (utf8_4 a b c d) (utf8 rest) t in
    add (a ∷ b ∷ c ∷ d ∷ []) rest p.0 (decoded rest p.1))))
    (any4
    (utf8_1 a && utf8 (b ∷ c ∷ d ∷ rest))
    (utf8_2 a b && utf8 (c ∷ d ∷ rest))
    (utf8_3 a b c && utf8 (d ∷ rest))
    (utf8_4 a b c d && utf8 rest)
    h)
