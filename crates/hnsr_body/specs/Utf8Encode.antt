-- Code points and their encodings, from RFC 3629 section 3.

use Rattle.std.specs.Prelude.{ℕ, ◌+◌, ◌-◌, ◌*◌, ◌/◌, ◌%◌, ◌≡◌, Bool, true}
use Rattle.std.specs.Prelude.{false, cond, ◌&&◌, ◌||◌, List, [], ◌∷◌, ◌++◌, ltb}
use Rattle.hnsr_body.specs.Utf8.{between, utf8_1, utf8_2, utf8_3, utf8_4}

-- UTF8-char = UTF8-1 / UTF8-2 / UTF8-3 / UTF8-4
unfoldable pub utf8_char : List ℕ → Bool
utf8_char [] = false
utf8_char (a ∷ []) = utf8_1 a
utf8_char (a ∷ b ∷ []) = utf8_2 a b
utf8_char (a ∷ b ∷ c ∷ []) = utf8_3 a b c
utf8_char (a ∷ b ∷ c ∷ d ∷ []) = utf8_4 a b c d
utf8_char (a ∷ b ∷ c ∷ d ∷ e ∷ rest) = false

-- a character number from U+0000 to U+10FFFF, but no surrogate, U+D800 to U+DFFF
unfoldable pub scalar : ℕ → Bool
scalar n = ltb n 0xD800 || between 0xE000 0x10FFFF n

-- 10xxxxxx, with the low six bits of a number
abbrev pub low6 : ℕ → ℕ
low6 n = 0x80 + n % 0x40

-- the table of section 3: 0xxxxxxx; 110xxxxx 10xxxxxx; 1110xxxx 10xxxxxx 10xxxxxx; 11110xxx 10xxxxxx 10xxxxxx 10xxxxxx
unfoldable pub encode : ℕ → List ℕ
encode n =
    cond (ltb n 0x80) (n ∷ [])
    (cond (ltb n 0x800) ((0xC0 + n / 0x40) ∷ low6 n ∷ [])
    (cond (ltb n 0x10000) ((0xE0 + n / 0x1000) ∷ low6 (n / 0x40) ∷ low6 n ∷ [])
    ((0xF0 + n / 0x40000) ∷ low6 (n / 0x1000) ∷ low6 (n / 0x40) ∷ low6 n ∷ [])))

-- the x bits of a sequence, put together again
unfoldable pub decode : List ℕ → ℕ
decode [] = 0
decode (a ∷ []) = a
decode (a ∷ b ∷ []) = (a - 0xC0) * 0x40 + (b - 0x80)
decode (a ∷ b ∷ c ∷ []) = (a - 0xE0) * 0x1000 + (b - 0x80) * 0x40 + (c - 0x80)
decode (a ∷ b ∷ c ∷ d ∷ []) = (a - 0xF0) * 0x40000 + (b - 0x80) * 0x1000 + (c - 0x80) * 0x40 + (d - 0x80)
decode (a ∷ b ∷ c ∷ d ∷ e ∷ rest) = 0

-- every number of the list is a scalar value
unfoldable pub scalars : List ℕ → Bool
scalars [] = true
scalars (n ∷ ns) = scalar n && scalars ns

-- the encodings of the numbers, one after the other
unfoldable pub encode_all : List ℕ → List ℕ
encode_all [] = []
encode_all (n ∷ ns) = encode n ++ encode_all ns

-- the bytes are the encoding of n, which is a scalar value
pub record Encodes (n : ℕ) (bytes : List ℕ) : Type 0 where
  pub is_scalar : scalar n ≡ true
  pub encoding : encode n ≡ bytes

-- the text is the encodings of these numbers, which are scalar values
pub record Encoded (text : List ℕ) : Type 0 where
  pub numbers : List ℕ
  pub all_scalars : scalars numbers ≡ true
  pub encoding : encode_all numbers ≡ text
