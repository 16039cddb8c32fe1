-- UTF-8 by the ABNF is the encoding of Unicode scalar values: no surrogate, nothing past U+10FFFF, and the shortest
-- form only.

use Rattle.std.specs.Prelude.{ℕ, ◌≡◌, true, List, ◌↔◌}
use Rattle.std.proofs.Common.{subst}
use Rattle.hnsr_body.specs.Utf8.{utf8}
use Rattle.hnsr_body.specs.Utf8Encode.{utf8_char, scalar, encode, decode, Encodes, Encoded}
use Rattle.hnsr_body.specs.Laws.Utf8Encode

-- every accepted character is the encoding of a scalar value, the one that it decodes to
pub char_encodes : (bytes : List ℕ) → utf8_char bytes ≡ true → Encodes (decode bytes) bytes
char_encodes = Utf8Encode.char_encodes

-- the encoding of every scalar value is an accepted character
pub encode_char : (n : ℕ) → scalar n ≡ true → utf8_char (encode n) ≡ true
encode_char = Utf8Encode.encode_char

-- an encoding decodes to its number, so that no two numbers share one
pub decode-encode : (n : ℕ) → decode (encode n) ≡ n
decode-encode = Utf8Encode.decode-encode

-- a text is UTF-8 if and only if it is the encodings of scalar values, one after the other
pub utf8_encoded : (text : List ℕ) → (utf8 text ≡ true) ↔ Encoded text
utf8_encoded text = (
  Utf8Encode.decoded text,
  λ e. subst (λ (t : List ℕ). utf8 t ≡ true) e.encoding (Utf8Encode.all_encoded e.numbers e.all_scalars),
)
