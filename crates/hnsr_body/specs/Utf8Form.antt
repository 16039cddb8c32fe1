-- The form of RFC 3629's ABNF that the code follows: the lead byte tells the length, and the range of the second byte.

use Rattle.std.specs.Prelude.{ℕ, ◌<◌, ◌≡◌, Bool, cond, ◌&&◌, ◌||◌, List, eqb}
use Rattle.std.specs.Prelude.{leb, ltb, length, get_or, drop, Option, MatchOption}
use Rattle.std.specs.List.{position_from}
use denote.Ref.{Bor}
use Rattle.hnsr_body.specs.Utf8.{between, tail}

-- how many bytes the character has that this byte begins; 0 of a byte that begins none
unfoldable pub lead_length : ℕ → ℕ
lead_length lead =
    cond (leb lead 0x7F) 1
    (cond (between 0xC2 0xDF lead) 2
    (cond (between 0xE0 0xEF lead) 3
    (cond (between 0xF0 0xF4 lead) 4 0)))

-- the byte may come second, after this lead byte
unfoldable pub second : ℕ → ℕ → Bool
second lead b =
    cond (eqb lead 0xE0) (between 0xA0 0xBF b)
    (cond (eqb lead 0xED) (between 0x80 0x9F b)
    (cond (eqb lead 0xF0) (between 0x90 0xBF b)
    (cond (eqb lead 0xF4) (between 0x80 0x8F b)
    (tail b))))

-- the bytes after the lead, of n bytes in all, may follow it
unfoldable pub goes_on : ℕ → List ℕ → Bool
goes_on n text =
    (leb n 1 || second (get_or text 0 0) (get_or text 1 0))
    && (leb n 2 || tail (get_or text 2 0))
    && (leb n 3 || tail (get_or text 3 0))

-- how many bytes the character has that a text begins with; 0 where it begins with none
unfoldable pub char_length : List ℕ → ℕ
char_length text =
    let n : ℕ = lead_length (get_or text 0 0) in
    cond (leb n (length text) && goes_on n text) n 0

-- where the first byte is that is no ASCII
abbrev pub past_ascii : List ℕ → Option ℕ
past_ascii text = position_from (λ b. ltb 0x7F b) 0 text

-- what stands behind the character that a text begins with; none where it begins with none
abbrev pub BehindChar : List ℕ → Option (Bor (List ℕ)) → Type 0
BehindChar text r =
    MatchOption r (char_length text ≡ 0)
    (λ rest. (0 < char_length text) × (rest.now ≡ drop (char_length text) text))
