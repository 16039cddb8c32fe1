-- Worked examples of RFC 3629, by computation: the four of section 7, with their character numbers, and texts that are
-- none.

use Rattle.std.specs.Prelude.{ℕ, ◌≡◌, refl, true, false, List, [], ◌∷◌}
use Rattle.hnsr_body.specs.Utf8.{utf8, utf8_1, utf8_2, utf8_3, utf8_4}
use Rattle.hnsr_body.specs.Utf8Encode.{encode, encode_all}

-- the text is UTF-8, and is the encoding of the numbers
abbrev Spells : List ℕ → List ℕ → Type 0
Spells text numbers = (utf8 text ≡ true) × (encode_all numbers ≡ text)

-- A, NOT IDENTICAL TO, ALPHA, full stop
not_identical_to_alpha : Spells (0x41 ∷ 0xE2 ∷ 0x89 ∷ 0xA2 ∷ 0xCE ∷ 0x91 ∷ 0x2E ∷ [])
    (0x41 ∷ 0x2262 ∷ 0x391 ∷ 0x2E ∷ [])
unfolding utf8 utf8_1 utf8_2 utf8_3 utf8_4 encode encode_all
not_identical_to_alpha = (refl, refl)

-- Korean "hangugeo", the Korean language
hangugeo : Spells (0xED ∷ 0x95 ∷ 0x9C ∷ 0xEA ∷ 0xB5 ∷ 0xAD ∷ 0xEC ∷ 0x96 ∷ 0xB4 ∷ []) (0xD55C ∷ 0xAD6D ∷ 0xC5B4 ∷ [])
unfolding utf8 utf8_1 utf8_2 utf8_3 utf8_4 encode encode_all
hangugeo = (refl, refl)

-- Japanese "nihongo", the Japanese language
nihongo : Spells (0xE6 ∷ 0x97 ∷ 0xA5 ∷ 0xE6 ∷ 0x9C ∷ 0xAC ∷ 0xE8 ∷ 0xAA ∷ 0x9E ∷ []) (0x65E5 ∷ 0x672C ∷ 0x8A9E ∷ [])
unfolding utf8 utf8_1 utf8_2 utf8_3 utf8_4 encode encode_all
nihongo = (refl, refl)

-- a byte order mark, and a Chinese character meaning "stump of tree"
stump_of_tree : Spells (0xEF ∷ 0xBB ∷ 0xBF ∷ 0xF0 ∷ 0xA3 ∷ 0x8E ∷ 0xB4 ∷ []) (0xFEFF ∷ 0x233B4 ∷ [])
unfolding utf8 utf8_1 utf8_2 utf8_3 utf8_4 encode encode_all
stump_of_tree = (refl, refl)

-- the text of no character
nothing : utf8 [] ≡ true
unfolding utf8 utf8_1 utf8_2 utf8_3 utf8_4
nothing = refl

-- C0 80, a second spelling of U+0000
long_form : utf8 (0xC0 ∷ 0x80 ∷ []) ≡ false
unfolding utf8 utf8_1 utf8_2 utf8_3 utf8_4
long_form = refl

-- ED A0 80, the surrogate U+D800
surrogate : utf8 (0xED ∷ 0xA0 ∷ 0x80 ∷ []) ≡ false
unfolding utf8 utf8_1 utf8_2 utf8_3 utf8_4
surrogate = refl

-- F4 90 80 80, past U+10FFFF
past_the_last : utf8 (0xF4 ∷ 0x90 ∷ 0x80 ∷ 0x80 ∷ []) ≡ false
unfolding utf8 utf8_1 utf8_2 utf8_3 utf8_4
past_the_last = refl

-- E2 89, a character without its last byte
cut_off : utf8 (0xE2 ∷ 0x89 ∷ []) ≡ false
unfolding utf8 utf8_1 utf8_2 utf8_3 utf8_4
cut_off = refl
