-- UTF-8, from the ABNF of RFC 3629 section 4: a line for each line of it, an alternative for each alternative.

use Rattle.std.specs.Prelude.{ℕ, Bool, true, ◌&&◌, ◌||◌, List, [], ◌∷◌, leb}

-- %xLOW-HIGH
abbrev pub between : ℕ → ℕ → ℕ → Bool
between low high b = leb low b && leb b high

-- UTF8-tail = %x80-BF
abbrev pub tail : ℕ → Bool
tail b = between 0x80 0xBF b

-- UTF8-1 = %x00-7F
unfoldable pub utf8_1 : ℕ → Bool
utf8_1 a = between 0x00 0x7F a

-- UTF8-2 = %xC2-DF UTF8-tail
unfoldable pub utf8_2 : ℕ → ℕ → Bool
utf8_2 a b = between 0xC2 0xDF a && tail b

-- UTF8-3 = %xE0 %xA0-BF UTF8-tail / %xE1-EC 2( UTF8-tail ) / %xED %x80-9F UTF8-tail / %xEE-EF 2( UTF8-tail )
unfoldable pub utf8_3 : ℕ → ℕ → ℕ → Bool
utf8_3 a b c =
    between 0xE0 0xE0 a && between 0xA0 0xBF b && tail c
    || between 0xE1 0xEC a && tail b && tail c
    || between 0xED 0xED a && between 0x80 0x9F b && tail c
    || between 0xEE 0xEF a && tail b && tail c

-- UTF8-4 = %xF0 %x90-BF 2( UTF8-tail ) / %xF1-F3 3( UTF8-tail ) / %xF4 %x80-8F 2( UTF8-tail )
unfoldable pub utf8_4 : ℕ → ℕ → ℕ → ℕ → Bool
utf8_4 a b c d =
    between 0xF0 0xF0 a && between 0x90 0xBF b && tail c && tail d
    || between 0xF1 0xF3 a && tail b && tail c && tail d
    || between 0xF4 0xF4 a && between 0x80 0x8F b && tail c && tail d

-- UTF8-octets = *( UTF8-char ), UTF8-char = UTF8-1 / UTF8-2 / UTF8-3 / UTF8-4: no character, or one and then
-- UTF8-octets
unfoldable pub utf8 : List ℕ → Bool
utf8 [] = true
utf8 (a ∷ []) = utf8_1 a
utf8 (a ∷ b ∷ []) = utf8_1 a && utf8 (b ∷ []) || utf8_2 a b
utf8 (a ∷ b ∷ c ∷ []) = utf8_1 a && utf8 (b ∷ c ∷ []) || utf8_2 a b && utf8 (c ∷ []) || utf8_3 a b c
utf8 (a ∷ b ∷ c ∷ d ∷ rest) =
    utf8_1 a && utf8 (b ∷ c ∷ d ∷ rest)
    || utf8_2 a b && utf8 (c ∷ d ∷ rest)
    || utf8_3 a b c && utf8 (d ∷ rest)
    || utf8_4 a b c d && utf8 rest
