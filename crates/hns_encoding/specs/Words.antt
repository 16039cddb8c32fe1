-- Bytes and numbers as words of 32 bits (OUT.1, OUT.2).
use Rattle.std.specs.Prelude.{ℕ, zero, suc, ◌+◌, ◌*◌, ◌/◌, ◌%◌, ◌^◌, List, [], ◌∷◌, ◌++◌, length, take, drop}
use Rattle.hns_encoding.specs.Bytes.{le, le_bytes}

-- how many words so many bytes fill
abbrev pub word_count : ℕ → ℕ
word_count n = (n + 3) / 4

-- bytes as exactly `count` words; a word that the bytes do not fill has zeros above them
unfoldable pub words_of : ℕ → List ℕ → List ℕ
words_of zero bs = []
words_of (suc count) bs = le (take 4 bs) ∷ words_of count (drop 4 bs)

-- bytes as the words that they fill
abbrev pub words : List ℕ → List ℕ
words bs = words_of (word_count (length bs)) bs

-- words as bytes: four from each, the lowest first
unfoldable pub bytes_of : List ℕ → List ℕ
bytes_of [] = []
bytes_of (w ∷ ws) = le_bytes 4 w ++ bytes_of ws

-- a number of 64 bits as two words, high word first
abbrev pub high_low : ℕ → List ℕ
high_low n = (n / 2 ^ 32) ∷ (n % 2 ^ 32) ∷ []

-- and the number that two words are
abbrev pub from_high_low : ℕ → ℕ → ℕ
from_high_low high low = high * 2 ^ 32 + low
