-- Bytes as numbers and numbers as bytes, for any width (BODY.1, HOST.7).
use Rattle.std.specs.Prelude.{ℕ, zero, suc, ◌+◌, ◌-◌, ◌*◌, ◌/◌, ◌%◌, ◌^◌, ◌<◌, Bool}
use Rattle.std.specs.Prelude.{true, ◌&&◌, List, [], ◌∷◌, ◌++◌, eqb, length, replicate}

-- every element is below a bound: bytes are below 256, words below 2 ^ 32
abbrev pub Below : ℕ → List ℕ → Type 0
Below n [] = Unit {0}
Below n (x ∷ xs) = (x < n) × Below n xs

-- the number that bytes are, the lowest first: the sum of each byte times 256 to the power of its place
-- (`Laws.Bytes.le-sum`)
unfoldable pub le : List ℕ → ℕ
le [] = 0
le (b ∷ bs) = b + 256 * le bs

-- a number as `width` bytes, the lowest first; what does not fit is left off
unfoldable pub le_bytes : ℕ → ℕ → List ℕ
le_bytes zero n = []
le_bytes (suc width) n = (n % 256) ∷ le_bytes width (n / 256)

-- the number that bytes are, the first weighing most: how an id is read (HOST.7)
unfoldable pub be_from : ℕ → List ℕ → ℕ
be_from n [] = n
be_from n (b ∷ bs) = be_from (n * 256 + b) bs

abbrev pub be : List ℕ → ℕ
be bs = be_from 0 bs

-- a number as `width` bytes, the first weighing most; what does not fit is left off
unfoldable pub be_bytes : ℕ → ℕ → List ℕ
be_bytes zero n = []
be_bytes (suc width) n = (n / 256 ^ width % 256) ∷ be_bytes width n

-- whether every byte is zero
unfoldable pub all_zero : List ℕ → Bool
all_zero [] = true
all_zero (b ∷ bs) = eqb b 0 && all_zero bs

-- bytes up to a width, zeros behind them
unfoldable pub padded : ℕ → List ℕ → List ℕ
padded width bs = bs ++ replicate (width - length bs) 0
