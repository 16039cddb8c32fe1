-- Sums that stop, over the width in bits (TAB.10). A difference that stops at 0 is the library's `-`, the smaller of
-- two its `min`.
use Rattle.std.specs.Prelude.{ℕ, ◌+◌, ◌-◌, ◌^◌, min}

-- the largest number of so many bits
abbrev pub top : ℕ → ℕ
top bits = 2 ^ bits - 1

abbrev pub saturating_add : ℕ → ℕ → ℕ → ℕ
saturating_add bits a b = min (a + b) (top bits)
