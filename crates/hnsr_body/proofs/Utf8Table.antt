-- A table that antt computes to be the list of a function's values has the function's value at each place, by induction
-- on the place.

use Rattle.std.proofs.Common.{◌≡◌, ◌∙◌, ap, sym, List, [], ◌∷◌, ℕ, zero, suc, ◌+◌, ◌<◌, add-zero}
use Rattle.std.proofs.Common.{zero-add, add-suc, suc-add, le_of_suc-le-suc, not-suc-le-zero, get_or}

-- f i, f (suc i), .., as many as the first number says
abbrev pub values_from : ℕ → (ℕ → ℕ) → ℕ → List ℕ
values_from zero f i = []
values_from (suc n) f i = f i ∷ values_from n f (suc i)

from : (n : ℕ) (f : ℕ → ℕ) (i k : ℕ) → k < n → get_or (values_from n f i) k 0 ≡ f (i + k)
from zero f i k h = absurd (not-suc-le-zero h)
from (suc n) f i zero h = ap f (sym (add-zero i))
from (suc n) f i (suc k) h = from n f (suc i) k (le_of_suc-le-suc h) ∙ ap f (suc-add i k ∙ sym (add-suc i k))

pub entry : (n : ℕ) (f : ℕ → ℕ) (k : ℕ) → k < n → get_or (values_from n f 0) k 0 ≡ f k
entry n f k h = from n f 0 k h ∙ ap f (zero-add k)
