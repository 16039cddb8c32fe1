-- The library's words for the bytes of a number and for the number that bytes are say what `Bytes` says, over the
-- width: what `to_le_bytes`, `from_be_bytes` and the like give is what the cursor's contracts name.
use Rattle.std.specs.Prelude.{ℕ, zero, suc, ◌+◌, ◌-◌, ◌*◌, ◌/◌, ◌%◌, ◌^◌, ◌<◌, ◌≤◌, ◌≡◌, refl}
use Rattle.std.specs.Prelude.{List, [], ◌∷◌, ◌++◌, length, get_or}
use Rattle.std.specs.Int.{Width, byte_len, byte_worth, sum_through, bytes_low_first, bytes_high_first}
use Rattle.std.specs.Int.{to_le_bytes, to_be_bytes, from_le_bytes, from_be_bytes}
use Rattle.std.specs.Int.{byte_at}
use Rattle.std.proofs.Common.{arith, sym, ◌∙◌, ap, ap₂, add-one, div-one, pow-suc, mul_comm, mul_assoc, zero-add}
use Rattle.std.proofs.Common.{lit<, w16, w64}
use Rattle.std.proofs.Math.Nat.{pow-zero, suc-sub-suc, sub-zero}
use Rattle.hns_encoding.specs.Bytes.{le, le_bytes, be, be_from, be_bytes}
use Rattle.hns_encoding.specs.Laws.Bytes.{byte_next, be-split, le_bytes-length, be_bytes-length}
use Rattle.hns_encoding.specs.Cursor.{written}
use Rattle.hns_encoding.specs.Laws.Cursor.{Wrote, wrote_next}

-- ---- a number as bytes
one_byte : (i n : ℕ) → byte_at i n ≡ n / 256 ^ i % 256
one_byte zero n = rw (pow-zero, div-one)
one_byte (suc i) n = refl

low-first : (i w n : ℕ) → bytes_low_first i w n ≡ le_bytes w (n / 256 ^ i)
unfolding le_bytes
low-first i zero n = refl
low-first i (suc w) n =
    ap₂ ◌∷◌ (one_byte i n)
    (low-first (suc i) w n ∙ ap (le_bytes w) (sym (rw (add-one) at (byte_next n i))))

pub to_le : (w : Width) (n : ℕ) → to_le_bytes w n ≡ le_bytes (byte_len w) n
to_le w n = low-first 0 (byte_len w) n ∙ ap (le_bytes (byte_len w)) (rw (pow-zero, div-one))

high-first : (w n : ℕ) → bytes_high_first w n ≡ be_bytes w n
unfolding be_bytes
high-first zero n = refl
high-first (suc w) n = ap₂ ◌∷◌ (one_byte w n) (high-first w n)

pub to_be : (w : Width) (n : ℕ) → to_be_bytes w n ≡ be_bytes (byte_len w) n
to_be w n = high-first (byte_len w) n

-- ---- bytes as a number: a sum, by its first term and the rest
sum-first : (f : ℕ → ℕ) (k : ℕ) → sum_through f (suc k) ≡ f 0 + sum_through (λ i. f (suc i)) k
sum-first f zero = refl
sum-first f (suc k) = omega (arith, sum-first f k)

sum_same : (f g : ℕ → ℕ) (k : ℕ) → ((i : ℕ) → f i ≡ g i) → sum_through f k ≡ sum_through g k
sum_same f g zero h = h 0
sum_same f g (suc k) h = ap₂ ◌+◌ (sum_same f g k h) (h (suc k))

sum_times : (f g : ℕ → ℕ) (k : ℕ) → ((i : ℕ) → f i ≡ 256 * g i) → sum_through f k ≡ 256 * sum_through g k
sum_times f g zero h = h 0
sum_times f g (suc k) h = omega (arith, sum_times f g k h, h (suc k))

worth : (i b : ℕ) → byte_worth i b ≡ b * 256 ^ i
worth zero b = rw pow-zero (omega arith)
worth (suc i) b = refl

worth_next : (i b : ℕ) → byte_worth (suc i) b ≡ 256 * byte_worth i b
worth_next i b = rw (worth i b, pow-suc, ← (mul_assoc b (256 ^ i) 256)) (mul_comm (b * 256 ^ i) 256)

from-le : (w : ℕ) (bs : List ℕ) → length bs ≡ suc w → sum_through (λ i. byte_worth i (get_or bs i 0)) w ≡ le bs
unfolding le
from-le w [] e = absurd (omega arith)
from-le zero (b ∷ []) e = omega arith
from-le zero (b ∷ c ∷ bs) e = absurd (omega arith)
from-le (suc w) (b ∷ bs) e =
    sum-first (λ i. byte_worth i (get_or (b ∷ bs) i 0)) w
    ∙ ap (λ (k : ℕ). b + k)
    (sum_times (λ i. byte_worth (suc i) (get_or bs i 0)) (λ i. byte_worth i (get_or bs i 0)) w
    (λ i. worth_next i (get_or bs i 0))
    ∙ ap (λ (k : ℕ). 256 * k) (from-le w bs (omega arith)))

pub from_le : (w : Width) (bs : List ℕ) → length bs ≡ byte_len w → 0 < byte_len w → from_le_bytes w bs ≡ le bs
from_le w bs e l = from-le (byte_len w - 1) bs (omega arith)

from-be : (w : ℕ) (bs : List ℕ) → length bs ≡ suc w → sum_through (λ i. byte_worth (w - i) (get_or bs i 0)) w ≡ be bs
unfolding be_from
from-be w [] e = absurd (omega arith)
from-be zero (b ∷ []) e = omega arith
from-be zero (b ∷ c ∷ bs) e = absurd (omega arith)
from-be (suc w) (b ∷ bs) e =
    let n : length bs ≡ suc w = omega arith in
    sum-first (λ i. byte_worth (suc w - i) (get_or (b ∷ bs) i 0)) w
    ∙ ap₂ ◌+◌ (ap (λ (k : ℕ). byte_worth k b) (sub-zero (suc w)) ∙ ap (λ (k : ℕ). b * 256 ^ k) (sym n))
    (sum_same (λ i. byte_worth (suc w - suc i) (get_or bs i 0)) (λ i. byte_worth (w - i) (get_or bs i 0)) w
    (λ i. ap (λ (k : ℕ). byte_worth k (get_or bs i 0)) (suc-sub-suc w i))
    ∙ from-be w bs n)
    ∙ sym (be-split b bs)
    ∙ ap (λ (n : ℕ). be_from n bs) (sym (zero-add b))

pub from_be : (w : Width) (bs : List ℕ) → length bs ≡ byte_len w → 0 < byte_len w → from_be_bytes w bs ≡ be bs
from_be w bs e l = from-be (byte_len w - 1) bs (omega arith)

-- ---- numbers of the widths that there are, as the library reads them
pub le_two : (bs : List ℕ) → length bs ≡ 2 → le bs ≡ from_le_bytes w16 bs
le_two bs e = sym (from_le w16 bs e (lit< tt))

pub le_eight : (bs : List ℕ) → length bs ≡ 8 → le bs ≡ from_le_bytes w64 bs
le_eight bs e = sym (from_le w64 bs e (lit< tt))

pub be_eight : (bs : List ℕ) → length bs ≡ 8 → be bs ≡ from_be_bytes w64 bs
be_eight bs e = sym (from_be w64 bs e (lit< tt))

-- ---- a number written behind what is written already, as the library's bytes of it
module _ {xs before done : List ℕ} {n : ℕ} (w : Width) (v : ℕ) (after bytes : List ℕ) (r : Wrote xs before done n)
    (l : n + byte_len w ≤ length xs) where
  pub wrote_le : bytes ≡ to_le_bytes w v → after ≡ written before n bytes
      → Wrote xs after (done ++ le_bytes (byte_len w) v) (n + byte_len w)
  wrote_le e h =
      wrote_next after (le_bytes (byte_len w) v) (byte_len w) r (le_bytes-length (byte_len w) v) l
      (h ∙ ap (λ (ys : List ℕ). written before n ys) (e ∙ to_le w v))

  pub wrote_be : bytes ≡ to_be_bytes w v → after ≡ written before n bytes
      → Wrote xs after (done ++ be_bytes (byte_len w) v) (n + byte_len w)
  wrote_be e h =
      wrote_next after (be_bytes (byte_len w) v) (byte_len w) r (be_bytes-length (byte_len w) v) l
      (h ∙ ap (λ (ys : List ℕ). written before n ys) (e ∙ to_be w v))
