-- Numbers to base 256, over the width: a number is the sum of its bytes, each byte of a number, how large a number of
-- so many bytes is, and that reading and writing undo one another.
use Rattle.std.specs.Prelude.{ℕ, zero, suc, ◌+◌, ◌*◌, ◌/◌, ◌%◌, ◌^◌, ◌<◌, ◌≤◌, ◌≡◌}
use Rattle.std.specs.Prelude.{refl, true, false, List, [], ◌∷◌, length, get_or, drop}
use Rattle.std.proofs.Common.{pow-suc, mul-le-mul_right, mul_comm, mul_assoc, add-mul, mul-add, zero-mul}
use Rattle.std.proofs.Common.{div-one, mod-eq_of_lt, lt_of_lt_of_le, le_of_suc-le-suc, not-suc-le-zero, add-one}
use Rattle.std.proofs.Common.{arith, sym, ◌∙◌, ap, ap₂, eq-eqb, ne_eqb, lit<, drop_of_length-le, drop-cons}
use Rattle.std.proofs.Math.Nat.{pow-succ', pow-zero, pow-le-pow_right, one-le-pow}
use Rattle.std.proofs.Math.Nat.{div-div-eq-div-mul, zero-div, mod-one}
use Rattle.std.proofs.Math.Seq.{take-nil}
use Rattle.std.proofs.Math.Arith.{mod-mul, digits_lt, digits_div}
use Rattle.hns_encoding.specs.Bytes.{Below, le, le_bytes, be, be_from, be_bytes, all_zero}
use Rattle.hns_encoding.specs.Cursor.{field}
use Rattle.hns_encoding.specs.Laws.Lists.{field_step, field_past}

-- ---- how large: a further digit, and what fits below another
pub digit_below : (n m k : ℕ) → n < 256 ^ k → m < (n + 1) * 256 → m < 256 ^ (k + 1)
digit_below n m k l h =
    rw (add-one k, pow-suc) (lt_of_lt_of_le h (mul-le-mul_right 256 (omega arith)))

pub below_more_digits : (n k j : ℕ) → n < 256 ^ k → k ≤ j → n < 256 ^ j
below_more_digits n k j l h = lt_of_lt_of_le l (pow-le-pow_right (lit< tt) h)

-- ---- a field as a number, by its first byte and the field behind it; past the end there are zeros
le_next : (xs : List ℕ) (p w : ℕ) → le (field xs p (suc w)) ≡ get_or xs p 0 + 256 * le (field xs (suc p) w)
unfolding le
le_next [] zero w = rw take-nil
le_next [] (suc p) w = rw take-nil
le_next (x ∷ xs) zero w = refl
le_next (x ∷ xs) (suc p) w = le_next xs p w

pub le_step : (xs : List ℕ) (p q w v : ℕ) → q ≡ p + 1 → v ≡ w + 1
    → le (field xs p v) ≡ get_or xs p 0 + 256 * le (field xs q w)
le_step xs p q w v e f = rw (e, f, add-one, add-one) (le_next xs p w)

pub be-step : (n : ℕ) (xs : List ℕ) (p q w v : ℕ) → p < length xs → q ≡ p + 1 → v ≡ w + 1
    → be_from n (field xs p v) ≡ be_from (n * 256 + get_or xs p 0) (field xs q w)
unfolding be_from
be-step n xs p q w v l e f = rw (e, f, add-one, add-one, field_step xs p w l)

pub le-none : (xs : List ℕ) (p w : ℕ) → w ≡ 0 → 0 ≡ le (field xs p w)
unfolding le
le-none xs p w e = rw e

pub le-past : (xs : List ℕ) (p w : ℕ) → length xs ≤ p → 0 ≡ le (field xs p w)
unfolding le
le-past xs p w l = ap le (sym (field_past xs p w l))

-- one byte as a number
pub le_one : (bs : List ℕ) → length bs ≡ 1 → get_or bs 0 0 ≡ le bs
unfolding le
le_one [] e = absurd (omega arith)
le_one (b ∷ []) e = omega arith
le_one (b ∷ c ∷ bs) e = absurd (omega arith)

-- at most four bytes as a number
pub le_four : (bs : List ℕ) → length bs ≤ 4
    → le bs ≡ get_or bs 0 0 + 256 * (get_or bs 1 0 + 256 * (get_or bs 2 0 + 256 * get_or bs 3 0))
unfolding le
le_four [] l = omega arith
le_four (a ∷ []) l = omega arith
le_four (a ∷ b ∷ []) l = omega arith
le_four (a ∷ b ∷ c ∷ []) l = omega arith
le_four (a ∷ b ∷ c ∷ d ∷ []) l = omega arith
le_four (a ∷ b ∷ c ∷ d ∷ e ∷ bs) l = absurd (omega arith)

-- four bytes at a place as a number
pub le_four_at : (xs : List ℕ) (p : ℕ)
    → le (field xs p 4)
    ≡ get_or xs p 0 + 256 * (get_or xs (p + 1) 0 + 256 * (get_or xs (p + 2) 0 + 256 * get_or xs (p + 3) 0))
le_four_at xs p =
    omega (
      arith,
      le_step xs p (p + 1) 3 4 refl refl,
      le_step xs (p + 1) (p + 2) 2 3 (omega arith) refl,
      le_step xs (p + 2) (p + 3) 1 2 (omega arith) refl,
      le_step xs (p + 3) (p + 4) 0 1 (omega arith) refl,
      le-none xs (p + 4) 0 refl,
    )

pub be-none : (n : ℕ) (xs : List ℕ) (p w : ℕ) → w ≡ 0 → be_from n (field xs p w) ≡ n
unfolding be_from
be-none n xs p w e = rw e

-- ---- each byte of a number
pub le_bytes-length : (w n : ℕ) → length (le_bytes w n) ≡ w
unfolding le_bytes
le_bytes-length zero n = refl
le_bytes-length (suc w) n = ap suc (le_bytes-length w (n / 256))

pub byte_at : (w n i : ℕ) → i < w → get_or (le_bytes w n) i 0 ≡ n / 256 ^ i % 256
unfolding le_bytes
byte_at zero n i l = absurd (not-suc-le-zero l)
byte_at (suc w) n zero l = rw (pow-zero, div-one)
byte_at (suc w) n (suc i) l =
    byte_at w (n / 256) i (le_of_suc-le-suc l)
    ∙ ap (λ (k : ℕ). k % 256) (div-div-eq-div-mul n 256 (256 ^ i))
    ∙ rw (pow-succ' 256 i)

pub byte_next : (n i : ℕ) → n / 256 ^ i / 256 ≡ n / 256 ^ (i + 1)
byte_next n i = rw (add-one, pow-suc) (div-div-eq-div-mul n (256 ^ i) 256)

-- ---- a number is the sum of its bytes, each times 256 to the power of its place
unfoldable pub sum_from : ℕ → List ℕ → ℕ
sum_from i [] = 0
sum_from i (b ∷ bs) = b * 256 ^ i + sum_from (suc i) bs

sum-from : (i : ℕ) (bs : List ℕ) → sum_from i bs ≡ 256 ^ i * le bs
unfolding sum_from le
sum-from i [] = omega arith
sum-from i (b ∷ bs) =
    let p = 256 ^ i in
    ap (λ (k : ℕ). b * p + k)
    (sum-from (suc i) bs ∙ ap (λ (k : ℕ). k * le bs) (pow-suc 256 i) ∙ mul_assoc p 256 (le bs))
    ∙ ap (λ (k : ℕ). k + p * (256 * le bs)) (mul_comm b p)
    ∙ sym (mul-add p b (256 * le bs))

pub le-sum : (bs : List ℕ) → le bs ≡ sum_from 0 bs
le-sum bs = sym (sum-from 0 bs ∙ omega arith)

-- ---- so many bytes are a number below 256 to the power of their count
pub le_below : (bs : List ℕ) → Below 256 bs → le bs < 256 ^ length bs
unfolding le
le_below [] h = lit< tt
le_below (b ∷ bs) h =
    rw pow-suc (let e : b + 256 * le bs ≡ le bs * 256 + b = omega arith in rw e (digits_lt (le_below bs h.1) h.0))

-- ---- read after write, and write after read, lowest byte first
pub le-le_bytes : (w n : ℕ) → le (le_bytes w n) ≡ n % 256 ^ w
unfolding le le_bytes
le-le_bytes zero n = sym (mod-one n)
le-le_bytes (suc w) n =
    let r = n / 256 % 256 ^ w in
    let e : n % 256 + 256 * r ≡ r * 256 + n % 256 = omega arith in
    ap (λ (k : ℕ). n % 256 + 256 * k) (le-le_bytes w (n / 256))
    ∙ e
    ∙ sym (ap (λ (k : ℕ). n % k) (pow-suc 256 w) ∙ mod-mul n (one-le-pow w 256 (lit< tt)) (lit< tt))

pub le-again : (w n : ℕ) → n < 256 ^ w → le (le_bytes w n) ≡ n
le-again w n l = le-le_bytes w n ∙ mod-eq_of_lt l

pub le_bytes-le : (bs : List ℕ) → Below 256 bs → le_bytes (length bs) (le bs) ≡ bs
unfolding le le_bytes
le_bytes-le [] h = refl
le_bytes-le (b ∷ bs) h =
    let low : (b + 256 * le bs) % 256 ≡ b = omega (arith, h.0) in
    let high : (b + 256 * le bs) / 256 ≡ le bs = omega (arith, h.0) in
    rw (low, high) (ap (λ (rest : List ℕ). b ∷ rest) (le_bytes-le bs h.1))

-- ---- the same, first byte weighing most
pub be_bytes-length : (w n : ℕ) → length (be_bytes w n) ≡ w
unfolding be_bytes
be_bytes-length zero n = refl
be_bytes-length (suc w) n = ap suc (be_bytes-length w n)

pub be-split : (m : ℕ) (bs : List ℕ) → be_from m bs ≡ m * 256 ^ length bs + be bs
unfolding be_from
be-split m [] = omega arith
be-split m (b ∷ bs) =
    let p = 256 ^ length bs in
    let q : m * 256 ^ suc (length bs) ≡ m * 256 * p =
    ap (λ (k : ℕ). m * k) (pow-succ' 256 (length bs)) ∙ sym (mul_assoc m 256 p) in
    omega (
      arith,
      be-split (m * 256 + b) bs,
      be-split (0 * 256 + b) bs,
      q,
      add-mul (m * 256) b p,
      add-mul (0 * 256) b p,
      zero-mul p,
    )

pub be-below : (bs : List ℕ) → Below 256 bs → be bs < 256 ^ length bs
unfolding be_from
be-below [] h = lit< tt
be-below (b ∷ bs) h =
    rw (pow-succ', be-split (0 * 256 + b) bs)
    (digits_lt {q = 0 * 256 + b} {m = 256} {r = be bs} {c = 256 ^ length bs} (omega (arith, h.0)) (be-below bs h.1))

be-be_bytes-from : (m w n : ℕ) → be_from m (be_bytes w n) ≡ m * 256 ^ w + n % 256 ^ w
unfolding be_from be_bytes
be-be_bytes-from m zero n = omega (arith, mod-one n)
be-be_bytes-from m (suc w) n =
    let p = 256 ^ w in
    let d = n / p % 256 in
    let q : m * 256 ^ suc w ≡ m * 256 * p = ap (λ (k : ℕ). m * k) (pow-succ' 256 w) ∙ sym (mul_assoc m 256 p) in
    let r : n % 256 ^ suc w ≡ d * p + n % p =
    ap (λ (k : ℕ). n % k) (pow-succ' 256 w) ∙ mod-mul n (lit< tt) (one-le-pow w 256 (lit< tt)) in
    omega (arith, be-be_bytes-from (m * 256 + d) w n, q, r, add-mul (m * 256) d p)

pub be-be_bytes : (w n : ℕ) → be (be_bytes w n) ≡ n % 256 ^ w
be-be_bytes w n = omega (arith, be-be_bytes-from 0 w n, zero-mul (256 ^ w))

pub be-again : (w n : ℕ) → n < 256 ^ w → be (be_bytes w n) ≡ n
be-again w n l = be-be_bytes w n ∙ mod-eq_of_lt l

be_bytes-be-from : (m : ℕ) (bs : List ℕ) → Below 256 bs → be_bytes (length bs) (be_from m bs) ≡ bs
unfolding be_from be_bytes
be_bytes-be-from m [] h = refl
be_bytes-be-from m (b ∷ bs) h =
    let p = 256 ^ length bs in
    let n = be_from (m * 256 + b) bs in
    let q : n / p ≡ m * 256 + b =
    ap (λ (k : ℕ). k / p) (be-split (m * 256 + b) bs) ∙ digits_div (m * 256 + b) (be-below bs h.1) in
    let d : n / p % 256 ≡ b = omega (arith, q, h.0) in
    ap₂ ◌∷◌ d (be_bytes-be-from (m * 256 + b) bs h.1)

pub be_bytes-be : (bs : List ℕ) → Below 256 bs → be_bytes (length bs) (be bs) ≡ bs
be_bytes-be bs h = be_bytes-be-from 0 bs h

-- ---- a byte of the number that bytes are
pub le-byte : (bs : List ℕ) → Below 256 bs → (i : ℕ) → le bs / 256 ^ i % 256 ≡ get_or bs i 0
unfolding le
le-byte [] h i = ap (λ (k : ℕ). k % 256) (zero-div (256 ^ i))
le-byte (b ∷ bs) h zero = omega (arith, h.0)
le-byte (b ∷ bs) h (suc i) =
    let high : (b + 256 * le bs) / 256 ≡ le bs = omega (arith, h.0) in
    ap (λ (k : ℕ). k % 256)
    (ap (λ (k : ℕ). (b + 256 * le bs) / k) (pow-succ' 256 i)
    ∙ sym (div-div-eq-div-mul (b + 256 * le bs) 256 (256 ^ i))
    ∙ ap (λ (k : ℕ). k / 256 ^ i) high)
    ∙ le-byte bs h.1 i

-- ---- whether every byte is zero, by one byte and the rest
pub zero-step : (xs : List ℕ) (i : ℕ) → i < length xs → get_or xs i 0 ≡ 0
    → all_zero (drop (i + 1) xs) ≡ all_zero (drop i xs)
unfolding all_zero
zero-step xs i l e = rw (add-one, drop-cons xs i 0 l, eq-eqb (get_or xs i 0) 0 e)

pub zero-not : (xs : List ℕ) (i : ℕ) → i < length xs → (get_or xs i 0 ≡ 0 → ⊥) → false ≡ all_zero (drop i xs)
unfolding all_zero
zero-not xs i l n = rw (drop-cons xs i 0 l, ne_eqb (get_or xs i 0) 0 n)

pub zero-done : (xs : List ℕ) (i : ℕ) → length xs ≤ i → true ≡ all_zero (drop i xs)
unfolding all_zero
zero-done xs i l = rw (drop_of_length-le xs l)
