-- Parts of lists and lists written into lists: what a loop that reads or stores one element a turn goes by.
use Rattle.std.specs.Prelude.{ℕ, zero, suc, ◌+◌, ◌-◌, ◌<◌, ◌≤◌, min, ◌≡◌, refl, List, []}
use Rattle.std.specs.Prelude.{◌∷◌, ◌++◌, length, take, drop, get_or, set, replicate, leb}
use Rattle.std.proofs.Common.{le_refl, zero-add, add-one, arith, sym, ◌∙◌, ap, ap₂, append_assoc, append-nil}
use Rattle.std.proofs.Common.{length-append, length-drop, drop_of_length-le, drop-cons, get_or-take, get_or-drop}
use Rattle.std.proofs.Common.{take_all, length-take-le, take_at, drop_at, drop-drop, leb-true, leb-false}
use Rattle.std.proofs.Math.Nat.{sub-zero, zero-sub, suc-sub-suc}
use Rattle.std.proofs.Math.Seq.{take-nil, take-length, drop-append-add, paste, paste-suc, paste-zero}
use Rattle.std.proofs.lemmas.List.Edits.{length-paste, sets-eq}
use Rattle.hns_encoding.specs.Bytes.{Below, padded}
use Rattle.hns_encoding.specs.Cursor.{field, written_at}
use Rattle.hns_encoding.specs.Laws.Tests.{split}

-- ---- a field, over its width: the same field; its first element and the field behind it; its length; its elements
pub field-same : (xs : List ℕ) (p q v w : ℕ) → p ≡ q → v ≡ w → field xs p v ≡ field xs q w
field-same xs p q v w e f = rw (e, f)

pub field_step : (xs : List ℕ) (p w : ℕ) → p < length xs → field xs p (suc w) ≡ get_or xs p 0 ∷ field xs (suc p) w
field_step xs p w l = rw (drop-cons xs p 0 l)

pub field-length : (xs : List ℕ) (p w : ℕ) → p + w ≤ length xs → length (field xs p w) ≡ w
field-length xs p w l = length-take-le w (drop p xs) (rw length-drop (omega arith))

pub field_at : (xs : List ℕ) (p w i : ℕ) → i < w → get_or (field xs p w) i 0 ≡ get_or xs (p + i) 0
field_at xs p w i l = get_or-take w (drop p xs) i 0 l ∙ get_or-drop p xs i 0

-- a field that the list ends in is as wide as what is left; past the end there is none
pub field-short : (xs : List ℕ) (p w : ℕ) → field xs p (min w (length xs - p)) ≡ field xs p w
field-short xs p w =
    split (leb w (length xs - p))
    (λ t. let e : min w (length xs - p) ≡ w = omega (arith, leb-true w (length xs - p) t) in rw e)
    (λ f.
    let e : min w (length xs - p) ≡ length xs - p = omega (arith, leb-false w (length xs - p) f) in
    let l : length (drop p xs) ≤ w = rw length-drop (omega (arith, leb-false w (length xs - p) f)) in
    let k : length (drop p xs) ≤ length xs - p = rw length-drop (omega arith) in
    rw e (take_all (length xs - p) (drop p xs) k ∙ sym (take_all w (drop p xs) l)))

pub field-rest : (xs : List ℕ) (p : ℕ) → field xs p (length xs - p) ≡ drop p xs
field-rest xs p = take_all (length xs - p) (drop p xs) (rw length-drop (le_refl (length xs - p)))

pub field_past : (xs : List ℕ) (p w : ℕ) → length xs ≤ p → field xs p w ≡ []
field_past xs p w l = rw (drop_of_length-le xs l) (take-nil w)

-- bounds on all elements, of a part too
pub below-drop : (n : ℕ) (xs : List ℕ) (p : ℕ) → Below n xs → Below n (drop p xs)
below-drop n xs zero h = h
below-drop n [] (suc p) h = h
below-drop n (x ∷ xs) (suc p) h = below-drop n xs p h.1

pub below-take : (n : ℕ) (xs : List ℕ) (w : ℕ) → Below n xs → Below n (take w xs)
below-take n xs zero h = tt
below-take n [] (suc w) h = h
below-take n (x ∷ xs) (suc w) h = (h.0, below-take n xs w h.1)

pub below-append : (n : ℕ) (xs ys : List ℕ) → Below n xs → Below n ys → Below n (xs ++ ys)
below-append n [] ys h k = k
below-append n (x ∷ xs) ys h k = (h.0, below-append n xs ys h.1 k)

-- ---- `ys` written into `xs` from a place on, one element a turn: nothing yet, one more, all
module _ (xs : List ℕ) (at : ℕ) (ys : List ℕ) where
  pub write_start : xs ≡ paste xs at ys 0
  write_start = paste-zero xs at ys

  pub write_step : (now : List ℕ) (i v : ℕ) → at + i < length xs → i < length ys → v ≡ get_or ys i 0
      → now ≡ paste xs at ys i
      → set now (at + i) v ≡ paste xs at ys (i + 1)
  write_step now i v l k e h = rw (h, e, add-one) (paste-suc xs at ys i 0 l k)

  pub write_done : (i : ℕ) → i ≡ length ys → paste xs at ys i ≡ written_at xs at ys
  write_done i e = rw (e, take-length)

-- a write behind a write is one write
pub written_behind : (xs : List ℕ) (at : ℕ) (ys zs : List ℕ) (k : ℕ) → at + length ys ≤ length xs → k ≡ at + length ys
    → written_at (written_at xs at ys) k zs ≡ written_at xs at (ys ++ zs)
written_behind xs at ys zs k l e =
    let front = take at xs ++ ys in
    let rest = drop (at + length ys) xs in
    let long : length front ≡ at + length ys =
    length-append (take at xs) ys ∙ ap (λ (n : ℕ). n + length ys) (length-take-le at xs (omega arith)) in
    let first : take k (front ++ rest) ≡ front = take_at front rest k (omega arith) in
    let end : at + length ys + length zs ≡ at + length (ys ++ zs) = omega (arith, length-append ys zs) in
    let second : drop (k + length zs) (front ++ rest) ≡ drop (at + length (ys ++ zs)) xs =
    ap (λ (n : ℕ). drop (n + length zs) (front ++ rest)) (e ∙ sym long)
    ∙ drop-append-add front rest (length zs)
    ∙ drop-drop (length zs) (at + length ys) xs
    ∙ ap (λ (n : ℕ). drop n xs) end in
    ap₂ (λ (a b : List ℕ). a ++ zs ++ b) first second
    ∙ ap (λ (a : List ℕ). a ++ drop (at + length (ys ++ zs)) xs) (append_assoc (take at xs) ys zs)

-- a list written over the whole of another
pub written-whole : (xs ys : List ℕ) → length xs ≡ length ys → written_at xs 0 ys ≡ ys
written-whole xs ys e =
    let l : length xs ≤ 0 + length ys = omega arith in
    ap (λ (rest : List ℕ). ys ++ rest) (drop_of_length-le xs l) ∙ append-nil ys

pub written-length : (xs : List ℕ) (at : ℕ) (ys : List ℕ) → at + length ys ≤ length xs
    → length (written_at xs at ys) ≡ length xs
written-length xs at ys l =
    rw (← (write_done xs at ys (length ys) refl)) (length-paste xs at ys (length ys) l (le_refl (length ys)))

-- one and two elements stored are one write
pub written_one : (xs : List ℕ) (at v : ℕ) → at + 1 ≤ length xs → set xs at v ≡ written_at xs at (v ∷ [])
written_one xs at v l = sets-eq (v ∷ []) xs at l

pub written-two : (xs : List ℕ) (at v w : ℕ) → at + 2 ≤ length xs
    → set (set xs at v) (at + 1) w ≡ written_at xs at (v ∷ w ∷ [])
written-two xs at v w l = rw add-one (sets-eq (v ∷ w ∷ []) xs at l)

-- what was written is read there
pub field-written : (xs : List ℕ) (at : ℕ) (ys : List ℕ) → at + length ys ≤ length xs
    → field (written_at xs at ys) at (length ys) ≡ ys
field-written xs at ys l =
    let front : length (take at xs) ≡ at = length-take-le at xs (omega arith) in
    rw (append_assoc, drop_at (take at xs) (ys ++ drop (at + length ys) xs) at front)
    (take_at ys (drop (at + length ys) xs) (length ys) refl)

-- bytes written over zeros are padded with zeros
drop-replicate : (k n : ℕ) → drop {A = ℕ} k (replicate n 0) ≡ replicate (n - k) 0
drop-replicate zero n = ap (λ (m : ℕ). replicate m 0) (sym (sub-zero n))
drop-replicate (suc k) zero = ap (λ (m : ℕ). replicate m 0) (sym (zero-sub (suc k)))
drop-replicate (suc k) (suc n) = drop-replicate k n ∙ ap (λ (m : ℕ). replicate m 0) (sym (suc-sub-suc n k))

pub written_zeros : (n : ℕ) (ys : List ℕ) → written_at (replicate n 0) 0 ys ≡ padded n ys
unfolding padded
written_zeros n ys =
    ap (λ (rest : List ℕ). ys ++ rest)
    (drop-replicate (0 + length ys) n ∙ ap (λ (m : ℕ). replicate (n - m) 0) (zero-add (length ys)))
