-- Tests that passed, as facts: `&&`, `||`, ranges of bytes, and the lines of the ABNF, by cases on the tests' values.

use Rattle.std.specs.Prelude.{ℕ, ◌≤◌, ◌<◌, ◌≡◌, refl, Bool, true, false, ◌&&◌, ◌||◌, ◌⊎◌, leb}
use Rattle.std.proofs.Common.{inl, inr, arith, leb-true, leb-false, le-leb}
use Rattle.std.proofs.lemmas.Bool.{false≢true}
use Rattle.std.proofs.Math.Logic.{⊎_map}
use Rattle.hns_encoding.specs.Laws.Tests.{both, join}
use Rattle.hnsr_body.specs.Utf8.{between, tail, utf8_1, utf8_2, utf8_3, utf8_4}

pub left : (a b : Bool) → a ≡ true → (a || b) ≡ true
left true b h = h
left false b h = absurd (false≢true h)

pub right : (a b : Bool) → b ≡ true → (a || b) ≡ true
right true b h = refl
right false b h = h

pub order : (m n : ℕ) → (m ≤ n) ⊎ (n < m)
order m n = go (leb m n) refl
  where
    go : (t : Bool) → leb m n ≡ t → (m ≤ n) ⊎ (n < m)
    go true e = inl (leb-true m n e)
    go false e = inr (leb-false m n e)

abbrev pub Range : ℕ → ℕ → ℕ → Type 0
Range low high b = (low ≤ b) × (b ≤ high)

pub in_range : (low high b : ℕ) → between low high b ≡ true → Range low high b
in_range low high b h = let p = both _ _ h in (leb-true low b p.0, leb-true b high p.1)

pub is-between : (low high b : ℕ) → Range low high b → between low high b ≡ true
is-between low high b r = join _ _ (le-leb low b r.0) (le-leb b high r.1)

pub any3 : (x y z : Bool) → (x || y || z) ≡ true → (x ≡ true) ⊎ ((y ≡ true) ⊎ (z ≡ true))
any3 true y z h = inl refl
any3 false true z h = inr (inl refl)
any3 false false z h = inr (inr h)

pub any4 : (x y z w : Bool) → (x || y || z || w) ≡ true → (x ≡ true) ⊎ ((y ≡ true) ⊎ ((z ≡ true) ⊎ (w ≡ true)))
any4 true y z w h = inl refl
any4 false true z w h = inr (inl refl)
any4 false false true w h = inr (inr (inl refl))
any4 false false false w h = inr (inr (inr h))

some3 : (x y z : Bool) → (x ≡ true) ⊎ ((y ≡ true) ⊎ (z ≡ true)) → (x || y || z) ≡ true
some3 x y z (inl h) = left _ z (left x y h)
some3 x y z (inr (inl h)) = left _ z (right x y h)
some3 x y z (inr (inr h)) = right (x || y) z h

some4 : (x y z w : Bool) → (x ≡ true) ⊎ ((y ≡ true) ⊎ ((z ≡ true) ⊎ (w ≡ true))) → (x || y || z || w) ≡ true
some4 x y z w (inl h) = left _ w (some3 x y z (inl h))
some4 x y z w (inr (inl h)) = left _ w (some3 x y z (inr (inl h)))
some4 x y z w (inr (inr (inl h))) = left _ w (some3 x y z (inr (inr h)))
some4 x y z w (inr (inr (inr h))) = right (x || y || z) w h

-- a line's alternative: the lead's range, the second byte's, and tails
abbrev pub Fit2 : ℕ → ℕ → ℕ → ℕ → Type 0
Fit2 l h a b = Range l h a × Range 0x80 0xBF b

abbrev pub Fit3 : ℕ → ℕ → ℕ → ℕ → ℕ → ℕ → ℕ → Type 0
Fit3 l h l₂ h₂ a b c = Range l h a × Range l₂ h₂ b × Range 0x80 0xBF c

abbrev pub Fit4 : ℕ → ℕ → ℕ → ℕ → ℕ → ℕ → ℕ → ℕ → Type 0
Fit4 l h l₂ h₂ a b c d = Range l h a × Range l₂ h₂ b × Range 0x80 0xBF c × Range 0x80 0xBF d

fit3 : (l h l₂ h₂ a b c : ℕ) → (between l h a && between l₂ h₂ b && tail c) ≡ true → Fit3 l h l₂ h₂ a b c
fit3 l h l₂ h₂ a b c e =
    let p = both (between l h a && between l₂ h₂ b) (tail c) e in
    let q = both (between l h a) (between l₂ h₂ b) p.0 in
    (in_range l h a q.0, in_range l₂ h₂ b q.1, in_range 0x80 0xBF c p.1)

test3 : (l h l₂ h₂ a b c : ℕ) → Fit3 l h l₂ h₂ a b c → (between l h a && between l₂ h₂ b && tail c) ≡ true
test3 l h l₂ h₂ a b c f =
    join _ _ (join _ _ (is-between l h a f.0) (is-between l₂ h₂ b f.1)) (is-between 0x80 0xBF c f.2)

fit4 : (l h l₂ h₂ a b c d : ℕ) → (between l h a && between l₂ h₂ b && tail c && tail d) ≡ true → Fit4 l h l₂ h₂ a b c d
fit4 l h l₂ h₂ a b c d e =
    let p = both (between l h a && between l₂ h₂ b && tail c) (tail d) e in
    let q = fit3 l h l₂ h₂ a b c p.0 in
    (q.0, q.1, q.2, in_range 0x80 0xBF d p.1)

test4 : (l h l₂ h₂ a b c d : ℕ) → Fit4 l h l₂ h₂ a b c d → (between l h a && between l₂ h₂ b && tail c && tail d) ≡ true
test4 l h l₂ h₂ a b c d f =
    join _ _ (test3 l h l₂ h₂ a b c (f.0, f.1, f.2)) (is-between 0x80 0xBF d f.3)

-- what each line of the ABNF says, as facts
abbrev pub Three : ℕ → ℕ → ℕ → Type 0
Three a b c =
    Fit3 0xE0 0xE0 0xA0 0xBF a b c
    ⊎ (Fit3 0xE1 0xEC 0x80 0xBF a b c ⊎ (Fit3 0xED 0xED 0x80 0x9F a b c ⊎ Fit3 0xEE 0xEF 0x80 0xBF a b c))

abbrev pub Four : ℕ → ℕ → ℕ → ℕ → Type 0
Four a b c d =
    Fit4 0xF0 0xF0 0x90 0xBF a b c d ⊎ (Fit4 0xF1 0xF3 0x80 0xBF a b c d ⊎ Fit4 0xF4 0xF4 0x80 0x8F a b c d)

pub one-fits : (a : ℕ) → utf8_1 a ≡ true → a ≤ 0x7F
unfolding utf8_1
one-fits a h = (in_range 0 0x7F a h).1

pub one_test : (a : ℕ) → a ≤ 0x7F → utf8_1 a ≡ true
unfolding utf8_1
one_test a h = is-between 0 0x7F a (omega arith)

pub two_fits : (a b : ℕ) → utf8_2 a b ≡ true → Fit2 0xC2 0xDF a b
unfolding utf8_2
two_fits a b h =
    let p = both (between 0xC2 0xDF a) (tail b) h in
    (in_range 0xC2 0xDF a p.0, in_range 0x80 0xBF b p.1)

pub two_test : (a b : ℕ) → Fit2 0xC2 0xDF a b → utf8_2 a b ≡ true
unfolding utf8_2
two_test a b f = join _ _ (is-between 0xC2 0xDF a f.0) (is-between 0x80 0xBF b f.1)

pub three-fits : (a b c : ℕ) → utf8_3 a b c ≡ true → Three a b c
unfolding utf8_3
three-fits a b c h =
    ⊎_map (fit3 0xE0 0xE0 0xA0 0xBF a b c)
    (⊎_map (fit3 0xE1 0xEC 0x80 0xBF a b c)
    (⊎_map (fit3 0xED 0xED 0x80 0x9F a b c) (fit3 0xEE 0xEF 0x80 0xBF a b c)))
    (any4 _ _ _ _ h)

pub three_test : (a b c : ℕ) → Three a b c → utf8_3 a b c ≡ true
unfolding utf8_3
three_test a b c f =
    some4 _ _ _ _
    (⊎_map (test3 0xE0 0xE0 0xA0 0xBF a b c)
    (⊎_map (test3 0xE1 0xEC 0x80 0xBF a b c)
    (⊎_map (test3 0xED 0xED 0x80 0x9F a b c) (test3 0xEE 0xEF 0x80 0xBF a b c)))
    f)

pub four-fits : (a b c d : ℕ) → utf8_4 a b c d ≡ true → Four a b c d
unfolding utf8_4
four-fits a b c d h =
    ⊎_map (fit4 0xF0 0xF0 0x90 0xBF a b c d)
    (⊎_map (fit4 0xF1 0xF3 0x80 0xBF a b c d) (fit4 0xF4 0xF4 0x80 0x8F a b c d))
    (any3 _ _ _ h)

pub four_test : (a b c d : ℕ) → Four a b c d → utf8_4 a b c d ≡ true
unfolding utf8_4
four_test a b c d f =
    some3 _ _ _
    (⊎_map (test4 0xF0 0xF0 0x90 0xBF a b c d)
    (⊎_map (test4 0xF1 0xF3 0x80 0xBF a b c d) (test4 0xF4 0xF4 0x80 0x8F a b c d))
    f)
