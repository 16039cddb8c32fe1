-- Bool tests and `cond`: what a choice is once its test is known, tests joined, and tests of numbers that say the same.
use Rattle.std.specs.Prelude.{ℕ, ◌≤◌, ◌≡◌, refl, Bool, true, false, cond, ◌&&◌, ◌||◌, ◌⊎◌, leb, eqb}
use Rattle.std.proofs.Common.{sym, ◌∙◌, ap, true≢false, inl, inr, arith, leb-true, le-leb, eq-eqb, ne_eqb, eqb-true}
use Rattle.std.proofs.lemmas.Bool.{eqb-false}

pub on-true : {A : Type 0} (b : Bool) (x y : A) → b ≡ true → cond b x y ≡ x
on-true b x y e = ap (λ (t : Bool). cond t x y) e

pub on-false : {A : Type 0} (b : Bool) (x y : A) → b ≡ false → cond b x y ≡ y
on-false b x y e = ap (λ (t : Bool). cond t x y) e

-- a test is true or false
pub split {ℓ} : {P : Type ℓ} (b : Bool) → (b ≡ true → P) → (b ≡ false → P) → P
split true t f = t refl
split false t f = f refl

-- the same at a property of what is chosen
pub choose : {A : Type 0} (P : A → Type 0) (b : Bool) (x y : A) → (b ≡ true → P x) → (b ≡ false → P y) → P (cond b x y)
choose P true x y t f = t refl
choose P false x y t f = f refl

-- a function of what is chosen
pub cond_map : {A B : Type 0} (f : A → B) (b : Bool) (x y : A) → f (cond b x y) ≡ cond b (f x) (f y)
cond_map f true x y = refl
cond_map f false x y = refl

-- both of two tests, and back
pub both : (a b : Bool) → a && b ≡ true → (a ≡ true) × (b ≡ true)
both true b e = (refl, e)
both false true e = (e, refl)
both false false e = (e, e)

pub join : (a b : Bool) → a ≡ true → b ≡ true → a && b ≡ true
join a b p q = rw (p, q)

-- neither of two tests
pub neither : (a b : Bool) → a || b ≡ false → (a ≡ false) × (b ≡ false)
neither true true e = (e, e)
neither true false e = (e, refl)
neither false b e = (refl, e)

-- two orders that say the same have the same test
pub leb_same : (a b c d : ℕ) → (a ≤ b → c ≤ d) → (c ≤ d → a ≤ b) → leb a b ≡ leb c d
leb_same a b c d there back =
    split (leb a b)
    (λ t. t ∙ sym (le-leb c d (there (leb-true a b t))))
    (λ f. split (leb c d) (λ t. le-leb a b (back (leb-true c d t)) ∙ sym t) (λ g. f ∙ sym g))

-- a test that passes and fails
pub clash : {P : Type 0} {b : Bool} → b ≡ true → b ≡ false → P
clash t f = absurd (true≢false (sym t ∙ f))

-- one or the other of two tests
pub either : (a b : Bool) → a || b ≡ true → (a ≡ true) ⊎ (b ≡ true)
either true b h = inl h
either false b h = inr h

-- two tests that pass together are one
pub same : (a b : Bool) → (a ≡ true → b ≡ true) → (b ≡ true → a ≡ true) → a ≡ b
same true b f g = sym (f refl)
same false true f g = g refl
same false false f g = refl

-- small laws of tests
pub eqb_comm : (m n : ℕ) → eqb m n ≡ eqb n m
eqb_comm m n =
    split (eqb m n)
    (λ e. e ∙ sym (eq-eqb n m (sym (eqb-true m n e))))
    (λ e. e ∙ sym (ne_eqb n m (λ q. eqb-false m n e (sym q))))

pub cond-le : (b : Bool) → cond b 1 0 ≤ 1
cond-le true = omega arith
cond-le false = omega arith

pub or_assoc : (a b c : Bool) → ((a || b) || c) ≡ (a || (b || c))
or_assoc true b c = refl
or_assoc false b c = refl

pub or-none : (a : Bool) → a ≡ (a || false)
or-none true = refl
or-none false = refl
