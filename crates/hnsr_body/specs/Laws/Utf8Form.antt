-- The code's form is the ABNF: a lead byte's length decides which line can hold, and so how far the first character of
-- a text goes.

use Rattle.std.specs.List.{position_from}
use Rattle.std.specs.Prelude.{ℕ, ◌-◌, Some, None, ◌≤◌, ◌<◌, ◌≡◌, refl, Bool, true, false, cond, ◌&&◌}
use Rattle.std.specs.Prelude.{◌||◌, List, [], ◌∷◌, ◌↔◌, leb, ltb, eqb, length, drop, get_or}
use Rattle.std.proofs.Common.{sym, ap, ◌∙◌, inl, inr, ⊎_elim, not-suc-le-zero, arith}
use Rattle.std.proofs.Common.{leb-true, leb-false, le-leb, lt-ltb, eqb-true, eq-eqb}
use Rattle.std.proofs.Math.Bool.{or-false}
use Rattle.std.proofs.lemmas.Bool.{false≢true, eqb-false}
use Rattle.std.proofs.Common.{◌+◌, suc, ltb-false, drop-cons, add-one}
use Rattle.hnsr_body.specs.Utf8.{between, tail, utf8_1, utf8_2, utf8_3, utf8_4, utf8}
use Rattle.hnsr_body.specs.Utf8Form.{lead_length, second, goes_on, char_length, past_ascii}
use Rattle.hns_encoding.specs.Laws.Tests.{both, join, same, split}
use Rattle.hnsr_body.specs.Laws.Utf8Tests.{order, Range, in_range, is-between, one-fits, one_test, two_fits}
use Rattle.hnsr_body.specs.Laws.Utf8Tests.{two_test, three-fits, three_test, four-fits, four_test, Three, Four}

-- which bytes announce how many
pub data Lead (a : ℕ) : ℕ → Type 0 where
  none : 0x7F < a → (Range 0xC2 0xDF a → ⊥) → (Range 0xE0 0xEF a → ⊥) → (Range 0xF0 0xF4 a → ⊥) → Lead a 0
  one : a ≤ 0x7F → Lead a 1
  two : Range 0xC2 0xDF a → Lead a 2
  three : Range 0xE0 0xEF a → Lead a 3
  four : Range 0xF0 0xF4 a → Lead a 4

choose : {a n m : ℕ} (t : Bool) → (t ≡ true → Lead a n) → (t ≡ false → Lead a m) → Lead a (cond t n m)
choose true f g = f refl
choose false f g = g refl

outside : (low high a : ℕ) → between low high a ≡ false → Range low high a → ⊥
outside low high a e r = false≢true (sym e ∙ is-between low high a r)

pub lead : (a : ℕ) → Lead a (lead_length a)
unfolding lead_length
lead a =
    choose (leb a 0x7F) (λ e. one (leb-true a 0x7F e))
    λ e₁. choose (between 0xC2 0xDF a) (λ e. two (in_range 0xC2 0xDF a e))
    λ e₂. choose (between 0xE0 0xEF a) (λ e. three (in_range 0xE0 0xEF a e))
    λ e₃. choose (between 0xF0 0xF4 a) (λ e. four (in_range 0xF0 0xF4 a e))
    λ e₄. none (leb-false a 0x7F e₁) (outside 0xC2 0xDF a e₂) (outside 0xE0 0xEF a e₃) (outside 0xF0 0xF4 a e₄)

-- the length that a byte announces says its range, and the other way round
announced : {a n : ℕ} → Lead a n
    → (a ≤ 0x7F ↔ n ≡ 1) × (Range 0xC2 0xDF a ↔ n ≡ 2) × (Range 0xE0 0xEF a ↔ n ≡ 3) × (Range 0xF0 0xF4 a ↔ n ≡ 4)
announced (none h p q r) = (
  omega arith,
  (λ t. absurd (p t), λ e. omega arith),
  (λ t. absurd (q t), λ e. omega arith),
  (λ t. absurd (r t), λ e. omega arith),
)
announced (one h) = omega arith
announced (two h) = omega arith
announced (three h) = omega arith
announced (four h) = omega arith

-- the range of the second byte, as facts
pub record Second (a b : ℕ) : Type 0 where
  pub low : 0x80 ≤ b
  pub high : b ≤ 0xBF
  pub e0 : a ≡ 0xE0 → 0xA0 ≤ b
  pub ed : a ≡ 0xED → b ≤ 0x9F
  pub f0 : a ≡ 0xF0 → 0x90 ≤ b
  pub f4 : a ≡ 0xF4 → b ≤ 0x8F

pass : {x y : Bool} (t : Bool) → (t ≡ true → x ≡ true) → (t ≡ false → y ≡ true) → cond t x y ≡ true
pass true f g = f refl
pass false f g = g refl

second_test : (a b : ℕ) → Second a b → second a b ≡ true
unfolding second
second_test a b s =
    pass (eqb a 0xE0) (λ e. is-between 0xA0 0xBF b (s.e0 (eqb-true a 0xE0 e), s.high))
    λ _. pass (eqb a 0xED) (λ e. is-between 0x80 0x9F b (s.low, s.ed (eqb-true a 0xED e)))
    λ _. pass (eqb a 0xF0) (λ e. is-between 0x90 0xBF b (s.f0 (eqb-true a 0xF0 e), s.high))
    λ _. pass (eqb a 0xF4) (λ e. is-between 0x80 0x8F b (s.low, s.f4 (eqb-true a 0xF4 e)))
    λ _. is-between 0x80 0xBF b (s.low, s.high)

passed : {P : Type 0} {x y : Bool} (t : Bool) → (t ≡ true → x ≡ true → P) → (t ≡ false → y ≡ true → P)
    → cond t x y ≡ true → P
passed true f g h = f refl h
passed false f g h = g refl h

second_fits : (a b : ℕ) → second a b ≡ true → Second a b
unfolding second
second_fits a b =
    passed (eqb a 0xE0) (λ e h. let r = in_range 0xA0 0xBF b h in let q = eqb-true a 0xE0 e in omega arith)
    λ e₁. passed (eqb a 0xED) (λ e h. let r = in_range 0x80 0x9F b h in let q = eqb-true a 0xED e in omega arith)
    λ e₂. passed (eqb a 0xF0) (λ e h. let r = in_range 0x90 0xBF b h in let q = eqb-true a 0xF0 e in omega arith)
    λ e₃. passed (eqb a 0xF4) (λ e h. let r = in_range 0x80 0x8F b h in let q = eqb-true a 0xF4 e in omega arith)
    λ e₄ h.
    let r = in_range 0x80 0xBF b h in
    let q₁ = eqb-false a 0xE0 e₁ in
    let q₂ = eqb-false a 0xED e₂ in
    let q₃ = eqb-false a 0xF0 e₃ in
    let q₄ = eqb-false a 0xF4 e₄ in
    omega arith

-- each line of the ABNF is its length, the second byte's range and tails
line_1 : (a : ℕ) → utf8_1 a ≡ eqb (lead_length a) 1
line_1 a =
    let n = lead_length a in
    let leads = (announced (lead a)).0 in
    same _ _ (λ t. eq-eqb n 1 (leads.0 (one-fits a t))) λ t. one_test a (leads.1 (eqb-true n 1 t))

line_2 : (a b : ℕ) → utf8_2 a b ≡ (eqb (lead_length a) 2 && second a b)
line_2 a b =
    let n = lead_length a in
    let leads = (announced (lead a)).1 in
    same _ _
    (λ t. let f = two_fits a b t in join _ _ (eq-eqb n 2 (leads.0 f.0)) (second_test a b (omega arith)))
    λ t.
    let p = both (eqb n 2) (second a b) t in
    let s = second_fits a b p.1 in
    two_test a b (leads.1 (eqb-true n 2 p.0), (s.low, s.high))

three_parts : (a b c : ℕ) → Three a b c → Range 0xE0 0xEF a × Second a b × Range 0x80 0xBF c
three_parts a b c (inl f) = omega arith
three_parts a b c (inr (inl f)) = omega arith
three_parts a b c (inr (inr (inl f))) = omega arith
three_parts a b c (inr (inr (inr f))) = omega arith

pub three-of : (a b c : ℕ) → Range 0xE0 0xEF a → Second a b → Range 0x80 0xBF c → Three a b c
three-of a b c h s t =
    ⊎_elim (λ p. inl (omega arith, (s.e0 (omega arith), s.high), t))
    (λ p.
    ⊎_elim (λ q. inr (inl (omega arith, (s.low, s.high), t)))
    (λ q.
    ⊎_elim (λ r. inr (inr (inl (omega arith, (s.low, s.ed (omega arith)), t))))
    (λ r. inr (inr (inr (omega arith, (s.low, s.high), t))))
    (order a 0xED))
    (order a 0xEC))
    (order a 0xE0)

line_3 : (a b c : ℕ) → utf8_3 a b c ≡ (eqb (lead_length a) 3 && second a b && tail c)
line_3 a b c =
    let n = lead_length a in
    let leads = (announced (lead a)).2 in
    same _ _
    (λ t.
    let f = three_parts a b c (three-fits a b c t) in
    join _ _ (join _ _ (eq-eqb n 3 (leads.0 f.0)) (second_test a b f.1)) (is-between 0x80 0xBF c f.2))
    λ t.
    let p = both (eqb n 3 && second a b) (tail c) t in
    let q = both (eqb n 3) (second a b) p.0 in
    three_test a b c
    (three-of a b c (leads.1 (eqb-true n 3 q.0)) (second_fits a b q.1) (in_range 0x80 0xBF c p.1))

four_parts : (a b c d : ℕ) → Four a b c d → Range 0xF0 0xF4 a × Second a b × Range 0x80 0xBF c × Range 0x80 0xBF d
four_parts a b c d (inl f) = omega arith
four_parts a b c d (inr (inl f)) = omega arith
four_parts a b c d (inr (inr f)) = omega arith

pub four-of : (a b c d : ℕ) → Range 0xF0 0xF4 a → Second a b → Range 0x80 0xBF c → Range 0x80 0xBF d → Four a b c d
four-of a b c d h s t u =
    ⊎_elim (λ p. inl (omega arith, (s.f0 (omega arith), s.high), t, u))
    (λ p.
    ⊎_elim (λ q. inr (inl (omega arith, (s.low, s.high), t, u)))
    (λ q. inr (inr (omega arith, (s.low, s.f4 (omega arith)), t, u)))
    (order a 0xF3))
    (order a 0xF0)

line_4 : (a b c d : ℕ) → utf8_4 a b c d ≡ (eqb (lead_length a) 4 && second a b && tail c && tail d)
line_4 a b c d =
    let n = lead_length a in
    let leads = (announced (lead a)).3 in
    same _ _
    (λ t.
    let f = four_parts a b c d (four-fits a b c d t) in
    join _ _
    (join _ _ (join _ _ (eq-eqb n 4 (leads.0 f.0)) (second_test a b f.1)) (is-between 0x80 0xBF c f.2))
    (is-between 0x80 0xBF d f.3))
    λ t.
    let o = both (eqb n 4 && second a b && tail c) (tail d) t in
    let p = both (eqb n 4 && second a b) (tail c) o.0 in
    let q = both (eqb n 4) (second a b) p.0 in
    four_test a b c d
    (four-of a b c d
    (leads.1 (eqb-true n 4 q.0))
    (second_fits a b q.1)
    (in_range 0x80 0xBF c p.1)
    (in_range 0x80 0xBF d o.1))

-- a character of k bytes, none where k is 0, and then UTF8-octets
abbrev rest_of : ℕ → List ℕ → Bool
rest_of k text = ltb 0 k && utf8 (drop k text)

-- how far a character goes that announces n bytes: `enough` says that the text has n, and s, t, u are the tests of the
-- bytes after the lead
abbrev goes : ℕ → Bool → Bool → Bool → Bool → ℕ
goes n enough s t u = cond (enough && ((leb n 1 || s) && (leb n 2 || t) && (leb n 3 || u))) n 0

step_1 : {a n : ℕ} → Lead a n → (s t u : Bool) → eqb n 1 ≡ rest_of (goes n (leb n 1) s t u) (a ∷ [])
unfolding utf8
step_1 (none h p q r) s t u = refl
step_1 (one h) s t u = refl
step_1 (two h) s t u = refl
step_1 (three h) s t u = refl
step_1 (four h) s t u = refl

step_2 : {a n : ℕ} (b : ℕ) → Lead a n → (s t u : Bool)
    → (eqb n 1 && utf8 (b ∷ []) || eqb n 2 && s) ≡ rest_of (goes n (leb n 2) s t u) (a ∷ b ∷ [])
unfolding utf8
step_2 b (none h p q r) s t u = refl
step_2 b (one h) s t u = or-false _
step_2 b (two h) true t u = refl
step_2 b (two h) false t u = refl
step_2 b (three h) s t u = refl
step_2 b (four h) s t u = refl

step_3 : {a n : ℕ} (b c : ℕ) → Lead a n → (s t u : Bool)
    → (eqb n 1 && utf8 (b ∷ c ∷ []) || eqb n 2 && s && utf8 (c ∷ []) || eqb n 3 && s && t)
    ≡ rest_of (goes n (leb n 3) s t u) (a ∷ b ∷ c ∷ [])
unfolding utf8
step_3 b c (none h p q r) s t u = refl
step_3 b c (one h) s t u = or-false _ ∙ or-false _
step_3 b c (two h) true t u = or-false _
step_3 b c (two h) false t u = refl
step_3 b c (three h) true true u = refl
step_3 b c (three h) true false u = refl
step_3 b c (three h) false t u = refl
step_3 b c (four h) s t u = refl

step_4 : {a n : ℕ} (b c d : ℕ) (rest : List ℕ) → Lead a n → (s t u : Bool)
    → (eqb n 1 && utf8 (b ∷ c ∷ d ∷ rest)
    || eqb n 2 && s && utf8 (c ∷ d ∷ rest)
    || eqb n 3 && s && t && utf8 (d ∷ rest)
    || eqb n 4 && s && t && u && utf8 rest)
    ≡ rest_of (goes n true s t u) (a ∷ b ∷ c ∷ d ∷ rest)
step_4 b c d rest (none h p q r) s t u = refl
step_4 b c d rest (one h) s t u = or-false _ ∙ or-false _ ∙ or-false _
step_4 b c d rest (two h) true t u = or-false _ ∙ or-false _
step_4 b c d rest (two h) false t u = refl
step_4 b c d rest (three h) true true u = or-false _
step_4 b c d rest (three h) true false u = refl
step_4 b c d rest (three h) false t u = refl
step_4 b c d rest (four h) true true true = refl
step_4 b c d rest (four h) true true false = refl
step_4 b c d rest (four h) true false u = refl
step_4 b c d rest (four h) false t u = refl

lead_small : {a n : ℕ} → Lead a n → n ≤ 4
lead_small (none h p q r) = omega arith
lead_small (one h) = omega arith
lead_small (two h) = omega arith
lead_small (three h) = omega arith
lead_small (four h) = omega arith

four-fit : (a b c d : ℕ) (rest : List ℕ) → lead_length a ≤ length (a ∷ b ∷ c ∷ d ∷ rest)
four-fit a b c d rest = omega (arith, lead_small (lead a))

-- a text that is not empty is UTF8-octets if a character begins it, and what follows that is
pub utf8-by-length : (text : List ℕ) → 0 < length text
    → utf8 text ≡ (ltb 0 (char_length text) && utf8 (drop (char_length text) text))
unfolding utf8 char_length goes_on
utf8-by-length [] h = absurd (not-suc-le-zero h)
utf8-by-length (a ∷ []) h = line_1 a ∙ step_1 (lead a) (second a 0) (tail 0) (tail 0)
utf8-by-length (a ∷ b ∷ []) h =
    (λ i. line_1 a i && utf8 (b ∷ []) || line_2 a b i)
    ∙ step_2 b (lead a) (second a b) (tail 0) (tail 0)
utf8-by-length (a ∷ b ∷ c ∷ []) h =
    (λ i. line_1 a i && utf8 (b ∷ c ∷ []) || line_2 a b i && utf8 (c ∷ []) || line_3 a b c i)
    ∙ step_3 b c (lead a) (second a b) (tail c) (tail 0)
utf8-by-length (a ∷ b ∷ c ∷ d ∷ rest) h =
    (λ i.
    line_1 a i && utf8 (b ∷ c ∷ d ∷ rest)
    || line_2 a b i && utf8 (c ∷ d ∷ rest)
    || line_3 a b c i && utf8 (d ∷ rest)
    || line_4 a b c d i && utf8 rest)
    ∙ step_4 b c d rest (lead a) (second a b) (tail c) (tail d)
    ∙ ap
    (λ (t : Bool). rest_of (goes (lead_length a) t (second a b) (tail c) (tail d)) (a ∷ b ∷ c ∷ d ∷ rest))
    (sym (le-leb (lead_length a) (length (a ∷ b ∷ c ∷ d ∷ rest)) (four-fit a b c d rest)))

cond-le : (t : Bool) (n m : ℕ) → (t ≡ true → n ≤ m) → cond t n 0 ≤ m
cond-le true n m f = f refl
cond-le false n m f = omega arith

-- a character ends where its text does, or before
pub char_length-fits : (text : List ℕ) → char_length text ≤ length text
unfolding char_length
char_length-fits text =
    let n = lead_length (get_or text 0 0) in
    cond-le (leb n (length text) && goes_on n text) n (length text)
    λ e. leb-true n (length text) (both (leb n (length text)) (goes_on n text) e).0

ascii_length : (a : ℕ) (text : List ℕ) → a ≤ 0x7F → char_length (a ∷ text) ≡ 1
unfolding char_length goes_on lead_length
ascii_length a text h = simp (le-leb a 0x7F h, le-leb 1 (length (a ∷ text)) (omega arith))

-- an ASCII byte is a character
pub utf8_ascii : (a : ℕ) (text : List ℕ) → a ≤ 0x7F → utf8 (a ∷ text) ≡ utf8 text
utf8_ascii a text h =
    utf8-by-length (a ∷ text) (omega arith) ∙ ap (λ (k : ℕ). rest_of k (a ∷ text)) (ascii_length a text h)

-- wherever it stands, what is behind it decides
pub utf8_past_ascii : (text : List ℕ) (at : ℕ) → at < length text → get_or text at 0 ≤ 0x7F
    → utf8 (drop (at + 1) text) ≡ utf8 (drop at text)
utf8_past_ascii text at some h =
    sym (ap utf8 (drop-cons text at 0 some)
    ∙ utf8_ascii (get_or text at 0) (drop (suc at) text) h
    ∙ ap (λ (k : ℕ). utf8 (drop k text)) (sym (add-one at)))

-- what stands behind the character that a text begins with decides; a text that begins with none is no UTF-8
module _ (text : List ℕ) (some : 0 < length text) where
  pub utf8_behind : 0 < char_length text → utf8 (drop (char_length text) text) ≡ utf8 text
  utf8_behind n =
      sym (utf8-by-length text some
      ∙ ap (λ (t : Bool). t && utf8 (drop (char_length text) text)) (lt-ltb 0 (char_length text) n))

  pub no_char : char_length text ≡ 0 → utf8 text ≡ false
  no_char z = utf8-by-length text some ∙ ap (λ (k : ℕ). rest_of k text) z

pub utf8_none : (text : List ℕ) → length text ≡ 0 → utf8 text ≡ true
unfolding utf8
utf8_none [] e = refl
utf8_none (a ∷ text) e = absurd (omega arith)

-- so do all that stand in front of the first byte that is no ASCII: what stands from there on decides, and a text of
-- ASCII is UTF-8
run-from : (text : List ℕ) (i n : ℕ) → position_from (λ b. ltb 0x7F b) i text ≡ Some n
    → (i ≤ n) × (n - i < length text) × (utf8 (drop (n - i) text) ≡ utf8 text)
run-from [] i n h = absurd (let z : ◌≡◌ {A = ℕ} 0 1 = cc in omega arith)
run-from (b ∷ bs) i n h =
    split (ltb 0x7F b)
    (λ t.
    let k = rw t at h in let e : i ≡ n = cc in let z : n - i ≡ 0 = omega arith in rw z (omega arith, omega arith, refl))
    (λ f. let k = run-from bs (i + 1) n (rw f at h) in
    let z : n - i ≡ suc (n - (i + 1)) = omega (arith, k.0) in
    rw z (omega (arith, k.0), omega (arith, k.1), k.2 ∙ sym (utf8_ascii b bs (ltb-false 0x7F b f))))

all-ascii : (text : List ℕ) (i : ℕ) → position_from (λ b. ltb 0x7F b) i text ≡ None → utf8 text ≡ true
all-ascii [] i h = utf8_none [] refl
all-ascii (b ∷ bs) i h =
    split (ltb 0x7F b)
    (λ t. absurd (let k = rw t at h in let z : ◌≡◌ {A = ℕ} 0 1 = cc in omega arith))
    (λ f. utf8_ascii b bs (ltb-false 0x7F b f) ∙ all-ascii bs (i + 1) (rw f at h))

pub utf8_run : (text : List ℕ) (n : ℕ) → past_ascii text ≡ Some n
    → (n < length text) × (utf8 (drop n text) ≡ utf8 text)
utf8_run text n h =
    let r = run-from text 0 n h in
    let e : n ≡ n - 0 = omega arith in (omega (arith, r.1), ap (λ (k : ℕ). utf8 (drop k text)) e ∙ r.2)

pub utf8_ascii_only : (text : List ℕ) → past_ascii text ≡ None → utf8 text ≡ true
utf8_ascii_only text h = all-ascii text 0 h
