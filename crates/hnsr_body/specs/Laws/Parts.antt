-- Fields put together: a body is laid out just where it has the size of its fields, and then it is its fields, one
-- after the other.
use Rattle.std.specs.Prelude.{ℕ, zero, suc, ◌+◌, ◌≤◌, ◌≡◌, refl, Bool, true, false, List, [], ◌∷◌}
use Rattle.std.specs.Prelude.{◌++◌, map, leb, eqb, ltb, length, get_or, take, drop, replicate, Result, Ok, Err}
use Rattle.std.proofs.Common.{arith, sym, ◌∙◌, ap, length-append, length-drop, take-append-drop}
use Rattle.std.proofs.Common.{drop-drop, take_at, drop_at, leb-true, le-leb, eqb-true, eq-eqb}
use Rattle.hns_encoding.specs.declared.decoder.Decoder.{Decoder}
use Rattle.hns_encoding.specs.declared.decoder.DecodeError.{DecodeError}
use Rattle.hns_encoding.specs.Bytes.{Below, le, le_bytes, be, be_bytes}
use Rattle.hns_encoding.specs.Cursor.{field, unexpected_end}
use Rattle.hns_encoding.specs.Sums.{total}
use Rattle.hns_encoding.specs.Laws.Tests.{split, on-true}
use Rattle.hns_encoding.specs.Laws.Lists.{field-length, below-take, below-drop}
use Rattle.hns_encoding.specs.Laws.Bytes.{le_bytes-le, be_bytes-be}
use Rattle.hnsr_body.specs.declared.error.HnsrInvalid.{HnsrInvalid}
use Rattle.hnsr_body.specs.declared.error.HnsrProtocolError.{HnsrProtocolError}
use Rattle.hnsr_body.specs.Causes.{answer}
use Rattle.hnsr_body.specs.Layout.{behind_step, walked, finished, laid_out, offset, field_of}

-- ---- answers: taken where the layout and the values are good, and only there
pub answered : {layout : Result Unit HnsrProtocolError} {good : Bool} (text : HnsrInvalid) → layout ≡ Ok tt
    → good ≡ true
    → answer layout good text ≡ Ok tt
answered text l g = rw (l, g)

pub answer-good : (layout : Result Unit HnsrProtocolError) (good : Bool) (text : HnsrInvalid)
    → answer layout good text ≡ Ok tt
    → (layout ≡ Ok tt) × (good ≡ true)
answer-good (Err cause) good text h = let z : ◌≡◌ {A = ℕ} 0 1 = cc in absurd (omega arith)
answer-good (Ok done) true text h = (refl, refl)
answer-good (Ok done) false text h = let z : ◌≡◌ {A = ℕ} 0 1 = cc in absurd (omega arith)

-- ---- the size of fields of these widths, and a body cut into them
abbrev pub span : List ℕ → ℕ
span widths = total (λ w. w) widths

abbrev pub cut : List ℕ → List ℕ → List (List ℕ)
cut [] xs = []
cut (width ∷ widths) xs = take width xs ∷ cut widths (drop width xs)

-- fields one after the other
abbrev pub joined : List (List ℕ) → List ℕ
joined [] = []
joined (p ∷ ps) = p ++ joined ps

joined_length : (ps : List (List ℕ)) → length (joined ps) ≡ span (map length ps)
joined_length [] = refl
joined_length (p ∷ ps) = omega (arith, length-append p (joined ps), joined_length ps)

cut-joined : (ps : List (List ℕ)) → cut (map length ps) (joined ps) ≡ ps
cut-joined [] = refl
cut-joined (p ∷ ps) = rw (take_at p (joined ps) (length p) refl, drop_at p (joined ps) (length p) refl, cut-joined ps)

joined-cut : (widths xs : List ℕ) → length xs ≡ span widths → joined (cut widths xs) ≡ xs
joined-cut [] [] e = refl
joined-cut [] (x ∷ xs) e = absurd (omega arith)
joined-cut (w ∷ ws) xs e =
    ap (λ (rest : List ℕ). take w xs ++ rest) (joined-cut ws (drop w xs) (length-drop w xs ∙ omega arith))
    ∙ take-append-drop w xs

-- ---- the walk over fields that are there, and that they are there where it came through
pub walk_through : (widths xs : List ℕ) (p : ℕ) → p + span widths ≤ length xs
    → walked widths xs (record { position = p }) ≡ Ok (record { position = p + span widths })
unfolding walked
walk_through [] xs p l = ap (λ (k : ℕ). Ok (record { position = k })) (omega arith)
walk_through (w ∷ ws) xs p l =
    ap (behind_step (walked ws xs))
    (on-true _ (Ok (record { position = p + w })) (Err (unexpected_end (length xs) p w))
    (le-leb (p + w) (length xs) (omega arith)))
    ∙ walk_through ws xs (p + w) (omega arith)
    ∙ ap (λ (k : ℕ). Ok (record { position = k })) (omega arith)

pub walk-there : (widths xs : List ℕ) (p : ℕ) (d : Decoder) → p ≤ length xs
    → walked widths xs (record { position = p }) ≡ Ok d
    → (d.position ≡ p + span widths) × (p + span widths ≤ length xs)
unfolding walked
walk-there [] xs p d l h =
    let e : record { position = p } ≡ d = cc in (sym (ap (λ (c : Decoder). c.position) e) ∙ omega arith, omega arith)
walk-there (w ∷ ws) xs p d l h =
    split (leb (p + w) (length xs))
    (λ t. let r = walk-there ws xs (p + w) d (leb-true (p + w) (length xs) t) (rw t at h) in
    (omega (arith, r), omega (arith, r)))
    (λ f. let k = rw f at h in let z : ◌≡◌ {A = ℕ} 0 1 = cc in absurd (omega arith))

-- a body is laid out where it has the size of its fields, and only there
pub laid-whole : (widths xs : List ℕ) → length xs ≡ span widths → laid_out widths xs ≡ Ok tt
unfolding laid_out
laid-whole widths xs e =
    ap (finished xs) (walk_through widths xs 0 (omega arith)) ∙ rw (eq-eqb (0 + span widths) (length xs) (omega arith))

pub laid-size : (widths xs : List ℕ) → laid_out widths xs ≡ Ok tt → length xs ≡ span widths
unfolding laid_out
laid-size widths xs h = go (walked widths xs (record { position = 0 })) refl h
  where
    go : (s : Result Decoder DecodeError) → walked widths xs (record { position = 0 }) ≡ s → finished xs s ≡ Ok tt
        → length xs ≡ span widths
    go (Err error) w h = let z : ◌≡◌ {A = ℕ} 0 1 = cc in absurd (omega arith)
    go (Ok d) w h =
        split (eqb d.position (length xs))
        (λ t. omega (arith, walk-there widths xs 0 d (omega arith) w, eqb-true d.position (length xs) t))
        (λ f. let k = rw f at h in
        split (ltb d.position (length xs))
        (λ t. let m = rw t at k in let z : ◌≡◌ {A = ℕ} 0 1 = cc in absurd (omega arith))
        (λ g. let m = rw g at k in let z : ◌≡◌ {A = ℕ} 0 1 = cc in absurd (omega arith)))

-- ---- a field of a body is a piece of the cut
offset-span : (widths : List ℕ) (i : ℕ) → offset widths i + get_or widths i 0 ≤ span widths
offset-span [] i = omega arith
offset-span (w ∷ ws) zero = omega arith
offset-span (w ∷ ws) (suc i) = omega (arith, offset-span ws i)

field_cut : (widths xs : List ℕ) (i : ℕ) → field xs (offset widths i) (get_or widths i 0) ≡ get_or (cut widths xs) i []
field_cut [] xs i = refl
field_cut (w ∷ ws) xs zero = refl
field_cut (w ∷ ws) xs (suc i) = rw (← (drop-drop (offset ws i) w xs)) (field_cut ws (drop w xs) i)

-- `ps` are the fields of a body: it is laid out, each field reads as one of them, and together they are the body
pub record Parts (widths xs : List ℕ) (ps : List (List ℕ)) : Type 0 where
  pub laid : laid_out widths xs ≡ Ok tt
  pub part : (i : ℕ) → field_of widths i xs ≡ get_or ps i []
  pub whole : joined ps ≡ xs

cut_parts : (widths xs : List ℕ) → length xs ≡ span widths → Parts widths xs (cut widths xs)
cut_parts widths xs e = record {
  laid = laid-whole widths xs e;
  part = λ i.
      on-true _ (field xs (offset widths i) (get_or widths i 0)) (replicate (get_or widths i 0) 0)
      (le-leb (offset widths i + get_or widths i 0) (length xs) (omega (arith, offset-span widths i)))
      ∙ field_cut widths xs i;
  whole = joined-cut widths xs e;
}

-- of fields that were put together, and of a body that is laid out
pub written_parts : (widths xs : List ℕ) (ps : List (List ℕ)) → map length ps ≡ widths → joined ps ≡ xs
    → Parts widths xs ps
written_parts widths xs ps e j =
    rw (← e, ← j) (rw (cut-joined ps) at (cut_parts (map length ps) (joined ps) (joined_length ps)))

pub read_parts : (widths xs : List ℕ) → laid_out widths xs ≡ Ok tt → Parts widths xs (cut widths xs)
read_parts widths xs h = cut_parts widths xs (laid-size widths xs h)

-- a field that is read as a value and written again gives its bytes again, if the value of so many bytes does
module _ (widths xs : List ℕ) (bytes : Below 256 xs) (laid : laid_out widths xs ≡ Ok tt) (i : ℕ) where
  pub value_part : {A : Type 0} (read : List ℕ → A) (write : A → List ℕ)
      → ((bs : List ℕ) → Below 256 bs → length bs ≡ get_or widths i 0 → write (read bs) ≡ bs)
      → write (read (field_of widths i xs)) ≡ get_or (cut widths xs) i []
  value_part read write again =
      let w = get_or widths i 0 in
      let at = offset widths i in
      let size : length (field xs at w) ≡ w =
      field-length xs at w (omega (arith, offset-span widths i, laid-size widths xs laid)) in
      let same : field_of widths i xs ≡ field xs at w =
      (read_parts widths xs laid).part i ∙ sym (field_cut widths xs i) in
      ap (λ (bs : List ℕ). write (read bs)) same
      ∙ again (field xs at w) (below-take 256 (drop at xs) w (below-drop 256 xs at bytes)) size
      ∙ field_cut widths xs i

  pub le-part : le_bytes (get_or widths i 0) (le (field_of widths i xs)) ≡ get_or (cut widths xs) i []
  le-part =
      value_part le (le_bytes (get_or widths i 0))
      (λ bs b e. ap (λ (w : ℕ). le_bytes w (le bs)) (sym e) ∙ le_bytes-le bs b)

  pub be-part : be_bytes (get_or widths i 0) (be (field_of widths i xs)) ≡ get_or (cut widths xs) i []
  be-part =
      value_part (λ bs. be bs) (be_bytes (get_or widths i 0))
      (λ bs b e. ap (λ (w : ℕ). be_bytes w (be bs)) (sym e) ∙ be_bytes-be bs b)
