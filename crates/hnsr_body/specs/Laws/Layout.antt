-- Fields one after the other, each read from the step that the one before handed back, over the list of widths: the
-- last step is that of the walk, each field that of the definition, and what is left stands behind them.
use Rattle.std.proofs.Common.{ℕ, zero, suc, ◌+◌, ◌≤◌, add-zero, arith, ◌∙◌, drop_of_length-le, ◌≡◌}
use Rattle.std.proofs.Common.{refl, sym, ap, List, [], ◌∷◌, length, get_or, drop, leb-true, leb-false}
use borrow.Author.Tests.{lt-leb}
use Rattle.std.specs.Prelude.{leb, take, replicate, Result, Ok, Err}
use Rattle.hns_encoding.specs.declared.decoder.Decoder.{Decoder}
use Rattle.hns_encoding.specs.declared.decoder.DecodeError.{DecodeError}
use Rattle.hns_encoding.specs.Cursor.{has, behind, field, unexpected_end}
use Rattle.hns_encoding.specs.Laws.Tests.{on-true, on-false, split}
use Rattle.hnsr_body.specs.Layout.{bytes_at, walked, offset, field_of}
use Rattle.hnsr_body.specs.Fields.{start, stepped, fetched, left}
use Rattle.hnsr_body.specs.Laws.Parts.{span, walk-there, walk_through}

-- the step behind fields of these widths
abbrev pub through : List ℕ → List ℕ → Result Decoder DecodeError → Result Decoder DecodeError
through [] input s = s
through (width ∷ widths) input s = through widths input (stepped width input s)

module _ (input : List ℕ) where
  through_err : (widths : List ℕ) (e : DecodeError) → through widths input (Err e) ≡ Err e
  unfolding stepped
  through_err [] e = refl
  through_err (w ∷ ws) e = through_err ws e

  through-from : (widths : List ℕ) (d : Decoder) → through widths input (Ok d) ≡ walked widths input d
  unfolding walked stepped
  through-from [] d = refl
  through-from (w ∷ ws) d =
      split (has w input d)
      (λ t. rw t (through-from ws (behind w d)))
      (λ f. rw f (through_err ws (unexpected_end (length input) d.position w)))

  field-from : (widths : List ℕ) (i p : ℕ)
      → fetched (get_or widths i 0) input (through (take i widths) input (Ok (record { position = p })))
      ≡ bytes_at (get_or widths i 0) input (p + offset widths i)
  unfolding stepped fetched
  field-from [] zero p = ap (bytes_at 0 input) (sym (add-zero p))
  field-from [] (suc i) p = ap (bytes_at 0 input) (sym (add-zero p))
  field-from (w ∷ ws) zero p = ap (bytes_at w input) (sym (add-zero p))
  field-from (w ∷ ws) (suc i) p =
      let v = get_or ws i 0 in
      let b = has w input (record { position = p }) in
      let there : Result Decoder DecodeError = Ok (record { position = p + w }) in
      let ended : Result Decoder DecodeError = Err (unexpected_end (length input) p w) in
      let then : Result Decoder DecodeError → List ℕ = λ s. fetched v input (through (take i ws) input s) in
      split b
      (λ t. ap then (on-true b there ended t) ∙ field-from ws i (p + w) ∙ ap (bytes_at v input) (omega arith))
      (λ f.
      let far = lt-leb (p + (w + offset ws i) + v) (length input) (omega (arith, leb-false (p + w) (length input) f)) in
      ap then (on-false b there ended f)
      ∙ ap (fetched v input) (through_err (take i ws) (unexpected_end (length input) p w))
      ∙ sym (on-false _ (field input (p + (w + offset ws i)) v) (replicate v 0) far))

  -- ---- from the start
  pub through-walked : (widths : List ℕ) → through widths input start ≡ walked widths input (record { position = 0 })
  through-walked widths = through-from widths (record { position = 0 })

  pub through-field : (widths : List ℕ) (i : ℕ)
      → fetched (get_or widths i 0) input (through (take i widths) input start) ≡ field_of widths i input
  through-field widths i = field-from widths i 0 ∙ ap (bytes_at (get_or widths i 0) input) (omega arith)

  -- and what is left behind them
  pub walked-left : (widths : List ℕ)
      → left input (walked widths input (record { position = 0 })) ≡ drop (span widths) input
  unfolding left
  walked-left widths = go (walked widths input (record { position = 0 })) refl
    where
      go : (s : Result Decoder DecodeError) → walked widths input (record { position = 0 }) ≡ s
          → left input s ≡ drop (span widths) input
      go (Ok d) w =
          let e : d.position ≡ span widths = omega (arith, walk-there widths input 0 d (omega arith) w) in
          ap (λ (k : ℕ). drop k input) e
      go (Err e) w =
          split (leb (span widths) (length input))
          (λ t. let k = walk_through widths input 0 (omega (arith, leb-true (span widths) (length input) t)) in
          let z : ◌≡◌ {A = ℕ} 0 1 = cc in absurd (omega arith))
          (λ f. let h : length input ≤ span widths = omega (arith, leb-false (span widths) (length input) f) in
          sym (drop_of_length-le input h))

pub ruleset behind_walk = (walked-left)
