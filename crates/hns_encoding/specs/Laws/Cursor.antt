-- What a method of the cursor answers, over the width and what a field is made into: the field and the cursor behind it
-- where the test passed, the early end where it did not. `b` is what a test gave.
use Rattle.std.specs.Prelude.{ℕ, ◌+◌, ◌-◌, ◌≤◌, ◌≡◌, refl, Bool, true, false, cond, List}
use Rattle.std.specs.Prelude.{[], ◌++◌, length, take, drop, replicate, eqb, ltb, Ok, Err}
use Rattle.std.proofs.Common.{arith, sym, ◌∙◌, ap, length-append, leb-true, le-leb, eqb-true}
use Rattle.std.proofs.lemmas.List.{length-replicate}
use Rattle.hns_encoding.specs.declared.decoder.Decoder.{Decoder}
use Rattle.hns_encoding.specs.declared.decoder.DecodeError.{DecodeError}
use Rattle.hns_encoding.specs.Cursor.{within, field, written_at, unexpected_end, has, behind, reads, reads_bytes}
use Rattle.hns_encoding.specs.Cursor.{written, finishes, array_read, part, bytes_read, no_room, Puts}
use Rattle.hns_encoding.specs.Words.{word_count, bytes_of}
use Rattle.hns_encoding.specs.declared.decoder.DecodeError.TheVariants.{TrailingBytes}
use Rattle.hns_encoding.specs.declared.encoder.NoRoom.{NoRoom}
use Rattle.hns_encoding.specs.Laws.Tests.{on-true, on-false, split}
use Rattle.hns_encoding.specs.Laws.Lists.{field-length, written-whole, written-length, written_behind}

-- a test that passed: the end lies within
pub there : (size position width : ℕ) (b : Bool) → b ≡ within size position width → b ≡ true → position + width ≤ size
there size position width b e t = leb-true (position + width) size (sym e ∙ t)

-- a step, a field read: where the test passed, and where it did not
module _ {A : Type 0} (value : List ℕ → A) (width : ℕ) (xs : List ℕ) (d : Decoder) (b : Bool)
    (e : b ≡ has width xs d) where
  pub read_ok : b ≡ true → Ok (value (field xs d.position width), behind width d) ≡ reads value width xs d
  read_ok t = rw (sym e ∙ t)

  pub read_err : (error : DecodeError) → b ≡ false → error ≡ unexpected_end (length xs) d.position width
      → Err error ≡ reads value width xs d
  read_err error f h = rw (sym e ∙ f, h)

-- what a read field is made into
pub read_into : {A : Type 0} (value : List ℕ → A) (width : ℕ) (xs : List ℕ) (d : Decoder) (bytes : List ℕ)
    (next : Decoder) (v : A) → Ok (bytes, next) ≡ reads_bytes width xs d → (length bytes ≡ width → v ≡ value bytes)
    → Ok (v, next) ≡ reads value width xs d
read_into value width xs d bytes next v h k =
    split (has width xs d)
    (λ t.
    let r = rw t at h in
    let both : (bytes, next) ≡ (field xs d.position width, behind width d) = cc in
    let same : bytes ≡ field xs d.position width = ap (λ (p : List ℕ × Decoder). p.0) both in
    let moved : next ≡ behind width d = ap (λ (p : List ℕ × Decoder). p.1) both in
    let e : v ≡ value bytes =
    k (ap length same ∙ field-length xs d.position width (leb-true (d.position + width) (length xs) t)) in
    rw t (cc))
    (λ f. absurd (let r = rw f at h in let y : ◌≡◌ {A = ℕ} 0 1 = cc in omega arith))

-- a field as an array: what a copy over zeros leaves, or the zeros; and as a part of the input, or no bytes
module _ (width : ℕ) (xs : List ℕ) (d : Decoder) (b : Bool) (e : b ≡ has width xs d) where
  pub array_ok : (last : List ℕ) → b ≡ true → last ≡ written_at (replicate width 0) 0 (field xs d.position width)
      → last ≡ array_read width xs d
  array_ok last t h =
      h
      ∙ written-whole (replicate width 0) (field xs d.position width)
      (length-replicate width 0
      ∙ sym (field-length xs d.position width (there (length xs) d.position width b e t)))
      ∙ sym (on-true _ (field xs d.position width) (replicate width 0) (sym e ∙ t))

  pub array_err : b ≡ false → replicate width 0 ≡ array_read width xs d
  array_err f = rw (sym e ∙ f)

  pub part_ok : b ≡ true → field xs d.position width ≡ part width xs d
  part_ok t = rw (sym e ∙ t)

  pub part_err : b ≡ false → [] ≡ part width xs d
  part_err f = rw (sym e ∙ f)

-- bytes filled from words
module _ (out xs : List ℕ) (d : Decoder) (b : Bool) (e : b ≡ has (word_count (length out)) xs d) where
  pub filled_ok : (last : List ℕ) → b ≡ true → last ≡ take (length out) (bytes_of (drop d.position xs))
      → last ≡ bytes_read out xs d
  filled_ok last t h = rw (sym e ∙ t, h)

  pub filled_err : b ≡ false → out ≡ bytes_read out xs d
  filled_err f = rw (sym e ∙ f)

-- ---- what a write answers and leaves, over what is written
module _ (before : List ℕ) (at : ℕ) (ys : List ℕ) (width : ℕ) (w : width ≡ length ys) (b : Bool)
    (e : b ≡ within (length before) at width) where
  pub puts_ok : (after : List ℕ) → b ≡ true → after ≡ written_at before at ys
      → Puts (Ok (record { position = at + width })) before after at ys
  puts_ok after t h =
      let passed : within (length before) at (length ys) ≡ true =
      ap (λ (n : ℕ). within (length before) at n) (sym w) ∙ sym e ∙ t in record {
        answer =
            ap (λ (n : ℕ). Ok (record { position = at + n })) w
            ∙ sym
            (on-true _ (Ok (record { position = at + length ys }))
            (Err (no_room (length before) at (length ys))) passed);
        leaves = h ∙ sym (on-true _ (written_at before at ys) before passed);
      }

  pub puts_err : (error : NoRoom) → b ≡ false → error ≡ no_room (length before) at width
      → Puts (Err error) before before at ys
  puts_err error f h =
      let failed : within (length before) at (length ys) ≡ false =
      ap (λ (n : ℕ). within (length before) at n) (sym w) ∙ sym e ∙ f in record {
        answer =
            ap Err (h ∙ ap (λ (n : ℕ). no_room (length before) at n) w)
            ∙ sym
            (on-false _ (Ok (record { position = at + length ys }))
            (Err (no_room (length before) at (length ys))) failed);
        leaves = sym (on-false _ (written_at before at ys) before failed);
      }

-- an input read whole
pub finish_ok : (xs : List ℕ) (d : Decoder) → finishes xs d ≡ Ok tt → d.position ≡ length xs
finish_ok xs d h =
    split (eqb d.position (length xs))
    (λ t. eqb-true d.position (length xs) t)
    (λ f. absurd (let k = rw f at h in
    split (ltb d.position (length xs))
    (λ t. let z = rw t at k in let y : ◌≡◌ {A = ℕ} 0 1 = cc in omega arith)
    (λ g. let z = rw g at k in let y : ◌≡◌ {A = ℕ} 0 1 = cc in omega arith)))

-- an input not read whole: bytes left over, or a cursor past the end
pub finish_err : (xs : List ℕ) (d : Decoder) (error : DecodeError) → finishes xs d ≡ Err error
    → error
    ≡ cond (ltb d.position (length xs)) (TrailingBytes (length xs - d.position))
    (unexpected_end (length xs) d.position 0)
finish_err xs d error h =
    split (eqb d.position (length xs))
    (λ t. let k = rw t at h in let y : ◌≡◌ {A = ℕ} 0 1 = cc in absurd (omega arith))
    (λ f. let k = rw f at h in
    split (ltb d.position (length xs))
    (λ t. let z = rw t at k in rw t (cc))
    (λ g. let z = rw g at k in rw g (cc)))

-- ---- a run of writes from the front of `xs`: `now` has `done` in front, which is n elements; none yet, one field
-- more, all
pub record Wrote (xs now done : List ℕ) (n : ℕ) : Type 0 where
  pub same : now ≡ written_at xs 0 done
  pub size : length done ≡ n

pub wrote_none : (xs : List ℕ) → Wrote xs xs [] 0
wrote_none xs = record { same = refl; size = refl }

pub wrote_next : {xs before done : List ℕ} {n : ℕ} (after ys : List ℕ) (k : ℕ) → Wrote xs before done n → length ys ≡ k
    → n + k ≤ length xs
    → after ≡ written before n ys → Wrote xs after (done ++ ys) (n + k)
wrote_next {xs} {before} {done} {n} after ys k w e l h =
    let size = w.size in
    let long : length before ≡ length xs = ap length w.same ∙ written-length xs 0 done (omega arith) in
    let fits : within (length before) n (length ys) ≡ true = le-leb (n + length ys) (length before) (omega arith) in
    record {
      same =
          h
          ∙ on-true _ (written_at before n ys) before fits
          ∙ ap (λ (zs : List ℕ). written_at zs n ys) w.same
          ∙ written_behind xs 0 done ys n (omega arith) (omega arith);
      size = length-append done ys ∙ omega arith;
    }

pub wrote_all : {xs now done : List ℕ} {n : ℕ} → Wrote xs now done n → n ≡ length xs → now ≡ done
wrote_all {xs} {now} {done} {n} w e = w.same ∙ written-whole xs done (omega (arith, w.size))
