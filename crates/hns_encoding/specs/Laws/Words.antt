-- Words, over their number: how many there are, each of them, the first ones and the rest; each byte of words; and that
-- reading and writing undo one another.
use Rattle.std.specs.Prelude.{ℕ, zero, suc, ◌+◌, ◌*◌, ◌/◌, ◌%◌, ◌^◌, ◌-◌, ◌<◌, ◌≤◌, ◌≡◌}
use Rattle.std.specs.Prelude.{refl, List, [], ◌∷◌, ◌++◌, ltb, length, map, get_or, set, replicate, take, drop, min}
use Rattle.std.specs.Simd.{first_chunks}
use Rattle.std.specs.Int.{to_le_bytes}
use Rattle.hns_encoding.specs.Laws.Library.{to_le}
use Rattle.std.proofs.Common.{le_of_suc-le-suc, not-suc-le-zero, zero-add, suc-add, arith}
use Rattle.std.proofs.Common.{◌∙◌, ap, ap₂, sym, add-one, append-nil, append_assoc, w32}
use Rattle.std.proofs.Common.{length-append, length-drop, drop-drop, drop_of_length-le, take_all}
use Rattle.std.proofs.Common.{length-take-le, get_or-take, ext_get_or, ltb-true, ltb-false}
use Rattle.std.proofs.Math.ListN.{get_or-append}
use Rattle.std.proofs.lemmas.List.{take-append-le, map-append}
use Rattle.std.proofs.lemmas.Grind.{take-set_at, take_at_read}
use Rattle.hns_encoding.specs.Bytes.{Below, le, le_bytes}
use Rattle.hns_encoding.specs.Words.{word_count, words_of, words, bytes_of, high_low, from_high_low}
use Rattle.hns_encoding.specs.Cursor.{field, written_at}
use Rattle.hns_encoding.specs.Laws.Tests.{split}
use Rattle.hns_encoding.specs.Laws.Lists.{field_at, below-take, below-drop, written_behind, written-whole}
use Rattle.hns_encoding.specs.Laws.Bytes.{le_bytes-length, byte_at, le-byte, le-again, le_four}

pub words_of_length : (count : ℕ) (bs : List ℕ) → length (words_of count bs) ≡ count
unfolding words_of
words_of_length zero bs = refl
words_of_length (suc count) bs = ap suc (words_of_length count (drop 4 bs))

pub words_of-at : (count : ℕ) (bs : List ℕ) (i : ℕ) → i < count
    → get_or (words_of count bs) i 0 ≡ le (field bs (4 * i) 4)
unfolding words_of
words_of-at zero bs i l = absurd (not-suc-le-zero l)
words_of-at (suc count) bs zero l = refl
words_of-at (suc count) bs (suc i) l =
    let e : 4 + 4 * i ≡ 4 * suc i = omega arith in
    words_of-at count (drop 4 bs) i (le_of_suc-le-suc l)
    ∙ ap (λ (rest : List ℕ). le (take 4 rest)) (drop-drop (4 * i) 4 bs ∙ ap (λ (k : ℕ). drop k bs) e)

-- what the loop over chunks goes by
pub ruleset chunk_steps = (take-set_at, take_at_read, map-append, take_all, le_four)

-- the first words are chunks of four bytes; then there is one word that is not full, and zeros
pub words_full : (count all : ℕ) (bs : List ℕ) → count ≤ all
    → map le (take count (first_chunks 4 all bs)) ≡ words_of count bs
unfolding words_of
words_full zero all bs l = refl
words_full (suc count) zero bs l = absurd (not-suc-le-zero l)
words_full (suc count) (suc all) bs l =
    ap (λ (rest : List ℕ). le (take 4 bs) ∷ rest) (words_full count all (drop 4 bs) (le_of_suc-le-suc l))

no_words : (count : ℕ) → replicate count 0 ≡ words_of count []
unfolding words_of le
no_words zero = refl
no_words (suc count) = ap (λ (rest : List ℕ). 0 ∷ rest) (no_words count)

words_short : (count : ℕ) (bs : List ℕ) → length bs ≤ 4 → set (replicate count 0) 0 (le bs) ≡ words_of count bs
unfolding words_of
words_short zero bs h = refl
words_short (suc count) bs h =
    ap₂ (λ (w rest : List ℕ). le w ∷ rest) (sym (take_all 4 bs h))
    (no_words count ∙ ap (words_of count) (sym (drop_of_length-le bs h)))

-- the first words, and the rest from the bytes behind them
pub words_of_add : (first count : ℕ) (bs : List ℕ)
    → words_of first bs ++ words_of count (drop (4 * first) bs) ≡ words_of (first + count) bs
unfolding words_of
words_of_add zero count bs = rw zero-add
words_of_add (suc first) count bs =
    let e : 4 * suc first ≡ 4 + 4 * first = omega arith in
    rw (suc-add, e, ← (drop-drop (4 * first) 4 bs))
    (ap (λ (rest : List ℕ). le (take 4 bs) ∷ rest) (words_of_add first count (drop 4 bs)))

-- what is written for a whole: the full words, the one that is not and zeros; and the full words alone
pub words_put : (bs : List ℕ) (full all rest size : ℕ) → all ≡ length bs / 4 → full ≡ min size all → rest + full ≡ size
    → map le (take full (first_chunks 4 all bs)) ++ set (replicate rest 0) 0 (le (drop (all * 4) bs)) ≡ words_of size bs
unfolding words_of
words_put bs full all rest size e m h =
    ap₂ ◌++◌ (words_full full all bs (omega arith))
    (words_short rest (drop (all * 4) bs) (omega (arith, length-drop (all * 4) bs)) ∙ behind)
    ∙ words_of_add full rest bs
    ∙ ap (λ (n : ℕ). words_of n bs) (omega arith)
  where
    behind : words_of rest (drop (all * 4) bs) ≡ words_of rest (drop (4 * full) bs)
    behind =
        split (ltb all size)
        (λ u. let q : all * 4 ≡ 4 * full = omega (arith, ltb-true all size u) in
        ap (λ (n : ℕ). words_of rest (drop n bs)) q)
        (λ u. let z : rest ≡ 0 = omega (arith, ltb-false all size u) in rw z)

pub words_none : (bs : List ℕ) (full all rest size : ℕ) → all ≡ length bs / 4 → full ≡ min size all → rest + full ≡ size
    → rest ≡ 0 → map le (take full (first_chunks 4 all bs)) ++ replicate rest 0 ≡ words_of size bs
words_none bs full all rest size e m h z = rw z (rw z at (words_put bs full all rest size e m h))

-- ---- bytes of words
pub bytes_of-length : (ws : List ℕ) → length (bytes_of ws) ≡ 4 * length ws
unfolding bytes_of
bytes_of-length [] = refl
bytes_of-length (w ∷ ws) =
    omega (arith, length-append (le_bytes 4 w) (bytes_of ws), le_bytes-length 4 w, bytes_of-length ws)

bytes_of-behind : (w : ℕ) (ws : List ℕ) (j : ℕ) → get_or (bytes_of (w ∷ ws)) (4 + j) 0 ≡ get_or (bytes_of ws) j 0
unfolding bytes_of le_bytes
bytes_of-behind w ws j = let e : 4 + j ≡ suc (suc (suc (suc j))) = omega arith in rw e

pub bytes_of-at : (ws : List ℕ) (i : ℕ) → i < 4 * length ws
    → get_or (bytes_of ws) i 0 ≡ get_or ws (i / 4) 0 / 256 ^ (i % 4) % 256
unfolding bytes_of
bytes_of-at [] i l = absurd (omega arith)
bytes_of-at (w ∷ ws) i l =
    split (ltb i 4)
    (λ t. inside (ltb-true i 4 t))
    (λ f. outside (ltb-false i 4 f) (bytes_of-at ws (i - 4) (omega (arith, ltb-false i 4 f))))
  where
    inside : i < 4 → get_or (le_bytes 4 w ++ bytes_of ws) i 0 ≡ get_or (w ∷ ws) (i / 4) 0 / 256 ^ (i % 4) % 256
    inside h =
        let q : i / 4 ≡ 0 = omega arith in
        let r : i % 4 ≡ i = omega arith in
        rw (q, r)
        (get_or-append (le_bytes 4 w) (bytes_of ws) 0 i (omega (arith, le_bytes-length 4 w)) ∙ byte_at 4 w i h)

    outside : 4 ≤ i → get_or (bytes_of ws) (i - 4) 0 ≡ get_or ws ((i - 4) / 4) 0 / 256 ^ ((i - 4) % 4) % 256
        → get_or (le_bytes 4 w ++ bytes_of ws) i 0 ≡ get_or (w ∷ ws) (i / 4) 0 / 256 ^ (i % 4) % 256
    outside h ih =
        let e : i ≡ 4 + (i - 4) = omega arith in
        let q : i / 4 ≡ suc ((i - 4) / 4) = omega arith in
        let r : i % 4 ≡ (i - 4) % 4 = omega arith in
        rw (q, r) (ap (λ (k : ℕ). get_or (le_bytes 4 w ++ bytes_of ws) k 0) e ∙ bytes_of-behind w ws (i - 4) ∙ ih)

-- the bytes of one word more, of the first words, and of the first words and a part of the next
pub bytes_of_next : (ws : List ℕ) (i : ℕ) → i < length ws
    → bytes_of (take (i + 1) ws) ≡ bytes_of (take i ws) ++ le_bytes 4 (get_or ws i 0)
unfolding bytes_of
bytes_of_next [] i l = absurd (not-suc-le-zero l)
bytes_of_next (w ∷ ws) zero l = rw append-nil
bytes_of_next (w ∷ ws) (suc i) l =
    rw (add-one, append_assoc)
    (ap (λ (rest : List ℕ). le_bytes 4 w ++ rest)
    (rw add-one at (bytes_of_next ws i (le_of_suc-le-suc l))))

pub first_words : (ws : List ℕ) (i : ℕ) → i ≤ length ws → take (4 * i) (bytes_of ws) ≡ bytes_of (take i ws)
unfolding bytes_of le_bytes
first_words ws zero l = refl
first_words [] (suc i) l = absurd (not-suc-le-zero l)
first_words (w ∷ ws) (suc i) l =
    let e : 4 * suc i ≡ suc (suc (suc (suc (4 * i)))) = omega arith in
    rw e (ap (λ (rest : List ℕ). le_bytes 4 w ++ rest) (first_words ws i (le_of_suc-le-suc l)))

pub first_bytes : (ws : List ℕ) (i r : ℕ) → i < length ws → r ≤ 4
    → take (4 * i + r) (bytes_of ws) ≡ bytes_of (take i ws) ++ take r (le_bytes 4 (get_or ws i 0))
unfolding bytes_of le_bytes
first_bytes [] i r l h = absurd (not-suc-le-zero l)
first_bytes (w ∷ ws) zero r l h =
    let e : 4 * 0 + r ≡ r = omega arith in
    let k : r ≤ length (le_bytes 4 w) = h in
    rw e (take-append-le r (le_bytes 4 w) (bytes_of ws) k)
first_bytes (w ∷ ws) (suc i) r l h =
    let e : 4 * suc i + r ≡ suc (suc (suc (suc (4 * i + r)))) = omega arith in
    rw e (ap (λ (rest : List ℕ). le_bytes 4 w ++ rest) (first_bytes ws i r (le_of_suc-le-suc l) h))

-- ---- bytes written from words, a word a turn: none yet, one more, all, and all with a part of one more
pub copied_none : (xs ws : List ℕ) → xs ≡ written_at xs 0 (bytes_of (take 0 ws))
unfolding bytes_of
copied_none xs ws = refl

copied-length : (ws : List ℕ) (i : ℕ) → i ≤ length ws → length (bytes_of (take i ws)) ≡ 4 * i
copied-length ws i l = omega (arith, bytes_of-length (take i ws), length-take-le i ws l)

pub copied_all : (xs ws : List ℕ) (i : ℕ) → i ≤ length ws → length xs ≡ 4 * i
    → written_at xs 0 (bytes_of (take i ws)) ≡ take (length xs) (bytes_of ws)
copied_all xs ws i l k =
    written-whole xs (bytes_of (take i ws)) (omega (arith, copied-length ws i l))
    ∙ sym (first_words ws i l)
    ∙ ap (λ (n : ℕ). take n (bytes_of ws)) (sym k)

module _ (xs ws : List ℕ) (i : ℕ) (now : List ℕ) (e : now ≡ written_at xs 0 (bytes_of (take i ws))) where
  copied_more : (after zs : List ℕ) → i ≤ length ws → 4 * i ≤ length xs → after ≡ written_at now (4 * i) zs
      → after ≡ written_at xs 0 (bytes_of (take i ws) ++ zs)
  copied_more after zs l k f =
      f
      ∙ ap (λ (ys : List ℕ). written_at ys (4 * i) zs) e
      ∙ written_behind xs 0 (bytes_of (take i ws)) zs (4 * i) (omega (arith, copied-length ws i l))
      (omega (arith, copied-length ws i l))

  pub copied_next : (after : List ℕ) → i < length ws → 4 * i ≤ length xs
      → after ≡ written_at now (4 * i) (le_bytes 4 (get_or ws i 0))
      → after ≡ written_at xs 0 (bytes_of (take (i + 1) ws))
  copied_next after l k f =
      copied_more after (le_bytes 4 (get_or ws i 0)) (omega arith) k f
      ∙ ap (λ (ys : List ℕ). written_at xs 0 ys) (sym (bytes_of_next ws i l))

  pub copied_part : (j r : ℕ) → i ≡ j → j < length ws → r ≤ 4 → length xs ≡ 4 * j + r
      → written_at now (4 * j) (take r (to_le_bytes w32 (get_or ws j 0))) ≡ take (length xs) (bytes_of ws)
  copied_part j r q l h k =
      let ys = bytes_of (take i ws) in
      let zs = take r (le_bytes 4 (get_or ws i 0)) in
      let n : length zs ≡ r =
      length-take-le r (le_bytes 4 (get_or ws i 0)) (omega (arith, le_bytes-length 4 (get_or ws i 0))) in
      ap₂ (λ (k : ℕ) (zs : List ℕ). written_at now (4 * k) zs) (sym q)
      (ap (take r) (to_le w32 (get_or ws j 0) ∙ ap (λ (k : ℕ). le_bytes 4 (get_or ws k 0)) (sym q)))
      ∙ copied_more (written_at now (4 * i) zs) zs (omega arith) (omega arith) refl
      ∙ written-whole xs (ys ++ zs) (omega (arith, copied-length ws i (omega arith), length-append ys zs))
      ∙ sym (first_bytes ws i r (omega arith) h)
      ∙ ap (λ (m : ℕ). take m (bytes_of ws)) (omega arith)

-- what the loop over words goes by
pub ruleset copied = (copied_none, copied_next, copied_all, copied_part)

-- ---- read after write, and write after read
pub bytes-again : (count : ℕ) (bs : List ℕ) → Below 256 bs → length bs ≤ 4 * count
    → take (length bs) (bytes_of (words_of count bs)) ≡ bs
bytes-again count bs h l = ext_get_or 0 (take (length bs) (bytes_of (words_of count bs))) bs long each
  where
    long : length (take (length bs) (bytes_of (words_of count bs))) ≡ length bs
    long =
        length-take-le (length bs) (bytes_of (words_of count bs))
        (omega (arith, bytes_of-length (words_of count bs), words_of_length count bs))

    each : (i : ℕ) → i < length (take (length bs) (bytes_of (words_of count bs)))
        → get_or (take (length bs) (bytes_of (words_of count bs))) i 0 ≡ get_or bs i 0
    each i k =
        let within : i < length bs = omega (arith, long) in
        let e : 4 * (i / 4) + i % 4 ≡ i = omega arith in
        get_or-take (length bs) (bytes_of (words_of count bs)) i 0 within
        ∙ bytes_of-at (words_of count bs) i (omega (arith, words_of_length count bs))
        ∙ ap (λ (w : ℕ). w / 256 ^ (i % 4) % 256) (words_of-at count bs (i / 4) (omega arith))
        ∙ le-byte (field bs (4 * (i / 4)) 4)
        (below-take 256 (drop (4 * (i / 4)) bs) 4 (below-drop 256 bs (4 * (i / 4)) h)) (i % 4)
        ∙ field_at bs (4 * (i / 4)) 4 (i % 4) (omega arith)
        ∙ ap (λ (k : ℕ). get_or bs k 0) e

-- at the words that the bytes fill
pub words-again : (bs : List ℕ) → Below 256 bs → take (length bs) (bytes_of (words bs)) ≡ bs
words-again bs h = bytes-again (word_count (length bs)) bs h (omega arith)

pub words_of-bytes_of : (ws : List ℕ) → Below (2 ^ 32) ws → words_of (length ws) (bytes_of ws) ≡ ws
unfolding words_of bytes_of le_bytes
words_of-bytes_of [] h = refl
words_of-bytes_of (w ∷ ws) h = ap₂ ◌∷◌ (le-again 4 w h.0) (words_of-bytes_of ws h.1)

-- two words: high and low
pub high-low-again : (n : ℕ) → from_high_low (n / 2 ^ 32) (n % 2 ^ 32) ≡ n
high-low-again n = omega arith

pub high-again : (high low : ℕ) → low < 2 ^ 32 → high_low (from_high_low high low) ≡ high ∷ low ∷ []
high-again high low l =
    let q : (high * 2 ^ 32 + low) / 2 ^ 32 ≡ high = omega arith in
    let r : (high * 2 ^ 32 + low) % 2 ^ 32 ≡ low = omega arith in
    rw (q, r)
