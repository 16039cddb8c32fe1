-- What a call writes fits the room that it was given (OUT.9): a refusal writes nothing, and a taken call has asked for
-- as many words as its routes can fill. Here the parts: a message, two closings, a walk that ends one used record at
-- each turn.
--
use Prim.Native.Nat.{ℕ, zero, suc, ◌+◌, ◌*◌, ◌≤◌, ◌<◌}
use native.Mathlib.Omega.{arith}
use Rattle.std.specs.Prelude.{◌≡◌, refl, Bool, true, false, cond, List, [], ◌∷◌, ◌++◌, length, get_or, set, Ok, Err}
use Rattle.std.specs.Prelude.{Option, Some}
use Rattle.std.proofs.Common.{ap, length-append}
use Rattle.hnsr_body.specs.declared.messages.Notice.{Notice}
use Rattle.hnsr_body.specs.Messages.{notice_body, notice_size}
use Rattle.hnsr_circuit.specs.declared.tables.scan.Walked.{Walked}
use Rattle.hnsr_circuit.specs.Answers.{HnsrAnswer}
use Rattle.hns_encoding.specs.Sums.{one, count}
use Rattle.hnsr_circuit.specs.Table.{not_yet, next}
use Rattle.hns_encoding.specs.Laws.Sums.{total-set}
use Rattle.hnsr_circuit.specs.Laws.Walks.{where-cases, Stands, next-stands}
use Rattle.hns_encoding.specs.Words.{word_count}
use Rattle.hnsr_circuit.specs.Route.{Route, head_words, out_words}
use Rattle.hnsr_circuit.specs.Laws.Route.{notice_fits, length-words, route-words}
use Rattle.hnsr_circuit.specs.World.{World}
use Rattle.hnsr_circuit.specs.Queue.{Message, can_queue, Sent, and_then, when, tell_if, tell, routed}
use Rattle.hnsr_circuit.specs.Entry.{closing_words}
use Rattle.hnsr_circuit.specs.Revocation.{walk_from, walk}

abbrev pub filled : List Route → ℕ
filled rs = length (out_words rs)

-- ---- routes
pub filled-append : (rs ss : List Route) → filled (rs ++ ss) ≡ filled rs + filled ss
unfolding out_words
filled-append [] ss = omega arith
filled-append (r ∷ rs) ss = simp length-append (omega (arith, filled-append rs ss))

pub filled-one : (r : Route) → filled (r ∷ []) ≡ head_words + word_count (length r.body)
unfolding out_words
filled-one r = simp length-append (omega (arith, route-words r, length-words r.body))

-- ---- messages
tell-if-fits : (a : HnsrAnswer) (m : Message) (w : World) (k : ℕ) → length m.body ≤ k
    → filled (tell_if a m w).routes ≤ head_words + word_count k
unfolding tell_if out_words
tell-if-fits (Ok _) m w k h = omega (arith, filled-one (routed m w))
tell-if-fits (Err e) m w k h = omega arith

pub tell-fits : (m : Message) (w : World) (k : ℕ) → length m.body ≤ k
    → filled (tell m w).routes ≤ head_words + word_count k
unfolding tell
tell-fits m w k h = tell-if-fits (can_queue m w) m w k h

-- a notice, to one peer or to two
pub notice_told : (m : Message) (n : Notice) (w : World) → m.body ≡ notice_body n
    → filled (tell m w).routes ≤ head_words + word_count notice_size
notice_told m n w e = tell-fits m w notice_size (omega (arith, notice_fits n, ap length e))

pub two-told : (m k : Message) (n : Notice) (w : World) → m.body ≡ notice_body n → k.body ≡ notice_body n
    → filled (and_then (tell m w) (tell k)).routes ≤ closing_words
two-told m k n w e f =
    omega (
      arith,
      filled-append (tell m w).routes (tell k (tell m w).world).routes,
      notice_told m n w e,
      notice_told k n (tell m w).world f,
    )

pub when-fits : (b : Bool) (part : World → Sent) (w : World) (n : ℕ) → (b ≡ true → filled (part w).routes ≤ n)
    → filled (when b part w).routes ≤ n
unfolding when out_words
when-fits true part w n h = h refl
when-fits false part w n h = omega arith

-- ---- the one record that is cleared is counted no more
pub one_fewer : {A : Type 0} (used : A → Bool) (unmark : A → A) (d : A) (t : List A)
    → ((a : A) → used (unmark a) ≡ false)
    → (place : ℕ) → place < length t → used (get_or t place d) ≡ true
    → count used (set t place (unmark (get_or t place d))) + 1 ≡ count used t
one_fewer used unmark d t off place l h =
    let k = total-set (one used) t place (unmark (get_or t place d)) d l in
    let u = ap (λ b. cond {A = ℕ} b 1 0) h in
    let v = ap (λ b. cond {A = ℕ} b 1 0) (off (get_or t place d)) in
    omega arith

-- ---- a walk: at most so many words for each used record that stood at its start
module _ {A : Type 0} (id_of : A → ℕ) (table : World → List A) (p : A → Bool) (end : World → ℕ → Sent) (used : A → Bool)
    (d : A) (marked : (a : A) → p a ≡ true → used a ≡ true)
    (each : (w : World) (place : ℕ) → filled (end w place).routes ≤ closing_words)
    (fewer : (w : World) (place : ℕ) → place < length (table w) → used (get_or (table w) place d) ≡ true
    → count used (table (end w place).world) + 1 ≡ count used (table w)) where
  walk-from-fits : (turns : ℕ) (c : Option Walked) (w : World)
      → filled (walk_from id_of table p end turns c w).routes ≤ closing_words * count used (table w)
  unfolding walk_from out_words
  walk-from-fits zero c w = omega arith
  walk-from-fits (suc turns) c w =
      where-cases (λ (s : Sent). filled s.routes ≤ closing_words * count used (table w)) end
      (walk_from id_of table p end turns) (next id_of p c (table w)) w
      (λ r e. turn r (next-stands id_of p c (table w) d r e) (walk-from-fits turns (Some r) (end w r.place).world))
      (λ e. omega arith)
    where
      turn : (r : Walked) → Stands id_of p c (table w) d r
          → filled (walk_from id_of table p end turns (Some r) (end w r.place).world).routes
          ≤ closing_words * count used (table (end w r.place).world)
          → filled (and_then (end w r.place) (walk_from id_of table p end turns (Some r))).routes
          ≤ closing_words * count used (table w)
      turn r s k =
          omega (
            arith,
            fewer w r.place s.within (marked (get_or (table w) r.place d) s.has),
            each w r.place,
            k,
            filled-append (end w r.place).routes
                (walk_from id_of table p end turns (Some r) (end w r.place).world).routes,
          )

  pub walk-fits : (w : World) → filled (walk id_of table p end w).routes ≤ closing_words * count used (table w)
  unfolding walk
  walk-fits w = walk-from-fits (length (table w)) not_yet w
