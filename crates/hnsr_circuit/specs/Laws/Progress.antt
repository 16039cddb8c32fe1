-- A call goes on where its last part left it; and where its routes fit, the output is the routes' words and then the
-- old tail.
use Rattle.std.specs.Prelude.{ℕ, ◌+◌, ◌≤◌, ◌≡◌, refl, true, List, [], ◌∷◌, ◌++◌, length, take, drop}
use Rattle.std.proofs.Common.{arith, zero-add, sym, ap, ap₂, ◌∙◌, append-nil, length-append, take-append-drop, le-leb}
use Rattle.hns_encoding.specs.Numbers.{top, saturating_add}
use Rattle.hns_encoding.specs.Cursor.{written, written_at, within}
use Rattle.hns_encoding.specs.Laws.Tests.{on-true}
use Rattle.hns_encoding.specs.Laws.Lists.{written_behind, written-length}
use Rattle.hnsr_circuit.specs.Route.{Route, route_words, out_words, output}
use Rattle.hnsr_circuit.specs.World.{World, Outcome}
use Rattle.hnsr_circuit.specs.Queue.{Sent, and_then}
use Rattle.hnsr_circuit.specs.Code.Progress.{filled_to, placed, Progress, advanced, advance, ending, outcome}

-- ---- one part after the other
filled-append : (at : ℕ) (rs ss : List Route) → filled_to at (rs ++ ss) ≡ filled_to (filled_to at rs) ss
unfolding filled_to
filled-append at [] ss = refl
filled-append at (r ∷ rs) ss = filled-append (saturating_add 64 at (length (route_words r))) rs ss

placed-append : (out : List ℕ) (at : ℕ) (rs ss : List Route)
    → placed out at (rs ++ ss) ≡ placed (placed out at rs) (filled_to at rs) ss
unfolding filled_to placed
placed-append out at [] ss = refl
placed-append out at (r ∷ rs) ss =
    placed-append (written out at (route_words r)) (saturating_add 64 at (length (route_words r))) rs ss

pub advance_then : (s : Progress) (r : Sent) (g : World → Sent) → advanced s (and_then r g) ≡ advance g (advanced s r)
advance_then s r g =
    rw (
      filled-append s.position r.routes (g r.world).routes,
      placed-append s.output s.position r.routes (g r.world).routes,
    )

-- ---- where all fit
placed-fits : (out : List ℕ) (at : ℕ) (rs : List Route) → at + length (out_words rs) ≤ length out → length out ≤ top 64
    → (filled_to at rs ≡ at + length (out_words rs)) × (placed out at rs ≡ written_at out at (out_words rs))
unfolding filled_to placed out_words
placed-fits out at [] h k = (
  omega arith,
  rw (append-nil (take at out))
      (sym (take-append-drop at out) ∙ ap (λ (n : ℕ). take at out ++ drop n out) {x = at} {y = at + 0} (omega arith)),
)
placed-fits out at (r ∷ rs) h k =
    let ws = route_words r in
    let long = length-append ws (out_words rs) in
    let next : saturating_add 64 at (length ws) ≡ at + length ws = omega arith in
    let fits : within (length out) at (length ws) ≡ true = le-leb (at + length ws) (length out) (omega arith) in
    let one : written out at ws ≡ written_at out at ws = on-true _ (written_at out at ws) out fits in
    let same = written-length out at ws (omega arith) in
    let rest = placed-fits (written_at out at ws) (at + length ws) rs (omega arith) (omega arith) in (
      ap (λ (n : ℕ). filled_to n rs) next ∙ rest.0 ∙ omega arith,
      ap₂ (λ (o : List ℕ) (n : ℕ). placed o n rs) one next
          ∙ rest.1
          ∙ written_behind out at ws (out_words rs) (at + length ws) (omega arith) refl,
    )

pub fits : (out : List ℕ) (o : Outcome) → length (out_words o.routes) ≤ length out → length out ≤ top 64
    → ending out o ≡ outcome out o
unfolding output
fits out o h k =
    let all = placed-fits out 0 o.routes (omega arith) k in
    rw (all.0, all.1, zero-add (length (out_words o.routes)))
