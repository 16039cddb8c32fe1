-- Names of two lengths differ; of one length, the pairs of bytes tell.
use Rattle.std.proofs.Common.{◌∙◌, ◌≡◌, ◌&&◌, ap, sym, refl, arith, rules, tests, List, [], ◌∷◌, ℕ, length, eqb, ne_eqb}
use Rattle.std.specs.List.{list_all, zip}
use Rattle.std.proofs.lemmas.Iterator.{YieldsList-from_slice, YieldsList-from_zip}
use Rattle.std.proofs.lemmas.Iterator.Search.{all_from_yields_List}
use Rattle.hns_encoding.specs.Laws.Tests.{split}
use Rattle.hnsr_circuit.specs.Peer.{same_bytes}
use Rattle.hnsr_circuit.specs.Laws.Peer.{bytes_eq}
use Rattle.peer_work.proofs.bytewise.same_names.Goals as goal

pairs-same : (xs ys : List ℕ) → length xs ≡ length ys
    → list_all (λ (p : ℕ × ℕ). eqb p.0 p.1) (zip xs ys) ≡ same_bytes xs ys
unfolding same_bytes
pairs-same [] [] e = refl
pairs-same [] (y ∷ ys) e = absurd (omega arith)
pairs-same (x ∷ xs) [] e = absurd (omega arith)
pairs-same (x ∷ xs) (y ∷ ys) e = ap (λ rest. eqb x y && rest) (pairs-same xs ys (omega arith))

pub returns-then-a-b : goal.returns-then-a-b
returns-then-a-b c =
    all_from_yields_List (λ (p : ℕ × ℕ). eqb p.0 p.1) c.all.new.self _ _ c.all.ensures.ran
    (YieldsList-from_zip (YieldsList-from_slice c.args.a.now cc) (YieldsList-from_slice c.args.b.now cc))
    (λ x b q k. search (rules, tests))
    ∙ pairs-same c.args.a.now c.args.b.now c.if-a-b.true

pub returns-else-a-b : goal.returns-else-a-b
returns-else-a-b c =
    let a = c.args.a.now in
    let b = c.args.b.now in
    ne_eqb (length a) (length b) c.if-a-b.false
    ∙ split (same_bytes a b)
    (λ e. absurd (c.if-a-b.false (ap (λ (xs : List ℕ). length xs) (bytes_eq a b e))))
    (λ e. sym e)
