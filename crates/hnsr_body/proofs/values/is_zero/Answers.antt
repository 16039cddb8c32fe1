-- `is_zero` meets its contract: the test of each byte is that of the definition.
use Rattle.std.proofs.Common.{ℕ, ◌≡◌, List, [], ◌∷◌, ◌&&◌, ◌∙◌, refl, ap, eqb, rules, tests}
use Rattle.std.specs.List.{list_all}
use Rattle.std.proofs.lemmas.Iterator.{YieldsList-from_slice}
use Rattle.std.proofs.lemmas.Iterator.Search.{all_from_yields_List}
use Rattle.hns_encoding.specs.Bytes.{all_zero}
use Rattle.hnsr_body.proofs.values.is_zero.Goals as goal

all-zero : (bytes : List ℕ) → list_all (λ b. eqb b 0) bytes ≡ all_zero bytes
unfolding all_zero
all-zero [] = refl
all-zero (b ∷ bytes) = ap (λ rest. eqb b 0 && rest) (all-zero bytes)

pub returns : goal.returns
returns c =
    all_from_yields_List (λ b. eqb b 0) _ _ _ c.all.ensures.ran (YieldsList-from_slice c.args.value.now cc)
    (λ x b q k. search (rules, tests))
    ∙ all-zero c.args.value.now
