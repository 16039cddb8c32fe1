-- Every rearrangement of the outstanding actions is an order that the claim speaks of: a list in its own order, two
-- neighbours swapped, the rest rearranged, one rearrangement after another.
use Rattle.std.proofs.Common.{arith, ◌∙◌}
use Rattle.std.specs.Prelude.{refl, List, ◌∷◌}
use Rattle.hnsr_run.specs.Past.{Action}
use Rattle.hnsr_run.specs.Claim.{Reordered}

pub data Rearranged : List Action → List Action → Type 0 where
  as_it_is : (xs : List Action) → Rearranged xs xs
  swapped : (a b : Action) (xs : List Action) → Rearranged (a ∷ b ∷ xs) (b ∷ a ∷ xs)
  behind : (a : Action) (xs ys : List Action) → Rearranged xs ys → Rearranged (a ∷ xs) (a ∷ ys)
  onward : (xs ys zs : List Action) → Rearranged xs ys → Rearranged ys zs → Rearranged xs zs

pub any_order : (order out : List Action) → Rearranged order out → Reordered order out
any_order order out (as_it_is xs) f = refl
any_order order out (swapped a b xs) f = omega arith
any_order order out (behind a xs ys r) f = omega (arith, any_order xs ys r f)
any_order order out (onward xs ys zs r s) f = any_order xs ys r f ∙ any_order ys zs s f
