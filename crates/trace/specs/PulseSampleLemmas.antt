use Rattle.std.specs.Prelude.{◌≡◌, ℕ, ◌≤◌, List, [], ◌∷◌, slice_index, slice_index_or}
use Rattle.std.proofs.Common.{sym, ap, ◌∙◌, arith}
use Rattle.trace.specs.Kinds.{Within, pulse}
use Rattle.trace.specs.Shapes.{first, last}

-- the fields of a pulse are its class
pub class : (xs : List ℕ) → Within xs pulse.tops → (xs ≡ slice_index xs 0 ∷ []) × (slice_index xs 0 ≤ slice_index pulse.tops 0)
class xs w =
    let f = first (slice_index pulse.tops 0) [] xs w in
    let is : xs ≡ f.field ∷ [] = f.is ∙ ap (λ r. f.field ∷ r) (last f.rest f.others) in
    let head : slice_index_or xs 0 0 ≡ f.field = ap (λ l. slice_index l 0) is in
    (is ∙ ap (λ x. x ∷ []) (sym head), omega (arith, f.low))
