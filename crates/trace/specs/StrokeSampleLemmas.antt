use Rattle.std.specs.Prelude.{◌≡◌, ℕ, ◌≤◌, List, [], ◌∷◌, slice_index, slice_index_or}
use Rattle.std.proofs.Common.{ap, arith}
use Rattle.trace.specs.Kinds.{Within}
use Rattle.trace.specs.Shapes.{first, last}

-- the fields of a stroke are drive, recovery and slack
pub record Three (xs : List ℕ) : Type 0 where
  pub is : xs ≡ slice_index xs 0 ∷ slice_index xs 1 ∷ slice_index xs 2 ∷ []
  pub drive : slice_index_or xs 0 0 ≤ 9
  pub recovery : slice_index_or xs 1 0 ≤ 5
  pub slack : slice_index_or xs 2 0 ≤ 1

pub three : (xs : List ℕ) → Within xs (9 ∷ 5 ∷ 1 ∷ []) → Three xs
three [] w = absurd w
three (a ∷ xs) w =
    let b = first 5 (1 ∷ []) xs w.1 in
    let c = first 1 [] b.rest b.others in
    let is : a ∷ xs ≡ a ∷ b.field ∷ c.field ∷ [] = let e = last c.rest c.others in let f = c.is in let g = b.is in cc in
    let second : slice_index_or (a ∷ xs) 1 0 ≡ b.field = ap (λ l. slice_index l 1) is in
    let third : slice_index_or (a ∷ xs) 2 0 ≡ c.field = ap (λ l. slice_index l 2) is in
    record { is = cc; drive = w.0; recovery = omega (arith, b.low); slack = omega (arith, c.low) }
