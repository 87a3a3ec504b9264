-- Lists of fields within their largest values. Assumes nothing.
use Rattle.std.specs.Prelude.{◌≡◌, ℕ, ◌≤◌, List, [], ◌∷◌, refl}
use Rattle.trace.specs.Kinds.{Within}

-- there is a first field, and the others are within theirs
pub record First (top : ℕ) (tops xs : List ℕ) : Type 0 where
  pub field : ℕ
  pub rest : List ℕ
  pub is : xs ≡ field ∷ rest
  pub low : field ≤ top
  pub others : Within rest tops

pub first : (top : ℕ) (tops xs : List ℕ) → Within xs (top ∷ tops) → First top tops xs
first top tops [] w = absurd w
first top tops (x ∷ xs) w = record { field = x; rest = xs; is = refl; low = w.0; others = w.1 }

-- no field is left
pub last : (xs : List ℕ) → Within xs [] → xs ≡ []
last [] w = refl
last (x ∷ xs) w = absurd w
