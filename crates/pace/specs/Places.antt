-- How many places a filter passes. Assumes nothing.
use Rattle.std.specs.Prelude.{◌≡◌, ℕ, ◌<◌, List, Ok, Err, Result}
use Rattle.filters.specs.declared.refusal.Refusal.{Refusal}
use Rattle.filters.specs.declared.refusal.Refusal.TheVariants.{MarksTooShort}
use Rattle.filters.specs.Matching.{count, sum}
use Rattle.filters.specs.Filters.{Pattern}

-- the places of one row
abbrev pub in_row : Pattern → List ℕ → ℕ → ℕ
in_row p t j = count p.size (λ i. p.marks t i j)

-- the places of the first n rows, or a refusal where there is too little room for marks
abbrev pub Counted : Pattern → List ℕ → ℕ → ℕ → Result ℕ Refusal → Type 0
Counted p t n room (Ok r) = r ≡ sum n (in_row p t)
Counted p t n room (Err e) = (room < p.size) × (e ≡ MarksTooShort)
