-- Worked examples of match lists. Assumes nothing.
use Rattle.std.specs.Prelude.{◌≡◌, ℕ, List, [], ◌∷◌, nat_eq}
use Rattle.filters.specs.Matching.{Question}
use Rattle.filters.specs.Examples.{six, changed, shifted}
use Rattle.search.specs.declared.matches.Match.{Match}
use Rattle.search.specs.Listing.{match_list}

-- a match on the trace with the accession number 1
abbrev pub at : ℕ → ℕ → ℕ → Match
at trace query mismatches = record { accession = 1; trace = trace; query = query; mismatches = mismatches }

-- three fives, in windows of two with no mismatch
abbrev pub three_fives : Question
three_fives = record { codes = 5 ∷ 5 ∷ 5 ∷ []; m = 2; k = 0 }

abbrev pub four_fives : List ℕ
four_fives = 5 ∷ 5 ∷ 5 ∷ 5 ∷ []

pub record Examples : Type 0 where
  pub in_changed : match_list 1 nat_eq six changed ≡ at 1 0 1 ∷ []
  pub in_shifted : match_list 1 nat_eq six shifted ≡ at 0 0 1 ∷ []
  pub in_fives : match_list 1 nat_eq three_fives four_fives ≡ at 0 0 0 ∷ at 0 1 0 ∷ at 1 0 0 ∷ at 1 1 0 ∷ at 2 0 0 ∷ at 2 1 0 ∷ []
