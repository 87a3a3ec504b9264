-- Worked examples of tuple numbers and of places passed. Assumes nothing.
use Rattle.std.specs.Prelude.{◌≡◌, ℕ, true, false, List, [], ◌∷◌}
use Rattle.filters.specs.Matching.{Question}
use Rattle.filters.specs.Filters.{Rule, places}
use Rattle.filters.specs.Questions.{pass_all_rule, near}
use Rattle.filters.specs.Tuples.{tuple_number}
use Rattle.filters.specs.Rules.{tuple_rule, tuple_reach}

-- six codes, windows of all six, one mismatch
abbrev pub six : Question
six = record { codes = 1 ∷ 2 ∷ 3 ∷ 4 ∷ 5 ∷ 6 ∷ []; m = 6; k = 1 }

-- one code differs in the middle
abbrev pub changed : List ℕ
changed = 9 ∷ 1 ∷ 2 ∷ 7 ∷ 4 ∷ 5 ∷ 6 ∷ 9 ∷ []

-- the second code differs
abbrev pub shifted : List ℕ
shifted = 1 ∷ 7 ∷ 3 ∷ 4 ∷ 5 ∷ 6 ∷ []

-- near over continuous and gapped
abbrev pub near_tuples : Rule
near_tuples = near (tuple_rule false) (tuple_reach false) (tuple_rule true) (tuple_reach true)

pub record Examples : Type 0 where
  pub two_codes : tuple_number 2 1 (3 ∷ 4 ∷ []) 0 ≡ 903
  pub three_codes : tuple_number 3 1 (1 ∷ 2 ∷ 3 ∷ []) 0 ≡ 441
  pub later_codes : tuple_number 2 1 (2 ∷ 3 ∷ []) 0 ≡ 262
  pub all_changed : places pass_all_rule six changed ≡ 48
  pub continuous_changed : places (tuple_rule false) six changed ≡ 1
  pub gapped_changed : places (tuple_rule true) six changed ≡ 1
  pub near_changed : places near_tuples six changed ≡ 1
  pub continuous_shifted : places (tuple_rule false) six shifted ≡ 2
  pub gapped_shifted : places (tuple_rule true) six shifted ≡ 1
  pub near_shifted : places near_tuples six shifted ≡ 2
