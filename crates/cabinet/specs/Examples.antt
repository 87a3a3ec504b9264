-- The worked examples, all together: files, tuple numbers, places, match lists, and what a collection makes of them.
-- Assumes nothing.
use Rattle.std.specs.Prelude.{◌≡◌, ℕ, List, [], ◌∷◌}
use Rattle.trace.specs.Told.{only}
use Rattle.trace.specs.Kinds.{pulse}
use Rattle.trace.specs.Examples as files
use Rattle.filters.specs.Examples as filters
use Rattle.search.specs.Examples as lists
use Rattle.cabinet.specs.Model.{Opening, Lengths, State, Call, accession, ask, refused, outcome, after}
use Rattle.cabinet.specs.Words.{all_matches}

-- a query of three fives, and a trace of four, from machine 1
abbrev pub three_fives : List ℕ
three_fives = 0x01 ∷ 0x01 ∷ 0x03 ∷ 0x05 ∷ 0x05 ∷ 0x05 ∷ []

abbrev pub four_fives : List ℕ
four_fives = 0x01 ∷ 0x01 ∷ 0x04 ∷ 0x05 ∷ 0x05 ∷ 0x05 ∷ 0x05 ∷ []

-- a collection with this much room in its list, and what is brought to its calls
abbrev pub with_list : ℕ → Opening
with_list n = record { mark = 1; store = 4; list = n }

abbrev pub beside : ℕ → Lengths
beside n = record { store = 4; list = n; codes = 4096; marks = 1024 }

abbrev pub came_in : ℕ → List Call
came_in n = accession (beside n) four_fives ∷ []

-- windows of two of the fives, with no mismatch
abbrev pub fives : ℕ → Call
fives n = ask (beside n) three_fives 2 0

abbrev pub answered : ℕ → State
answered n = after pulse (with_list n) (fives n ∷ came_in n)

pub record Examples : Type 0 where
  pub of_files : files.Examples
  pub of_filters : filters.Examples
  pub of_lists : lists.Examples
  -- six pairs, by trace place and then query place
  pub six_pairs : all_matches pulse (answered 6).asked (answered 6).traces ≡ lists.at 0 0 0 ∷ lists.at 0 1 0 ∷ lists.at 1 0 0 ∷ lists.at 1 1 0 ∷ lists.at 2 0 0 ∷ lists.at 2 1 0 ∷ []
  -- a list of five has no room for them
  pub too_short : outcome pulse (with_list 5) (after pulse (with_list 5) (came_in 5)) (fives 5) ≡ refused (only 12)
