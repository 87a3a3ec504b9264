-- How the windows of a question compare with those of a trace. Assumes nothing.
use Rattle.std.specs.Prelude.{ℕ, ◌-◌, Bool, ◌&&◌, List, length, Option, Some, None, cond, nat_le, nat_lt}
use Rattle.filters.specs.Matching.{Question, matches_at}
use Rattle.search.specs.declared.matches.Match.{Match}
use Rattle.search.specs.Listing.{entry}

-- a number, where it is at most k
abbrev pub at_most : ℕ → ℕ → Option ℕ
at_most k n = cond (nat_le n k) (Some n) None

-- whether windows begin in the trace's row j
abbrev pub fits : Question → List ℕ → ℕ → Bool
fits a t j = nat_lt 0 a.m && (nat_le a.m (length a.codes) && nat_le a.m (length t - j))

-- the entry of the windows from i and from j, if they match
abbrev pub match_at : ℕ → (ℕ → ℕ → Bool) → Question → List ℕ → ℕ → ℕ → Option Match
match_at accession agree a t i j = cond (matches_at agree a t i j) (Some (entry accession agree a t j i)) None
