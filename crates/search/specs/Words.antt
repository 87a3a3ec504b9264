-- What the list of all matches is, in the subject's own words. Assumes nothing.
use Rattle.std.specs.Prelude.{◌≡◌, ℕ, suc, ◌<◌, Bool, ◌⊎◌, List, length, get_or, slice_index_or}
use Rattle.search.specs.declared.matches.Match.{Match}
use Rattle.filters.specs.Matching.{Question, Matches}
use Rattle.search.specs.Listing.{match_list}

abbrev pub no_match : Match
no_match = record { accession = 0; trace = 0; query = 0; mismatches = 0 }

-- by rising place of the trace and then of the query
abbrev pub Before : Match → Match → Type 0
Before a b = (a.trace < b.trace) ⊎ ((a.trace ≡ b.trace) × (a.query < b.query))

-- every match is there, nothing else is, and the entries rise strictly
pub record Whole (agree : ℕ → ℕ → Bool) (a : Question) (t : List ℕ) (accession : ℕ) (list : List Match) : Type 0 where
  pub every : (i j d : ℕ) → Matches agree a t i j d → (e : ℕ) × (e < length list) × (slice_index_or list e no_match ≡ record { accession = accession; trace = j; query = i; mismatches = d })
  pub only : (e : ℕ) → e < length list → ((get_or list e no_match).accession ≡ accession) × Matches agree a t (get_or list e no_match).query (get_or list e no_match).trace (get_or list e no_match).mismatches
  pub rising : (e : ℕ) → suc e < length list → Before (slice_index_or list e no_match) (slice_index_or list (suc e) no_match)

abbrev pub ListWhole : Type 0
ListWhole = (agree : ℕ → ℕ → Bool) (a : Question) (t : List ℕ) (accession : ℕ) → Whole agree a t accession (match_list accession agree a t)
