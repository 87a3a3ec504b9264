-- What the match list is, in the subject's own words. Assumes nothing.
use Rattle.std.specs.Prelude.{◌≡◌, ℕ, suc, ◌-◌, ◌<◌, ◌≤◌, ◌⊎◌, List, [], ◌++◌, length, get_or, replicate, slice_index_or}
use Rattle.std.specs.List.{flat_map}
use Rattle.trace.specs.Kinds.{Kind}
use Rattle.filters.specs.Matching.{Question, Matches}
use Rattle.search.specs.declared.matches.Match.{Match}
use Rattle.search.specs.Listing.{match_list}
use Rattle.search.specs.Words as one
use Rattle.cabinet.specs.Model.{Trace, codes_of}

abbrev pub no_trace : Trace
no_trace = record { number = 0; machine = 0; samples = []; loans = 0 }

-- by rising accession number, then trace place, then query place
abbrev pub Before : Match → Match → Type 0
Before a b = (a.accession < b.accession) ⊎ ((a.accession ≡ b.accession) × one.Before a b)

-- the first n entries of the list are all matches of a question on the traces, each once, and no other; zeros stand behind
pub record Whole {S : Type 0} (K : Kind S) (a : Question) (ts : List Trace) (list : List Match) (n : ℕ) : Type 0 where
  pub fits : n ≤ length list
  pub every : (x : ℕ) → x < length ts → (i j d : ℕ) → Matches K.agree a (codes_of K (slice_index_or ts x no_trace)) i j d → (e : ℕ) × (e < n) × (slice_index_or list e one.no_match ≡ record { accession = (get_or ts x no_trace).number; trace = j; query = i; mismatches = d })
  pub only : (e : ℕ) → e < n → (x : ℕ) × (x < length ts) × ((get_or list e one.no_match).accession ≡ (get_or ts x no_trace).number) × Matches K.agree a (codes_of K (slice_index_or ts x no_trace)) (get_or list e one.no_match).query (get_or list e one.no_match).trace (get_or list e one.no_match).mismatches
  pub rising : (e : ℕ) → suc e < n → Before (slice_index_or list e one.no_match) (slice_index_or list (suc e) one.no_match)
  pub zeros : (e : ℕ) → n ≤ e → slice_index_or list e one.no_match ≡ one.no_match

-- the matches of each trace, one trace behind the other
abbrev pub all_matches : {S : Type 0} → Kind S → Question → List Trace → List Match
all_matches K a ts = flat_map (λ t. match_list t.number K.agree a (codes_of K t)) ts

-- in a memory of n entries, with zeros behind
abbrev pub padded : ℕ → List Match → List Match
padded n l = l ++ replicate (n - length l) one.no_match
