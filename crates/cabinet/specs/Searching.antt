-- What searching the standing traces finds. Assumes nothing.
use Rattle.std.specs.Prelude.{◌≡◌, ℕ, ◌<◌, ◌≤◌, Bool, List, map, length, take, drop, Ok, Err, Result}
use Rattle.trace.specs.Kinds.{Kind}
use Rattle.filters.specs.Filters.{Rule, Reach, Pattern, StandsFor, places}
use Rattle.filters.specs.Matching.{Question, pairs}
use Rattle.search.specs.declared.matches.Match.{Match}
use Rattle.search.specs.Listing.{match_list, back_in}
use Rattle.catalog.specs.declared.row.Count.{Count}
use Rattle.catalog.specs.declared.refusal.Refusal.{Refusal}
use Rattle.catalog.specs.declared.refusal.Refusal.TheVariants.{OtherMemory, ListFull}
use Rattle.cabinet.specs.Model.{Trace, pairs_of}
use Rattle.cabinet.specs.Shelf.{count_of}

-- what a question finds among some codes
abbrev pub count_in : (ℕ → ℕ → Bool) → Rule → Question → List ℕ → Count
count_in agree rule a t = record { pairs = pairs agree a t; places = places rule a t }

-- one trace was searched: its counts, and its matches at the back of a list
pub record Searched (agree : ℕ → ℕ → Bool) (rule : Rule) (a : Question) (t : List ℕ) (number : ℕ) (before behind : List Match) (found : Count) : Type 0 where
  pub counted : found ≡ count_in agree rule a t
  pub listed : behind ≡ back_in before (match_list number agree a t)

-- a search through a filter that may not stand for the question: it is refused only where it does not, or for want of marks
abbrev pub SearchedThrough : (ℕ → ℕ → Bool) → Rule → Reach → Pattern → Question → List ℕ → ℕ → ℕ → List Match → List Match → Result Count Refusal → Type 0
SearchedThrough agree rule reach p a t marks number before behind (Ok n) = StandsFor rule reach p a → Searched agree rule a t number before behind n
SearchedThrough agree rule reach p a t marks number before behind (Err e) = (e ≡ OtherMemory) × (StandsFor rule reach p a → 1024 ≤ marks → ⊥)

-- the counts of all traces, or the refusal where their pairs exceed the list
abbrev pub CountedAll : {S : Type 0} → Kind S → Rule → Question → ℕ → List Trace → Result (List Count) Refusal → Type 0
CountedAll K rule a list ts (Ok counts) = (length counts ≡ 256) × (take (length ts) counts ≡ map (count_of K rule a) ts)
CountedAll K rule a list ts (Err e) = (e ≡ ListFull) × (list < pairs_of K a ts)

-- samples were written into a store from a place on; before it nothing changed
pub record Stored-at {S : Type 0} (fields : S → List ℕ) (at : ℕ) (samples : List (List ℕ)) (before behind : List S) : Type 0 where
  pub keeps : length behind ≡ length before
  pub front : take at behind ≡ take at before
  pub samples_are : map fields (take (length samples) (drop at behind)) ≡ samples
