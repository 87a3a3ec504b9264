-- What is promised of a collection after every list of calls. Assumes nothing.
use Rattle.std.specs.Prelude.{◌≡◌, ℕ, suc, ◌*◌, ◌<◌, ◌≤◌, List, [], ◌∷◌, map, length, Ok, Err, Result, slice_index_or}
use Rattle.trace.specs.Told.{Told}
use Rattle.trace.specs.Kinds.{Kind}
use Rattle.trace.specs.Files as file
use Rattle.filters.specs.Filters.{Rule, Reach, Pattern, StandsFor}
use Rattle.search.specs.declared.matches.Match.{Match}
use Rattle.search.specs.Words as one
use Rattle.catalog.specs.Rows.{pairs_in, places_in}
use Rattle.catalog.specs.Catalogs.{standing}
use Rattle.cabinet.specs.declared.collection.Collection.{Collection}
use Rattle.cabinet.specs.Model.{Opening, State, Call, Outcome, accepted, refused, outcome, after, read}
use Rattle.cabinet.specs.Words.{Whole, all_matches, padded}
use Rattle.cabinet.specs.Shelf.{state_of, row_of}

-- a collection of the opening o, its store and its list hold what stands: the traces and the question, a right row for
-- each trace, the filter set to the question, and the matches
pub record Holds {S F : Type 0} (K : Kind S) (rule : Rule) (reach : Reach) (stands : F → Pattern) (o : Opening) (s : State) (c : Collection S F) (store : List S) (list : List Match) : Type 0 where
  pub mark : c.mark ≡ o.mark
  pub noted_store : c.catalog.store ≡ o.store
  pub store_length : length store ≡ o.store
  pub noted_list : c.catalog.list ≡ o.list
  pub list_length : length list ≡ o.list
  pub state : state_of K c store ≡ s
  pub counted : standing c.catalog ≡ map (row_of K rule s.asked) s.traces
  pub filter : StandsFor rule reach (stands c.filter) s.asked
  pub listed : list ≡ padded o.list (all_matches K s.asked s.traces)

-- all that holds after the calls of h, the newest first, since the opening o: the match list is whole, and it has no more
-- pairs than (reach + 1) times the places passed
pub record After {S F : Type 0} (K : Kind S) (rule : Rule) (reach : Reach) (stands : F → Pattern) (o : Opening) (h : List Call) (c : Collection S F) (store : List S) (list : List Match) : Type 0 where
  pub holds : Holds K rule reach stands o (after K o h) c store list
  pub whole : Whole K (after K o h).asked (after K o h).traces list (pairs_in (standing c.catalog))
  pub bounded : pairs_in (standing c.catalog) ≤ suc (reach (after K o h).asked.m (after K o h).asked.k) * places_in (standing c.catalog)

-- an answer is the outcome's
abbrev pub Answers : Result ℕ Told → Outcome → Type 0
Answers (Ok n) (accepted m s) = n ≡ m
Answers (Ok n) (refused e) = ⊥
Answers (Err e) (accepted m s) = ⊥
Answers (Err e) (refused f) = e ≡ f

-- whatever calls came before: the promise goes on with this call, and the answer is the one that the rules give
abbrev pub Kept : {S F : Type 0} → Kind S → Rule → Reach → (F → Pattern) → Collection S F → List S → List Match → Call → Result ℕ Told → Collection S F → List S → List Match → Type 0
Kept K rule reach stands c store list call r c' store' list' =
    (o : Opening) (h : List Call) → After K rule reach stands o h c store list →
    After K rule reach stands o (call ∷ h) c' store' list' × Answers r (outcome K o (after K o h) call)

-- the same for a call that is brought no memory: whatever store and list are the collection's
abbrev pub KeptApart : {S F : Type 0} → Kind S → Rule → Reach → (F → Pattern) → Collection S F → Call → Result ℕ Told → Collection S F → Type 0
KeptApart {S} K rule reach stands c call r c' = (store : List S) (list : List Match) → Kept K rule reach stands c store list call r c' store list

-- what a refusal leaves
abbrev pub RefusedLeaves : {A E : Type 0} → Result A E → Type 0 → Type 0
RefusedLeaves (Ok a) X = Unit {0}
RefusedLeaves (Err e) X = X

-- the question was taken
abbrev pub Taken : {A E : Type 0} → Result A E → Type 0
Taken (Ok a) = Unit {0}
Taken (Err e) = ⊥

-- the codes of a query's file
abbrev pub codes_in : {S : Type 0} → Kind S → Result file.Trace Told → List ℕ
codes_in K (Ok t) = map K.code t.samples
codes_in K (Err e) = []

-- the same query put next with k no smaller and m no larger, if it is taken: every pair of places that was listed is
-- listed again
abbrev pub ListedAgain : {S F E : Type 0} → Kind S → Rule → Reach → (F → Pattern) → Collection S F → List S → List Match → List ℕ → ℕ → ℕ → Result (Unit {0}) E → Collection S F → List Match → Type 0
ListedAgain K rule reach stands c store list f m k r c' list' =
    (o : Opening) (h : List Call) → After K rule reach stands o h c store list → Taken r →
    codes_in K (read K f) ≡ (after K o h).asked.codes → m ≤ (after K o h).asked.m → (after K o h).asked.k ≤ k →
    (e : ℕ) → e < pairs_in (standing c.catalog) →
    (x : ℕ) × (x < pairs_in (standing c'.catalog)) ×
    ((slice_index_or list' x one.no_match).accession ≡ (slice_index_or list e one.no_match).accession) ×
    ((slice_index_or list' x one.no_match).trace ≡ (slice_index_or list e one.no_match).trace) ×
    ((slice_index_or list' x one.no_match).query ≡ (slice_index_or list e one.no_match).query)
