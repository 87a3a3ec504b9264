-- What a collection, its store and its list hold is what stands: part by part, and added up.
use Rattle.std.proofs.Common.{◌≡◌, ℕ, ◌+◌, ◌≤◌, List, [], ◌∷◌, map, length, sum_by, sym, refl, ap, ◌∙◌, arith}
use Rattle.std.proofs.lemmas.List.{length-map}
use Rattle.std.proofs.lemmas.List.Sums.{sum_by-cons}
use Rattle.trace.specs.Kinds.{Kind}
use Rattle.filters.specs.Asking.{question_of}
use Rattle.filters.specs.Filters.{Rule, Reach, Pattern, places}
use Rattle.filters.specs.Matching.{Question}
use Rattle.search.specs.declared.matches.Match.{Match}
use Rattle.catalog.specs.declared.row.Row.{Row}
use Rattle.catalog.specs.Rows.{samples_in, pairs_in, places_in}
use Rattle.catalog.specs.Catalogs.{standing}
use Rattle.cabinet.specs.declared.collection.Collection.{Collection}
use Rattle.cabinet.specs.Model.{Opening, Trace, State, codes_of, pairs_of, samples_of}
use Rattle.cabinet.specs.Words.{all_matches}
use Rattle.cabinet.specs.Shelf.{traces_of, row_of}
use Rattle.cabinet.specs.Promise.{Holds}
use Rattle.cabinet.proofs.Bounding.{rows_counted}

-- the same number, traces and question stand
pub same_state : {g g' : ℕ} {ts ts' : List Trace} {a a' : Question} → g ≡ g' → ts ≡ ts' → a ≡ a' → ◌≡◌ {A = State} (record { given = g; traces = ts; asked = a }) (record { given = g'; traces = ts'; asked = a' })
same_state p q r = cc

-- a sum over what each item is made into
pub sum_by_map : {X Y : Type 0} (f : Y → ℕ) (g : X → Y) (xs : List X) → sum_by f (map g xs) ≡ sum_by (λ x. f (g x)) xs
sum_by_map f g [] = refl
sum_by_map f g (x ∷ xs) = sum_by-cons f (g x) (map g xs) ∙ ap (λ (z : ℕ). f (g x) + z) (sum_by_map f g xs) ∙ sym (sum_by-cons (λ x. f (g x)) x xs)

module _ {S F : Type 0} {K : Kind S} {rule : Rule} {reach : Reach} {means : F → Pattern} {o : Opening} {s : State} {c : Collection S F} {store : List S} {list : List Match} (w : Holds K rule reach means o s c store list) where
  -- the last number given, the traces and the question
  pub given_told : c.catalog.given ≡ s.given
  given_told = ap (λ (z : State). z.given) w.state

  pub traces_told : traces_of K.fields (standing c.catalog) store ≡ s.traces
  traces_told = ap (λ (z : State). z.traces) w.state

  pub asked_told : question_of c.question ≡ s.asked
  asked_told = ap (λ (z : State). z.asked) w.state

  -- the sums of the rows are those of the traces
  pub count_told : length (standing c.catalog) ≡ length s.traces
  count_told = ap length w.counted ∙ length-map s.traces (row_of K rule s.asked)

  pub samples_told : samples_in (standing c.catalog) ≡ samples_of s.traces
  samples_told = ap samples_in w.counted ∙ sum_by_map (λ (r : Row). r.length) (row_of K rule s.asked) s.traces

  pub pairs_told : pairs_in (standing c.catalog) ≡ pairs_of K s.asked s.traces
  pairs_told = ap pairs_in w.counted ∙ sum_by_map (λ (r : Row). r.pairs) (row_of K rule s.asked) s.traces

  pub places_told : places_in (standing c.catalog) ≡ sum_by (λ t. places rule s.asked (codes_of K t)) s.traces
  places_told = ap places_in w.counted ∙ sum_by_map (λ (r : Row). r.places) (row_of K rule s.asked) s.traces

  -- the rows count each match once
  pub matches_told : pairs_in (standing c.catalog) ≡ length (all_matches K s.asked s.traces)
  matches_told = ap pairs_in w.counted ∙ rows_counted K rule s.asked s.traces

  -- the samples lie within the store
  pub samples_fit : samples_in (standing c.catalog) ≤ length store
  samples_fit = omega (arith, c.catalog.stored, w.noted_store, w.store_length)
