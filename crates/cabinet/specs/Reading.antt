-- What the calls that only read answer, by what stands. Assumes nothing.
use Rattle.std.specs.Prelude.{◌≡◌, ℕ, suc, ◌+◌, ◌*◌, ◌<◌, ◌≤◌, true, false, cond, List, [], ◌∷◌, map, length, take, drop, Ok, Err, sum_by, Result, ◌==◌, slice_index_or}
use Rattle.trace.specs.Kinds.{Kind}
use Rattle.filters.specs.Filters.{Rule, Reach, places}
use Rattle.search.specs.declared.matches.Match.{Match}
use Rattle.search.specs.Words as one
use Rattle.catalog.specs.declared.row.Row.{Row}
use Rattle.catalog.specs.declared.refusal.Refusal.{Refusal}
use Rattle.catalog.specs.declared.refusal.Refusal.TheVariants.{NoTrace, NoMatch}
use Rattle.cabinet.specs.declared.report.Report.{Report}
use Rattle.cabinet.specs.declared.report.Listing.{Listing}
use Rattle.cabinet.specs.declared.report.Stored.{Stored}
use Rattle.cabinet.specs.Model.{Trace, State, stands, codes_of, pairs_of, samples_of}
use Rattle.cabinet.specs.Words.{Whole, all_matches, no_trace}
use Rattle.cabinet.specs.Shelf.{row_of}

-- the trace that stands under a number
abbrev pub trace_under : ℕ → List Trace → Trace
trace_under n [] = no_trace
trace_under n (t ∷ ts) = cond (t.number == n) t (trace_under n ts)

-- how many samples lie before it
abbrev pub samples_before : ℕ → List Trace → ℕ
samples_before n [] = 0
samples_before n (t ∷ ts) = cond (t.number == n) 0 (length t.samples + samples_before n ts)

-- the trace's own part of the store, with its place; or no trace stands under the number
abbrev pub Reads : {S : Type 0} → Kind S → List Trace → List S → ℕ → Result (Stored S) Refusal → Type 0
Reads K ts store n (Ok x) =
    (stands n ts ≡ true) × (x.place ≡ samples_before n ts) × (map K.fields x.samples.now ≡ (trace_under n ts).samples) ×
    (x.samples.now ≡ take (length (trace_under n ts).samples) (drop x.place store))
Reads K ts store n (Err e) = (stands n ts ≡ false) × (e ≡ NoTrace)

abbrev pub RowsTold : {S : Type 0} → Kind S → Rule → State → ℕ → Result Row Refusal → Type 0
RowsTold K rule s n (Ok row) = (stands n s.traces ≡ true) × (row ≡ row_of K rule s.asked (trace_under n s.traces))
RowsTold K rule s n (Err e) = (stands n s.traces ≡ false) × (e ≡ NoTrace)

abbrev pub MatchTold : {S : Type 0} → Kind S → State → ℕ → Result Match Refusal → Type 0
MatchTold K s index (Ok x) = (index < pairs_of K s.asked s.traces) × (x ≡ slice_index_or (all_matches K s.asked s.traces) index one.no_match)
MatchTold K s index (Err e) = (pairs_of K s.asked s.traces ≤ index) × (e ≡ NoMatch)

-- the sums over the standing traces, and the reach for the question
abbrev pub report_of : {S : Type 0} → Kind S → Rule → Reach → State → Report
report_of K rule reach s =
    record {
      traces = length s.traces;
      samples = samples_of s.traces;
      pairs = pairs_of K s.asked s.traces;
      places = sum_by (λ t. places rule s.asked (codes_of K t)) s.traces;
      reach = reach s.asked.m s.asked.k;
    }

-- the live front of the list is whole, and the report is of it: as many pairs, and no more than (reach + 1) times places
pub record Listed {S : Type 0} (K : Kind S) (rule : Rule) (reach : Reach) (s : State) (matches : List Match) (report : Report) : Type 0 where
  pub is : matches ≡ all_matches K s.asked s.traces
  pub whole : Whole K s.asked s.traces matches (length matches)
  pub sums : report ≡ report_of K rule reach s
  pub pairs : report.pairs ≡ length matches
  pub bounded : report.pairs ≤ suc report.reach * report.places

abbrev pub Lists : {S : Type 0} → Kind S → Rule → Reach → State → Result Listing Refusal → Type 0
Lists K rule reach s (Ok x) = Listed K rule reach s x.matches.now x.report
Lists K rule reach s (Err e) = ⊥
