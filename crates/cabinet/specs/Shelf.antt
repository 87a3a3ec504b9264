-- What a collection and its memory hold. Assumes nothing.
use Rattle.std.specs.Prelude.{ℕ, List, [], ◌∷◌, map, length, take, drop}
use Rattle.trace.specs.Kinds.{Kind}
use Rattle.filters.specs.Asking.{question_of}
use Rattle.filters.specs.Filters.{Rule, places}
use Rattle.filters.specs.Matching.{Question, pairs}
use Rattle.catalog.specs.declared.row.Row.{Row}
use Rattle.catalog.specs.declared.row.Count.{Count}
use Rattle.catalog.specs.Catalogs.{standing}
use Rattle.cabinet.specs.declared.collection.Collection.{Collection}
use Rattle.cabinet.specs.Model.{Trace, State, codes_of}

-- a row's trace, by its samples
abbrev pub trace_of : {S : Type 0} → (S → List ℕ) → Row → List S → Trace
trace_of fields r xs = record { number = r.number; machine = r.machine; samples = map fields xs; loans = r.loans }

-- the traces of the rows lie one behind the other at the front of the store
abbrev pub traces_of : {S : Type 0} → (S → List ℕ) → List Row → List S → List Trace
traces_of fields [] store = []
traces_of fields (r ∷ rs) store = trace_of fields r (take r.length store) ∷ traces_of fields rs (drop r.length store)

abbrev pub state_of : {S F : Type 0} → Kind S → Collection S F → List S → State
state_of K c store = record { given = c.catalog.given; traces = traces_of K.fields (standing c.catalog) store; asked = question_of c.question }

-- what a question finds in a trace
abbrev pub count_of : {S : Type 0} → Kind S → Rule → Question → Trace → Count
count_of K rule a t = record { pairs = pairs K.agree a (codes_of K t); places = places rule a (codes_of K t) }

-- a trace's row while a question stands
abbrev pub row_of : {S : Type 0} → Kind S → Rule → Question → Trace → Row
row_of K rule a t =
    record { number = t.number; machine = t.machine; length = length t.samples; loans = t.loans; pairs = pairs K.agree a (codes_of K t); places = places rule a (codes_of K t) }
