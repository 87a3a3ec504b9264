-- What the calls of a collection answer and leave, beside the promise. Assumes nothing.
use Rattle.std.specs.Prelude.{◌≡◌, ℕ, true, cond, ◌||◌, List, [], length, Ok, Err, Result, ◌==◌, nat_lt, ◌≢◌}
use Rattle.trace.specs.Told.{Told}
use Rattle.trace.specs.Kinds.{Kind}
use Rattle.filters.specs.Asking.{question_of}
use Rattle.filters.specs.Filters.{Rule, Reach, Pattern, StandsFor, none}
use Rattle.search.specs.declared.matches.Match.{Match}
use Rattle.catalog.specs.declared.refusal.Refusal.{Refusal}
use Rattle.catalog.specs.declared.refusal.Refusal.TheVariants.{BadMark, OtherMemory}
use Rattle.catalog.specs.declared.row.Row.{Row}
use Rattle.catalog.specs.Catalogs.{standing, sized, RowUnder}
use Rattle.catalog.specs.Refusals.{told}
use Rattle.cabinet.specs.declared.collection.Collection.{Collection}
use Rattle.cabinet.specs.declared.declined.Declined.{Declined}
use Rattle.cabinet.specs.declared.slip.Slip.{Slip}
use Rattle.cabinet.specs.Model.{Opening, Lengths, Call, take_back, refused, outcome, after, wrong}
use Rattle.cabinet.specs.Promise.{After}

-- the lengths of what is brought to a call
abbrev pub lengths : {S : Type 0} → List S → List Match → List ℕ → List ℕ → Lengths
lengths store list codes marks = record { store = length store; list = length list; codes = length codes; marks = length marks }

-- memory of other lengths than at the opening is refused as such
abbrev pub WrongRefused : {A S F : Type 0} → Collection S F → Lengths → Result A Refusal → Type 0 → Type 0
WrongRefused c l r X = wrong c.catalog.store c.catalog.list l ≡ true → (r ≡ Err OtherMemory) × X

-- the checks of an opening, in order
abbrev pub opening_verdict : ℕ → ℕ → ℕ → Result (Unit {0}) Refusal
opening_verdict mark store list = cond (mark == 0 || nat_lt 65535 mark) (Err BadMark) (sized store list)

-- a collection that was not opened: mark 0, lengths 0, nothing in it, and the filter cleared. The promise holds of it too,
-- with no memory at all
pub record Closed {S F : Type 0} (K : Kind S) (rule : Rule) (reach : Reach) (stands : F → Pattern) (c : Collection S F) : Type 0 where
  pub mark : c.mark ≡ 0
  pub store : c.catalog.store ≡ 0
  pub list : c.catalog.list ≡ 0
  pub rows : standing c.catalog ≡ []
  pub given : c.catalog.given ≡ 0
  pub question : question_of c.question ≡ none
  pub filter : StandsFor rule reach (stands c.filter) none
  pub after : After K rule reach stands (record { mark = 0; store = 0; list = 0 }) [] c [] []

-- what an opening answers and leaves of the list
abbrev pub Opened : {S F : Type 0} → Kind S → Rule → Reach → (F → Pattern) → ℕ → List S → List Match → Result (Collection S F) (Declined (Collection S F)) → List Match → Type 0
Opened K rule reach stands mark store list (Ok c) list' =
    (opening_verdict mark (length store) (length list) ≡ Ok tt) ×
    After K rule reach stands (record { mark = mark; store = length store; list = length list }) [] c store list'
Opened K rule reach stands mark store list (Err d) list' =
    (opening_verdict mark (length store) (length list) ≡ Err d.refusal) × Closed K rule reach stands d.back × (list' ≡ list)

-- an answer that gives back what it refuses
abbrev pub answer_back : {A B : Type 0} → ℕ → Result A (Declined B) → Result ℕ Told
answer_back n (Ok a) = Ok n
answer_back n (Err d) = Err (told d.refusal)

-- the slip comes back as it was
abbrev pub GivenBack : {A : Type 0} → Slip → Result A (Declined Slip) → Type 0
GivenBack s (Ok a) = Unit {0}
GivenBack s (Err d) = d.back ≡ s

-- the row of a trace that was lent against a slip; or why the slip is not taken back, whatever store and list are the collection's
abbrev pub Lent : {S F : Type 0} → Kind S → Rule → Reach → (F → Pattern) → Collection S F → Slip → Result (ℕ × Row) Refusal → Type 0
Lent K rule reach stands c s (Ok found) = (s.mark ≡ c.mark) × RowUnder c.catalog s.number (Ok found) × (found.1.loans ≢ 0)
Lent {S} K rule reach stands c s (Err e) =
    (store : List S) (list : List Match) (o : Opening) (h : List Call) → After K rule reach stands o h c store list → outcome K o (after K o h) (take_back s.mark s.number) ≡ refused (told e)
