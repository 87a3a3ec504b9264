-- Rows of the catalogue. Assumes nothing.
use Rattle.std.specs.Prelude.{ℕ, cond, not, List, [], ◌∷◌, length, Some, None, sum_by, Option, ◌==◌, nat_lt}
use Rattle.std.specs.List.{prefix_len}
use Rattle.catalog.specs.declared.row.Row.{Row}
use Rattle.catalog.specs.declared.row.Count.{Count}
use Rattle.catalog.specs.declared.row.Totals.{Totals}

-- a row that stands for no trace
abbrev pub blank : Row
blank = record { number = 0; machine = 0; length = 0; loans = 0; pairs = 0; places = 0 }

-- where the row with a number is; past the last where there is none
abbrev pub place : ℕ → List Row → ℕ
place n rs = prefix_len (λ r. not (r.number == n)) rs

abbrev pub found_at : ℕ → List Row → Option ℕ
found_at n rs = cond (nat_lt (place n rs) (length rs)) (Some (place n rs)) None

abbrev pub samples_in : List Row → ℕ
samples_in rs = sum_by (λ r. r.length) rs

abbrev pub pairs_in : List Row → ℕ
pairs_in rs = sum_by (λ r. r.pairs) rs

abbrev pub places_in : List Row → ℕ
places_in rs = sum_by (λ r. r.places) rs

abbrev pub totals_of : List Row → Totals
totals_of rs = record { samples = samples_in rs; pairs = pairs_in rs; places = places_in rs }

-- a row with another count of loans
abbrev pub with_loans : ℕ → Row → Row
with_loans n r = record { number = r.number; machine = r.machine; length = r.length; loans = n; pairs = r.pairs; places = r.places }

-- a row with another count of pairs and places
abbrev pub with_count : Count → Row → Row
with_count c r = record { number = r.number; machine = r.machine; length = r.length; loans = r.loans; pairs = c.pairs; places = c.places }

-- each row with its new count; a row without one stays
abbrev pub recounted : List Row → List Count → List Row
recounted [] cs = []
recounted (r ∷ rs) [] = r ∷ rs
recounted (r ∷ rs) (c ∷ cs) = with_count c r ∷ recounted rs cs

abbrev pub pairs_of_counts : List Count → ℕ
pairs_of_counts cs = sum_by (λ c. c.pairs) cs
