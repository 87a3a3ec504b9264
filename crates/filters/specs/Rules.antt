-- The rules of the filters that look tuples up. Assumes nothing.
use Rattle.std.specs.Prelude.{ℕ, ◌+◌, ◌-◌, Bool, cond, length}
use Rattle.filters.specs.Matching.{Question}
use Rattle.filters.specs.Filters.{Rule, Reach}
use Rattle.filters.specs.Questions.{share}
use Rattle.filters.specs.Tuples.{tuple_number, starts, same_tuple}

-- how far apart the codes of a tuple lie: k + 1 in wide ones, and 1 in others
abbrev pub gap : Bool → ℕ → ℕ
gap wide k = cond wide (k + 1) 1

-- the tuples that a match is sure to share
abbrev pub tuple_rule : Bool → Rule
tuple_rule wide a t i j = same_tuple (share a.m a.k) (gap wide a.k) a.codes t i j

abbrev pub tuple_reach : Bool → Reach
tuple_reach wide m k = cond wide k (m - share m k)

-- the number of the tuple of a question from i
abbrev pub numbers : Bool → Question → ℕ → ℕ
numbers wide a i = tuple_number (share a.m a.k) (gap wide a.k) a.codes i

-- how many tuples a question has
abbrev pub tuples : Bool → Question → ℕ
tuples wide a = starts (share a.m a.k) (gap wide a.k) (length a.codes)
