-- The rows of a catalogue that stand: how many they are, where the part of each in store and list ends, and their totals.
use Rattle.std.proofs.Common.{◌≡◌, ℕ, ◌+◌, ◌<◌, ◌≤◌, List, length, get_or, take, sum_by, ap, arith}
use Rattle.std.proofs.lemmas.List.{length-take-le}
use Rattle.std.proofs.lemmas.List.Sums.{sum_by_more, sum_by-take-le}
use Rattle.catalog.specs.declared.row.Row.{Row}
use Rattle.catalog.specs.declared.catalog.Catalog.{Catalog}
use Rattle.catalog.specs.Rows.{blank, samples_in, pairs_in}
use Rattle.catalog.specs.Catalogs.{standing}

-- the part of a row ends within those of all rows
pub sum_within : (f : Row → ℕ) (rs : List Row) (i : ℕ) → i < length rs → sum_by f (take i rs) + f (get_or rs i blank) ≤ sum_by f rs
sum_within f rs i l = omega (arith, sum_by_more f rs i blank l, sum_by-take-le f rs (i + 1))

module _ (k : Catalog) where
  -- as many rows stand as are in use
  pub used_standing : length (standing k) ≡ k.used
  used_standing = length-take-le k.used k.rows (omega (arith, k.few, k.full))

-- the part of a row in the store, and in the list, ends within them
module _ (k : Catalog) (rs : List Row) (are : rs ≡ standing k) (i : ℕ) (l : i < length rs) where
  pub part_stored : (at : ℕ) → at ≡ samples_in (take i rs) → at + (get_or rs i blank).length ≤ k.store
  part_stored at e = omega (arith, sum_within (λ (r : Row). r.length) rs i l, ap samples_in are, k.stored)

  pub part_listed : (first : ℕ) → first ≡ pairs_in (take i rs) → first + (get_or rs i blank).pairs ≤ k.list
  part_listed first e = omega (arith, sum_within (λ (r : Row). r.pairs) rs i l, ap pairs_in are, k.listed)
