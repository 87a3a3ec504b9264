-- Places counted row by row.
use Rattle.std.proofs.Common.{◌≡◌, ℕ, ◌+◌, ◌*◌, ◌≤◌, List, length, sym, refl, subst, add-one, arith}
use Rattle.filters.specs.Matching.{sum}
use Rattle.filters.specs.Filters.{Pattern, Marked}
use Rattle.filters.proofs.Rowing.{count_le}
use Rattle.pace.specs.Places.{in_row}

-- a row has no more places than the query has codes
pub row_few : (p : Pattern) (t before after : List ℕ) (j r : ℕ) → p.size ≤ 1024 → Marked (λ i. p.marks t i j) p.size before after r → r ≤ 1024
row_few p t before after j r few row = omega (arith, count_le (λ i. p.marks t i j) p.size, row.count)

pub sum_more : (f : ℕ → ℕ) (n : ℕ) → sum (n + 1) f ≡ sum n f + f n
sum_more f n = subst (λ (z : ℕ). sum z f ≡ sum n f + f n) (sym (add-one n)) refl

-- one row more
pub counted_more :
    (p : Pattern) (t first before after : List ℕ) (j n r : ℕ) → p.size ≤ 1024 →
    (n ≡ sum j (in_row p t)) × (n ≤ j * 1024) × (length before ≡ length first) →
    Marked (λ i. p.marks t i j) p.size before after r →
    (n + r ≡ sum (j + 1) (in_row p t)) × (n + r ≤ (j + 1) * 1024) × (length after ≡ length first)
counted_more p t first before after j n r few inv row =
    let le = row_few p t before after j r few row in
    (omega (arith, sum_more (in_row p t) j, inv.0, row.count), omega (arith, le, inv.1), omega (arith, row.keeps, inv.2))
