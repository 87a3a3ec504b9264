use Rattle.filters.specs.Questions.{near_pattern}
use Rattle.filters.specs.Filters.{Marked}
use Rattle.filters.proofs.near.NearFilter.mark_row.Given as goal

abbrev pub invariant-loop-i : goal.invariant-loop-i
invariant-loop-i g l =
    Marked (λ i. (near_pattern (g.A.Filter.stands l.self.first) (g.B.Filter.stands l.self.second)).marks l.trace i l.j)
    l.i l.initial.mark-items l.mark-items l.n
