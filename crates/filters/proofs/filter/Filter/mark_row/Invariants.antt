use Rattle.filters.specs.Filters.{Marked}
use Rattle.filters.proofs.filter.Filter.mark_row.Given as goal

abbrev pub invariant-loop-i : goal.invariant-loop-i
invariant-loop-i g l = Marked (λ i. (g.Self.Filter.stands l.self).marks l.trace i l.j) l.i l.initial.mark-items l.mark-items l.n
