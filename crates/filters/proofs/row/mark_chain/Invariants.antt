use Rattle.filters.proofs.Walking.{TupleWalk}
use Rattle.filters.proofs.Chaining.{past}
use Rattle.filters.proofs.row.mark_chain.Given as goal

abbrev pub invariant-loop-next : goal.invariant-loop-next
invariant-loop-next l = TupleWalk l.shape.size l.shape.gap l.codes l.tuple l.initial.marks l.marks l.next l.count

abbrev pub decreases-loop-next : goal.decreases-loop-next
decreases-loop-next l = past l.next
