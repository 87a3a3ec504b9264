use Rattle.filters.proofs.Numbering.{Filling}
use Rattle.filters.proofs.number.number_all.Given as goal

abbrev pub invariant-loop-i : goal.invariant-loop-i
invariant-loop-i l = Filling l.shape.size l.shape.gap l.codes l.initial.out l.out l.i
