use Rattle.search.proofs.Approaching.{Halfway}
use Rattle.search.proofs.scan.approach.Given as goal

abbrev pub invariant-loop-i : goal.invariant-loop-i
invariant-loop-i l = Halfway l.cap l.i l.marks l.initial.ahead l.ahead
