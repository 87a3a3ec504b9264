use Rattle.std.proofs.Common.{get_or}
use Rattle.filters.specs.Chains.{Chained}
use Rattle.filters.proofs.index.chain.Given as goal

abbrev pub invariant-loop-i : goal.invariant-loop-i
invariant-loop-i l = Chained (λ x. get_or l.numbers x 0) l.i l.heads l.links
