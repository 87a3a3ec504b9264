use Rattle.std.proofs.Common.{leb, get_or}
use Rattle.filters.specs.Asked.{asked}
use Rattle.search.proofs.Rowing.{SoFar}
use Rattle.search.proofs.compare.Comparison.list_row.Given as goal

abbrev pub invariant-loop-i : goal.invariant-loop-i
invariant-loop-i g l = SoFar l.self.accession g.S.Sample.kind.agree (λ i. leb (get_or l.ahead i 0) l.self.reach) (asked l.self.question) l.self.trace.now l.j l.i l.initial.out l.out l.before l.pairs
