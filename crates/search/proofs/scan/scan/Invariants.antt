use Rattle.filters.specs.Asked.{asked}
use Rattle.search.proofs.Scanning.{Scanning}
use Rattle.search.proofs.scan.scan.Given as goal

abbrev pub invariant-loop-j : goal.invariant-loop-j
invariant-loop-j g l = Scanning (g.F.Filter.stands l.filter) g.S.Sample.kind.agree (asked l.question) l.trace l.accession l.j l.ahead l.quiet l.initial.marks l.marks l.initial.out l.out l.found.pairs l.found.places
