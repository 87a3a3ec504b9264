use Rattle.trace.proofs.Walks.{Samples}
use Rattle.trace.proofs.file.verify.Given as goal

abbrev pub invariant-loop : goal.invariant-loop
invariant-loop g l = Samples g.S.Sample.kind.tops l.file l.header.next l.header.value.count l.counter l.at
