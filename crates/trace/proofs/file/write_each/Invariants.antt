use Rattle.trace.proofs.Walks.{Making}
use Rattle.trace.proofs.file.write_each.Given as goal

abbrev pub invariant-loop-place : goal.invariant-loop-place
invariant-loop-place g l = Making g.S.Sample.kind.tops l.file l.fn.header.next l.fn.header.value.count g.S.Sample.kind.fields (goal.F-post g l.of) l.place-index l.at l.front
