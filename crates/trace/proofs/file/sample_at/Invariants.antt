use Rattle.trace.proofs.Walks.{Fields}
use Rattle.trace.proofs.file.sample_at.Given as goal

abbrev pub invariant-loop-field : goal.invariant-loop-field
invariant-loop-field g l = Fields g.S.Sample.kind.tops l.file l.at l.field l.number-items l.next
