use Rattle.std.proofs.Common.{arith}
use Rattle.trace.proofs.Chains.{made_ok}
use Rattle.trace.proofs.Walks.{fields_fit}
use Rattle.trace.proofs.file.sample_at.Goals as goal

pub unwrap-requires : goal.unwrap-requires
unwrap-requires g c =
    let l = c.loop-field in
    made_ok g.S.Sample.kind.tops _ _ _ c.make.result c.make.ensures (fields_fit g.S.Sample.kind.tops c.args.file.now c.args.at l.field l.number-items l.next l.invariant _ (omega (arith, l.invariant.sized)))
