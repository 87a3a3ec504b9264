use Rattle.std.proofs.Common.{arith}
use Rattle.filters.proofs.Comparing.{compared_inside}
use Rattle.filters.proofs.compare.count_mismatches.Goals as goal

pub returns : goal.returns
returns g c =
    compared_inside g.S.Sample.kind.agree c.args.m c.args.query.now c.args.trace.now c.args.i c.args.j c.in_ok-window.field-0.now c.in_ok-window-2.field-0.now c.disagreements.result
    (omega arith) (omega arith) c.in_ok-window.ensures.inside.0 c.in_ok-window-2.ensures.inside.0 c.in_ok-window.ensures.inside.1 c.in_ok-window-2.ensures.inside.1 c.disagreements.ensures
