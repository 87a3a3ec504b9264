use Rattle.std.proofs.Common.{sym, arith}
use Rattle.std.proofs.lemmas.Bool.{ne_eqb}
use Rattle.filters.proofs.Cutting.{same_front, not_same_front}
use Rattle.filters.proofs.row.alike.Goals as goal

pub returns-then-a-x : goal.returns-then-a-x
returns-then-a-x c =
    sym (not_same_front c.args.shape.size c.args.shape.gap c.args.a.now c.args.b.now c.loop-x.x c.requires.0 c.requires.1 (omega arith) (ne_eqb _ _ c.if-a-x.true))

pub returns : goal.returns
returns c = sym (same_front c.args.shape.size c.args.shape.gap c.args.a.now c.args.b.now c.requires.0 c.requires.1 (λ x h. c.loop-x.invariant x (omega arith)))
