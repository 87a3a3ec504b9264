use Rattle.std.proofs.Common.{get_or, refl, arith}
use Rattle.filters.proofs.Chaining.{chained_none, chained_more}
use Rattle.filters.proofs.index.chain.Goals as goal

pub loop-i-init : goal.loop-i-init
loop-i-init c = chained_none (λ x. get_or c.args.numbers.now x 0)

pub loop-i-preserved : goal.loop-i-preserved
loop-i-preserved c =
    chained_more (λ x. get_or c.args.numbers.now x 0) c.loop-i.i (get_or c.args.numbers.now c.loop-i.i 0) c.loop-i.heads c.loop-i.links _ _
    c.loop-i.invariant (omega arith) refl (c.requires.small c.loop-i.i (omega arith)) refl refl
