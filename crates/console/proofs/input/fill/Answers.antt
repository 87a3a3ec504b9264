-- What one read more brings stands behind what was read before.
use Rattle.std.proofs.Common.{arith}
use Rattle.console.proofs.Filling.{filled_more}
use Rattle.console.proofs.input.fill.Goals as goal

pub loop-size-preserved : goal.loop-size-preserved
loop-size-preserved g c = (
  omega (arith, c.in_ok-more.ensures.fits, c.read_behind.auto.buffer, c.loop-size.auto.buffer),
  filled_more _ _ _ c.loop-size.buffer c.read_behind.new.buffer c.loop-size.size c.in_ok-more.more c.in_ok-more.ensures.front c.loop-size.invariant.1 c.in_ok-more.ensures.bytes,
)
