use Rattle.std.proofs.Common.{sym, arith}
use Rattle.catalog.proofs.Counting.{recounted_none, recounted_more}
use Rattle.catalog.proofs.rows.give_counts.Goals as goal

pub loop-at-init : goal.loop-at-init
loop-at-init c = sym (recounted_none c.args.rows.now)

pub loop-at-preserved : goal.loop-at-preserved
loop-at-preserved c = recounted_more c.args.rows.now c.loop-at.rows c.args.counts.now c.loop-at.at (omega arith) (omega arith) c.loop-at.invariant
