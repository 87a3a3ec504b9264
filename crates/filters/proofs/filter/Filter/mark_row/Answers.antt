use Rattle.std.proofs.Common.{arith, length-take-le}
use Rattle.filters.proofs.Rowing.{marked_more, marked_few, marked_front}
use Rattle.filters.proofs.filter.Filter.mark_row.Goals as goal

pub overflow_add-n : goal.overflow_add-n
overflow_add-n g c = omega (arith, marked_few _ c.loop-i.invariant c.from-n.ensures, length-take-le c.len-q.result c.args.marks.now c.if-marks-q.false)

pub loop-i-preserved : goal.loop-i-preserved
loop-i-preserved g c = marked_more c.loop-i.invariant c.loop-i-test.true c.passes-passed.ensures c.from.ensures c.from-n.ensures

pub returns : goal.returns
returns g c = marked_front c.args.marks.now c.len-q.ensures.is c.if-marks-q.false c.loop-i-test.false c.loop-i.auto.i-end c.loop-i.invariant
