use Rattle.std.proofs.Common.{arith}
use Rattle.pace.proofs.Counting.{row_few, counted_more}
use Rattle.pace.proofs.places.count_places.Goals as goal

pub overflow_add-places : goal.overflow_add-places
overflow_add-places g c =
    let le =
    row_few (g.F.Filter.stands c.args.filter.now) c.args.trace.now c.loop-j.marks c.mark_row.new.marks c.loop-j.j
    c.in_ok-places.field-0 (g.met.F.Filter.few c.args.filter.now) c.in_ok-places.ensures in
    omega (arith, le, c.loop-j.invariant.1, c.loop-j-test.true, c.ranges.rows)

pub loop-j-preserved : goal.loop-j-preserved
loop-j-preserved g c =
    counted_more (g.F.Filter.stands c.args.filter.now) c.args.trace.now c.args.marks.now c.loop-j.marks c.mark_row.new.marks
    c.loop-j.j c.loop-j.places c.in_ok-places.field-0 (g.met.F.Filter.few c.args.filter.now) c.loop-j.invariant
    c.in_ok-places.ensures
