use Rattle.std.proofs.Common.{rules}
use Rattle.filters.proofs.Walking.{tuple_begins, tuple_falls, tuple_marks, tuple_passes, tuple_few, tuple_ends}
use Rattle.filters.proofs.row.mark_chain.Goals as goal
use Rattle.filters.proofs.row.mark_chain.Goals.{then-alike, else-alike}

pub loop-next-init : goal.loop-next-init
loop-next-init c =
    tuple_begins c.args.shape.size c.args.shape.gap c.args.codes.now c.args.tuple.now c.args.marks.now c.args.index.now.heads c.args.index.now.links
    c.requires.chained c.number_at.result c.last-next.result c.requires.blank c.number_at.ensures.0 c.number_at.ensures.1 c.last-next.ensures

pub overflow_add-count : goal.overflow_add-count
overflow_add-count c =
    let few = tuple_few c.args.shape.size c.args.shape.gap c.args.codes.now c.args.tuple.now c.args.marks.now c.loop-next.marks c.loop-next.next c.loop-next.count c.loop-next.invariant in
    search rules

pub loop-next-smaller : goal.loop-next-smaller
loop-next-smaller c =
    tuple_falls c.args.shape.size c.args.shape.gap c.args.codes.now c.args.tuple.now c.args.marks.now c.args.index.now.heads c.args.index.now.links
    c.requires.chained c.loop-next.marks c.loop-next.next c.in-Some.i c.loop-next.count c.loop-next.invariant c.in-Some.is c.previous-next.result c.previous-next.ensures

pub loop-next-preserved : goal.loop-next-preserved
loop-next-preserved c =
    elim c.if-alike.branch [
      | then-alike w ↦
          tuple_marks c.args.shape.size c.args.shape.gap c.args.codes.now c.args.tuple.now c.args.marks.now c.args.index.now.heads c.args.index.now.links
          c.requires.chained c.loop-next.marks c.loop-next.next c.in-Some.i c.loop-next.count c.loop-next.invariant c.in-Some.is c.previous-next.result c.previous-next.ensures
          c.if-alike.marks c.if-alike.count c.requires.room w.if-alike.ensures w.marks-is w.count-is
      | else-alike w ↦
          tuple_passes c.args.shape.size c.args.shape.gap c.args.codes.now c.args.tuple.now c.args.marks.now c.args.index.now.heads c.args.index.now.links
          c.requires.chained c.loop-next.marks c.loop-next.next c.in-Some.i c.loop-next.count c.loop-next.invariant c.in-Some.is c.previous-next.result c.previous-next.ensures
          c.if-alike.marks c.if-alike.count w.if-alike.ensures w.marks-is w.count-is
    ]

pub returns : goal.returns
returns c =
    tuple_ends c.args.shape.size c.args.shape.gap c.args.codes.now c.args.tuple.now c.args.marks.now c.loop-next.marks c.loop-next.next c.loop-next.count
    c.requires.room c.in_default.is c.loop-next.invariant
