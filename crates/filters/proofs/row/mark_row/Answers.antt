use Rattle.std.proofs.Common.{rules}
use Rattle.filters.proofs.Walking.{row_marked, row_unmarked, cleared_front}
use Rattle.filters.proofs.row.mark_row.Goals as goal

pub returns-in-Some : goal.returns-in-Some
returns-in-Some c =
    row_marked c.args.shape.size c.args.shape.gap c.args.codes.now c.args.trace.now c.args.j c.args.marks.now _ c.mark_chain.new.marks c.in-Some.tuple.now c.mark_chain.result
    (cleared_front _ c.args.marks.now c.fill.new.self c.requires.room (search rules)) c.in-Some.ensures.begins.1 c.mark_chain.ensures

pub returns-in-None : goal.returns-in-None
returns-in-None c =
    row_unmarked c.args.shape.size c.args.shape.gap c.args.codes.now c.args.trace.now c.args.j c.args.marks.now _ c.requires.room c.in-None.ensures.none
    (cleared_front _ c.args.marks.now c.fill.new.self c.requires.room (search rules))
