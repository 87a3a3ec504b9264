use Rattle.std.proofs.Common.{◌∙◌}
use Rattle.filters.specs.Asking.{question_of}
use Rattle.filters.proofs.Cutting.{same_where}
use Rattle.filters.proofs.tuples.TuplesFilter.passes.Goals as goal

pub returns-in-Some-Some : goal.returns-in-Some-Some
returns-in-Some-Some g c =
    c.alike.ensures ∙ same_where c.in-Some.shape.size c.in-Some.shape.gap _ _ c.codes.result.now (question_of c.args.self.now.held).codes c.args.trace.now
    c.in-Some-Some.ours.now c.in-Some-Some.theirs.now c.args.i c.args.j c.in-Some-Some.ensures.begins.1 c.in-Some-Some.ensures'.begins.1
    c.codes.ensures (c.args.self.now.shaped c.in-Some.shape c.in-Some.is).1 (c.args.self.now.shaped c.in-Some.shape c.in-Some.is).2
