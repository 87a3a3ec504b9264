use Rattle.std.proofs.Common.{subst, arith}
use Rattle.console.specs.Filtering.{near_rule, near_reach}
use Rattle.probe.specs.Answers.{Searched}
use Rattle.probe.specs.Framing.{framed}
use Rattle.probe.proofs.Reporting.{begun}
use Rattle.probe.proofs.task.search_input.Goals as goal

pub returns : goal.returns
returns c =
    subst (λ x. Searched near_rule near_reach c.search_files.result x) (begun c.args.input.now (framed c.in_ok-frames.frames) (omega arith) c.in_ok-frames.ensures.is) c.search_files.ensures
