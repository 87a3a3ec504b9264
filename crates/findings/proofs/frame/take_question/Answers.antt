use Rattle.std.proofs.Common.{arith}
use Rattle.findings.proofs.Parting.{taken_apart, short_enough}
use Rattle.findings.proofs.frame.take_question.Goals as goal

pub returns : goal.returns
returns c =
    let input = c.args.input.now in
    let is = short_enough input _ (omega arith) c.split.ensures in
    record { is = is; apart = taken_apart input _ is }
