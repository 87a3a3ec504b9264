use Rattle.std.proofs.Common.{◌∙◌, arith}
use Rattle.readings.proofs.Naming.{named}
use Rattle.readings.proofs.line.kind_of.Goals as goal

pub returns : goal.returns
returns c =
    let from_digit = c.in_ok-number.ensures in
    c.ok.ensures.value ∙ named c.args.digit c.in_ok-number.number (omega (arith, from_digit.0)) (omega (arith, from_digit.1)) c.try_from.result c.try_from.ensures
