use Rattle.findings.proofs.Holding.{by_calls}
use Rattle.findings.proofs.Playing.{plays}
use Rattle.findings.proofs.session.hold.Goals as goal

pub returns : goal.returns
returns g c =
    let input = c.args.input.now in
    record { is = c.run.ensures; plays = plays input; parts = by_calls g.F.Filter.rule g.F.Filter.reaches g.F.Filter.stands input c.run.result c.run.ensures }
