use Rattle.cabinet.proofs.Loading.{load_more, load_all}
use Rattle.std.proofs.Common.{arith}
use Rattle.cabinet.proofs.searching.load_codes.Goals as goal

pub loop-i-preserved : goal.loop-i-preserved
loop-i-preserved g c =
    load_more g.S.Sample.kind.fields g.S.Sample.kind.code c.args.samples.now c.args.codes.now c.loop-i.codes c.loop-i.i c.index-samples-i.result c.code.result
    c.loop-i-test.true (omega (arith, c.requires)) c.index-samples-i.is c.code.ensures c.loop-i.invariant

pub returns : goal.returns
returns g c = load_all g.S.Sample.kind.fields g.S.Sample.kind.code c.args.samples.now c.args.codes.now c.loop-i.codes c.loop-i.i (omega arith) c.loop-i.invariant
