use Rattle.std.proofs.Common.{arith, of_calls}
use Rattle.trace.proofs.Meanings.{read_or_refused}
use Rattle.trace.proofs.Reading.{made_codes}
use Rattle.trace.proofs.file.read_codes.Goals as goal

pub returns-clause-put : goal.returns-clause-put
returns-clause-put g c =
    made_codes g.S.Sample.kind.fields _ g.S.Sample.kind.code (λ s y m. search of_calls) _ c.args.codes.now c.read_each.new.out c.read_each.ensures.put

pub returns-clause-one : goal.returns-clause-one
returns-clause-one g c = read_or_refused g.S.Sample.kind.number g.S.Sample.kind.tops c.args.file.now g.met.S.Sample.numbered g.met.S.Sample.known (λ i. omega (arith, c.type_inv.file i))
