use Rattle.std.proofs.Common.{of_calls}
use Rattle.trace.proofs.Reading.{made_samples}
use Rattle.trace.proofs.file.read_samples.Goals as goal

pub returns-clause-put : goal.returns-clause-put
returns-clause-put g c =
    made_samples g.S.Sample.kind.fields _ (λ s y m. search of_calls) _ c.args.out.now c.read_each.new.out c.read_each.ensures.put
