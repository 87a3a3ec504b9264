-- A slip that comes back counts one loan less.
use Rattle.std.proofs.Common.{refl}
use Rattle.catalog.specs.Refusals.{told}
use Rattle.cabinet.specs.Model.{take_back}
use Rattle.cabinet.proofs.Lending.{back_kept}
use Rattle.cabinet.proofs.Steps.{refused_kept}
use Rattle.cabinet.proofs.collection.Collection.take_back.Goals as goal

pub returns-in-Err-clause-kept : goal.returns-in-Err-clause-kept
returns-in-Err-clause-kept g c = λ store list o h w.
    refused_kept w (take_back c.args.slip.mark c.args.slip.number) (told c.in-Err.refusal) (c.in-Err.ensures store list o h w)

pub returns-in-Ok-clause-kept : goal.returns-in-Ok-clause-kept
returns-in-Ok-clause-kept g c = λ store list o h w.
    let found = c.in-Ok.ensures.1 in
    back_kept w
    c.args.slip.number c.in-Ok.at c.in-Ok.row found.0 found.2
    g.met.S.Sample.agreeing g.met.F.Filter.inside g.met.F.Filter.necessary _ _ c.set_loans.ensures.rows c.set_loans.ensures.same refl refl refl
    c.args.slip.mark c.in-Ok.ensures.0 refl c.in-Ok.ensures.2
