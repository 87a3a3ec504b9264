-- The row of a trace that stands.
use Rattle.std.proofs.Common.{Result, sym, refl, ◌∙◌, subst}
use Rattle.catalog.specs.declared.row.Row.{Row}
use Rattle.catalog.specs.declared.refusal.Refusal.{Refusal}
use Rattle.catalog.specs.declared.refusal.Refusal.TheVariants.{NoTrace}
use Rattle.cabinet.specs.Model.{after}
use Rattle.cabinet.specs.Reading.{RowsTold}
use Rattle.cabinet.proofs.Finding.{not_standing, is_standing}
use Rattle.cabinet.proofs.Refusing.{exit_as}
use Rattle.cabinet.proofs.Telling.{row_told}
use Rattle.cabinet.proofs.collection.Collection.row.Goals as goal

pub returns-in_err-row : goal.returns-in_err-row
returns-in_err-row g c = λ o h store list w.
    let exit = c.from_residual in
    subst (λ (r : Result Row Refusal). RowsTold g.S.Sample.kind g.F.Filter.rule (after g.S.Sample.kind o h) c.args.number r)
    (sym (exit_as exit.result c.in_err-row.field-0.0 NoTrace exit.ensures.1 c.in_err-row.ensures.1))
    (not_standing w.holds c.args.number c.in_err-row.ensures.0, refl)

pub returns : goal.returns
returns g c = λ o h store list w.
    let found = c.in_ok-row.ensures in
    (is_standing w.holds c.args.number _ found.0, found.2 ∙ row_told w.holds c.args.number _ found.0)
