-- A trace's own part of the store.
use Rattle.std.proofs.Common.{Result, sym, refl, ap, subst, arith}
use Rattle.catalog.specs.declared.refusal.Refusal.{Refusal}
use Rattle.catalog.specs.declared.refusal.Refusal.TheVariants.{NoTrace}
use Rattle.catalog.specs.Catalogs.{standing}
use Rattle.cabinet.specs.declared.report.Stored.{Stored}
use Rattle.cabinet.specs.Model.{after}
use Rattle.cabinet.specs.Reading.{Reads}
use Rattle.cabinet.proofs.Finding.{not_standing}
use Rattle.cabinet.proofs.Refusing.{exit_as}
use Rattle.catalog.specs.declared.row.Row.{Row}
use Rattle.catalog.specs.declared.row.Totals.{Totals}
use Rattle.cabinet.proofs.Standing.{part_stored}
use Rattle.cabinet.proofs.Telling.{read_told}
use Rattle.cabinet.proofs.collection.Collection.read.Goals as goal

pub returns-in_err-at-clause-read : goal.returns-in_err-at-clause-read
returns-in_err-at-clause-read g c = λ o h list w.
    let exit = c.from_residual in
    subst (λ (r : Result (Stored _) Refusal). Reads g.S.Sample.kind (after g.S.Sample.kind o h).traces c.args.store.now c.args.number r)
    (sym (exit_as exit.result c.in_err-at.field-0.0 NoTrace exit.ensures.1 c.in_err-at.ensures.1))
    (not_standing w.holds c.args.number c.in_err-at.ensures.0, refl)

pub slice_bounds-result-end : goal.slice_bounds-result-end
slice_bounds-result-end g c =
    let found = c.in_ok-at.ensures in
    omega (arith, part_stored c.args.self.now.catalog (standing c.args.self.now.catalog) refl c.in_ok-at.at found.1 c.totals-place.result.samples (ap (λ (t : Totals). t.samples) c.totals-place.ensures.is), ap (λ (r : Row). r.length) found.2, c.if-store-self.false)

pub returns-clause-read : goal.returns-clause-read
returns-clause-read g c = λ o h list w.
    let found = c.in_ok-at.ensures in
    read_told w.holds c.args.number c.in_ok-at.at found.0 c.in_ok-at.row found.2 c.totals-place.result c.totals-place.ensures.is
