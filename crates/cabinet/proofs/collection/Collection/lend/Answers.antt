-- Lending finds the row, and counts one loan more.
use Rattle.std.proofs.Common.{◌<◌, sym, refl, ap, arith}
use Rattle.catalog.specs.declared.refusal.Refusal.TheVariants.{NoTrace}
use Rattle.cabinet.specs.declared.slip.Slip.{Slip}
use Rattle.cabinet.specs.Model.{lend}
use Rattle.cabinet.proofs.Lending.{lend_none, lend_full_kept, lend_kept}
use Rattle.cabinet.proofs.Refusing.{refused_by, exit_as}
use Rattle.cabinet.proofs.collection.Collection.lend.Goals as goal

pub returns-in_err-at-clause-kept : goal.returns-in_err-at-clause-kept
returns-in_err-at-clause-kept g c = λ store list o h w.
    let exit = c.from_residual in
    refused_by w (λ (s : Slip). s.number) exit.result NoTrace (exit_as exit.result c.in_err-at.field-0.0 NoTrace exit.ensures.1 c.in_err-at.ensures.1) (lend c.args.number)
    (lend_none w.holds c.args.number c.in_err-at.ensures.0)

pub returns-then-row-clause-kept : goal.returns-then-row-clause-kept
returns-then-row-clause-kept g c = λ store list o h w.
    lend_full_kept w c.args.number c.in_ok-at.at c.in_ok-at.row c.in_ok-at.ensures.0 c.in_ok-at.ensures.2 c.if-row.true

pub returns : goal.returns
returns g c =
    let few : c.in_ok-at.row.loans < 255 = omega arith in
    record {
      kept = λ store list o h w.
          lend_kept w
          c.args.number c.in_ok-at.at c.in_ok-at.row c.in_ok-at.ensures.0 c.in_ok-at.ensures.2 g.met.S.Sample.agreeing g.met.F.Filter.inside g.met.F.Filter.necessary
          _ _ c.set_loans.ensures.rows c.set_loans.ensures.same refl refl refl refl few c.new.result.number (sym (ap (λ s. s.number) c.new.ensures));
      slip = (ap (λ s. s.mark) c.new.ensures, ap (λ s. s.number) c.new.ensures);
      same = tt;
    }
