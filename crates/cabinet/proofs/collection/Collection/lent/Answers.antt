-- Why a slip is not taken back.
use Rattle.std.proofs.Common.{◌≡◌, ℕ, None, Some, Result, sym, ap, ◌∙◌, subst}
use Rattle.catalog.specs.declared.row.Row.{Row}
use Rattle.catalog.specs.declared.refusal.Refusal.{Refusal}
use Rattle.catalog.specs.declared.refusal.Refusal.TheVariants.{NoTrace}
use Rattle.catalog.specs.Rows.{found_at}
use Rattle.catalog.specs.Catalogs.{standing}
use Rattle.cabinet.specs.Calls.{Lent}
use Rattle.cabinet.proofs.Lending.{back_other, back_none, back_not_lent}
use Rattle.cabinet.proofs.Refusing.{exit_as}
use Rattle.cabinet.proofs.collection.Collection.lent.Goals as goal

pub returns-then-mark-self : goal.returns-then-mark-self
returns-then-mark-self g c = λ store list o h w.
    back_other w.holds c.args.slip.now.number c.args.slip.now.mark (λ e. c.if-mark-self.true (c.mark.ensures ∙ e))

pub returns-in_err-at : goal.returns-in_err-at
returns-in_err-at g c =
    let exit = c.from_residual in
    subst (λ (r : Result (ℕ × Row) Refusal). Lent g.S.Sample.kind g.F.Filter.rule g.F.Filter.reaches g.F.Filter.stands c.args.self.now c.args.slip.now r)
    (sym (exit_as exit.result c.in_err-at.field-0.0 NoTrace exit.ensures.1 c.in_err-at.ensures.1))
    (λ store list o h w.
    back_none w.holds c.args.slip.now.number c.args.slip.now.mark (sym c.mark.ensures ∙ c.if-mark-self.false)
    (subst (λ (n : ℕ). None ≡ found_at n (standing c.args.self.now.catalog)) c.number.ensures c.in_err-at.ensures.0))

pub returns-then-row-eq0 : goal.returns-then-row-eq0
returns-then-row-eq0 g c = λ store list o h w.
    let found = c.in_ok-at.ensures in
    back_not_lent w.holds c.args.slip.now.number c.args.slip.now.mark (sym c.mark.ensures ∙ c.if-mark-self.false)
    c.in_ok-at.at (subst (λ (n : ℕ). Some c.in_ok-at.at ≡ found_at n (standing c.args.self.now.catalog)) c.number.ensures found.0)
    (ap (λ (r : Row). r.loans) (sym found.2) ∙ c.if-row-eq0.true)
