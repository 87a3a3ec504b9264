-- A trace that goes: its row is found and not lent, and the gaps that it leaves close.
use Rattle.std.proofs.Common.{◌≡◌, ℕ, ◌-◌, List, get_or, take, ap, ◌∙◌, arith}
use borrow.Rule.Slice.PartMut.{put_mid}
use Rattle.std.specs.List.{remove}
use Rattle.std.proofs.lemmas.List.Sums.{get_or-le-sum_by}
use Rattle.trace.specs.Told.{only}
use Rattle.catalog.specs.declared.row.Row.{Row}
use Rattle.catalog.specs.declared.row.Totals.{Totals}
use Rattle.catalog.specs.declared.refusal.Refusal.TheVariants.{NoTrace}
use Rattle.catalog.specs.Rows.{blank, place, totals_of}
use Rattle.catalog.specs.Catalogs.{standing}
use Rattle.cabinet.specs.Calls.{lengths}
use Rattle.cabinet.specs.Model.{Lengths, withdraw}
use Rattle.cabinet.proofs.Finding.{found_some}
use Rattle.cabinet.proofs.Refusing.{refused_by, exit_as}
use Rattle.cabinet.proofs.Steps.{refused_kept, accepted_kept}
use Rattle.cabinet.proofs.Withdrawing.{withdraw_none, withdraw_lent, withdraw_met, withdraw_holds, closed_by, blanked_by}
use Rattle.cabinet.proofs.collection.Collection.withdraw.Goals as goal

pub returns-in_err-at-clause-kept : goal.returns-in_err-at-clause-kept
returns-in_err-at-clause-kept g c = λ o h w.
    let l : Lengths = lengths c.args.store.now c.args.list.now c.args.codes.now c.args.marks.now in
    let exit = c.from_residual-in_err-at in
    refused_by w (λ _. 0) exit.result NoTrace (exit_as exit.result c.in_err-at.field-0.0 NoTrace exit.ensures.1 c.in_err-at.ensures.1) (withdraw l c.args.number)
    (withdraw_none w.holds l c.args.number c.in_ok-check_memory.ensures c.in_err-at.ensures.0)

pub returns-then-row-gt0-clause-kept : goal.returns-then-row-gt0-clause-kept
returns-then-row-gt0-clause-kept g c = λ o h w.
    let l : Lengths = lengths c.args.store.now c.args.list.now c.args.codes.now c.args.marks.now in
    let found = c.in_ok-at.ensures in
    refused_kept w (withdraw l c.args.number) (only 14)
    (withdraw_lent w.holds l c.args.number c.in_ok-check_memory.ensures c.in_ok-at.at found.0 (omega (arith, c.if-row-gt0.true, ap (λ (x : Row). x.loans) found.2)))

pub overflow_sub-left : goal.overflow_sub-left
overflow_sub-left g c =
    let found = c.in_ok-at.ensures in
    let m = get_or-le-sum_by (λ (x : Row). x.pairs) (standing c.args.self.now.catalog) c.in_ok-at.at blank found.1 in
    omega (arith, m, ap (λ (x : Row). x.pairs) found.2, ap (λ (x : Totals). x.pairs) c.all_totals-all.ensures.is)

pub returns-clause-kept : goal.returns-clause-kept
returns-clause-kept g c =
    let l : Lengths = lengths c.args.store.now c.args.list.now c.args.codes.now c.args.marks.now in
    let right = c.in_ok-check_memory.ensures in
    let found = c.in_ok-at.ensures in
    let rs : List Row = standing c.args.self.now.catalog in
    let at : ℕ = c.in_ok-at.at in
    let f = found_some c.args.number at rs found.0 in
    let p : ℕ = place c.args.number rs in
    let own : c.in_ok-at.row ≡ get_or rs p blank = found.2 ∙ ap (λ (z : ℕ). get_or rs z blank) f.0 in
    let before : c.totals-before.result ≡ totals_of (take p rs) = c.totals-before.ensures.is ∙ ap (λ (z : ℕ). totals_of (take z rs)) f.0 in
    let all = c.all_totals-all.ensures.is in
    let m = get_or-le-sum_by (λ (x : Row). x.pairs) rs p blank f.1 in
    let end : ℕ = c.all_totals-all.result.pairs in
    let pairs : ℕ = c.in_ok-at.row.pairs in
    λ o h w.
    accepted_kept g.met.S.Sample.agreeing g.met.F.Filter.inside g.met.F.Filter.necessary h (withdraw l c.args.number) 0
    (withdraw_holds w.holds l c.args.number f.1
    c.close_gap.new.items (put_mid (end - pairs) (end - (end - pairs)) c.close_gap-2.new.items c.blank_out.new.items) c.remove.new.self
    (closed_by c.args.store.now c.close_gap.new.items (ap (λ (x : Totals). x.samples) before) (ap (λ (x : Row). x.length) own) (ap (λ (x : Totals). x.samples) all) c.close_gap.ensures)
    c.close_gap.auto.items
    (blanked_by c.args.list.now c.close_gap-2.new.items c.blank_out.new.items (ap (λ (x : Totals). x.pairs) before) (ap (λ (x : Row). x.pairs) own) (ap (λ (x : Totals). x.pairs) all)
    c.close_gap-2.ensures c.blank_out.ensures
    (omega (arith, m, ap (λ (x : Row). x.pairs) own, ap (λ (x : Totals). x.pairs) all))
    (omega (arith, c.close_gap-2.auto.items, w.holds.list_length, w.holds.noted_list, c.all_totals-all.ensures.fits.1)))
    (c.remove.ensures.rows ∙ ap (remove rs) f.0) c.remove.ensures.same)
    (withdraw_met w.holds l c.args.number right at found.0 (omega (arith, c.if-row-gt0.false, ap (λ (x : Row). x.loans) found.2)))
