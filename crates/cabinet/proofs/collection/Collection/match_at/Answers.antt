-- The match at an index is that of the list of all matches.
use Rattle.std.proofs.Common.{◌<◌, refl, ap, arith}
use Rattle.catalog.specs.Rows.{pairs_in}
use Rattle.catalog.specs.Catalogs.{standing}
use Rattle.cabinet.proofs.Holding.{pairs_told}
use Rattle.cabinet.proofs.Telling.{match_told}
use Rattle.cabinet.proofs.collection.Collection.match_at.Goals as goal

pub returns-then-index-all_totals-clause-told : goal.returns-then-index-all_totals-clause-told
returns-then-index-all_totals-clause-told g c = λ o h store w.
    (omega (arith, c.if-index-all_totals.true, ap (λ t. t.pairs) c.all_totals.ensures.is, pairs_told w.holds), refl)

pub returns-clause-told : goal.returns-clause-told
returns-clause-told g c =
    let l : c.args.index < pairs_in (standing c.args.self.now.catalog) = omega (arith, ap (λ t. t.pairs) c.all_totals.ensures.is, c.if-index-all_totals.false) in
    λ o h store w. (omega (arith, l, pairs_told w.holds), match_told w.holds c.args.index l)
