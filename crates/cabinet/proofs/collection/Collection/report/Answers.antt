-- The report adds up the rows that stand.
use Rattle.std.proofs.Common.{◌∙◌}
use Rattle.cabinet.proofs.Telling.{report_told, totals_report}
use Rattle.cabinet.proofs.collection.Collection.report.Goals as goal

pub returns : goal.returns
returns g c =
    let is = totals_report c.args.self.now.catalog c.all_totals-totals.result c.all_totals-totals.ensures.is c.reach.result (g.F.Filter.stands c.args.self.now.filter).span c.reach.ensures.is in
    record {
      rows = is;
      told = λ o h store list w.
          is ∙ report_told w.holds;
    }
