-- The live front of the list, with its report.
use Rattle.cabinet.proofs.Telling.{listed_told}
use Rattle.cabinet.proofs.collection.Collection.listing.Goals as goal

pub returns-clause-whole : goal.returns-clause-whole
returns-clause-whole g c = λ o h store w.
    listed_told w c.report-report.result c.report-report.ensures.rows
