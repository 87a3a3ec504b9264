use Rattle.filters.specs.Asking.{question_of}
use Rattle.cabinet.proofs.Listing.{Listing}
use Rattle.cabinet.proofs.searching.list_traces.Given as goal

abbrev pub invariant-loop-row : goal.invariant-loop-row
invariant-loop-row g l = Listing g.S.Sample.kind (question_of l.posed.question) l.rows l.store l.catalog.list l.row-index l.at l.first l.list
