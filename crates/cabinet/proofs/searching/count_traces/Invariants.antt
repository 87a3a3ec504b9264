use Rattle.filters.specs.Asking.{question_of}
use Rattle.cabinet.proofs.Listing.{Counting}
use Rattle.cabinet.proofs.searching.count_traces.Given as goal

abbrev pub invariant-loop-i : goal.invariant-loop-i
invariant-loop-i g l = Counting g.S.Sample.kind (question_of l.posed.question) l.rows l.store g.F.Filter.rule l.catalog.list l.i l.at l.pairs l.counts
