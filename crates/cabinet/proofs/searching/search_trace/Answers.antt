use Rattle.std.proofs.Common.{ℕ, List, subst}
use Rattle.filters.specs.Asking.{question_of}
use Rattle.cabinet.specs.Searching.{Searched}
use Rattle.cabinet.proofs.Loading.{loaded}
use Rattle.cabinet.proofs.searching.search_trace.Goals as goal

pub returns : goal.returns
returns g c =
    subst (λ (t : List ℕ). Searched g.S.Sample.kind.agree g.F.Filter.rule (question_of c.args.posed.now.question) t c.args.number c.args.out.now c.search.new.out c.search.result)
    (loaded g.S.Sample.kind.fields g.S.Sample.kind.code c.args.samples.now c.args.codes.now c.load_codes.new.codes c.load_codes.ensures) c.search.ensures
