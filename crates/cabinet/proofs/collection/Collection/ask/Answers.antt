-- A question that is put: its file is read, the question taken, its matches counted on every trace, and then listed.
use Rattle.std.proofs.Common.{◌≡◌, ℕ, ◌<◌, List, ◌∷◌, map, length, Err, sym, refl, ap, ◌∙◌, subst, arith}
use Rattle.trace.specs.Reading.{head}
use Rattle.trace.specs.Refusals as file
use Rattle.trace.specs.Refusals.{answer}
use Rattle.filters.specs.Asking.{question_of}
use Rattle.filters.specs.Filters.{verdict, StandsFor}
use Rattle.filters.specs.Matching.{Question}
use Rattle.catalog.specs.declared.row.Row.{Row}
use Rattle.catalog.specs.declared.row.Count.{Count}
use Rattle.catalog.specs.declared.catalog.Catalog.{Catalog}
use Rattle.catalog.specs.declared.refusal.Refusal.TheVariants.{File, Question as BadQuestion, ListFull}
use Rattle.catalog.specs.Refusals.{told}
use Rattle.catalog.specs.Catalogs.{standing}
use Rattle.cabinet.specs.Calls.{lengths}
use Rattle.cabinet.specs.Words.{all_matches, padded}
use Rattle.cabinet.specs.Model.{Lengths, ask, question, outcome, after, pairs_of}
use Rattle.cabinet.specs.Promise.{After, Answers}
use Rattle.cabinet.specs.Shelf.{traces_of, row_of}
use Rattle.cabinet.proofs.Again.{again}
use Rattle.cabinet.proofs.Bringing.{right_lengths}
use Rattle.cabinet.proofs.Filing.{Filed, filed, read_fault}
use Rattle.cabinet.proofs.Posing.{put, counts_here, rows_recounted, recount_refused, recount_fits, ask_fault, ask_bad, ask_full, ask_met, ask_holds}
use Rattle.cabinet.proofs.Refusing.{refused_by, exit_is}
use Rattle.cabinet.proofs.Shelving.{traces_recounted}
use Rattle.cabinet.proofs.Steps.{accepted_kept}
use Rattle.cabinet.proofs.collection.Collection.ask.Given as given
use Rattle.cabinet.proofs.collection.Collection.ask.Goals as goal
use Rattle.cabinet.proofs.collection.Collection.ask.Goals.{In_ok-header}

pub returns-in_err-header-clause-kept : goal.returns-in_err-header-clause-kept
returns-in_err-header-clause-kept g c =
    let l : Lengths = lengths c.args.store.now c.args.list.now c.args.codes.now c.args.marks.now in
    let right = c.in_ok-check_memory.ensures in
    let rl = right_lengths c.args.self.now.catalog.store c.args.self.now.catalog.list l right in
    let exit = c.from_residual-in_err-header in
    let e = c.in_err-header.field-0.0 in
    let said = c.in_err-header.ensures in
    let is = exit_is exit.result (File e) exit.ensures.1 in
    let bad = read_fault g.S.Sample.kind.number g.S.Sample.kind.tops c.args.file.now (length c.args.codes.now) rl.codes said.one.means (file.told e) said.is in
    λ o h w. refused_by w (λ _. 0) exit.result (File e) is (ask l c.args.file.now c.args.m c.args.k) (ask_fault w.holds l c.args.file.now c.args.m c.args.k right (file.told e) bad)

-- the query's file was read
query : (g : given.Over) (c : In_ok-header g) → Filed g.S.Sample.kind.number g.S.Sample.kind.tops c.args.file.now g.S.Sample.kind.code c.in_ok-header.header.machine c.in_ok-header.header.count c.read_codes.new.codes
query g c =
    let l : Lengths = lengths c.args.store.now c.args.list.now c.args.codes.now c.args.marks.now in
    let rl = right_lengths c.args.self.now.catalog.store c.args.self.now.catalog.list l c.in_ok-check_memory.ensures in
    let said = c.in_ok-header.ensures in
    filed g.S.Sample.kind.number g.S.Sample.kind.tops c.args.file.now (length c.args.codes.now) rl.codes said.one.means g.S.Sample.kind.code (head c.in_ok-header.header) c.args.codes.now c.read_codes.new.codes said.is said.put

pub returns-in_err-posed-clause-kept : goal.returns-in_err-posed-clause-kept
returns-in_err-posed-clause-kept g c =
    let l : Lengths = lengths c.args.store.now c.args.list.now c.args.codes.now c.args.marks.now in
    let right = c.in_ok-check_memory.ensures in
    let fl = query g (goal.at.returns-in_err-posed-clause-kept g c).In_ok-header in
    let exit = c.from_residual-in_err-posed in
    let e = c.in_err-posed.field-0.0 in
    let is = exit_is exit.result (BadQuestion e) exit.ensures.1 in
    let bad : verdict (length fl.trace.samples) c.args.m c.args.k ≡ Err e = ap (λ (z : ℕ). verdict z c.args.m c.args.k) (sym fl.size) ∙ sym c.in_err-posed.ensures in
    λ o h w. refused_by w (λ _. 0) exit.result (BadQuestion e) is (ask l c.args.file.now c.args.m c.args.k) (ask_bad w.holds l c.args.file.now c.args.m c.args.k right fl.trace fl.is e bad)

pub returns-in_err-counts-clause-kept : goal.returns-in_err-counts-clause-kept
returns-in_err-counts-clause-kept g c =
    let l : Lengths = lengths c.args.store.now c.args.list.now c.args.codes.now c.args.marks.now in
    let right = c.in_ok-check_memory.ensures in
    let q = put g.S.Sample.kind (query g (goal.at.returns-in_err-counts-clause-kept g c).In_ok-header) c.args.m c.args.k (question_of c.in_ok-posed.posed.question) c.in_ok-posed.ensures.0 c.in_ok-posed.ensures.1 in
    let exit = c.from_residual-in_err-counts in
    let e = c.in_err-counts.field-0.0 in
    let said = c.in_err-counts.ensures in
    let is : exit.result ≡ Err ListFull = exit_is exit.result e exit.ensures.1 ∙ ap Err said.0 in
    λ o h w.
    refused_by w (λ _. 0) exit.result ListFull is (ask l c.args.file.now c.args.m c.args.k)
    (ask_full w.holds l c.args.file.now c.args.m c.args.k right q.trace q.is q.fair
    (subst (λ (z : Question). c.args.self.now.catalog.list < pairs_of g.S.Sample.kind z (traces_of g.S.Sample.kind.fields (standing c.args.self.now.catalog) c.args.store.now)) q.asked_is said.1))

pub returns-in_err-recount-clause-kept : goal.returns-in_err-recount-clause-kept
returns-in_err-recount-clause-kept g c =
    let l : Lengths = lengths c.args.store.now c.args.list.now c.args.codes.now c.args.marks.now in
    let right = c.in_ok-check_memory.ensures in
    let q = put g.S.Sample.kind (query g (goal.at.returns-in_err-recount-clause-kept g c).In_ok-header) c.args.m c.args.k (question_of c.in_ok-posed.posed.question) c.in_ok-posed.ensures.0 c.in_ok-posed.ensures.1 in
    let k : Catalog = c.args.self.now.catalog in
    let counts : List Count = c.in_ok-counts.counts in
    let n = counts_here g.S.Sample.kind g.F.Filter.rule (question_of c.in_ok-posed.posed.question) (question g.S.Sample.kind c.args.m c.args.k q.trace) k c.args.store.now counts q.asked_is c.in_ok-counts.ensures in
    let exit = c.from_residual-in_err-recount in
    let e = c.in_err-recount.field-0.0 in
    let said = c.in_err-recount.ensures in
    let full = recount_refused (standing k) k.list counts e n.few said.0 in
    let is : exit.result ≡ Err ListFull = exit_is exit.result e exit.ensures.1 ∙ ap Err full.0 in
    λ o h w.
    subst (λ (z : Catalog). After g.S.Sample.kind g.F.Filter.rule g.F.Filter.reaches g.F.Filter.stands o (ask l c.args.file.now c.args.m c.args.k ∷ h) (record { kind = c.args.self.now.kind; filter = c.args.self.now.filter; question = c.args.self.now.question; mark = c.args.self.now.mark; catalog = z }) c.args.store.now c.args.list.now × Answers (answer (λ _. 0) told exit.result) (outcome g.S.Sample.kind o (after g.S.Sample.kind o h) (ask l c.args.file.now c.args.m c.args.k))) (sym said.1)
    (refused_by w (λ _. 0) exit.result ListFull is (ask l c.args.file.now c.args.m c.args.k)
    (ask_full w.holds l c.args.file.now c.args.m c.args.k right q.trace q.is q.fair (omega (arith, full.1, n.pairs))))

pub list_traces-requires : goal.list_traces-requires
list_traces-requires g c =
    let l : Lengths = lengths c.args.store.now c.args.list.now c.args.codes.now c.args.marks.now in
    let rl = right_lengths c.args.self.now.catalog.store c.args.self.now.catalog.list l c.in_ok-check_memory.ensures in
    let k : Catalog = c.args.self.now.catalog in
    let rs : List Row = standing k in
    let a : Question = question_of c.in_ok-posed.posed.question in
    let counts : List Count = c.in_ok-counts.counts in
    let n = counts_here g.S.Sample.kind g.F.Filter.rule a a k c.args.store.now counts refl c.in_ok-counts.ensures in
    let said = c.in_ok-recount.ensures in
    record {
      room = (omega (arith, rl.codes, c.read_codes.auto.codes, c.count_traces.auto.codes), omega (arith, rl.marks, c.count_traces.auto.marks));
      store = rl.store_is ∙ sym said.2.store;
      list = rl.list_is ∙ sym said.2.list;
      counted = said.1 ∙ rows_recounted g.S.Sample.kind g.F.Filter.rule a rs c.args.store.now counts (omega (arith, k.stored, rl.store_is)) n.are
          ∙ ap (map (row_of g.S.Sample.kind g.F.Filter.rule a)) (sym (ap (λ (z : List Row). traces_of g.S.Sample.kind.fields z c.args.store.now) said.1 ∙ traces_recounted g.S.Sample.kind.fields rs counts c.args.store.now));
    }

pub returns-clause-kept : goal.returns-clause-kept
returns-clause-kept g c =
    let l : Lengths = lengths c.args.store.now c.args.list.now c.args.codes.now c.args.marks.now in
    let right = c.in_ok-check_memory.ensures in
    let q = put g.S.Sample.kind (query g (goal.at.returns-clause-kept g c).In_ok-header) c.args.m c.args.k (question_of c.in_ok-posed.posed.question) c.in_ok-posed.ensures.0 c.in_ok-posed.ensures.1 in
    let k : Catalog = c.args.self.now.catalog in
    let a : Question = question g.S.Sample.kind c.args.m c.args.k q.trace in
    let counts : List Count = c.in_ok-counts.counts in
    let n = counts_here g.S.Sample.kind g.F.Filter.rule (question_of c.in_ok-posed.posed.question) a k c.args.store.now counts q.asked_is c.in_ok-counts.ensures in
    let said = c.in_ok-recount.ensures in
    let set_is = subst (StandsFor g.F.Filter.rule g.F.Filter.reaches (g.F.Filter.stands c.in_ok-posed.posed.filter)) q.asked_is c.in_ok-posed.posed.set in
    λ o h w.
    accepted_kept g.met.S.Sample.agreeing g.met.F.Filter.inside g.met.F.Filter.necessary h (ask l c.args.file.now c.args.m c.args.k) 0
    (ask_holds w.holds a c.in_ok-posed.posed.question c.in_ok-posed.posed.filter c.recount.new.self counts c.list_traces.new.list q.asked_is set_is n.are said.1 said.2 c.list_traces.auto.list
    (c.list_traces.ensures ∙ ap (λ (z : Question). padded (length c.args.list.now) (all_matches g.S.Sample.kind z (traces_of g.S.Sample.kind.fields (standing c.recount.new.self) c.args.store.now))) q.asked_is))
    (ask_met w.holds l c.args.file.now c.args.m c.args.k right q.trace q.is q.fair (omega (arith, recount_fits (standing k) k.list counts n.few said.0, n.pairs)))

pub returns-clause-again : goal.returns-clause-again
returns-clause-again g c =
    let l : Lengths = lengths c.args.store.now c.args.list.now c.args.codes.now c.args.marks.now in
    let kept = returns-clause-kept g c in
    λ o h w t. again l c.args.file.now c.args.m c.args.k 0 w (kept o h w).0 (kept o h w).1
