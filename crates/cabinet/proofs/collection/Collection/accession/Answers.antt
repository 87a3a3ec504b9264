-- A trace that comes in: its file is read, its matches counted, its row put behind the others, and then it is listed and stored.
use Rattle.std.proofs.Common.{◌≡◌, ℕ, ◌+◌, ◌-◌, ◌∷◌, map, length, take, drop, Ok, Err, sym, ap, ◌∙◌, subst, arith}
use borrow.Rule.Slice.PartMut.{put_mid}
use Rattle.trace.specs.Reading.{head}
use Rattle.trace.specs.Refusals as file
use Rattle.trace.specs.Refusals.{answer}
use Rattle.filters.specs.Asking.{question_of}
use Rattle.catalog.specs.Refusals.{told}
use Rattle.catalog.specs.declared.catalog.Catalog.{Catalog}
use Rattle.catalog.specs.declared.refusal.Refusal.TheVariants.{File}
use Rattle.catalog.specs.Rows.{pairs_in}
use Rattle.catalog.specs.Catalogs.{standing, admitted, Pushed}
use Rattle.cabinet.specs.Calls.{lengths}
use Rattle.cabinet.specs.Model.{Lengths, accession, outcome, after}
use Rattle.cabinet.specs.Promise.{After, Answers}
use Rattle.cabinet.proofs.Bringing.{right_lengths}
use Rattle.cabinet.proofs.Filing.{Filed, filed, read_fault}
use Rattle.cabinet.proofs.Steps.{accepted_kept}
use Rattle.cabinet.proofs.Refusing.{refused_by, exit_is}
use Rattle.cabinet.proofs.Arriving.{arrive_fault, arrive_refused, arrive_met, arrive_holds, Free, parts_free, part_length, listed_through, set_here, found_told, listed_here}
use Rattle.cabinet.proofs.collection.Collection.accession.Given as given
use Rattle.cabinet.proofs.collection.Collection.accession.Goals as goal
use Rattle.cabinet.proofs.collection.Collection.accession.Goals.{In_ok-header, In_ok-number}

pub returns-in_err-header-clause-kept : goal.returns-in_err-header-clause-kept
returns-in_err-header-clause-kept g c = λ o h w.
    let l : Lengths = lengths c.args.store.now c.args.list.now c.args.codes.now c.args.marks.now in
    let right = c.in_ok-check_memory.ensures in
    let rl = right_lengths c.args.self.now.catalog.store c.args.self.now.catalog.list l right in
    let exit = c.from_residual-in_err-header in
    let e = c.in_err-header.field-0.0 in
    let said = c.in_err-header.ensures in
    let bad = read_fault g.S.Sample.kind.number g.S.Sample.kind.tops c.args.file.now (length c.args.codes.now) rl.codes said.one.means (file.told e) said.is in
    refused_by w (λ n. n) exit.result (File e) (exit_is exit.result (File e) exit.ensures.1) (accession l c.args.file.now) (arrive_fault w.holds l c.args.file.now right (file.told e) bad)

-- the filter stands for the question that is held, so the search is not refused
pub returns-in_err-count-clause-kept : goal.returns-in_err-count-clause-kept
returns-in_err-count-clause-kept g c = λ o h w.
    let l : Lengths = lengths c.args.store.now c.args.list.now c.args.codes.now c.args.marks.now in
    let rl = right_lengths c.args.self.now.catalog.store c.args.self.now.catalog.list l c.in_ok-check_memory.ensures in
    absurd (c.in_err-count.ensures.1 (set_here w.holds) rl.marks)

-- the file was read
came : (g : given.Over) (c : In_ok-header g) → Filed g.S.Sample.kind.number g.S.Sample.kind.tops c.args.file.now g.S.Sample.kind.code c.in_ok-header.header.machine c.in_ok-header.header.count c.read_codes.new.codes
came g c =
    let l : Lengths = lengths c.args.store.now c.args.list.now c.args.codes.now c.args.marks.now in
    let rl = right_lengths c.args.self.now.catalog.store c.args.self.now.catalog.list l c.in_ok-check_memory.ensures in
    let said = c.in_ok-header.ensures in
    filed g.S.Sample.kind.number g.S.Sample.kind.tops c.args.file.now (length c.args.codes.now) rl.codes said.one.means g.S.Sample.kind.code (head c.in_ok-header.header) c.args.codes.now c.read_codes.new.codes said.is said.put

pub returns-in_err-number-clause-kept : goal.returns-in_err-number-clause-kept
returns-in_err-number-clause-kept g c =
    let l : Lengths = lengths c.args.store.now c.args.list.now c.args.codes.now c.args.marks.now in
    let right = c.in_ok-check_memory.ensures in
    let exit = c.from_residual-in_err-number in
    let e = c.in_err-number.field-0.0 in
    let said = c.in_err-number.ensures in
    let is = exit_is exit.result e exit.ensures.1 in
    let fl = came g (goal.at.returns-in_err-number-clause-kept g c).In_ok-header in
    let n = c.in_ok-count.count in
    λ o h w.
    subst (λ (z : Catalog). After g.S.Sample.kind g.F.Filter.rule g.F.Filter.reaches g.F.Filter.stands o (accession l c.args.file.now ∷ h) (record { kind = c.args.self.now.kind; filter = c.args.self.now.filter; question = c.args.self.now.question; mark = c.args.self.now.mark; catalog = z }) c.args.store.now c.args.list.now × Answers (answer (λ m. m) told exit.result) (outcome g.S.Sample.kind o (after g.S.Sample.kind o h) (accession l c.args.file.now))) (sym said.1)
    (refused_by w (λ m. m) exit.result e is (accession l c.args.file.now)
    (arrive_refused w.holds l c.args.file.now right fl.trace fl.is fl.few n
    (found_told w.holds n (take (c.in_ok-header.header.count) c.read_codes.new.codes) fl.trace.samples (c.in_ok-count.ensures (set_here w.holds)).counted fl.codes) e
    (subst (λ (z : ℕ). admitted (standing c.args.self.now.catalog) c.args.self.now.catalog.given c.args.self.now.catalog.store c.args.self.now.catalog.list z n ≡ Err e) fl.count_is said.0)))

-- the catalogue has taken its row in
free : (g : given.Over) (c : In_ok-number g) → Free c.args.self.now.catalog (lengths c.args.store.now c.args.list.now c.args.codes.now c.args.marks.now) c.all_totals-samples.result c.in_ok-header.header.count c.in_ok-count.count
free g c =
    let l : Lengths = lengths c.args.store.now c.args.list.now c.args.codes.now c.args.marks.now in
    parts_free c.args.self.now.catalog l c.all_totals-samples.result c.in_ok-header.header.count c.in_ok-count.count c.in_ok-number.number c.in_ok-check_memory.ensures c.all_totals-samples.ensures.is c.in_ok-number.ensures.0

pub store_trace-requires : goal.store_trace-requires
store_trace-requires g c = (free g (goal.at.store_trace-requires g c).In_ok-number).stored

pub returns-clause-kept : goal.returns-clause-kept
returns-clause-kept g c =
    let l : Lengths = lengths c.args.store.now c.args.list.now c.args.codes.now c.args.marks.now in
    let right = c.in_ok-check_memory.ensures in
    let rl = right_lengths c.args.self.now.catalog.store c.args.self.now.catalog.list l right in
    let fr = free g (goal.at.returns-clause-kept g c).In_ok-number in
    let fl = came g (goal.at.returns-clause-kept g c).In_ok-header in
    let xs = fl.trace.samples in
    let n = c.in_ok-count.count in
    let m = c.in_ok-number.number in
    let first = c.all_totals-samples.result.pairs in
    let room = take (first + n.pairs - first) (drop first c.args.list.now) in
    let put = c.store_trace.ensures fl.trace fl.is (sym fl.count_is) in
    λ o h w.
    let counted = found_told w.holds n (take (c.in_ok-header.header.count) c.read_codes.new.codes) xs (c.in_ok-count.ensures (set_here w.holds)).counted fl.codes in
    accepted_kept g.met.S.Sample.agreeing g.met.F.Filter.inside g.met.F.Filter.necessary h (accession l c.args.file.now) m
    (arrive_holds w.holds fl.trace n counted c.push.new.self m
    (subst (λ (z : ℕ). Pushed c.args.self.now.catalog fl.trace.machine z n c.push.new.self m) fl.count_is (subst (λ (z : ℕ). Pushed c.args.self.now.catalog z c.in_ok-header.header.count n c.push.new.self m) fl.machine_is c.in_ok-number.ensures.1))
    (omega (arith, fr.pairs, fr.listed, rl.list_is))
    c.store_trace.new.store put.keeps
    (subst (λ (z : ℕ). take z c.store_trace.new.store ≡ take z c.args.store.now) fr.samples put.front)
    (subst (λ (z : ℕ). map g.S.Sample.kind.fields (take (length xs) (drop z c.store_trace.new.store)) ≡ xs) fr.samples put.samples_are)
    room c.search_through-2.new.out (put_mid first (first + n.pairs - first) c.args.list.now c.search_through-2.new.out)
    (part_length c.args.list.now first n.pairs fr.listed)
    (listed_here w.holds m (take (c.in_ok-header.header.count) c.read_codes.new.codes) xs room c.search_through-2.new.out
    (listed_through g.S.Sample.kind.agree g.F.Filter.rule g.F.Filter.reaches (g.F.Filter.stands c.args.self.now.filter) (question_of c.args.self.now.question) (take c.in_ok-header.header.count c.read_codes.new.codes) (length c.search_through.new.marks) m room c.search_through-2.new.out c.search_through-2.result c.search_through-2.ensures (set_here w.holds) (omega (arith, rl.marks, c.search_through.auto.marks))) fl.codes)
    (ap (λ (z : ℕ). put_mid z (first + n.pairs - first) c.args.list.now c.search_through-2.new.out) fr.pairs ∙ ap (λ (z : ℕ). put_mid (pairs_in (standing c.args.self.now.catalog)) z c.args.list.now c.search_through-2.new.out) (let z : first + n.pairs - first ≡ n.pairs = omega arith in z)))
    (arrive_met w.holds l c.args.file.now right fl.trace fl.is fl.few n counted m
    (subst (λ (z : ℕ). admitted (standing c.args.self.now.catalog) c.args.self.now.catalog.given c.args.self.now.catalog.store c.args.self.now.catalog.list z n ≡ Ok m) fl.count_is c.in_ok-number.ensures.0))
