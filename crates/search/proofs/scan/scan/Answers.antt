use Rattle.std.proofs.Common.{ℕ, ◌+◌, ◌-◌, length, take, refl, ap, ◌∙◌, arith}
use lib.ListN.{get_or-replicate}
use Rattle.filters.specs.Filters.{Pattern}
use Rattle.filters.specs.Asked.{asked}
use Rattle.search.proofs.Sums.{count_le, kept_longer}
use Rattle.search.proofs.Scanning.{judged_ok, scanning_few, scanning_start, scanning_more, scanning_skip, row_approached, row_told, seen_all, seen_whole}
use Rattle.search.proofs.scan.scan.Goals as goal

pub returns-in_err-judge-clause-kept : goal.returns-in_err-judge-clause-kept
returns-in_err-judge-clause-kept g c = kept_longer g.S.Sample.kind.agree (asked c.args.question) c.args.trace.now

pub loop-j-init : goal.loop-j-init
loop-j-init g c =
    let cap : ℕ = c.reach-reach.result + 1 in
    scanning_start (g.met.F.Filter.within c.args.filter.now)
    (λ i l. get_or-replicate 1025 i cap 0 (omega (arith, g.met.F.Filter.few c.args.filter.now)) ∙ ap (λ (z : ℕ). z + 1) c.reach-reach.ensures.is) refl

pub overflow_add-found : goal.overflow_add-found
overflow_add-found g c =
    let p : Pattern = g.F.Filter.stands c.args.filter.now in
    let k = judged_ok _ (length c.args.trace.now) (length c.args.question.codes.now) c.len-q.result (length c.args.marks.now) c.in_ok-judge.ensures in
    let s = g.met.F.Filter.few c.args.filter.now in
    let f = scanning_few k.0 (omega (arith, c.len-q.ensures.few)) s c.loop-j.invariant in
    omega (arith, f.1, c.in-Ok.ensures.count, count_le p.size (λ i. p.marks c.args.trace.now i (c.loop-j.j - 1)))

pub list_row-requires-clause-few : goal.list_row-requires-clause-few
list_row-requires-clause-few g c =
    let k = judged_ok _ (length c.args.trace.now) (length c.args.question.codes.now) c.len-q.result (length c.args.marks.now) c.in_ok-judge.ensures in
    (scanning_few k.0 (omega (arith, c.len-q.ensures.few)) (g.met.F.Filter.few c.args.filter.now) c.loop-j.invariant).0

pub loop-j-preserved-then-quiet-cap : goal.loop-j-preserved-then-quiet-cap
loop-j-preserved-then-quiet-cap g c =
    let p : Pattern = g.F.Filter.stands c.args.filter.now in
    let within = g.met.F.Filter.within c.args.filter.now in
    let k = judged_ok _ (length c.args.trace.now) (length c.args.question.codes.now) c.len-q.result (length c.args.marks.now) c.in_ok-judge.ensures in
    let told = row_approached p c.args.trace.now within (omega arith) c.loop-j.invariant.tells c.in-Ok.ensures (ap (λ (z : ℕ). take z c.mark_row.new.marks) c.len-q.ensures.is) c.reach-reach.ensures.is c.approach.ensures.near c.approach.ensures.rest in
    scanning_more (c.reach-reach.result + 1) within (omega arith) (omega arith) c.loop-j.invariant c.in-Ok.ensures c.still-quiet.ensures told
    (row_told p g.S.Sample.kind.agree (asked c.args.question) c.args.trace.now c.args.accession (k.1 ∙ c.len-q.ensures.is) c.reach-reach.ensures.is told c.list_row.ensures)

pub loop-j-preserved : goal.loop-j-preserved
loop-j-preserved g c =
    scanning_skip (c.reach-reach.result + 1) (g.met.F.Filter.within c.args.filter.now) (omega arith) (omega arith) c.loop-j.invariant c.in-Ok.ensures c.still-quiet.ensures (omega (arith, c.reach-reach.ensures.is))

pub returns : goal.returns
returns g c =
    let k = judged_ok _ (length c.args.trace.now) (length c.args.question.codes.now) c.len-q.result (length c.args.marks.now) c.in_ok-judge.ensures in
    let s = seen_all (g.met.F.Filter.within c.args.filter.now) (k.1 ∙ c.len-q.ensures.is) k.0 (omega (arith, k.2, c.len-q.ensures.is)) (omega arith) c.loop-j.invariant in
    record {
      seen = s;
      whole = λ st. seen_whole g.met.F.Filter.necessary g.met.S.Sample.agreeing s st;
      few = scanning_few k.0 (omega (arith, c.len-q.ensures.few)) (g.met.F.Filter.few c.args.filter.now) c.loop-j.invariant;
      kept = kept_longer g.S.Sample.kind.agree (asked c.args.question) c.args.trace.now;
    }
