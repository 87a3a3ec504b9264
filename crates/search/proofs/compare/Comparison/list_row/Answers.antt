use Rattle.std.proofs.Common.{leb, get_or, sym, refl, arith}
use Rattle.std.proofs.lemmas.Bool.{le-leb, lt-leb}
use Rattle.search.proofs.Rowing.{so_far_start, so_far_few, so_far_put, so_far_count, so_far_far, so_far_miss, so_far_whole, row_unfit}
use Rattle.search.proofs.Matched.{fits_parts}
use Rattle.filters.specs.Asked.{asked}
use Rattle.search.proofs.compare.Comparison.list_row.Goals as goal
use Rattle.search.proofs.compare.Comparison.list_row.Goals.{else-ahead-i-via-else-ahead-i, else-ahead-i-via-then-ahead-i+in-None-1}

pub loop-i-init : goal.loop-i-init
loop-i-init g c = so_far_start refl

pub overflow_add-pairs : goal.overflow_add-pairs
overflow_add-pairs g c = omega (arith, so_far_few c.loop-i.invariant)

pub loop-i-preserved-in-Some-checked_sub : goal.loop-i-preserved-in-Some-checked_sub
loop-i-preserved-in-Some-checked_sub g c =
    so_far_put c.in-Some.found c.in-Some-checked_sub.at c.loop-i.invariant (omega arith) (omega arith) (le-leb _ _ c.if-ahead-i.true) c.in-Some.ensures (omega arith) (omega arith)

pub loop-i-preserved-in_default : goal.loop-i-preserved-in_default
loop-i-preserved-in_default g c =
    so_far_count c.in-Some.found c.loop-i.invariant (omega arith) (omega arith) (le-leb _ _ c.if-ahead-i.true) c.in-Some.ensures (omega arith)

pub loop-i-preserved : goal.loop-i-preserved
loop-i-preserved g c =
    elim c.else-ahead-i.branch [
      | else-ahead-i-via-else-ahead-i w ↦ so_far_far c.loop-i.invariant (omega arith) (omega arith) (lt-leb _ _ w.if-ahead-i.false)
      | else-ahead-i-via-then-ahead-i+in-None-1 w ↦ so_far_miss c.loop-i.invariant (omega arith) (omega arith) (cc)
    ]

pub returns : goal.returns
returns g c =
    let f = fits_parts (asked c.args.self.now.question) c.args.self.now.trace.now c.args.j (sym c.if-not-fits.ensures) in
    so_far_whole f.1 f.0 (omega arith) c.loop-i.invariant

pub returns-then-not-fits : goal.returns-then-not-fits
returns-then-not-fits g c =
    row_unfit c.args.self.now.accession g.S.Sample.kind.agree (λ i. leb (get_or c.args.ahead.now i 0) c.args.self.now.reach) (asked c.args.self.now.question) c.args.self.now.trace.now c.args.j c.args.out.now c.args.before c.if-not-fits.ensures
