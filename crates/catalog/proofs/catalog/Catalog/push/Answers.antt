use Rattle.std.proofs.Common.{◌+◌, ap, arith}
use Rattle.catalog.specs.declared.row.Totals.{Totals}
use Rattle.catalog.specs.Catalogs.{new_row}
use Rattle.catalog.proofs.Sizes.{push_samples, push_pairs, push_short}
use Rattle.catalog.proofs.catalog.Catalog.push.Goals as goal

pub invariant_of-self-clause-short : goal.invariant_of-self-clause-short
invariant_of-self-clause-short c =
    push_short c.args.self.now.rows c.args.self.now.used (new_row (c.args.self.now.given + 1) c.args.machine c.args.length c.args.count) (omega arith) c.if-length-gt-MOST_SAMPLES.false c.args.self.now.short

pub invariant_of-self-clause-stored : goal.invariant_of-self-clause-stored
invariant_of-self-clause-stored c =
    let r = new_row (c.args.self.now.given + 1) c.args.machine c.args.length c.args.count in
    omega (arith, push_samples c.args.self.now.rows c.args.self.now.used r (omega arith), ap (λ (t : Totals). t.samples) c.all_totals-totals.ensures.is)

pub invariant_of-self-clause-listed : goal.invariant_of-self-clause-listed
invariant_of-self-clause-listed c =
    let r = new_row (c.args.self.now.given + 1) c.args.machine c.args.length c.args.count in
    omega (arith, push_pairs c.args.self.now.rows c.args.self.now.used r (omega arith), ap (λ (t : Totals). t.pairs) c.all_totals-totals.ensures.is)
