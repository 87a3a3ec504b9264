use Rattle.std.proofs.Common.{arith}
use Rattle.std.proofs.lemmas.Grind.{common_steps}
use Rattle.catalog.proofs.Sizes.{counted_rows, counted_samples, counted_pairs, counted_short}
use Rattle.catalog.proofs.catalog.Catalog.recount.Goals as goal

pub invariant_of-self-clause-short : goal.invariant_of-self-clause-short
invariant_of-self-clause-short c =
    counted_short c.args.self.now.rows c.give_counts.new.rows c.args.counts.now c.args.self.now.used (omega arith) c.if-counts-used.false c.give_counts.ensures c.args.self.now.short

pub invariant_of-self-clause-stored : goal.invariant_of-self-clause-stored
invariant_of-self-clause-stored c =
    omega (arith, counted_samples c.args.self.now.rows c.give_counts.new.rows c.args.counts.now c.args.self.now.used (omega arith) c.if-counts-used.false c.give_counts.ensures)

pub invariant_of-self-clause-listed : goal.invariant_of-self-clause-listed
invariant_of-self-clause-listed c =
    omega (arith, counted_pairs c.args.self.now.rows c.give_counts.new.rows c.args.counts.now c.args.self.now.used (omega arith) c.if-counts-used.false c.give_counts.ensures)

pub returns : goal.returns
returns c =
    let rows = counted_rows c.args.self.now.rows c.give_counts.new.rows c.args.counts.now c.args.self.now.used (omega arith) c.if-counts-used.false c.give_counts.ensures in
    grind (arith, common_steps)
