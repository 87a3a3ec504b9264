use Rattle.std.proofs.Common.{arith}
use Rattle.catalog.proofs.Sizes.{removed_samples, removed_pairs, removed_short}
use Rattle.catalog.proofs.catalog.Catalog.remove.Goals as goal

pub invariant_of-self-clause-short : goal.invariant_of-self-clause-short
invariant_of-self-clause-short c = removed_short c.args.self.now.rows c.close_gap.new.items c.args.self.now.used c.args.at (omega arith) c.if-at-self.true c.close_gap.ensures c.args.self.now.short

pub invariant_of-self-clause-stored : goal.invariant_of-self-clause-stored
invariant_of-self-clause-stored c = omega (arith, removed_samples c.args.self.now.rows c.close_gap.new.items c.args.self.now.used c.args.at (omega arith) c.if-at-self.true c.close_gap.ensures)

pub invariant_of-self-clause-listed : goal.invariant_of-self-clause-listed
invariant_of-self-clause-listed c = omega (arith, removed_pairs c.args.self.now.rows c.close_gap.new.items c.args.self.now.used c.args.at (omega arith) c.if-at-self.true c.close_gap.ensures)
