use Rattle.std.proofs.Common.{arith}
use Rattle.catalog.proofs.Sizes.{loans_set, loans_samples, loans_pairs, loans_short}
use Rattle.catalog.proofs.catalog.Catalog.set_loans.Goals as goal

pub invariant_of-self-clause-short : goal.invariant_of-self-clause-short
invariant_of-self-clause-short c = loans_short c.args.self.now.rows c.args.self.now.used c.args.at c.args.loans (omega arith) c.if-at-self.true c.args.self.now.short

pub invariant_of-self-clause-stored : goal.invariant_of-self-clause-stored
invariant_of-self-clause-stored c = omega (arith, loans_samples c.args.self.now.rows c.args.self.now.used c.args.at c.args.loans (omega arith) c.if-at-self.true)

pub invariant_of-self-clause-listed : goal.invariant_of-self-clause-listed
invariant_of-self-clause-listed c = omega (arith, loans_pairs c.args.self.now.rows c.args.self.now.used c.args.at c.args.loans (omega arith) c.if-at-self.true)

pub returns-then-at-self-clause-rows : goal.returns-then-at-self-clause-rows
returns-then-at-self-clause-rows c = loans_set c.args.self.now.rows c.args.self.now.used c.args.at c.args.loans (omega arith) c.if-at-self.true
