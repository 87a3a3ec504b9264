use Rattle.std.proofs.Common.{◌≡◌, take, arith}
use Rattle.std.proofs.lemmas.Grind.{common_steps}
use Rattle.catalog.specs.Rows.{totals_of}
use Rattle.catalog.specs.Catalogs.{standing}
use Rattle.catalog.proofs.Sizes.{totals_fit}
use Rattle.catalog.proofs.catalog.Catalog.totals.Goals as goal

pub returns : goal.returns
returns c =
    let is : c.loop-row.totals ≡ totals_of (take c.args.n (standing c.args.self.now)) = grind (arith, common_steps) in
    record {
      is = is;
      fits = totals_fit (standing c.args.self.now) c.args.n c.loop-row.totals c.args.self.now.store c.args.self.now.list is c.args.self.now.stored c.args.self.now.listed;
    }
