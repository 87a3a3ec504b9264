use Rattle.std.proofs.Common.{◌≡◌, ◌*◌, ◌≤◌, take}
use Rattle.catalog.specs.Rows.{totals_of}
use Rattle.catalog.proofs.catalog.Catalog.totals.Given as goal

abbrev pub invariant-loop-row : goal.invariant-loop-row
invariant-loop-row l = record {
  is : l.totals ≡ totals_of (take l.row-index l.row-items);
  samples : l.totals.samples ≤ l.row-index * 65535;
  pairs : l.totals.pairs ≤ l.row-index * 4294967295;
  places : l.totals.places ≤ l.row-index * 4294967295;
}
