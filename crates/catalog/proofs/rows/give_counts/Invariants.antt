use Rattle.std.proofs.Common.{◌≡◌, take}
use Rattle.catalog.specs.Rows.{recounted}
use Rattle.catalog.proofs.rows.give_counts.Given as goal

abbrev pub invariant-loop-at : goal.invariant-loop-at
invariant-loop-at l = l.rows ≡ recounted l.initial.rows (take l.at l.counts)
