use Rattle.std.proofs.Common.{◌≡◌, ◌≤◌, length}
use Rattle.filters.specs.Matching.{mismatches}
use Rattle.search.proofs.compare.compare.Given as goal

abbrev pub invariant-loop-code : goal.invariant-loop-code
invariant-loop-code g l = (l.n ≡ mismatches g.S.Sample.kind.agree l.window l.other 0 0 (length l.yielded)) × (l.n ≤ l.k) × (l.n ≤ length l.yielded) × (length l.yielded ≤ length l.window)
