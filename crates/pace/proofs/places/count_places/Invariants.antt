use Rattle.std.proofs.Common.{◌≡◌, ◌*◌, ◌≤◌, length}
use Rattle.filters.specs.Matching.{sum}
use Rattle.pace.specs.Places.{in_row}
use Rattle.pace.proofs.places.count_places.Given as goal

abbrev pub invariant-loop-j : goal.invariant-loop-j
invariant-loop-j g l =
    (l.places ≡ sum l.j (in_row (g.F.Filter.stands l.filter) l.trace)) × (l.places ≤ l.j * 1024) × (length l.marks ≡ length l.initial.marks)
