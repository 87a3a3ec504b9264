use Rattle.std.proofs.Common.{◌≡◌, ℕ, ◌*◌, ◌<◌, eqb, get_or, true}
use Rattle.filters.proofs.row.alike.Given as goal

abbrev pub invariant-loop-x : goal.invariant-loop-x
invariant-loop-x l = (y : ℕ) → y < l.x → eqb (get_or l.a (y * l.gap) 0) (get_or l.b (y * l.gap) 0) ≡ true
