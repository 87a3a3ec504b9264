use Rattle.std.proofs.Common.{◌≡◌, ◌-◌, ◌++◌}
use Rattle.draws.specs.Draws.{after_all, drawn_all}
use Rattle.draws.proofs.Draws.codes.Given as goal

-- the codes so far and those of the draws that are left are all codes
abbrev pub invariant-loop : goal.invariant-loop
invariant-loop l = record {
  state : after_all l.fn.self.state l.n ≡ after_all l.self.state (l.n - l.counter);
  value : drawn_all l.fn.self.state (l.alphabet - 1) l.n ≡ l.codes.items ++ drawn_all l.self.state (l.alphabet - 1) (l.n - l.counter);
}
