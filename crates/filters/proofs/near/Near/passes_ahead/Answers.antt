use Rattle.std.proofs.Common.{◌≡◌, ℕ, ◌+◌, Bool, true, false, length, refl, arith, rules}
use Rattle.std.proofs.lemmas.Iterator.{YieldsList-from_range, cases_from_any}
use borrow.Author.Tests.{tests}
use Rattle.filters.specs.Filters.{Pattern}
use Rattle.filters.proofs.Ranging.{found, ahead_found}
use Rattle.filters.proofs.near.Near.passes_ahead.Goals as goal

pub returns : goal.returns
returns g c =
    let s : Pattern = g.B.Filter.stands c.args.self.now.second in
    let p : ℕ → Bool = λ d. s.marks c.args.trace.now (c.args.i + d) (c.args.j + d) in
    ahead_found (s.marks c.args.trace.now) s.span (c.min-most.result + 1) (length c.args.trace.now) c.args.i c.args.j c.any.result (omega (arith, c.reach.ensures.is)) (omega (arith, c.requires))
    (λ i j e. (g.met.B.Filter.within c.args.self.now.second c.args.trace.now i j e).1)
    (found p (c.min-most.result + 1) c.any.result
    (cases_from_any _ _ c.any.result (λ d. p d ≡ true) (λ d. p d ≡ false) c.any.ensures.ran (YieldsList-from_range 0 (c.min-most.result + 1) (c.min-most.result + 1) refl (omega arith))
    (λ d q k. search (rules, tests)) (λ d q k. search (rules, tests))))
