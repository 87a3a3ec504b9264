use Rattle.std.proofs.Common.{◌≡◌, ℕ, zero, suc, ◌≤◌, true, List, [], ◌∷◌, length, replicate, refl, arith}
use Rattle.std.proofs.lemmas.Bool.{and_from, le-leb}
use Rattle.trace.specs.Kinds.{in_range}
use Rattle.trace.proofs.Chains.{made_ok}
use Rattle.trace.proofs.sample.blank.Goals as goal

-- zeros are in every range
zeros_fit : (tops : List ℕ) (n : ℕ) → length tops ≤ n → in_range tops (replicate n 0) ≡ true
zeros_fit [] n h = refl
zeros_fit (top ∷ tops) zero h = let z : ⊥ = omega arith in absurd z
zeros_fit (top ∷ tops) (suc n) h = and_from _ _ (le-leb 0 top (omega arith)) (zeros_fit tops n (omega arith))

pub unwrap-requires : goal.unwrap-requires
unwrap-requires g c = made_ok g.S.Sample.kind.tops (replicate 4 0) _ _ c.make.result c.make.ensures (zeros_fit _ 4 g.met.S.Sample.four)
