-- The generator of numbers. Assumes nothing.
use Rattle.std.specs.Prelude.{ℕ, zero, suc, ◌+◌, ◌*◌, ◌/◌, ◌%◌, ◌^◌, List, [], ◌∷◌}

-- the state after a state
abbrev pub after : ℕ → ℕ
after s = (s * 6364136223846793005 + 1442695040888963407) % 2 ^ 64

-- the state after n more
abbrev pub after_all : ℕ → ℕ → ℕ
after_all s zero = s
after_all s (suc n) = after_all (after s) n

-- the number from 0 to top that a state gives, by its upper bits
abbrev pub drawn : ℕ → ℕ → ℕ
drawn s top = s / 2 ^ 33 % (top + 1)

-- the numbers from 0 to top that the n states after a state give
abbrev pub drawn_all : ℕ → ℕ → ℕ → List ℕ
drawn_all s top zero = []
drawn_all s top (suc n) = drawn (after s) top ∷ drawn_all (after s) top n
