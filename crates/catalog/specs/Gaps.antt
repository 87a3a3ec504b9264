-- A gap in the used front of a list is closed. Assumes nothing.
use Rattle.std.specs.Prelude.{ℕ, ◌+◌, ◌-◌, cond, ◌&&◌, List, ◌++◌, length, take, drop, nat_le}

-- the gap of len items from at on, of the first used, is closed, and what lies past the moved items is kept; where the gap
-- is not among them, nothing changes
abbrev pub closed : {A : Type 0} → List A → ℕ → ℕ → ℕ → List A
closed xs at len used =
    cond (nat_le used (length xs) && (nat_le at used && nat_le len (used - at)))
    (take at xs ++ drop (at + len) (take used xs) ++ drop (used - len) xs)
    xs
