-- Counts of what has been tried. Assumes nothing.
use Rattle.std.specs.Prelude.{ℕ, ◌+◌, ◌-◌, ◌^◌, min, Bool, cond}
use Rattle.trials.specs.declared.tally.Tally.{Tally}

-- a sum, up to the largest number of so many bits
abbrev pub capped : ℕ → ℕ → ℕ → ℕ
capped bits x y = min (x + y) (2 ^ bits - 1)

abbrev pub none_yet : Tally
none_yet = record { cases = 0; matches = 0; refused = 0; differ = 0 }

-- one case more, with so many matches, and a question to be refused or none
abbrev pub counted : Tally → ℕ → Bool → Tally
counted t matches refused = record { cases = capped 32 t.cases 1; matches = capped 64 t.matches matches; refused = cond refused (capped 32 t.refused 1) t.refused; differ = t.differ }

-- what two have counted
abbrev pub together : Tally → Tally → Tally
together a b = record { cases = capped 32 a.cases b.cases; matches = capped 64 a.matches b.matches; refused = capped 32 a.refused b.refused; differ = capped 32 a.differ b.differ }
