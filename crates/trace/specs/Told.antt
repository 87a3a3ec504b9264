-- Refusals by their numbers, as docs/REFUSALS.md lists them. Assumes nothing.
use Rattle.std.specs.Prelude.{ℕ}

-- a refusal as it is told
pub data Told : Type 0 where
  only : ℕ → Told  -- its number
  fault : ℕ → ℕ → ℕ → Told  -- in a trace file: its number, the byte place, and the field

abbrev pub number_of : Told → ℕ
number_of (only n) = n
number_of (fault n place field) = n
