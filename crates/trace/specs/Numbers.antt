-- Numbers in a trace file: groups of seven bits, the lowest first. Assumes nothing.
use Rattle.std.specs.Prelude.{◌≡◌, ℕ, zero, suc, ◌+◌, ◌-◌, ◌*◌, ◌<◌, ◌≤◌, cond, List, [], ◌∷◌, ◌++◌, length, Ok, Err, Result, nat_lt}
use Rattle.trace.specs.declared.refusal.Cause.{Cause}
use Rattle.trace.specs.declared.number.Found.{Found}
use Rattle.trace.specs.Refusals.{cause_number}

-- what stands at the front of some bytes
pub data Number : Type 0 where
  found : ℕ → ℕ → Number  -- a number: its value, and how many bytes it takes
  none : ℕ → Number  -- no number: why, as a refusal's number

-- a lower group in front
abbrev pub scaled : ℕ → Number → Number
scaled low (found v n) = found (low + 128 * v) (suc n)
scaled low (none e) = none e

-- a number of at most n bytes: one of 128 or more says that another follows
abbrev pub number : ℕ → List ℕ → Number
number zero bs = none 5
number (suc n) [] = none 4
number (suc n) (b ∷ bs) = cond (nat_lt b 128) (found b 1) (scaled (b - 128) (number n bs))

-- an answer of the reader of numbers, by what it means
abbrev pub number_told : Result Found Cause → Number
number_told (Ok f) = found f.value f.size
number_told (Err e) = none (cause_number e)

-- the bytes of a list of groups: each but the last says that another follows
abbrev pub spelled : List ℕ → List ℕ
spelled [] = []
spelled (g ∷ []) = g ∷ []
spelled (g ∷ h ∷ gs) = (g + 128) ∷ spelled (h ∷ gs)

-- the value of a list of groups
abbrev pub value_of : List ℕ → ℕ
value_of [] = 0
value_of (g ∷ gs) = g + 128 * value_of gs

-- each has seven bits
abbrev pub SevenBits : List ℕ → Type 0
SevenBits [] = Unit {0}
SevenBits (g ∷ gs) = (g < 128) × SevenBits gs

-- one to three groups, the high ones empty or not
pub record Groups (gs : List ℕ) : Type 0 where
  pub some : 1 ≤ length gs
  pub few : length gs ≤ 3
  pub each : SevenBits gs

-- bytes that begin with the spelling of some groups, however padded, are read as their value, and the rest is left
abbrev pub ReadsBack : List ℕ → Result Found Cause → Type 0
ReadsBack bytes r = (gs rest : List ℕ) → Groups gs → bytes ≡ spelled gs ++ rest → r ≡ Ok (record { value = value_of gs; size = length gs })
