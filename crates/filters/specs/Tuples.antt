-- Tuples: l codes, g apart, and their numbers. Assumes nothing.
use Rattle.std.specs.Prelude.{◌≡◌, ℕ, ◌+◌, ◌-◌, ◌*◌, ◌%◌, ◌^◌, ◌<◌, ◌≤◌, Bool, cond, ◌&&◌, ◌||◌, List, length, Ok, Err, Result, ◌==◌, nat_le, nat_lt, slice_index}
use Rattle.filters.specs.declared.refusal.Refusal.{Refusal}
use Rattle.filters.specs.declared.refusal.Refusal.TheVariants.{NoTuples}
use Rattle.filters.specs.Matching.{sum}
use Rattle.filters.specs.Questions.{every}

-- the number of the l codes from i on, g apart: the codes as digits to the base 640, the first the highest, modulo 1021
unfoldable pub tuple_number : ℕ → ℕ → List ℕ → ℕ → ℕ
tuple_number l g xs i = sum l (λ x. slice_index xs (i + x * g) * 640 ^ (l - 1 - x)) % 1021

-- how many starts a list of n codes has
abbrev pub starts : ℕ → ℕ → ℕ → ℕ
starts l g n = n - (l - 1) * g

-- whether no tuple has l codes, g apart
abbrev pub shapeless : ℕ → ℕ → Bool
shapeless l g = l == 0 || (nat_lt 512 l || (g == 0 || nat_lt 16 g))

-- what is answered for the tuples of l codes, g apart, of n codes, where there is room for so many numbers
abbrev pub numbering : ℕ → ℕ → ℕ → ℕ → Result ℕ Refusal
numbering l g n room =
    cond (l == 0 || (nat_lt 512 l || (g == 0 || (nat_lt 16 g || (nat_le n ((l - 1) * g) || nat_lt room (starts l g n)))))) (Err NoTuples)
    (Ok (starts l g n))

-- the front of a list holds the number of each start, and the rest is as it was
pub record Numbered (l g : ℕ) (xs before after : List ℕ) : Type 0 where
  pub keeps : length after ≡ length before
  pub numbers : (i : ℕ) → i < starts l g (length xs) → slice_index after i ≡ tuple_number l g xs i
  pub rest : (i : ℕ) → starts l g (length xs) ≤ i → slice_index after i ≡ slice_index before i

-- the code x of the tuples from i and from j is the same
abbrev pub same_digit : ℕ → List ℕ → List ℕ → ℕ → ℕ → ℕ → Bool
same_digit g xs ys i j x = slice_index xs (i + x * g) == slice_index ys (j + x * g)

-- the l codes i, i + g, .. and j, j + g, .. lie inside, and are the same
abbrev pub same_tuple : ℕ → ℕ → List ℕ → List ℕ → ℕ → ℕ → Bool
same_tuple l g xs ys i j =
    nat_lt (i + (l - 1) * g) (length xs) && (nat_lt (j + (l - 1) * g) (length ys) && every (same_digit g xs ys i j) l)

-- the sizes that tuples may have in n codes
pub record Sized (l g n : ℕ) : Type 0 where
  pub some : 0 < l
  pub short : l ≤ 512
  pub apart : 0 < g
  pub near : g ≤ 16
  pub fits : (l - 1) * g < n
