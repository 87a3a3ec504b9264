-- Substring matching with k mismatches: a query, a trace, and the windows of m samples that agree in all but k. Assumes nothing.
use Rattle.std.specs.Prelude.{◌≡◌, ℕ, zero, suc, ◌+◌, ◌<◌, ◌≤◌, Bool, cond, ◌&&◌, List, length, Ok, Err, Result, nat_le, nat_lt, slice_index}
use Rattle.filters.specs.declared.refusal.Refusal.{Refusal}
use Rattle.filters.specs.declared.refusal.Refusal.TheVariants.{NoWindow}

pub record Question : Type 0 where
  pub codes : List ℕ
  pub m : ℕ
  pub k : ℕ

-- how many of the n places i + x and j + x do not agree
abbrev pub mismatches : (ℕ → ℕ → Bool) → List ℕ → List ℕ → ℕ → ℕ → ℕ → ℕ
mismatches agree q t i j zero = 0
mismatches agree q t i j (suc n) = mismatches agree q t i j n + cond (agree (slice_index q (i + n)) (slice_index t (j + n))) 0 1

-- what is answered for the windows of m places from i and from j, which must lie inside
abbrev pub compared : (ℕ → ℕ → Bool) → List ℕ → List ℕ → ℕ → ℕ → ℕ → Result ℕ Refusal
compared agree q t i j m =
    cond (nat_lt 0 m && (nat_le m 512 && (nat_le (i + m) (length q) && nat_le (j + m) (length t)))) (Ok (mismatches agree q t i j m)) (Err NoWindow)

-- the windows of m codes from i in the query and from j in the trace lie inside, and d of their places, at most k, do not agree
pub record Matches (agree : ℕ → ℕ → Bool) (a : Question) (t : List ℕ) (i j d : ℕ) : Type 0 where
  pub some : 0 < a.m
  pub in_query : i + a.m ≤ length a.codes
  pub in_trace : j + a.m ≤ length t
  pub counted : d ≡ mismatches agree a.codes t i j a.m
  pub few : d ≤ a.k

-- how many x below n have p x
abbrev pub count : ℕ → (ℕ → Bool) → ℕ
count zero p = 0
count (suc n) p = count n p + cond (p n) 1 0

-- the sum of f x over the x below n
abbrev pub sum : ℕ → (ℕ → ℕ) → ℕ
sum zero f = 0
sum (suc n) f = sum n f + f n

-- the same as Matches, as a test
abbrev pub matches_at : (ℕ → ℕ → Bool) → Question → List ℕ → ℕ → ℕ → Bool
matches_at agree a t i j = nat_lt 0 a.m && (nat_le (i + a.m) (length a.codes) && (nat_le (j + a.m) (length t) && nat_le (mismatches agree a.codes t i j a.m) a.k))

-- how many pairs of places match
abbrev pub pairs : (ℕ → ℕ → Bool) → Question → List ℕ → ℕ
pairs agree a t = sum (length t) (λ j. count (length a.codes) (λ i. matches_at agree a t i j))
