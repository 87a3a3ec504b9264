-- The list of all matches of a question on one trace. Assumes nothing.
use Rattle.std.specs.Prelude.{◌≡◌, ℕ, zero, suc, ◌+◌, ◌-◌, Bool, cond, ◌&&◌, List, [], ◌∷◌, ◌++◌, length, take, drop}
use Rattle.search.specs.declared.matches.Match.{Match}
use Rattle.filters.specs.Matching.{Question, mismatches, matches_at, count, sum}

-- e x for each of the n numbers x from i on that has p x
abbrev pub picks : {A : Type 0} → (ℕ → Bool) → (ℕ → A) → ℕ → ℕ → List A
picks p e i zero = []
picks p e i (suc n) = cond (p i) (e i ∷ picks p e (suc i) n) (picks p e (suc i) n)

-- the lists f j, f (j + 1), .., n of them, one behind another
abbrev pub rows : {A : Type 0} → (ℕ → List A) → ℕ → ℕ → List A
rows f j zero = []
rows f j (suc n) = f j ++ rows f (suc j) n

abbrev pub entry : ℕ → (ℕ → ℕ → Bool) → Question → List ℕ → ℕ → ℕ → Match
entry accession agree a t j i = record { accession = accession; trace = j; query = i; mismatches = mismatches agree a.codes t i j a.m }

-- the matches at the trace's place j, by rising place of the query
abbrev pub row_list : ℕ → (ℕ → ℕ → Bool) → Question → List ℕ → ℕ → List Match
row_list accession agree a t j = picks (λ i. matches_at agree a t i j) (entry accession agree a t j) 0 (length a.codes)

-- all matches, by rising place of the trace and then of the query
abbrev pub match_list : ℕ → (ℕ → ℕ → Bool) → Question → List ℕ → List Match
match_list accession agree a t = rows (row_list accession agree a t) 0 (length t)

-- the matches at the trace's place j that pass a further test
abbrev pub tested_row : ℕ → (ℕ → ℕ → Bool) → Question → List ℕ → (ℕ → Bool) → ℕ → List Match
tested_row accession agree a t near j = picks (λ i. near i && matches_at agree a t i j) (entry accession agree a t j) 0 (length a.codes)

abbrev pub tested_list : ℕ → (ℕ → ℕ → Bool) → Question → List ℕ → (ℕ → ℕ → Bool) → List Match
tested_list accession agree a t near = rows (λ j. tested_row accession agree a t (λ i. near i j) j) 0 (length t)

abbrev pub tested_pairs : (ℕ → ℕ → Bool) → Question → List ℕ → (ℕ → ℕ → Bool) → ℕ
tested_pairs agree a t near = sum (length t) (λ j. count (length a.codes) (λ i. near i j && matches_at agree a t i j))

-- a list written in front of what a list o has from c on, as much of its back as there is room for
abbrev pub written : {A : Type 0} → List A → ℕ → List A → List A
written o c l = take (c - length l) o ++ (drop (length l - c) l ++ drop c o)

-- p entries had been written from the back of `before`, and p' have been of `after`: those of l in front of the others, as far as there is room
pub record Filled (before after : List Match) (p p' : ℕ) (l : List Match) : Type 0 where
  pub keeps : length after ≡ length before
  pub counted : p' ≡ p + length l
  pub exact : after ≡ written before (length before - p) l

-- a list written to the back of another, as much of its own back as there is room for
abbrev pub back_in : List Match → List Match → List Match
back_in before l = take (length before - length l) before ++ drop (length l - length before) l
