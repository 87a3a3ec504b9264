-- Two laws of searching with a filter. Assumes nothing.
use Rattle.std.specs.Prelude.{◌≡◌, ℕ, suc, ◌+◌, ◌*◌, ◌<◌, ◌≤◌, Bool, true, List}
use Rattle.filters.specs.Matching.{Question, Matches, count, sum}

-- double counting, over any two tests of places
abbrev pub Bounded : Type 0
Bounded =
    (p r : ℕ → ℕ → Bool) (q n reach : ℕ) →
    ((i j : ℕ) → i < q → j < n → p i j ≡ true → (s : ℕ) × (s ≤ reach) × (r (i + s) (j + s) ≡ true)) →
    ((i j : ℕ) → r i j ≡ true → (i < q) × (j < n)) →
    sum n (λ j. count q (λ i. p i j)) ≤ suc reach * sum n (λ j. count q (λ i. r i j))

-- a match stays one where the window is shorter and more mismatches are allowed
abbrev pub KeptLonger : (ℕ → ℕ → Bool) → Question → List ℕ → Type 0
KeptLonger agree a t =
    (m' k' i j d : ℕ) → 0 < m' → m' ≤ a.m → a.k ≤ k' → Matches agree a t i j d →
    (d' : ℕ) × (d' ≤ d) × Matches agree (record { codes = a.codes; m = m'; k = k' }) t i j d'
