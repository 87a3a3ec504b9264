-- What a match with few mismatches is sure to share.
use Rattle.std.specs.Prelude.{◌≡◌, ℕ, zero, suc, ◌+◌, ◌*◌, ◌/◌, ◌<◌, ◌≤◌, List, nat_eq, refl}
use Rattle.std.proofs.Common.{subst, arith, div-mul-le_self, add_assoc, add-one}
use Rattle.std.proofs.lemmas.Nat.{le-div}
use Rattle.filters.specs.Questions.{share, same, misses}
use Rattle.filters.specs.Matching.{mismatches}

pub share_fits : (m k : ℕ) → share m k * suc k ≤ m
share_fits m k = subst (λ (z : ℕ). m / (k + 1) * z ≤ m) (add-one k) (div-mul-le_self m (k + 1))

pub share_some : (m k : ℕ) → k < m → 0 < share m k
share_some m k h = omega (arith, le-div 1 m (k + 1) (omega arith) (omega arith))

-- the place x of a window that begins s later
pub same_later : (xs ys : List ℕ) (i j s x : ℕ) → same xs ys (i + s) (j + s) x ≡ same xs ys i j (s + x)
same_later xs ys i j s x = rw (add_assoc i s x, add_assoc j s x)

-- one count in two spellings
pub misses_same : (xs ys : List ℕ) (i j n : ℕ) → misses (same xs ys i j) n ≡ mismatches nat_eq xs ys i j n
misses_same xs ys i j zero = refl
misses_same xs ys i j (suc n) = let a = misses_same xs ys i j n in omega arith
