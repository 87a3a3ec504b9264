-- Rows get their new counts, one by one.
use Rattle.std.proofs.Common.{◌≡◌, ℕ, zero, suc, ◌+◌, ◌<◌, ◌≤◌, List, [], ◌∷◌, length, get_or, take, set, refl, ap, add-one, arith}
use Rattle.std.proofs.lemmas.List.Sums.{sum_by-cons}
use Rattle.catalog.specs.declared.row.Row.{Row}
use Rattle.catalog.specs.declared.row.Count.{Count}
use Rattle.catalog.specs.Rows.{blank, with_count, recounted, pairs_of_counts, pairs_in, samples_in}

-- a count of nothing
abbrev pub none : Count
none = record { pairs = 0; places = 0 }

-- no row has its new count
pub recounted_none : (rs : List Row) → recounted rs [] ≡ rs
recounted_none [] = refl
recounted_none (r ∷ rs) = refl

-- one more row has
recounted_next : (rs : List Row) (cs : List Count) (i : ℕ) → i < length rs → i < length cs → set (recounted rs (take i cs)) i (with_count (get_or cs i none) (get_or (recounted rs (take i cs)) i blank)) ≡ recounted rs (take (suc i) cs)
recounted_next [] cs i a b = let z : ⊥ = omega arith in absurd z
recounted_next (r ∷ rs) [] i a b = let z : ⊥ = omega arith in absurd z
recounted_next (r ∷ rs) (c ∷ cs) zero a b = rw (recounted_none rs) refl
recounted_next (r ∷ rs) (c ∷ cs) (suc i) a b = ap (λ (x : List Row). with_count c r ∷ x) (recounted_next rs cs i (omega arith) (omega arith))

pub recounted_more : (rs now : List Row) (cs : List Count) (i : ℕ) → i < length rs → i < length cs → now ≡ recounted rs (take i cs) → set now i (with_count (get_or cs i none) (get_or now i blank)) ≡ recounted rs (take (i + 1) cs)
recounted_more rs now cs i a b h = rw (h, add-one i) (recounted_next rs cs i a b)

-- counts for the first n rows are for them alone
pub recounted_front : (rs : List Row) (cs : List Count) (n : ℕ) → n ≤ length cs → take n (recounted rs (take n cs)) ≡ recounted (take n rs) cs
recounted_front rs cs zero le = refl
recounted_front [] cs (suc n) le = refl
recounted_front (r ∷ rs) [] (suc n) le = let z : ⊥ = omega arith in absurd z
recounted_front (r ∷ rs) (c ∷ cs) (suc n) le = ap (λ (x : List Row). with_count c r ∷ x) (recounted_front rs cs n (omega arith))

-- a new count leaves each row's length
pub length_kept : (rs : List Row) (cs : List Count) (i : ℕ) → (get_or (recounted rs cs) i blank).length ≡ (get_or rs i blank).length
length_kept [] cs i = refl
length_kept (r ∷ rs) [] i = refl
length_kept (r ∷ rs) (c ∷ cs) zero = refl
length_kept (r ∷ rs) (c ∷ cs) (suc i) = length_kept rs cs i

-- so the samples are as many as before
pub samples_kept : (rs : List Row) (cs : List Count) → samples_in (recounted rs cs) ≡ samples_in rs
samples_kept [] cs = refl
samples_kept (r ∷ rs) [] = refl
samples_kept (r ∷ rs) (c ∷ cs) =
    let a = sum_by-cons (λ (x : Row). x.length) (with_count c r) (recounted rs cs) in
    let b = sum_by-cons (λ (x : Row). x.length) r rs in
    let h = samples_kept rs cs in
    omega arith

-- and the pairs are those of the counts
pub pairs_new : (rs : List Row) (cs : List Count) → length rs ≤ length cs → pairs_in (recounted rs cs) ≡ pairs_of_counts (take (length rs) cs)
pairs_new [] cs le = refl
pairs_new (r ∷ rs) [] le = let z : ⊥ = omega arith in absurd z
pairs_new (r ∷ rs) (c ∷ cs) le =
    let a = sum_by-cons (λ (x : Row). x.pairs) (with_count c r) (recounted rs cs) in
    let b = sum_by-cons (λ (x : Count). x.pairs) c (take (length rs) cs) in
    let h = pairs_new rs cs (omega arith) in
    omega arith
