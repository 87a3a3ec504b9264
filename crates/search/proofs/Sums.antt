-- Sums and counts below a bound; the double counting; the mismatches of a shorter window.
use Rattle.std.proofs.Common.{◌≡◌, ℕ, zero, suc, ◌+◌, ◌-◌, ◌*◌, ◌<◌, ◌≤◌, Bool, true, false, cond, eqb, ◌≢◌, List, get_or, refl, ap, subst, ⊎_elim, add-zero, add-suc, suc-mul, zero-add, arith}
use Rattle.std.proofs.lemmas.Bool.{cases_Bool, cases_eq, eq-eqb}
use Rattle.filters.specs.Matching.{Question, mismatches, count, sum}
use Rattle.search.specs.Theorems.{Bounded, KeptLonger}

-- a test as a number
abbrev unit : Bool → ℕ
unit b = cond b 1 0

pub sum_le : (n : ℕ) (f g : ℕ → ℕ) → ((x : ℕ) → x < n → f x ≤ g x) → sum n f ≤ sum n g
sum_le zero f g h = omega arith
sum_le (suc n) f g h =
    let a = sum_le n f g (λ x l. h x (omega arith)) in
    let b = h n (omega arith) in
    omega arith

pub sum_same : (n : ℕ) (f g : ℕ → ℕ) → ((x : ℕ) → x < n → f x ≡ g x) → sum n f ≡ sum n g
sum_same zero f g h = refl
sum_same (suc n) f g h =
    let a = sum_same n f g (λ x l. h x (omega arith)) in
    let b = h n (omega arith) in
    omega arith

pub sum_zero : (n : ℕ) (f : ℕ → ℕ) → ((x : ℕ) → x < n → f x ≡ 0) → sum n f ≡ 0
sum_zero zero f h = refl
sum_zero (suc n) f h =
    let a = sum_zero n f (λ x l. h x (omega arith)) in
    let b = h n (omega arith) in
    omega arith

pub sum_add : (n : ℕ) (f g : ℕ → ℕ) → sum n (λ x. f x + g x) ≡ sum n f + sum n g
sum_add zero f g = refl
sum_add (suc n) f g = let a = sum_add n f g in omega arith

-- the two sums may be taken in either order
pub sum_swap : (n k : ℕ) (f : ℕ → ℕ → ℕ) → sum n (λ x. sum k (λ s. f s x)) ≡ sum k (λ s. sum n (f s))
sum_swap n zero f = sum_zero n (λ x. 0) (λ x l. refl)
sum_swap n (suc k) f =
    let a = sum_add n (λ x. sum k (λ s. f s x)) (f k) in
    let b = sum_swap n k f in
    omega arith

pub sum_const_le : (n b : ℕ) (f : ℕ → ℕ) → ((x : ℕ) → x < n → f x ≤ b) → sum n f ≤ n * b
sum_const_le zero b f h = omega arith
sum_const_le (suc n) b f h =
    let a = sum_const_le n b f (λ x l. h x (omega arith)) in
    let c = h n (omega arith) in
    let d = suc-mul n b in
    omega arith

pub sum_split : (n s : ℕ) (f : ℕ → ℕ) → sum (n + s) f ≡ sum s f + sum n (λ x. f (x + s))
sum_split zero s f = rw zero-add (omega arith)
sum_split (suc n) s f =
    let e : suc n + s ≡ suc (n + s) = omega arith in
    let a = sum_split n s f in
    rw e (omega arith)

-- past the end there is nothing
pub sum_past : (n s : ℕ) (f : ℕ → ℕ) → ((x : ℕ) → n ≤ x → f x ≡ 0) → sum (n + s) f ≡ sum n f
sum_past n zero f h = rw add-zero refl
sum_past n (suc s) f h =
    let e : n + suc s ≡ suc (n + s) = omega arith in
    let a = sum_past n s f h in
    let b = h (n + s) (omega arith) in
    rw e (omega arith)

pub sum_shift : (n s : ℕ) (f : ℕ → ℕ) → ((x : ℕ) → n ≤ x → f x ≡ 0) → sum n (λ x. f (x + s)) ≤ sum n f
sum_shift n s f h =
    let a = sum_split n s f in
    let b = sum_past n s f h in
    omega arith

pub sum_at : (n s : ℕ) (f : ℕ → ℕ) → s < n → f s ≤ sum n f
sum_at zero s f h = absurd (let z : ⊥ = omega arith in z)
sum_at (suc n) s f h =
    ⊎_elim (λ (e : s ≡ n). let w = ap f e in omega arith) (λ (e : s ≡ n → ⊥). let ne : s ≢ n = e in let a = sum_at n s f (omega arith) in omega arith)
    (cases_eq s n)

pub count_sum : (n : ℕ) (p : ℕ → Bool) → count n p ≡ sum n (λ x. cond (p x) 1 0)
count_sum zero p = refl
count_sum (suc n) p = let a = count_sum n p in omega arith

pub count_le : (n : ℕ) (p : ℕ → Bool) → count n p ≤ n
count_le zero p = omega arith
count_le (suc n) p =
    let a = count_le n p in
    let b : cond (p n) 1 0 ≤ 1 = elim (p n) as (λ v. cond v 1 0 ≤ 1) [ true ↦ omega arith | false ↦ omega arith ] in
    omega arith

pub count_same : (n : ℕ) (p r : ℕ → Bool) → ((x : ℕ) → x < n → p x ≡ r x) → count n p ≡ count n r
count_same zero p r h = refl
count_same (suc n) p r h =
    let a = count_same n p r (λ x l. h x (omega arith)) in
    let b : unit (p n) ≡ unit (r n) = ap unit (h n (omega arith)) in
    omega arith

unit_false : (b : Bool) → (b ≡ true → ⊥) → unit b ≡ 0
unit_false true h = absurd (h refl)
unit_false false h = refl

unit_le : (b : Bool) (x : ℕ) → (b ≡ true → 1 ≤ x) → unit b ≤ x
unit_le true x h = h refl
unit_le false x h = omega arith

-- the places passed at each offset up to reach along the diagonal
window_served : (p : Bool) (r : ℕ → Bool) (reach : ℕ) → (p ≡ true → (s : ℕ) × (s ≤ reach) × (r s ≡ true)) → cond p 1 0 ≤ sum (suc reach) (λ s. cond (r s) 1 0)
window_served p r reach h =
    unit_le p (sum (suc reach) (λ s. cond (r s) 1 0))
    (λ e.
    let w = h e in
    let s : ℕ = w.0 in
    let a : unit (r s) ≡ 1 = ap unit w.2 in
    let b = sum_at (suc reach) s (λ s. cond (r s) 1 0) (omega (arith, w.1)) in
    omega arith)

pub bounded : Bounded
bounded p r q n reach near inside =
    let P : ℕ → ℕ → ℕ = λ i j. cond (p i j) 1 0 in
    let R : ℕ → ℕ → ℕ = λ i j. cond (r i j) 1 0 in
    let total : ℕ = sum n (λ j. sum q (λ i. R i j)) in
    let lhs : sum n (λ j. count q (λ i. p i j)) ≡ sum n (λ j. sum q (λ i. P i j)) =
    sum_same n (λ j. count q (λ i. p i j)) (λ j. sum q (λ i. P i j)) (λ j l. count_sum q (λ i. p i j)) in
    let rhs : sum n (λ j. count q (λ i. r i j)) ≡ total =
    sum_same n (λ j. count q (λ i. r i j)) (λ j. sum q (λ i. R i j)) (λ j l. count_sum q (λ i. r i j)) in
    let served : sum n (λ j. sum q (λ i. P i j)) ≤ sum n (λ j. sum q (λ i. sum (suc reach) (λ s. R (i + s) (j + s)))) =
    sum_le n (λ j. sum q (λ i. P i j)) (λ j. sum q (λ i. sum (suc reach) (λ s. R (i + s) (j + s))))
    (λ j l. sum_le q (λ i. P i j) (λ i. sum (suc reach) (λ s. R (i + s) (j + s)))
    (λ i h. window_served (p i j) (λ s. r (i + s) (j + s)) reach (near i j h l))) in
    let swap1 : sum n (λ j. sum q (λ i. sum (suc reach) (λ s. R (i + s) (j + s)))) ≡ sum n (λ j. sum (suc reach) (λ s. sum q (λ i. R (i + s) (j + s)))) =
    sum_same n (λ j. sum q (λ i. sum (suc reach) (λ s. R (i + s) (j + s)))) (λ j. sum (suc reach) (λ s. sum q (λ i. R (i + s) (j + s))))
    (λ j l. sum_swap q (suc reach) (λ s i. R (i + s) (j + s))) in
    let swap2 : sum n (λ j. sum (suc reach) (λ s. sum q (λ i. R (i + s) (j + s)))) ≡ sum (suc reach) (λ s. sum n (λ j. sum q (λ i. R (i + s) (j + s)))) =
    sum_swap n (suc reach) (λ s j. sum q (λ i. R (i + s) (j + s))) in
    let each : (s : ℕ) → s < suc reach → sum n (λ j. sum q (λ i. R (i + s) (j + s))) ≤ total =
    λ s l.
    let a : sum n (λ j. sum q (λ i. R (i + s) (j + s))) ≤ sum n (λ j. sum q (λ i. R i (j + s))) =
    sum_le n (λ j. sum q (λ i. R (i + s) (j + s))) (λ j. sum q (λ i. R i (j + s)))
    (λ j h. sum_shift q s (λ i. R i (j + s)) (λ x k. unit_false (r x (j + s)) (λ e. let z : ⊥ = omega (arith, (inside x (j + s) e).0) in z))) in
    let b : sum n (λ j. sum q (λ i. R i (j + s))) ≤ total =
    sum_shift n s (λ j. sum q (λ i. R i j)) (λ y k. sum_zero q (λ i. R i y) (λ x m. unit_false (r x y) (λ e. let z : ⊥ = omega (arith, (inside x y e).1) in z))) in
    omega arith in
    let last = sum_const_le (suc reach) total (λ s. sum n (λ j. sum q (λ i. R (i + s) (j + s)))) each in
    rw (lhs, rhs) (omega arith)

pub mismatches_grow : (agree : ℕ → ℕ → Bool) (q t : List ℕ) (i j m d : ℕ) → mismatches agree q t i j m ≤ mismatches agree q t i j (m + d)
mismatches_grow agree q t i j m zero = rw add-zero (omega arith)
mismatches_grow agree q t i j m (suc d) = let a = mismatches_grow agree q t i j m d in rw add-suc (omega arith)

pub mismatches_shorter : (agree : ℕ → ℕ → Bool) (q t : List ℕ) (i j m' m : ℕ) → m' ≤ m → mismatches agree q t i j m' ≤ mismatches agree q t i j m
mismatches_shorter agree q t i j m' m h =
    let e : m' + (m - m') ≡ m = omega arith in
    subst (λ (z : ℕ). mismatches agree q t i j m' ≤ mismatches agree q t i j z) e (mismatches_grow agree q t i j m' (m - m'))

pub kept_longer : (agree : ℕ → ℕ → Bool) (a : Question) (t : List ℕ) → KeptLonger agree a t
kept_longer agree a t m' k' i j d some le kk w =
    let e = mismatches_shorter agree a.codes t i j m' a.m le in (
      mismatches agree a.codes t i j m',
      omega (arith, w.counted),
      record {
        some = some;
        in_query = omega (arith, w.in_query);
        in_trace = omega (arith, w.in_trace);
        counted = refl;
        few = omega (arith, w.counted, w.few);
      },
    )

pub at_most_one : (b : Bool) → cond b 0 1 ≤ 1
at_most_one true = omega arith
at_most_one false = omega arith

-- codes that agree are equal, so no more places differ than do not agree
pub differ_le : (agree : ℕ → ℕ → Bool) → ((a b : ℕ) → agree a b ≡ true → a ≡ b) → (q t : List ℕ) (i j m : ℕ) → mismatches eqb q t i j m ≤ mismatches agree q t i j m
differ_le agree law q t i j zero = omega arith
differ_le agree law q t i j (suc m) =
    let a = differ_le agree law q t i j m in
    let x : ℕ = get_or q (i + m) 0 in
    let y : ℕ = get_or t (j + m) 0 in
    let b : cond (eqb x y) 0 1 ≤ cond (agree x y) 0 1 =
    ⊎_elim (λ (e : agree x y ≡ true). rw (eq-eqb x y (law x y e)) (omega arith)) (λ (e : agree x y ≡ false). rw e (at_most_one (eqb x y))) (cases_Bool (agree x y)) in
    omega arith
