-- The array that tells how far ahead the next passed place is.
use Rattle.std.proofs.Common.{◌≡◌, ℕ, zero, suc, ◌+◌, ◌-◌, ◌<◌, ◌≤◌, Bool, true, false, cond, eqb, ltb, leb, List, get_or, sym, refl, ap, ◌∙◌, subst, ⊎_elim, arith}
use Rattle.std.proofs.lemmas.Bool.{cases_Bool, cases_lt, both_ways, lt-ltb, le-ltb, le-leb, lt-leb}
use Rattle.filters.specs.Matching.{count}
use Rattle.filters.specs.Questions.{ahead}
use Rattle.filters.specs.Pairing.{ahead_at, ahead_none}
use Rattle.search.specs.Scans.{nearer, quieter}
use Rattle.search.proofs.Sums.{sum_at, count_sum}

-- a place that is passed at most r behind (i, j) is told, and what is told at most r is passed
pub record Told (p : ℕ → ℕ → Bool) (q r j : ℕ) (told : List ℕ) : Type 0 where
  pub near : (i s : ℕ) → s ≤ r → p (i + s) (j + s) ≡ true → get_or told i 0 ≤ s
  pub there : (i : ℕ) → i ≤ q → get_or told i 0 ≤ r → p (i + get_or told i 0) (j + get_or told i 0) ≡ true

-- nothing is passed in the n rows from j on
abbrev pub Quiet : (ℕ → ℕ → Bool) → ℕ → ℕ → Type 0
Quiet p n j = (x s : ℕ) → s < n → p x (j + s) ≡ false

abbrev one : Bool → ℕ
one b = cond b 1 0

nearer_le : (cap mark next : ℕ) → nearer cap mark next ≤ next + 1
nearer_le cap mark next = elim (eqb mark 0) as (λ v. cond v (cond (ltb next cap) (next + 1) cap) 0 ≤ next + 1) [
  | true ↦ ⊎_elim (λ (h : next < cap). rw (lt-ltb next cap h) (omega arith)) (λ (h : cap ≤ next). rw (le-ltb next cap h) (omega arith)) (cases_lt next cap)
  | false ↦ omega arith
]

nearer_zero : (cap mark next : ℕ) → mark ≡ 1 → nearer cap mark next ≡ 0
nearer_zero cap mark next e = rw e refl

nearer_next : (cap mark next : ℕ) → mark ≡ 0 → next < cap → nearer cap mark next ≡ next + 1
nearer_next cap mark next e l = rw (e, lt-ltb next cap l) refl

nearer_cap : (cap mark next : ℕ) → mark ≡ 0 → cap ≤ next → nearer cap mark next ≡ cap
nearer_cap cap mark next e l = rw (e, le-ltb next cap l) refl

near_step : (p : ℕ → ℕ → Bool) (q r cap j : ℕ) (marks old new : List ℕ) → ((i y : ℕ) → p i y ≡ true → i < q) → ((i s : ℕ) → s ≤ r → p (i + s) (suc j + s) ≡ true → get_or old i 0 ≤ s) → ((i : ℕ) → i < q → get_or marks i 0 ≡ cond (p i j) 1 0) → ((i : ℕ) → i < q → get_or new i 0 ≡ nearer cap (get_or marks i 0) (get_or old (suc i) 0)) → (i s : ℕ) → s ≤ r → p (i + s) (j + s) ≡ true → get_or new i 0 ≤ s
near_step p q r cap j marks old new inside near marked told i zero le e =
    let e' : p i j ≡ true = subst (λ (z : ℕ). p z j ≡ true) (let w : i + 0 ≡ i = omega arith in w) (subst (λ (z : ℕ). p (i + 0) z ≡ true) (let w : j + 0 ≡ j = omega arith in w) e) in
    let l : i < q = inside i j e' in
    let m : get_or marks i 0 ≡ 1 = marked i l ∙ ap one e' in
    let z = nearer_zero cap (get_or marks i 0) (get_or old (suc i) 0) m in
    omega (arith, told i l)
near_step p q r cap j marks old new inside near marked told i (suc s) le e =
    let l : i < q = omega (arith, inside (i + suc s) (j + suc s) e) in
    let wi : i + suc s ≡ suc i + s = omega arith in
    let wj : j + suc s ≡ suc j + s = omega arith in
    let e' : p (suc i + s) (suc j + s) ≡ true = subst (λ (z : ℕ). p z (suc j + s) ≡ true) wi (subst (λ (z : ℕ). p (i + suc s) z ≡ true) wj e) in
    let n = near (suc i) s (omega arith) e' in
    let z = nearer_le cap (get_or marks i 0) (get_or old (suc i) 0) in
    omega (arith, told i l)

-- a place at a distance that is known by an equation
passed_at : (p : ℕ → ℕ → Bool) (i j d d' i' j' : ℕ) → i + d ≡ i' → j + d ≡ j' → d' ≡ d → p i' j' ≡ true → p (i + d') (j + d') ≡ true
passed_at p i j d d' i' j' ei ej ed e =
    subst (λ (z : ℕ). p (i + z) (j + z) ≡ true) (sym ed)
    (subst (λ (z : ℕ). p z (j + d) ≡ true) (sym ei) (subst (λ (z : ℕ). p i' z ≡ true) (sym ej) e))

there_step : (p : ℕ → ℕ → Bool) (q r j : ℕ) (marks old new : List ℕ) → ((i y : ℕ) → p i y ≡ true → i < q) → ((i : ℕ) → i ≤ q → get_or old i 0 ≤ r → p (i + get_or old i 0) (suc j + get_or old i 0) ≡ true) → ((i : ℕ) → i < q → get_or marks i 0 ≡ cond (p i j) 1 0) → ((i : ℕ) → i < q → get_or new i 0 ≡ nearer (r + 1) (get_or marks i 0) (get_or old (suc i) 0)) → ((i : ℕ) → q ≤ i → get_or new i 0 ≡ get_or old i 0) → (i : ℕ) → i ≤ q → get_or new i 0 ≤ r → p (i + get_or new i 0) (j + get_or new i 0) ≡ true
there_step p q r j marks old new inside there marked told rest i le small =
    ⊎_elim
    (λ (l : i < q).
    ⊎_elim
    (λ (e : p i j ≡ true).
    let z = told i l ∙ nearer_zero (r + 1) (get_or marks i 0) (get_or old (suc i) 0) (marked i l ∙ ap one e) in
    passed_at p i j 0 (get_or new i 0) i j (omega arith) (omega arith) z e)
    (λ (e : p i j ≡ false).
    let m : get_or marks i 0 ≡ 0 = marked i l ∙ ap one e in
    ⊎_elim
    (λ (h : get_or old (suc i) 0 < r + 1).
    let z = told i l ∙ nearer_next (r + 1) (get_or marks i 0) (get_or old (suc i) 0) m h in
    let y = there (suc i) (omega arith) (omega arith) in
    passed_at p i j (get_or old (suc i) 0 + 1) (get_or new i 0) (suc i + get_or old (suc i) 0) (suc j + get_or old (suc i) 0) (omega arith) (omega arith) z y)
    (λ (h : r + 1 ≤ get_or old (suc i) 0).
    let z = told i l ∙ nearer_cap (r + 1) (get_or marks i 0) (get_or old (suc i) 0) m h in
    let w : ⊥ = omega arith in absurd w)
    (cases_lt (get_or old (suc i) 0) (r + 1)))
    (cases_Bool (p i j)))
    (λ (l : q ≤ i).
    let z = rest i l in
    let y = inside (i + get_or old i 0) (suc j + get_or old i 0) (there i le (omega arith)) in
    let w : ⊥ = omega arith in absurd w)
    (cases_lt i q)

-- the array after a row that was not skipped
pub told_step : (p : ℕ → ℕ → Bool) (q r j : ℕ) (marks old new : List ℕ) → ((i y : ℕ) → p i y ≡ true → i < q) → 0 < j → Told p q r j old → ((i : ℕ) → i < q → get_or marks i 0 ≡ cond (p i (j - 1)) 1 0) → ((i : ℕ) → i < q → get_or new i 0 ≡ nearer (r + 1) (get_or marks i 0) (get_or old (suc i) 0)) → ((i : ℕ) → q ≤ i → get_or new i 0 ≡ get_or old i 0) → Told p q r (j - 1) new
told_step p q r zero marks old new inside pos w marked told rest = absurd (let z : ⊥ = omega arith in z)
told_step p q r (suc j) marks old new inside pos w marked told rest =
    let e : suc j - 1 ≡ j = omega arith in
    let marked' = subst (λ (z : ℕ). (i : ℕ) → i < q → get_or marks i 0 ≡ cond (p i z) 1 0) e marked in
    subst (λ (z : ℕ). Told p q r z new) (sym e)
    (record {
      near = near_step p q r (r + 1) j marks old new inside w.near marked' told;
      there = there_step p q r j marks old new inside w.there marked' told rest;
    })

-- the array after a row that was skipped
pub told_skip : (p : ℕ → ℕ → Bool) (q r j n : ℕ) (told : List ℕ) → 0 < j → Told p q r j told → Quiet p n (j - 1) → r + 1 < n → Told p q r (j - 1) told
told_skip p q r zero n told pos w quiet l = absurd (let z : ⊥ = omega arith in z)
told_skip p q r (suc j) n told pos w quiet' l =
    let e : suc j - 1 ≡ j = omega arith in
    let quiet : Quiet p n j = subst (λ (z : ℕ). Quiet p n z) e quiet' in
    subst (λ (z : ℕ). Told p q r z told) (sym e)
    (record {
      near = λ i s le h. absurd (both_ways (p (i + s) (j + s)) (quiet (i + s) s (omega arith)) h);
      there = λ i le small.
          let x : ℕ = get_or told i 0 in
          let w' : suc j + x ≡ j + suc x = omega arith in
          let h = subst (λ (z : ℕ). p (i + x) z ≡ true) w' (w.there i le small) in
          absurd (both_ways (p (i + x) (j + suc x)) (quiet (i + x) (suc x) (omega arith)) h);
    })

pub told_start : (p : ℕ → ℕ → Bool) (q r j n : ℕ) (told : List ℕ) → ((i y : ℕ) → p i y ≡ true → y < n) → j ≡ n → ((i : ℕ) → i ≤ q → get_or told i 0 ≡ r + 1) → Told p q r j told
told_start p q r j n told inside e blank = record {
  near = λ i s le h. let z : ⊥ = omega (arith, inside (i + s) (j + s) h) in absurd z;
  there = λ i le small. let z : ⊥ = omega (arith, blank i le) in absurd z;
}

-- the array decides whether some place is passed at most r behind
pub told_ahead : (p : ℕ → ℕ → Bool) (q r j : ℕ) (told : List ℕ) → Told p q r j told → (i : ℕ) → i ≤ q → leb (get_or told i 0) r ≡ ahead p r i j
told_ahead p q r j told w i le =
    ⊎_elim
    (λ (h : r < get_or told i 0).
    lt-leb (get_or told i 0) r h ∙
    sym (ahead_none p r i j (λ d l. ⊎_elim (λ (e : p (i + d) (j + d) ≡ true). let z : ⊥ = omega (arith, w.near i d (omega arith) e) in absurd z) (λ (e : p (i + d) (j + d) ≡ false). e) (cases_Bool (p (i + d) (j + d))))))
    (λ (h : get_or told i 0 ≤ r). le-leb (get_or told i 0) r h ∙ sym (ahead_at p r i j (get_or told i 0) h (w.there i le h)))
    (cases_lt r (get_or told i 0))

count_none : (n : ℕ) (p : ℕ → Bool) (x : ℕ) → count n p ≡ 0 → x < n → p x ≡ false
count_none n p x e l =
    ⊎_elim (λ (t : p x ≡ true). let a : one (p x) ≡ 1 = ap one t in let z : ⊥ = omega (arith, sum_at n x (λ x. cond (p x) 1 0) l, count_sum n p) in absurd z) (λ (f : p x ≡ false). f)
    (cases_Bool (p x))

quieter_le : (r row n : ℕ) → quieter r row n ≤ n + 1
quieter_le r row n = elim (ltb 0 row) as (λ v. cond v 0 (cond (leb n r) (n + 1) n) ≤ n + 1)
    [ true ↦ omega arith | false ↦ elim (leb n r) as (λ v. cond v (n + 1) n ≤ n + 1) [ true ↦ omega arith | false ↦ omega arith ] ]

quieter_some : (r row n : ℕ) → 0 < row → quieter r row n ≡ 0
quieter_some r row n l = rw (lt-ltb 0 row l) refl

quiet_back : (p : ℕ → ℕ → Bool) (q r j n row : ℕ) → ((i y : ℕ) → p i y ≡ true → i < q) → Quiet p n (suc j) → row ≡ count q (λ i. p i j) → Quiet p (quieter r row n) j
quiet_back p q r j n row inside quiet e x zero l =
    let w : j + 0 ≡ j = omega arith in
    subst (λ (z : ℕ). p x z ≡ false) (sym w)
    (⊎_elim (λ (h : 0 < row). let z : ⊥ = omega (arith, quieter_some r row n h) in absurd z)
    (λ (h : row ≤ 0).
    ⊎_elim (λ (t : p x j ≡ true). count_none q (λ i. p i j) x (omega arith) (inside x j t)) (λ (f : p x j ≡ false). f) (cases_Bool (p x j)))
    (cases_lt 0 row))
quiet_back p q r j n row inside quiet e x (suc s) l =
    let w : j + suc s ≡ suc j + s = omega arith in
    subst (λ (z : ℕ). p x z ≡ false) (sym w) (quiet x s (omega (arith, quieter_le r row n)))

pub quiet_step : (p : ℕ → ℕ → Bool) (q r j n row : ℕ) → ((i y : ℕ) → p i y ≡ true → i < q) → 0 < j → Quiet p n j → row ≡ count q (λ i. p i (j - 1)) → Quiet p (quieter r row n) (j - 1)
quiet_step p q r j n row inside pos quiet e =
    let w : j ≡ suc (j - 1) = omega arith in
    quiet_back p q r (j - 1) n row inside (subst (λ (z : ℕ). Quiet p n z) w quiet) e
