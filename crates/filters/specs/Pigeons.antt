-- The pigeonhole lemma: places in k + 1 classes, of which at most k fail a test, leave a class in which none fails.
use Rattle.std.specs.Prelude.{◌≡◌, ℕ, zero, suc, ◌+◌, ◌*◌, ◌/◌, ◌%◌, ◌<◌, ◌≤◌, Bool, true, false, cond, not, ◌||◌, ◌==◌, ◌≢◌, refl}
use Rattle.std.proofs.Common.{sym, ⊎_elim, arith, mul-le-mul_right, mul_comm, suc-mul}
use Rattle.std.proofs.Math.Arith.{digits_lt}
use Rattle.std.proofs.lemmas.Nat.{div-mul-add, mod-mul-add}
use Rattle.std.proofs.lemmas.Bool.{cases_Bool, cases_eq, and_from, or_left, or_right, or_cases, ne_eqb, eq-eqb, not_from_false, both_ways, not-true}
use Rattle.filters.specs.Questions.{misses, every}
use Rattle.filters.specs.Counting.{decides_every}

cond_less : (a b : Bool) → (b ≡ true → a ≡ true) → cond a 0 1 ≤ cond b 0 1
cond_less a true h = rw (h refl) (omega arith)
cond_less true false h = omega arith
cond_less false false h = omega arith

cond_one : (a : Bool) → cond a 0 1 ≤ 1
cond_one true = omega arith
cond_one false = omega arith

cond_zero : (a : Bool) → a ≡ false → 1 ≤ cond a 0 1
cond_zero a e = rw e (omega arith)

pub misses_mono : (g h : ℕ → Bool) (n : ℕ) → ((c : ℕ) → c < n → h c ≡ true → g c ≡ true) → misses g n ≤ misses h n
misses_mono g h zero q = omega arith
misses_mono g h (suc n) q =
    let a = misses_mono g h n (λ c l. q c (omega arith)) in
    let b = cond_less (g n) (h n) (q n (omega arith)) in
    omega arith

misses_one : (g h : ℕ → Bool) (x n : ℕ) → ((c : ℕ) → c < n → (c ≢ x) → h c ≡ true → g c ≡ true) → misses g n ≤ suc (misses h n)
misses_one g h x zero q = omega arith
misses_one g h x (suc n) q =
    ⊎_elim
    (λ (e : n ≡ x).
    let a = misses_mono g h n (λ c l. q c (omega arith) (λ f. omega arith)) in
    let b = cond_one (g n) in
    omega arith)
    (λ (e : n ≡ x → ⊥).
    let a = misses_one g h x n (λ c l. q c (omega arith)) in
    let b = cond_less (g n) (h n) (q n (omega arith) e) in
    omega arith)
    (cases_eq n x)

misses_none : (g : ℕ → Bool) (n : ℕ) → ((c : ℕ) → g c ≡ true) → misses g n ≡ 0
misses_none g zero q = refl
misses_none g (suc n) q = rw (q n, misses_none g n q)

misses_some : (g : ℕ → Bool) (n : ℕ) → misses g n < n → (c : ℕ) × (c < n) × (g c ≡ true)
misses_some g zero h = let z : ⊥ = omega arith in absurd z
misses_some g (suc n) h =
    ⊎_elim
    (λ (e : g n ≡ true). (n, omega arith, e))
    (λ (e : g n ≡ false).
    let z = cond_zero (g n) e in
    let r = misses_some g n (omega arith) in
    (r.0, omega (arith, r.1), r.2))
    (cases_Bool (g n))

-- none of the places below n of the class c fails
abbrev clean : (ℕ → Bool) → (ℕ → ℕ) → ℕ → ℕ → Bool
clean p f n c = every (λ t. not (f t == c) || p t) n

clean_misses : (p : ℕ → Bool) (f : ℕ → ℕ) (n k : ℕ) → misses (clean p f n) k ≤ misses p n
clean_misses p f zero k = rw (misses_none (clean p f zero) k (λ c. refl)) (omega arith)
clean_misses p f (suc n) k =
    let a = clean_misses p f n k in
    ⊎_elim
    (λ (e : p n ≡ true).
    let b = misses_mono (clean p f (suc n)) (clean p f n) k (λ c l h. and_from (not (f n == c) || p n) (clean p f n c) (or_right (not (f n == c)) (p n) e) h) in
    omega arith)
    (λ (e : p n ≡ false).
    let z = cond_zero (p n) e in
    let b = misses_one (clean p f (suc n)) (clean p f n) (f n) k
    (λ c l d h. and_from (not (f n == c) || p n) (clean p f n c) (or_left (not (f n == c)) (p n) (not_from_false (f n == c) (ne_eqb (f n) c (λ x. d (sym x))))) h) in
    omega arith)
    (cases_Bool (p n))

pub pigeon : (p : ℕ → Bool) (f : ℕ → ℕ) (m k : ℕ) → misses p m ≤ k → (c : ℕ) × (c ≤ k) × ((t : ℕ) → t < m → f t ≡ c → p t ≡ true)
pigeon p f m k h =
    let a = clean_misses p f m (suc k) in
    let r = misses_some (clean p f m) (suc k) (omega arith) in
    let c : ℕ = r.0 in (
      c,
      omega (arith, r.1),
      λ t l e.
          ⊎_elim
          (λ (x : not (f t == c) ≡ true). absurd (both_ways (f t == c) (not-true (f t == c) x) (eq-eqb (f t) c e)))
          (λ (y : p t ≡ true). y)
          (or_cases (not (f t == c)) (p t) ((decides_every (λ u. not (f u == c) || p u) m).0 r.2 t l)),
    )

-- a run of l places that pass, where k + 1 of them fit
pub run : (p : ℕ → Bool) (m k l : ℕ) → l * suc k ≤ m → misses p m ≤ k → (s : ℕ) × (s + l ≤ m) × ((t : ℕ) → t < l → p (s + t) ≡ true)
run p m k l fits h =
    let r = pigeon p (λ t. t / l) m k h in
    let c : ℕ = r.0 in
    let cl : c * l + l ≤ m = omega (arith, mul-le-mul_right l r.1, mul_comm l (suc k), suc-mul k l) in
    (c * l, cl, λ t lt. r.2 (c * l + t) (omega arith) (div-mul-add c l t lt))

-- l places that pass, k + 1 apart
pub comb : (p : ℕ → Bool) (m k l : ℕ) → l * suc k ≤ m → misses p m ≤ k → (s : ℕ) × (s ≤ k) × ((t : ℕ) → t < l → p (t * suc k + s) ≡ true)
comb p m k l fits h =
    let r = pigeon p (λ t. t % suc k) m k h in
    let c : ℕ = r.0 in
    let ck : c < suc k = omega (arith, r.1) in
    (c, r.1, λ t lt. r.2 (t * suc k + c) (omega (arith, digits_lt lt ck)) (mod-mul-add t (suc k) c ck))
