-- Two filters of which the second must pass a place near to what the first passes.
use Rattle.std.specs.Prelude.{◌≡◌, ℕ, suc, ◌+◌, ◌-◌, ◌<◌, ◌≤◌, Bool, true, false, ◌&&◌, ◌||◌, Ok, Err, Result, nat_le}
use Rattle.std.proofs.Common.{ap, ◌∙◌, ⊎_elim, arith}
use Rattle.std.proofs.lemmas.Bool.{cases_lt, and_from, or_left, or_right, le-leb}
use Rattle.filters.specs.declared.refusal.Refusal.{Refusal}
use Rattle.filters.specs.Matching.{Question}
use Rattle.filters.specs.Filters.{Rule, Reach, Pattern, Necessary, StandsFor, Answered}
use Rattle.filters.specs.Questions.{near, near_pattern, beside, ahead, behind}
use Rattle.filters.specs.Counting.{any_at, any_none, any_same}

pub ahead_at : (p : ℕ → ℕ → Bool) (r i j d : ℕ) → d ≤ r → p (i + d) (j + d) ≡ true → ahead p r i j ≡ true
ahead_at p r i j d h e = any_at (λ x. p (i + x) (j + x)) (suc r) d (omega arith) e

pub behind_at : (p : ℕ → ℕ → Bool) (r i j d : ℕ) → d ≤ r → d ≤ i → d ≤ j → p (i - d) (j - d) ≡ true → behind p r i j ≡ true
behind_at p r i j d h x y e =
    any_at (λ z. nat_le z i && (nat_le z j && p (i - z) (j - z))) (suc r) d (omega arith)
    (and_from (nat_le d i) _ (le-leb d i x) (and_from (nat_le d j) _ (le-leb d j y) e))

pub near_necessary : (f : Rule) (rf : Reach) (s : Rule) (rs : Reach) → Necessary f rf → Necessary s rs → Necessary (near f rf s rs) rf
near_necessary f rf s rs nf ns a t i j d km w =
    let p = nf a t i j d km w in
    let q = ns a t i j d km w in
    let x : ℕ = p.0 in
    let y : ℕ = q.0 in (
      x,
      p.1,
      and_from (f a t (i + x) (j + x)) _ p.2
          (⊎_elim
          (λ (lt : y < x). or_right (ahead (s a t) (rs a.m a.k) (i + x) (j + x)) _
          (behind_at (s a t) (rf a.m a.k) (i + x) (j + x) (x - y) (omega (arith, p.1)) (omega arith) (omega arith)
          (let e1 : i + x - (x - y) ≡ i + y = omega arith in
          let e2 : j + x - (x - y) ≡ j + y = omega arith in
          rw (e1, e2) q.2)))
          (λ (le : x ≤ y). or_left _ _
          (ahead_at (s a t) (rs a.m a.k) (i + x) (j + x) (y - x) (omega (arith, q.1))
          (let e1 : i + x + (y - x) ≡ i + y = omega arith in
          let e2 : j + x + (y - x) ≡ j + y = omega arith in
          rw (e1, e2) q.2)))
          (cases_lt y x)),
    )

pub ahead_none : (p : ℕ → ℕ → Bool) (r i j : ℕ) → ((d : ℕ) → d < suc r → p (i + d) (j + d) ≡ false) → ahead p r i j ≡ false
ahead_none p r i j h = any_none (λ x. p (i + x) (j + x)) (suc r) h

pub behind_none : (p : ℕ → ℕ → Bool) (r i j : ℕ) → ((d : ℕ) → d < suc r → (nat_le d i && (nat_le d j && p (i - d) (j - d))) ≡ false) → behind p r i j ≡ false
behind_none p r i j h = any_none (λ z. nat_le z i && (nat_le z j && p (i - z) (j - z))) (suc r) h

ahead_same : (p q : ℕ → ℕ → Bool) (r i j : ℕ) → ((i j : ℕ) → p i j ≡ q i j) → ahead p r i j ≡ ahead q r i j
ahead_same p q r i j h = any_same (λ d. p (i + d) (j + d)) (λ d. q (i + d) (j + d)) (suc r) (λ d. h (i + d) (j + d))

behind_same : (p q : ℕ → ℕ → Bool) (r i j : ℕ) → ((i j : ℕ) → p i j ≡ q i j) → behind p r i j ≡ behind q r i j
behind_same p q r i j h =
    any_same (λ d. nat_le d i && (nat_le d j && p (i - d) (j - d))) (λ d. nat_le d i && (nat_le d j && q (i - d) (j - d))) (suc r)
    (λ d. ap (λ z. nat_le d i && (nat_le d j && z)) (h (i - d) (j - d)))

beside_same : (f f' : ℕ → ℕ → Bool) (rf rf' : ℕ) (s s' : ℕ → ℕ → Bool) (rs rs' i j : ℕ) → ((i j : ℕ) → f i j ≡ f' i j) → rf ≡ rf' → ((i j : ℕ) → s i j ≡ s' i j) → rs ≡ rs' → beside f rf s rs i j ≡ beside f' rf' s' rs' i j
beside_same f f' rf rf' s s' rs rs' i j ef er es eq =
    ap (λ z. z && (ahead s rs i j || behind s rf i j)) (ef i j) ∙
    (ap (λ z. f' i j && (z || behind s rf i j)) (ahead_same s s' rs i j es ∙ ap (λ (z : ℕ). ahead s' z i j) eq) ∙
    ap (λ z. f' i j && (ahead s' rs' i j || z)) (behind_same s s' rf i j es ∙ ap (λ (z : ℕ). behind s' z i j) er))

-- two filters that stand for one question do so together
pub near_stands : (f : Rule) (rf : Reach) (s : Rule) (rs : Reach) (p q : Pattern) (a : Question) → StandsFor f rf p a → StandsFor s rs q a → StandsFor (near f rf s rs) rf (near_pattern p q) a
near_stands f rf s rs p q a x y = record {
  fair = x.fair;
  size = x.size;
  span = x.span;
  marks = λ t i j. beside_same (p.marks t) (f a t) p.span (rf a.m a.k) (q.marks t) (s a t) q.span (rs a.m a.k) i j (x.marks t) x.span (y.marks t) y.span;
}

-- the second does not refuse what the first took
pub near_set : (f : Rule) (rf : Reach) (s : Rule) (rs : Reach) (p q : Pattern) (a : Question) (v r : Result (Unit {0}) Refusal) (X Y : Type 0) → Ok tt ≡ v → r ≡ v → StandsFor f rf p a → Answered r (StandsFor s rs q a) X → Answered r (StandsFor (near f rf s rs) rf (near_pattern p q) a) Y
near_set f rf s rs p q a v (Ok _) X Y ok e x y = near_stands f rf s rs p q a x y
near_set f rf s rs p q a v (Err _) X Y ok e x y = let z : ◌≡◌ {A = ℕ} 0 1 = cc in let w : ⊥ = omega arith in absurd w
