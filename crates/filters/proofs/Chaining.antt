-- Chains of the places that have one number.
use Rattle.std.proofs.Common.{◌≡◌, ℕ, zero, suc, ◌+◌, ◌<◌, ◌≤◌, cond, eqb, ◌≢◌, List, length, get_or, set, replicate, Option, Some, None, sym, refl, ap, ◌∙◌, subst, ⊎_elim, add-one, arith, length-set, get_or-set_other, get_or-set_same, below_more}
use lib.ListN.{length-replicate, get_or-replicate}
use Rattle.std.proofs.lemmas.Bool.{cases_eq, eq-eqb, ne_eqb, cond-true, cond-false}
use Rattle.filters.specs.Chains.{latest, place, Chained}

pub latest_more : (f : ℕ → ℕ) (h n : ℕ) → latest f h (n + 1) ≡ cond (eqb (f n) h) (n + 1) (latest f h n)
latest_more f h n = rw (add-one n)

pub latest_here : (f : ℕ → ℕ) (h n : ℕ) → f n ≡ h → latest f h (suc n) ≡ suc n
latest_here f h n e = cond-true (eqb (f n) h) (suc n) (latest f h n) (eq-eqb (f n) h e)

pub latest_past : (f : ℕ → ℕ) (h n : ℕ) → (f n ≡ h → ⊥) → latest f h (suc n) ≡ latest f h n
latest_past f h n e = cond-false (eqb (f n) h) (suc n) (latest f h n) (ne_eqb (f n) h e)

pub latest_le : (f : ℕ → ℕ) (h n : ℕ) → latest f h n ≤ n
latest_le f h zero = omega arith
latest_le f h (suc n) =
    let ih = latest_le f h n in
    ⊎_elim (λ (e : f n ≡ h). let x = latest_here f h n e in omega arith) (λ (e : f n ≡ h → ⊥). let x = latest_past f h n e in omega arith)
    (cases_eq (f n) h)

-- the chain from where it leads
pub latest_stays : (f : ℕ → ℕ) (h n : ℕ) → latest f h (latest f h n) ≡ latest f h n
latest_stays f h zero = refl
latest_stays f h (suc n) =
    ⊎_elim (λ (e : f n ≡ h). ap (latest f h) (latest_here f h n e))
    (λ (e : f n ≡ h → ⊥). ap (latest f h) (latest_past f h n e) ∙ (latest_stays f h n ∙ sym (latest_past f h n e)))
    (cases_eq (f n) h)

-- no place that has the number lies past it
pub latest_last : (f : ℕ → ℕ) (h n x : ℕ) → x < n → f x ≡ h → x < latest f h n
latest_last f h zero x lt e = let z : ⊥ = omega arith in absurd z
latest_last f h (suc n) x lt e =
    ⊎_elim (λ (y : f n ≡ h). let w = latest_here f h n y in omega arith)
    (λ (y : f n ≡ h → ⊥).
    let w = latest_past f h n y in
    let ne : x ≢ n = λ z. y (subst (λ (v : ℕ). f v ≡ h) z e) in
    let r = latest_last f h n x (omega arith) e in
    omega arith)
    (cases_eq (f n) h)

-- a place that the chain leads to has the number
pub latest_has : (f : ℕ → ℕ) (h i : ℕ) → latest f h (suc i) ≡ suc i → f i ≡ h
latest_has f h i e =
    ⊎_elim (λ (y : f i ≡ h). y)
    (λ (y : f i ≡ h → ⊥). let w = latest_past f h i y in let v = latest_le f h i in let z : ⊥ = omega arith in absurd z)
    (cases_eq (f i) h)

pub latest_ext : (e f : ℕ → ℕ) (h n : ℕ) → ((x : ℕ) → x < n → e x ≡ f x) → latest e h n ≡ latest f h n
latest_ext e f h zero s = refl
latest_ext e f h (suc n) s =
    ap (λ z. cond (eqb z h) (suc n) (latest e h n)) (s n (omega arith)) ∙
    ap (λ z. cond (eqb (f n) h) (suc n) z) (latest_ext e f h n (λ x l. s x (omega arith)))

pub chained_ext : (e f : ℕ → ℕ) (n : ℕ) (a b : List ℕ) → ((x : ℕ) → x < n → e x ≡ f x) → Chained e n a b → Chained f n a b
chained_ext e f n a b s m = record {
  wide = m.wide;
  long = m.long;
  head = λ h l. m.head h l ∙ latest_ext e f h n s;
  link = λ i l. m.link i l ∙ (ap (λ z. latest e z i) (s i l) ∙ latest_ext e f (f i) i (λ x k. s x (omega arith)));
}

pub chained_more : (f : ℕ → ℕ) (i h : ℕ) (a b a' b' : List ℕ) → Chained f i a b → i < 1024 → f i ≡ h → h < 1021 → a' ≡ set a h (i + 1) → b' ≡ set b i (get_or a h 0) → Chained f (i + 1) a' b'
chained_more f i h a b a' b' m i4 e h1 ea eb =
    let ia : h < length a = omega (arith, m.wide) in
    let ib : i < length b = omega (arith, m.long) in
    record {
      wide = ap length ea ∙ (length-set a h (i + 1) ∙ m.wide);
      long = ap length eb ∙ (length-set b i (get_or a h 0) ∙ m.long);
      head = λ k l.
          ⊎_elim
          (λ (y : k ≡ h). ap (λ z. get_or a' z 0) y ∙ (ap (λ z. get_or z h 0) ea ∙ (get_or-set_same a h (i + 1) 0 ia ∙
          (sym (cond-true (eqb (f i) k) (i + 1) (latest f k i) (eq-eqb (f i) k (e ∙ sym y))) ∙ sym (latest_more f k i)))))
          (λ (y : k ≡ h → ⊥). ap (λ z. get_or z k 0) ea ∙ (get_or-set_other a h k (i + 1) 0 y ∙ (m.head k l ∙
          (sym (cond-false (eqb (f i) k) (i + 1) (latest f k i) (ne_eqb (f i) k (λ z. y (sym z ∙ e)))) ∙ sym (latest_more f k i)))))
          (cases_eq k h);
      link = λ k l.
          below_more (λ k. get_or b' k 0 ≡ latest f (f k) k) i
          (λ k l. let ne : k ≢ i = omega arith in ap (λ z. get_or z k 0) eb ∙ (get_or-set_other b i k (get_or a h 0) 0 ne ∙ m.link k l))
          (ap (λ z. get_or z i 0) eb ∙ (get_or-set_same b i (get_or a h 0) 0 ib ∙ (m.head h h1 ∙ ap (λ z. latest f z i) (sym e))))
          k l;
    }

pub chained_none : (f : ℕ → ℕ) → Chained f 0 (replicate 1021 0) (replicate 1024 0)
chained_none f = record {
  wide = length-replicate {A = ℕ} 1021 0;
  long = length-replicate {A = ℕ} 1024 0;
  head = λ h l. get_or-replicate {A = ℕ} 1021 h 0 0 l;
  link = λ i l. let z : ⊥ = omega arith in absurd z;
}

-- one more than a place, and 0 for none: what falls on the way along a chain
abbrev pub past : Option ℕ → ℕ
past None = 0
past (Some i) = suc i

pub past_place : (at : ℕ) → past (place at) ≡ at
past_place zero = refl
past_place (suc i) = refl
