-- The places at which two windows do not agree, counted in what is cut out.
use Rattle.std.proofs.Common.{◌≡◌, ℕ, zero, suc, ◌+◌, ◌<◌, ◌≤◌, Bool, true, false, not, cond, List, [], ◌∷◌, length, get_or, take, drop, Ok, length-drop, length-take-le, sym, refl, ap, ◌∙◌, arith, zero-add}
use Rattle.std.specs.List.{count_by, zip}
use Rattle.std.proofs.lemmas.List.{get_or-drop, get_or-take}
use Rattle.std.proofs.lemmas.List.Sums.{sum_by-cons}
use Rattle.std.proofs.lemmas.Bool.{lt-ltb, le-leb}
use Rattle.filters.specs.Matching.{mismatches, compared}

module _ (agree : ℕ → ℕ → Bool) where
  first : (x y : ℕ) (xs ys : List ℕ) (n : ℕ) → mismatches agree (x ∷ xs) (y ∷ ys) 0 0 (suc n) ≡ cond (agree x y) 0 1 + mismatches agree xs ys 0 0 n
  first x y xs ys zero = omega arith
  first x y xs ys (suc n) =
      let ih = first x y xs ys n in
      let a : get_or (x ∷ xs) (0 + suc n) 0 ≡ get_or xs (0 + n) 0 = ap (λ z. get_or (x ∷ xs) z 0) (zero-add (suc n)) ∙ ap (λ z. get_or xs z 0) (sym (zero-add n)) in
      let b : get_or (y ∷ ys) (0 + suc n) 0 ≡ get_or ys (0 + n) 0 = ap (λ z. get_or (y ∷ ys) z 0) (zero-add (suc n)) ∙ ap (λ z. get_or ys z 0) (sym (zero-add n)) in
      let e : ◌≡◌ {A = ℕ} (cond (agree (get_or (x ∷ xs) (0 + suc n) 0) (get_or (y ∷ ys) (0 + suc n) 0)) 0 1) (cond (agree (get_or xs (0 + n) 0) (get_or ys (0 + n) 0)) 0 1) =
      ap (λ z. cond (agree z (get_or (y ∷ ys) (0 + suc n) 0)) 0 1) a ∙ ap (λ z. cond (agree (get_or xs (0 + n) 0) z) 0 1) b in
      omega arith

  turned : (b : Bool) → ◌≡◌ {A = ℕ} (cond (not b) 1 0) (cond b 0 1)
  turned true = refl
  turned false = refl

  counted : (xs ys : List ℕ) → length xs ≡ length ys → count_by (λ (p : ℕ × ℕ). not (agree p.0 p.1)) (zip xs ys) ≡ mismatches agree xs ys 0 0 (length xs)
  counted [] ys e = refl
  counted (x ∷ xs) [] e = let z : ⊥ = omega arith in absurd z
  counted (x ∷ xs) (y ∷ ys) e =
      let f = first x y xs ys (length xs) in
      sum_by-cons (λ (p : ℕ × ℕ). cond (not (agree p.0 p.1)) 1 0) (x, y) (zip xs ys) ∙
      (ap (λ z. z + count_by (λ (p : ℕ × ℕ). not (agree p.0 p.1)) (zip xs ys)) (turned (agree x y)) ∙ (ap (λ z. cond (agree x y) 0 1 + z) (counted xs ys (omega arith)) ∙ sym f))

  cut : (m n : ℕ) (q t : List ℕ) (i j : ℕ) → n ≤ m → mismatches agree (take m (drop i q)) (take m (drop j t)) 0 0 n ≡ mismatches agree q t i j n
  cut m zero q t i j h = refl
  cut m (suc n) q t i j h =
      let ih = cut m n q t i j (omega arith) in
      let z = zero-add n in
      let a : get_or (take m (drop i q)) (0 + n) 0 ≡ get_or q (i + n) 0 = get_or-take m (drop i q) (0 + n) 0 (omega arith) ∙ (get_or-drop i q (0 + n) 0 ∙ ap (λ y. get_or q (i + y) 0) z) in
      let b : get_or (take m (drop j t)) (0 + n) 0 ≡ get_or t (j + n) 0 = get_or-take m (drop j t) (0 + n) 0 (omega arith) ∙ (get_or-drop j t (0 + n) 0 ∙ ap (λ y. get_or t (j + y) 0) z) in
      let e : ◌≡◌ {A = ℕ} (cond (agree (get_or (take m (drop i q)) (0 + n) 0) (get_or (take m (drop j t)) (0 + n) 0)) 0 1) (cond (agree (get_or q (i + n) 0) (get_or t (j + n) 0)) 0 1) =
      ap (λ z. cond (agree z (get_or (take m (drop j t)) (0 + n) 0)) 0 1) a ∙ ap (λ z. cond (agree (get_or q (i + n) 0) z) 0 1) b in
      omega arith

  -- what two windows that lie inside answer
  pub compared_inside : (m : ℕ) (q t : List ℕ) (i j : ℕ) (a b : List ℕ) (r : ℕ) → 0 < m → m ≤ 512 → i + m ≤ length q → j + m ≤ length t → a ≡ take m (drop i q) → b ≡ take m (drop j t) →
      r ≡ count_by (λ (p : ℕ × ℕ). not (agree p.0 p.1)) (zip a b) → Ok r ≡ compared agree q t i j m
  compared_inside m q t i j a b r some short iq jt ea eb er =
      let la : length a ≡ m = ap length ea ∙ length-take-le m (drop i q) (omega (arith, length-drop {A = ℕ})) in
      let lb : length b ≡ m = ap length eb ∙ length-take-le m (drop j t) (omega (arith, length-drop {A = ℕ})) in
      let e : r ≡ mismatches agree q t i j m =
      er ∙ (counted a b (la ∙ sym lb) ∙ (ap (λ z. mismatches agree a b 0 0 z) la ∙ (ap (λ z. mismatches agree z b 0 0 m) ea ∙ (ap (λ z. mismatches agree (take m (drop i q)) z 0 0 m) eb ∙
      cut m m q t i j (omega arith))))) in
      rw (lt-ltb 0 m some, le-leb m 512 short, le-leb (i + m) (length q) iq, le-leb (j + m) (length t) jt) (ap Ok e)
