-- A fold over the places of a tuple makes its number.
use Rattle.std.proofs.Common.{◌≡◌, ℕ, zero, suc, ◌+◌, ◌*◌, ◌%◌, ◌<◌, ◌≤◌, List, [], ◌∷◌, get_or, sym, refl, ap, ◌∙◌, subst, arith, zero-add, add-zero}
use Rattle.std.specs.List.{fold, range_with_len, FoldsTo}
use Rattle.std.specs.Fn.{Takes}
use Rattle.std.specs.Iterator.{Yields, FoldTurn, CallableInFold}
use Rattle.std.specs.declared.ops.Range.{Range}
use Rattle.std.proofs.iter.Yields.{nat_range_steps}
use denote.Param.Members.{Mut}
use Rattle.filters.specs.Tuples.{tuple_number}
use Rattle.filters.proofs.Digits.{digits, digit, digits_step, digits_ext, number_digits}

-- the places so far, and those to come
digits_fold : (d : ℕ → ℕ) (n a v : ℕ) → v ≡ digits d a % 1021 → fold (λ v x. (v * 640 + d x) % 1021) v (range_with_len a n) ≡ digits d (a + n) % 1021
digits_fold d zero a v e = e ∙ ap (λ z. digits d z % 1021) (sym (add-zero a))
digits_fold d (suc n) a v e =
    digits_fold d n (a + 1) ((v * 640 + d a) % 1021) (digits_step d a v e) ∙ ap (λ z. digits d z % 1021) (let h : a + 1 + n ≡ a + suc n = omega arith in h)

pub number_fold : (l g : ℕ) (xs : List ℕ) (r : ℕ) → r ≡ fold (λ v x. (v * 640 + get_or xs (x * g) 0) % 1021) 0 (range_with_len 0 l) → r ≡ tuple_number l g xs 0
number_fold l g xs r e =
    e ∙ (digits_fold (λ x. get_or xs (x * g) 0) l 0 0 refl ∙ (ap (λ z. digits (λ x. get_or xs (x * g) 0) z % 1021) (zero-add l) ∙
    (ap (λ z. z % 1021) (digits_ext l (λ x. get_or xs (x * g) 0) (digit xs g 0) (λ x h. ap (λ z. get_or xs z 0) (sym (zero-add (x * g))))) ∙ sym (number_digits l g xs 0))))

within : (xs : List ℕ) (s t : Range ℕ) → Yields nat_range_steps s xs t → (t.end ≡ s.end) × (s.start ≤ t.start)
within [] s t y = (sym (ap (λ k. k.end) y), omega (arith, ap (λ (k : Range ℕ). k.start) y))
within (x ∷ xs) s t y = let h = within xs y.0 t y.2 in (h.0 ∙ y.1.0, omega (arith, h.1, y.1.1.2))

kept : {F C : Type 0} (g : Mut F (C × (ℕ × Unit {0})) C) → ((x : ℕ) (p q : F × C) → FoldTurn g p x q → q.0 ≡ p.0) → (xs : List ℕ) (p q : F × C) → FoldsTo (FoldTurn g) p xs q → q.0 ≡ p.0
kept {F} {C} g stays [] p q h = ap (λ (z : F × C). z.0) (sym h)
kept {F} {C} g stays (x ∷ xs) p q h = kept g stays xs h.0 q h.2 ∙ stays x p h.0 h.1

-- what a fold over a range asks its closure: places of the range alone
pub callable_in_range : {F C : Type 0} {g : Mut F (C × (ℕ × Unit {0})) C} {s : Range ℕ} {f : F} {a : C} →
    ((x : ℕ) (p q : F × C) → FoldTurn g p x q → q.0 ≡ p.0) → ((x : ℕ) (v : C) → s.start ≤ x → x < s.end → Takes g f (v, (x, tt))) → CallableInFold nat_range_steps g s f a
callable_in_range {F} {C} {g} {s} {f} {a} stays h = record {
  at = λ xs t q x u y r e.
      let w = within xs s t y in
      subst (λ k. Takes g k (q.1, (x, tt))) (sym (kept g stays xs (f, a) q r)) (h x q.1 (omega (arith, w.1, e.1.1)) (omega (arith, w.0, e.1.0, e.1.1)));
}
