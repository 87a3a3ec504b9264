-- The numbers of the first i starts stand in the list.
use Rattle.std.proofs.Common.{◌≡◌, ℕ, suc, ◌+◌, ◌-◌, ◌*◌, ◌%◌, ◌^◌, ◌<◌, ◌≤◌, ◌≢◌, List, length, get_or, set, take, length-take-le, refl, ap, ◌∙◌, subst, arith, length-set, get_or-set_other, get_or-set_same, below_more}
use Rattle.filters.specs.Tuples.{tuple_number, starts, Numbered}
use Rattle.std.proofs.lemmas.List.{get_or-take}
use Rattle.filters.specs.Chains.{Chained}
use Rattle.filters.proofs.Chaining.{chained_ext}
use Rattle.filters.proofs.Digits.{rolls, number_small}

pub record Filling (l g : ℕ) (xs before after : List ℕ) (i : ℕ) : Type 0 where
  pub keeps : length after ≡ length before
  pub numbers : (x : ℕ) → x < i → get_or after x 0 ≡ tuple_number l g xs x
  pub rest : (x : ℕ) → i ≤ x → get_or after x 0 ≡ get_or before x 0

pub filling_none : (l g : ℕ) (xs a : List ℕ) → Filling l g xs a a 0
filling_none l g xs a = record { keeps = refl; numbers = λ x h. let z : ⊥ = omega arith in absurd z; rest = λ x h. refl }

pub filling_more : (l g : ℕ) (xs b a a' : List ℕ) (i v : ℕ) → Filling l g xs b a i → i < length b → v ≡ tuple_number l g xs i → a' ≡ set a i v → Filling l g xs b a' (i + 1)
filling_more l g xs b a a' i v m lt ev ea =
    let ia : i < length a = omega (arith, m.keeps) in
    record {
      keeps = ap length ea ∙ length-set a i v ∙ m.keeps;
      numbers = λ k h.
          below_more (λ k. get_or a' k 0 ≡ tuple_number l g xs k) i
          (λ k h. let ne : k ≢ i = omega arith in ap (λ z. get_or z k 0) ea ∙ (get_or-set_other a i k v 0 ne ∙ m.numbers k h))
          (ap (λ z. get_or z i 0) ea ∙ (get_or-set_same a i v 0 ia ∙ ev)) k h;
      rest = λ k h. let ne : k ≢ i = omega arith in ap (λ z. get_or z k 0) ea ∙ (get_or-set_other a i k v 0 ne ∙ m.rest k (omega arith));
    }

pub filling_done : (l g : ℕ) (xs b a : List ℕ) (i : ℕ) → i ≡ starts l g (length xs) → Filling l g xs b a i → Numbered l g xs b a
filling_done l g xs b a i e m = record { keeps = m.keeps; numbers = λ x h. m.numbers x (omega arith); rest = λ x h. m.rest x (omega arith) }

-- the number of the start i from that of the start i - g
pub rolls_to : (l g : ℕ) (xs : List ℕ) (i v p s : ℕ) → 0 < l → g ≤ i → v ≡ tuple_number l g xs (i - g) → p ≡ 640 ^ (l - 1) % 1021 → s ≡ (l - 1) * g →
    ((v + 1021 - get_or xs (i - g) 0 * p % 1021) * 640 + get_or xs (i + s) 0) % 1021 ≡ tuple_number l g xs i
rolls_to l g xs i v p s some h ev ep es =
    let el : suc (l - 1) ≡ l = omega arith in
    let ei : i - g + g ≡ i = omega arith in
    let r = rolls (l - 1) g xs (i - g) p ep in
    let r' = subst (λ (y : ℕ). ((tuple_number y g xs (i - g) + 1021 - get_or xs (i - g) 0 * p % 1021) * 640 + get_or xs (i - g + g + (l - 1) * g) 0) % 1021 ≡ tuple_number y g xs (i - g + g)) el r in
    let r'' = subst (λ (y : ℕ). ((tuple_number l g xs (i - g) + 1021 - get_or xs (i - g) 0 * p % 1021) * 640 + get_or xs (y + (l - 1) * g) 0) % 1021 ≡ tuple_number l g xs y) ei r' in
    rw (ev, es) r''

-- the front of the list, cut out
front_number : (l g : ℕ) (xs b a : List ℕ) (n i : ℕ) → Numbered l g xs b a → n ≡ starts l g (length xs) → i < n → get_or (take n a) i 0 ≡ tuple_number l g xs i
front_number l g xs b a n i m e h = get_or-take n a i 0 h ∙ m.numbers i (omega arith)

pub front_small : (l g : ℕ) (xs b a : List ℕ) (n i : ℕ) → Numbered l g xs b a → n ≡ starts l g (length xs) → i < n → get_or (take n a) i 0 < 1021
front_small l g xs b a n i m e h =
    let f = front_number l g xs b a n i m e h in
    let s = number_small l g xs i in
    omega arith

pub front_chained : (l g : ℕ) (xs b a : List ℕ) (n : ℕ) (heads links : List ℕ) → Numbered l g xs b a → n ≡ starts l g (length xs) → n ≤ length a →
    Chained (λ i. get_or (take n a) i 0) (length (take n a)) heads links → Chained (tuple_number l g xs) (starts l g (length xs)) heads links
front_chained l g xs b a n heads links m e le h =
    let k : length (take n a) ≡ starts l g (length xs) = length-take-le n a le ∙ e in
    chained_ext (λ i. get_or (take n a) i 0) (tuple_number l g xs) (starts l g (length xs)) heads links (λ i lt. front_number l g xs b a n i m e (omega arith))
    (subst (λ (z : ℕ). Chained (λ i. get_or (take n a) i 0) z heads links) k h)
