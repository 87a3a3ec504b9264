-- A tuple that is cut out of a list.
use Rattle.std.proofs.Common.{◌≡◌, ℕ, zero, suc, ◌+◌, ◌-◌, ◌*◌, ◌%◌, ◌<◌, ◌≤◌, true, false, ◌&&◌, eqb, ltb, List, length, get_or, take, drop, sym, refl, ap, ◌∙◌, ⊎_elim, arith, length-drop, zero-add}
use Rattle.std.proofs.lemmas.List.{get_or-drop}
use Rattle.std.proofs.lemmas.Slice.{between_to_end}
use Rattle.std.proofs.lemmas.Bool.{cases_lt, lt-ltb, le-ltb}
use Rattle.filters.specs.Questions.{every}
use Rattle.filters.specs.Counting.{decides_every, every_not}
use Rattle.filters.specs.Tuples.{tuple_number, same_digit, same_tuple}
use Rattle.filters.proofs.Digits.{digit, digits_ext, number_digits}

pub digit_cut : (xs : List ℕ) (g i x : ℕ) → digit (drop i xs) g 0 x ≡ digit xs g i x
digit_cut xs g i x = get_or-drop i xs (0 + x * g) 0 ∙ ap (λ z. get_or xs (i + z) 0) (zero-add (x * g))

pub number_cut : (l g : ℕ) (xs : List ℕ) (i : ℕ) → tuple_number l g (drop i xs) 0 ≡ tuple_number l g xs i
number_cut l g xs i =
    number_digits l g (drop i xs) 0 ∙ (ap (λ z. z % 1021) (digits_ext l (digit (drop i xs) g 0) (digit xs g i) (λ x h. digit_cut xs g i x)) ∙ sym (number_digits l g xs i))

every_cut : (l g : ℕ) (xs ys : List ℕ) (i j : ℕ) → every (same_digit g (drop i xs) (drop j ys) 0 0) l ≡ every (same_digit g xs ys i j) l
every_cut zero g xs ys i j = refl
every_cut (suc l) g xs ys i j =
    ap (λ z. eqb z (digit (drop j ys) g 0 l) && every (same_digit g (drop i xs) (drop j ys) 0 0) l) (digit_cut xs g i l) ∙
    (ap (λ z. eqb (digit xs g i l) z && every (same_digit g (drop i xs) (drop j ys) 0 0) l) (digit_cut ys g j l) ∙
    ap (λ z. same_digit g xs ys i j l && z) (every_cut l g xs ys i j))

inside_cut : (xs : List ℕ) (i s : ℕ) → ltb (0 + s) (length (drop i xs)) ≡ ltb (i + s) (length xs)
inside_cut xs i s =
    let n : length (drop i xs) ≡ length xs - i = length-drop i xs in
    ⊎_elim
    (λ (y : i + s < length xs). lt-ltb (0 + s) (length (drop i xs)) (omega arith) ∙ sym (lt-ltb (i + s) (length xs) y))
    (λ (y : length xs ≤ i + s). le-ltb (0 + s) (length (drop i xs)) (omega arith) ∙ sym (le-ltb (i + s) (length xs) y))
    (cases_lt (i + s) (length xs))

pub same_cut : (l g : ℕ) (xs ys : List ℕ) (i j : ℕ) → same_tuple l g (drop i xs) (drop j ys) 0 0 ≡ same_tuple l g xs ys i j
same_cut l g xs ys i j =
    ap (λ z. z && (ltb (0 + (l - 1) * g) (length (drop j ys)) && every (same_digit g (drop i xs) (drop j ys) 0 0) l)) (inside_cut xs i ((l - 1) * g)) ∙
    (ap (λ z. ltb (i + (l - 1) * g) (length xs) && (z && every (same_digit g (drop i xs) (drop j ys) 0 0) l)) (inside_cut ys j ((l - 1) * g)) ∙
    ap (λ z. ltb (i + (l - 1) * g) (length xs) && (ltb (j + (l - 1) * g) (length ys) && z)) (every_cut l g xs ys i j))

-- the same of slices up to the end
pub number_rest : (l g : ℕ) (xs : List ℕ) (i : ℕ) → tuple_number l g (take (length xs - i) (drop i xs)) 0 ≡ tuple_number l g xs i
number_rest l g xs i = ap (λ z. tuple_number l g z 0) (between_to_end xs i (length xs) (omega arith)) ∙ number_cut l g xs i

pub same_rest : (l g : ℕ) (xs ys : List ℕ) (i : ℕ) → same_tuple l g (take (length xs - i) (drop i xs)) ys 0 0 ≡ same_tuple l g xs ys i 0
same_rest l g xs ys i = ap (λ z. same_tuple l g z ys 0 0) (between_to_end xs i (length xs) (omega arith)) ∙ same_cut l g xs ys i 0

-- the code x of the tuples that two lists begin with
digit_front : (g : ℕ) (xs ys : List ℕ) (x : ℕ) → same_digit g xs ys 0 0 x ≡ eqb (get_or xs (x * g) 0) (get_or ys (x * g) 0)
digit_front g xs ys x = rw (zero-add (x * g))

every_front : (l g : ℕ) (xs ys : List ℕ) → (l - 1) * g < length xs → (l - 1) * g < length ys → same_tuple l g xs ys 0 0 ≡ every (same_digit g xs ys 0 0) l
every_front l g xs ys a b = rw (lt-ltb (0 + (l - 1) * g) (length xs) (omega arith), lt-ltb (0 + (l - 1) * g) (length ys) (omega arith))

pub same_front : (l g : ℕ) (xs ys : List ℕ) → (l - 1) * g < length xs → (l - 1) * g < length ys → ((x : ℕ) → x < l → eqb (get_or xs (x * g) 0) (get_or ys (x * g) 0) ≡ true) → same_tuple l g xs ys 0 0 ≡ true
same_front l g xs ys a b h = every_front l g xs ys a b ∙ (decides_every (same_digit g xs ys 0 0) l).1 (λ x lt. digit_front g xs ys x ∙ h x lt)

pub not_same_front : (l g : ℕ) (xs ys : List ℕ) (x : ℕ) → (l - 1) * g < length xs → (l - 1) * g < length ys → x < l → eqb (get_or xs (x * g) 0) (get_or ys (x * g) 0) ≡ false → same_tuple l g xs ys 0 0 ≡ false
not_same_front l g xs ys x a b h e = every_front l g xs ys a b ∙ every_not (same_digit g xs ys 0 0) l x h (digit_front g xs ys x ∙ e)

-- two tuples that were cut out are what a rule asks for
pub same_where : (l g l' g' : ℕ) (xs xs' ys us vs : List ℕ) (i j : ℕ) → us ≡ drop i xs → vs ≡ drop j ys → xs ≡ xs' → l ≡ l' → g ≡ g' → same_tuple l g us vs 0 0 ≡ same_tuple l' g' xs' ys i j
same_where l g l' g' xs xs' ys us vs i j eu ev ex el eg = rw (eu, ev, ← ex, ← el, ← eg) (same_cut l g xs ys i j)
