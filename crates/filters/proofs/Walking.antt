-- A walk along the chain of one number marks the places that pass, from the last down.
use Rattle.std.proofs.Common.{◌≡◌, ℕ, zero, suc, ◌+◌, ◌-◌, ◌*◌, ◌%◌, ◌<◌, ◌≤◌, Bool, true, false, cond, ◌&&◌, ltb, leb, ◌≢◌, List, ◌++◌, length, get_or, set, take, drop, replicate, length-append, length-drop, Option, Some, None, sym, refl, ap, ◌∙◌, subst, ⊎_elim, arith, length-set, get_or-set_other, get_or-set_same}
use lib.ListN.{length-replicate, get_or-replicate, get_or-append}
use Rattle.std.proofs.lemmas.List.{get_or-drop, get_or-append_right}
use Rattle.std.proofs.lemmas.Bool.{cases_eq, cases_lt, cases_Bool, le-leb, lt-leb, ltb-true, eqb-true, and_parts, and_left, and_right}
use Rattle.filters.specs.Questions.{every}
use Rattle.filters.specs.Matching.{count}
use Rattle.filters.specs.Filters.{Marked}
use Rattle.filters.specs.Counting.{decides_every}
use Rattle.filters.proofs.Rowing.{count_le}
use Rattle.filters.specs.Tuples.{tuple_number, starts, same_digit, same_tuple}
use Rattle.filters.specs.Chains.{latest, place, Chained, Cleared}
use Rattle.filters.proofs.Chaining.{past, past_place, latest_le, latest_stays, latest_last, latest_has}
use Rattle.filters.proofs.Digits.{digit, digits_ext, number_digits}
use Rattle.filters.proofs.Cutting.{same_cut, same_rest}

abbrev pub bit : Bool → ℕ
bit b = cond b 1 0

-- equal tuples have equal numbers
pub same_number : (l g : ℕ) (xs ys : List ℕ) (i j : ℕ) → every (same_digit g xs ys i j) l ≡ true → tuple_number l g xs i ≡ tuple_number l g ys j
same_number l g xs ys i j e =
    number_digits l g xs i ∙ (ap (λ z. z % 1021) (digits_ext l (digit xs g i) (digit ys g j)
    (λ x h. eqb-true _ _ ((decides_every (same_digit g xs ys i j) l).0 e x h))) ∙ sym (number_digits l g ys j))

-- every place that passes has the number h, and is a start
abbrev pub Found : (ℕ → ℕ) → (ℕ → Bool) → ℕ → ℕ → Type 0
Found f p h n = (x : ℕ) → p x ≡ true → (x < n) × (f x ≡ h)

pub found : (l g : ℕ) (xs ys : List ℕ) (j : ℕ) → Found (tuple_number l g xs) (λ i. same_tuple l g xs ys i j) (tuple_number l g ys j) (starts l g (length xs))
found l g xs ys j x e =
    let a = and_parts (ltb (x + (l - 1) * g) (length xs)) _ e in
    let b = and_parts (ltb (j + (l - 1) * g) (length ys)) _ a.1 in
    let c = ltb-true _ _ a.0 in
    (omega (arith, c), same_number l g xs ys x j b.1)

abbrev pub passed : (ℕ → Bool) → ℕ → ℕ
passed p n = count n p

pub passed_ext : (e p : ℕ → Bool) (n : ℕ) → ((x : ℕ) → x < n → e x ≡ p x) → passed e n ≡ passed p n
passed_ext e p zero h = refl
passed_ext e p (suc n) h =
    let a = passed_ext e p n (λ x l. h x (omega arith)) in
    let b : bit (e n) ≡ bit (p n) = ap bit (h n (omega arith)) in
    omega arith

pub passed_none : (p : ℕ → Bool) (n : ℕ) → ((x : ℕ) → x < n → p x ≡ false) → passed p n ≡ 0
passed_none p zero h = refl
passed_none p (suc n) h =
    let a = passed_none p n (λ x l. h x (omega arith)) in
    let b : bit (p n) ≡ 0 = ap bit (h n (omega arith)) in
    omega arith

-- one place more passes or not, and the others as before
pub passed_at : (e p : ℕ → Bool) (i n : ℕ) → i < n → e i ≡ false → ((x : ℕ) → x ≢ i → p x ≡ e x) → passed p n ≡ bit (p i) + passed e n
passed_at e p i zero h f s = let z : ⊥ = omega arith in absurd z
passed_at e p i (suc n) h f s =
    ⊎_elim
    (λ (y : i ≡ n).
    let a = passed_ext p e n (λ x l. s x (let ne : x ≢ i = omega arith in ne)) in
    let b : bit (e n) ≡ 0 = ap bit (subst (λ (z : ℕ). e z ≡ false) y f) in
    let c : bit (p i) ≡ bit (p n) = ap (λ z. bit (p z)) y in
    omega arith)
    (λ (y : i ≡ n → ⊥).
    let a = passed_at e p i n (omega arith) f s in
    let b : bit (p n) ≡ bit (e n) = ap bit (s n (λ z. y (sym z))) in
    omega arith)
    (cases_eq i n)

-- the places from `at` on are done
abbrev pub late : (ℕ → Bool) → ℕ → ℕ → Bool
late p at x = leb at x && p x

-- between a place and where the chain leads from it no place passes
pub skips : (f : ℕ → ℕ) (p : ℕ → Bool) (h n b : ℕ) → Found f p h n → (x : ℕ) → late p (latest f h b) x ≡ late p b x
skips f p h n b k x =
    ⊎_elim
    (λ (y : p x ≡ true).
    ⊎_elim
    (λ (w : x < b).
    let v = latest_last f h b x w (k x y).1 in
    and_left (leb (latest f h b) x) (p x) (lt-leb _ _ v) ∙ sym (and_left (leb b x) (p x) (lt-leb _ _ w)))
    (λ (w : b ≤ x).
    let v = latest_le f h b in
    ap (λ z. z && p x) (le-leb (latest f h b) x (omega arith) ∙ sym (le-leb b x w)))
    (cases_lt x b))
    (λ (y : p x ≡ false). and_right (leb (latest f h b) x) (p x) y ∙ sym (and_right (leb b x) (p x) y))
    (cases_Bool (p x))

pub record Walk (f : ℕ → ℕ) (p : ℕ → Bool) (h q n : ℕ) (before after : List ℕ) (at c : ℕ) : Type 0 where
  pub low : at ≤ n
  pub stays : latest f h at ≡ at
  pub keeps : length after ≡ length before
  pub marks : (x : ℕ) → x < q → get_or after x 0 ≡ bit (late p at x)
  pub rest : (x : ℕ) → q ≤ x → get_or after x 0 ≡ get_or before x 0
  pub count : c ≡ passed (late p at) q

pub late_none : (f : ℕ → ℕ) (p : ℕ → Bool) (h n x : ℕ) → Found f p h n → late p (latest f h n) x ≡ false
late_none f p h n x k =
    skips f p h n n k x ∙
    ⊎_elim (λ (y : p x ≡ true). and_left (leb n x) (p x) (lt-leb n x (k x y).0)) (λ (y : p x ≡ false). and_right (leb n x) (p x) y)
    (cases_Bool (p x))

pub walk_begins : (f : ℕ → ℕ) (p : ℕ → Bool) (h q n : ℕ) (b : List ℕ) (at : ℕ) → Found f p h n → ((x : ℕ) → x < q → get_or b x 0 ≡ 0) → at ≡ latest f h n → Walk f p h q n b b at 0
walk_begins f p h q n b at k blank e =
    let le = latest_le f h n in
    let w : Walk f p h q n b b (latest f h n) 0 = record {
      low = le;
      stays = latest_stays f h n;
      keeps = refl;
      marks = λ x l. blank x l ∙ ap bit (sym (late_none f p h n x k));
      rest = λ x l. refl;
      count = sym (passed_none (late p (latest f h n)) q (λ x l. late_none f p h n x k));
    } in
    subst (λ (z : ℕ). Walk f p h q n b b z 0) (sym e) w

-- a turn of the walk
pub walk_on : (f : ℕ → ℕ) (p : ℕ → Bool) (h q n : ℕ) (b a a' : List ℕ) (i c c' : ℕ) → Found f p h n → n ≤ q →
    Walk f p h q n b a (suc i) c →
    length a' ≡ length a → get_or a' i 0 ≡ bit (p i) → ((x : ℕ) → x ≢ i → get_or a' x 0 ≡ get_or a x 0) → c' ≡ bit (p i) + c →
    Walk f p h q n b a' (latest f h i) c'
walk_on f p h q n b a a' i c c' k nq w el ei eo ec =
    let le = latest_le f h i in
    let low = w.low in
    let before : late p (suc i) i ≡ false = and_left (leb (suc i) i) (p i) (lt-leb (suc i) i (omega arith)) in
    let now : late p (latest f h i) i ≡ p i = ap (λ z. z && p i) (le-leb (latest f h i) i le) in
    let other : (x : ℕ) → x ≢ i → late p (latest f h i) x ≡ late p (suc i) x =
    λ x ne. skips f p h n i k x ∙
    ⊎_elim (λ (y : x < i). ap (λ z. z && p x) (lt-leb i x y ∙ sym (lt-leb (suc i) x (omega arith))))
    (λ (y : i ≤ x). ap (λ z. z && p x) (le-leb i x y ∙ sym (le-leb (suc i) x (omega arith))))
    (cases_lt x i) in
    let one : bit (late p (latest f h i) i) ≡ bit (p i) = ap bit now in
    record {
      low = omega arith;
      stays = latest_stays f h i;
      keeps = el ∙ w.keeps;
      marks = λ x l.
          ⊎_elim (λ (y : x ≡ i). ap (λ z. get_or a' z 0) y ∙ (ei ∙ (sym one ∙ ap (λ z. bit (late p (latest f h i) z)) (sym y))))
          (λ (y : x ≡ i → ⊥). eo x y ∙ (w.marks x l ∙ ap bit (sym (other x y))))
          (cases_eq x i);
      rest = λ x l. let ne : x ≢ i = omega arith in eo x ne ∙ w.rest x l;
      count = let t = passed_at (late p (suc i)) (late p (latest f h i)) i q (omega arith) before other in omega (arith, w.count);
    }

pub walk_marks : (f : ℕ → ℕ) (p : ℕ → Bool) (h q n : ℕ) (b a a' : List ℕ) (i c c' : ℕ) → Found f p h n → n ≤ q → q ≤ length b →
    Walk f p h q n b a (suc i) c → p i ≡ true → a' ≡ set a i 1 → c' ≡ c + 1 → Walk f p h q n b a' (latest f h i) c'
walk_marks f p h q n b a a' i c c' k nq qb w e ea ec =
    let low = w.low in
    let ia : i < length a = omega (arith, w.keeps) in
    let one : bit (p i) ≡ 1 = ap bit e in
    walk_on f p h q n b a a' i c c' k nq w (ap length ea ∙ length-set a i 1)
    (ap (λ z. get_or z i 0) ea ∙ (get_or-set_same a i 1 0 ia ∙ sym one))
    (λ x ne. ap (λ z. get_or z x 0) ea ∙ get_or-set_other a i x 1 0 ne) (omega arith)

pub walk_passes : (f : ℕ → ℕ) (p : ℕ → Bool) (h q n : ℕ) (b a a' : List ℕ) (i c c' : ℕ) → Found f p h n → n ≤ q →
    Walk f p h q n b a (suc i) c → p i ≡ false → a' ≡ a → c' ≡ c → Walk f p h q n b a' (latest f h i) c'
walk_passes f p h q n b a a' i c c' k nq w e ea ec =
    let low = w.low in
    let none : bit (p i) ≡ 0 = ap bit e in
    let before : late p (suc i) i ≡ false = and_left (leb (suc i) i) (p i) (lt-leb (suc i) i (omega arith)) in
    walk_on f p h q n b a a' i c c' k nq w (ap length ea)
    (ap (λ z. get_or z i 0) ea ∙ (w.marks i (omega arith) ∙ (ap bit before ∙ sym none)))
    (λ x ne. ap (λ z. get_or z x 0) ea) (omega arith)

pub walk_ends : (f : ℕ → ℕ) (p : ℕ → Bool) (h q n : ℕ) (b a : List ℕ) (at c : ℕ) → q ≤ length b → at ≡ 0 → Walk f p h q n b a at c → Marked p q b a c
walk_ends f p h q n b a at c qb e w =
    let all : (x : ℕ) → late p at x ≡ p x = λ x. ap (λ z. z && p x) (le-leb at x (omega arith)) in
    record {
      room = qb;
      keeps = w.keeps;
      marks = λ x l. w.marks x l ∙ ap bit (all x);
      rest = w.rest;
      count = w.count ∙ passed_ext (late p at) p q (λ x l. all x);
    }

-- the first marks of a row are filled, and those of the places that have the tuple of the trace at j are marked
pub row_marked : (l g : ℕ) (xs ys : List ℕ) (j : ℕ) (b₀ b a tuple : List ℕ) (r : ℕ) → Cleared (length xs) b₀ b → tuple ≡ drop j ys → Marked (λ i. same_tuple l g xs tuple i 0) (length xs) b a r →
    Marked (λ i. same_tuple l g xs ys i j) (length xs) b₀ a r
row_marked l g xs ys j b₀ b a tuple r c e m =
    let same : (i : ℕ) → same_tuple l g xs tuple i 0 ≡ same_tuple l g xs ys i j =
    λ i. ap (λ z. same_tuple l g xs z i 0) e ∙ (sym (same_cut l g xs (drop j ys) i 0) ∙ same_cut l g xs ys i j) in
    record {
      room = omega (arith, m.room, c.keeps);
      keeps = m.keeps ∙ c.keeps;
      marks = λ x l. m.marks x l ∙ ap bit (same x);
      rest = λ x l. m.rest x l ∙ c.rest x l;
      count = m.count ∙ passed_ext (λ i. same_tuple l g xs tuple i 0) (λ i. same_tuple l g xs ys i j) (length xs) (λ x h. same x);
    }

tuple_outside : (l g : ℕ) (xs ys : List ℕ) (i j : ℕ) → length ys ≤ j + (l - 1) * g → same_tuple l g xs ys i j ≡ false
tuple_outside l g xs ys i j h =
    and_right (ltb (i + (l - 1) * g) (length xs)) _ (and_left (ltb (j + (l - 1) * g) (length ys)) _ (lt-leb (suc (j + (l - 1) * g)) (length ys) (omega arith)))

-- where the trace has no tuple at j no place is marked
pub row_unmarked : (l g : ℕ) (xs ys : List ℕ) (j : ℕ) (b₀ b : List ℕ) → length xs ≤ length b₀ → length ys ≤ j + (l - 1) * g → Cleared (length xs) b₀ b → Marked (λ i. same_tuple l g xs ys i j) (length xs) b₀ b 0
row_unmarked l g xs ys j b₀ b room out c = record {
  room = room;
  keeps = c.keeps;
  marks = λ x h. c.blank x h ∙ ap bit (sym (tuple_outside l g xs ys x j out));
  rest = c.rest;
  count = sym (passed_none (λ i. same_tuple l g xs ys i j) (length xs) (λ x h. tuple_outside l g xs ys x j out));
}

-- the first n marks were filled
pub cleared_front : (n : ℕ) (b ys : List ℕ) → n ≤ length b → ys ≡ replicate n 0 → Cleared n b (ys ++ drop n b)
cleared_front n b ys h e =
    let k : length ys ≡ n = ap length e ∙ length-replicate {A = ℕ} n 0 in
    record {
      keeps = omega (arith, length-append {A = ℕ}, length-drop {A = ℕ}, k, h);
      blank = λ x l. get_or-append ys (drop n b) 0 x (omega arith) ∙ (ap (λ z. get_or z x 0) e ∙ get_or-replicate {A = ℕ} n x 0 0 l);
      rest = λ x l. let d : n + (x - n) ≡ x = omega arith in get_or-append_right ys (drop n b) n x 0 k l ∙ (get_or-drop n b (x - n) 0 ∙ ap (λ z. get_or b z 0) d);
    }

-- where the chain leads from a place of the walk
walk_link : (f : ℕ → ℕ) (p : ℕ → Bool) (h q n : ℕ) (b a heads links : List ℕ) (i c : ℕ) → Chained f n heads links → Walk f p h q n b a (suc i) c → get_or links i 0 ≡ latest f h i
walk_link f p h q n b a heads links i c m w = m.link i (omega (arith, w.low)) ∙ ap (λ z. latest f z i) (latest_has f h i w.stays)

-- the walk for the tuple that ys begins with
module _ (l g : ℕ) (xs ys b : List ℕ) where
  abbrev pub TupleWalk : List ℕ → Option ℕ → ℕ → Type 0
  TupleWalk a next c =
      Walk (tuple_number l g xs) (λ i. same_tuple l g xs ys i 0) (tuple_number l g ys 0) (length xs) (starts l g (length xs)) b a (past next) c

  pub tuple_few : (a : List ℕ) (next : Option ℕ) (c : ℕ) → TupleWalk a next c → c ≤ length xs
  tuple_few a next c w = omega (arith, w.count, count_le (late (λ i. same_tuple l g xs ys i 0) (past next)) (length xs))

  pub tuple_ends : (a : List ℕ) (next : Option ℕ) (c : ℕ) → length xs ≤ length b → next ≡ None → TupleWalk a next c → Marked (λ i. same_tuple l g xs ys i 0) (length xs) b a c
  tuple_ends a next c qb e w =
      walk_ends (tuple_number l g xs) (λ i. same_tuple l g xs ys i 0) (tuple_number l g ys 0) (length xs) (starts l g (length xs)) b a (past next) c qb (ap past e) w

  module _ (heads links : List ℕ) (m : Chained (tuple_number l g xs) (starts l g (length xs)) heads links) where
    pub tuple_begins : (h : ℕ) (next : Option ℕ) → ((x : ℕ) → x < length xs → get_or b x 0 ≡ 0) → h ≡ tuple_number l g ys 0 → h < 1021 → next ≡ place (get_or heads h 0) → TupleWalk b next 0
    tuple_begins h next blank e lt en =
        walk_begins (tuple_number l g xs) (λ i. same_tuple l g xs ys i 0) (tuple_number l g ys 0) (length xs) (starts l g (length xs)) b (past next)
        (found l g xs ys 0) blank (ap past en ∙ (past_place (get_or heads h 0) ∙ (m.head h lt ∙ ap (λ z. latest (tuple_number l g xs) z (starts l g (length xs))) e)))

    module _ (a : List ℕ) (next : Option ℕ) (i c : ℕ) (w : TupleWalk a next c) (e : next ≡ Some i) where
      here : TupleWalk a (Some i) c
      here = subst (λ (z : Option ℕ). TupleWalk a z c) e w

      module _ (next' : Option ℕ) (e' : next' ≡ place (get_or links i 0)) where
        on : past next' ≡ latest (tuple_number l g xs) (tuple_number l g ys 0) i
        on = ap past e' ∙ (past_place (get_or links i 0) ∙
            walk_link (tuple_number l g xs) (λ i. same_tuple l g xs ys i 0) (tuple_number l g ys 0) (length xs) (starts l g (length xs)) b a heads links i c m here)

        pub tuple_falls : past next' < past next
        tuple_falls = let s : past next ≡ suc i = ap past e in omega (arith, on, latest_le (tuple_number l g xs) (tuple_number l g ys 0) i)

        pub tuple_marks : (a' : List ℕ) (c' : ℕ) → length xs ≤ length b → true ≡ same_tuple l g (take (length xs - i) (drop i xs)) ys 0 0 → a' ≡ set a i 1 → c' ≡ c + 1 → TupleWalk a' next' c'
        tuple_marks a' c' qb h ea ec =
            subst (λ (z : ℕ). Walk (tuple_number l g xs) (λ i. same_tuple l g xs ys i 0) (tuple_number l g ys 0) (length xs) (starts l g (length xs)) b a' z c') (sym on)
            (walk_marks (tuple_number l g xs) (λ i. same_tuple l g xs ys i 0) (tuple_number l g ys 0) (length xs) (starts l g (length xs)) b a a' i c c'
            (found l g xs ys 0) (omega arith) qb here (sym (h ∙ same_rest l g xs ys i)) ea ec)

        pub tuple_passes : (a' : List ℕ) (c' : ℕ) → false ≡ same_tuple l g (take (length xs - i) (drop i xs)) ys 0 0 → a' ≡ a → c' ≡ c → TupleWalk a' next' c'
        tuple_passes a' c' h ea ec =
            subst (λ (z : ℕ). Walk (tuple_number l g xs) (λ i. same_tuple l g xs ys i 0) (tuple_number l g ys 0) (length xs) (starts l g (length xs)) b a' z c') (sym on)
            (walk_passes (tuple_number l g xs) (λ i. same_tuple l g xs ys i 0) (tuple_number l g ys 0) (length xs) (starts l g (length xs)) b a a' i c c'
            (found l g xs ys 0) (omega arith) here (sym (h ∙ same_rest l g xs ys i)) ea ec)
