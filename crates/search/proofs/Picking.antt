-- The lists of what passes a test, and entries written from the back.
use Rattle.std.proofs.Common.{◌≡◌, ℕ, zero, suc, ◌+◌, ◌-◌, ◌*◌, ◌<◌, ◌≤◌, Bool, true, false, cond, List, [], ◌∷◌, ◌++◌, length, set, refl, ap, ◌∙◌, ⊎_elim, add-zero, suc-mul, add-one, arith, length-append, length-set}
use Rattle.std.proofs.lemmas.Bool.{cases_Bool}
use Rattle.search.specs.declared.matches.Match.{Match}
use Rattle.filters.specs.Matching.{count, sum}
use Rattle.search.specs.Listing.{picks, rows, written, Filled}
use Rattle.search.proofs.Writing.{written_none, written_more, written_full, written_join}

-- one more number, from the last down
pub picks_hit : {A : Type 0} (p : ℕ → Bool) (e : ℕ → A) (y w : ℕ) → 0 < y → y ≤ w → p (y - 1) ≡ true → picks p e (y - 1) (w - (y - 1)) ≡ e (y - 1) ∷ picks p e y (w - y)
picks_hit p e y w pos le h =
    let a : w - (y - 1) ≡ suc (w - y) = omega arith in
    let b : suc (y - 1) ≡ y = omega arith in
    rw (a, h) (ap (λ z. e (y - 1) ∷ picks p e z (w - y)) b)

pub picks_miss : {A : Type 0} (p : ℕ → Bool) (e : ℕ → A) (y w : ℕ) → 0 < y → y ≤ w → p (y - 1) ≡ false → picks p e (y - 1) (w - (y - 1)) ≡ picks p e y (w - y)
picks_miss p e y w pos le h =
    let a : w - (y - 1) ≡ suc (w - y) = omega arith in
    let b : suc (y - 1) ≡ y = omega arith in
    rw (a, h) (ap (λ z. picks p e z (w - y)) b)

pub picks_none : {A : Type 0} (p : ℕ → Bool) (e : ℕ → A) (i n : ℕ) → ((x : ℕ) → i ≤ x → x < i + n → p x ≡ false) → picks p e i n ≡ []
picks_none p e i zero h = refl
picks_none p e i (suc n) h = rw (h i (omega arith) (omega arith)) (picks_none p e (suc i) n (λ x l m. h x (omega arith) (omega arith)))

pub picks_le : {A : Type 0} (p : ℕ → Bool) (e : ℕ → A) (i n : ℕ) → length (picks p e i n) ≤ n
picks_le p e i zero = omega arith
picks_le p e i (suc n) =
    let a = picks_le p e (suc i) n in
    ⊎_elim (λ (h : p i ≡ true). rw h (omega arith)) (λ (h : p i ≡ false). rw h (omega arith)) (cases_Bool (p i))

-- the test fails from w on
pub picks_front : {A : Type 0} (p : ℕ → Bool) (e : ℕ → A) (i w n : ℕ) → w ≤ n → ((x : ℕ) → i + w ≤ x → x < i + n → p x ≡ false) → picks p e i n ≡ picks p e i w
picks_front p e i zero n l h = picks_none p e i n (λ x a b. h x (omega arith) b)
picks_front p e i (suc w) zero l h = absurd (let z : ⊥ = omega arith in z)
picks_front p e i (suc w) (suc n) l h =
    let a = picks_front p e (suc i) w n (omega arith) (λ x a b. h x (omega arith) (omega arith)) in
    ap (λ z. cond (p i) (e i ∷ z) z) a

abbrev one : Bool → ℕ
one b = cond b 1 0

pub picks_count : {A : Type 0} (p : ℕ → Bool) (e : ℕ → A) (i n : ℕ) → count (i + n) p ≡ count i p + length (picks p e i n)
picks_count p e i zero = rw (add-zero i) (omega arith)
picks_count p e i (suc n) =
    let w : i + suc n ≡ suc i + n = omega arith in
    let a = picks_count p e (suc i) n in
    rw w (⊎_elim (λ (h : p i ≡ true). let b = ap one h in rw h (omega arith)) (λ (h : p i ≡ false). let b = ap one h in rw h (omega arith)) (cases_Bool (p i)))

pub rows_sum : {A : Type 0} (f : ℕ → List A) (j n : ℕ) → sum (j + n) (λ y. length (f y)) ≡ sum j (λ y. length (f y)) + length (rows f j n)
rows_sum f j zero = rw (add-zero j) (omega arith)
rows_sum f j (suc n) =
    let w : j + suc n ≡ suc j + n = omega arith in
    let a = rows_sum f (suc j) n in
    rw (w, length-append (f j) (rows f (suc j) n)) (omega arith)

pub rows_more : {A : Type 0} (f : ℕ → List A) (j n : ℕ) → j < n → rows f j (n - j) ≡ f j ++ rows f (j + 1) (n - (j + 1))
rows_more f j n l =
    let a : n - j ≡ suc (n - suc j) = omega arith in
    rw (add-one j, a) refl

pub rows_le : {A : Type 0} (f : ℕ → List A) (b j n : ℕ) → ((y : ℕ) → length (f y) ≤ b) → length (rows f j n) ≤ n * b
rows_le f b j zero h = omega arith
rows_le f b j (suc n) h =
    let a = rows_le f b (suc j) n h in
    let c = h j in
    let d = suc-mul n b in
    rw (length-append (f j) (rows f (suc j) n)) (omega arith)

pub filled_none : (o : List Match) (p : ℕ) → Filled o o p p []
filled_none o p = record { keeps = refl; counted = omega arith; exact = written_none o (length o - p) }

pub filled_more : (b a a' : List Match) (p p' : ℕ) (l : List Match) (e : Match) → Filled b a p p' l → p' + 1 ≤ length a → a' ≡ set a (length a - (p' + 1)) e → Filled b a' p (p' + 1) (e ∷ l)
filled_more b a a' p p' l e f room ea =
    let w : length a ≡ length b = f.keeps in
    let v = f.counted in
    record {
      keeps = ap length ea ∙ length-set a (length a - (p' + 1)) e ∙ f.keeps;
      counted = omega arith;
      exact = ea ∙ (ap (λ z. set z (length a - (p' + 1)) e) f.exact ∙ written_more b (length b - p) l e (length a - (p' + 1)) (omega arith) (omega arith) (omega arith));
    }

pub filled_full : (b a : List Match) (p p' : ℕ) (l : List Match) (e : Match) → Filled b a p p' l → length a < p' + 1 → Filled b a p (p' + 1) (e ∷ l)
filled_full b a p p' l e f full =
    let w : length a ≡ length b = f.keeps in
    let v = f.counted in
    record {
      keeps = f.keeps;
      counted = omega arith;
      exact = f.exact ∙ written_full b (length b - p) l e (omega arith);
    }

pub filled_join : (b a c : List Match) (p p' p'' : ℕ) (l k : List Match) → Filled b a p p' l → Filled a c p' p'' k → Filled b c p p'' (k ++ l)
filled_join b a c p p' p'' l k f g =
    let w : length a ≡ length b = f.keeps in
    let v = f.counted in
    let e : length a - p' ≡ length b - p - length l = omega arith in
    record {
      keeps = g.keeps ∙ f.keeps;
      counted = rw (length-append k l) (omega (arith, f.counted, g.counted));
      exact = g.exact ∙ (ap (λ (z : ℕ). written a z k) e ∙ (ap (λ z. written z (length b - p - length l) k) f.exact ∙ written_join b (length b - p) l k (omega arith)));
    }

pub picks_same : {A : Type 0} (p r : ℕ → Bool) (e : ℕ → A) (i n : ℕ) → ((x : ℕ) → i ≤ x → x < i + n → p x ≡ r x) → picks p e i n ≡ picks r e i n
picks_same p r e i zero h = refl
picks_same p r e i (suc n) h =
    let a = picks_same p r e (suc i) n (λ x l m. h x (omega arith) (omega arith)) in
    ap (λ z. cond (p i) (e i ∷ z) z) a ∙ ap (λ z. cond z (e i ∷ picks r e (suc i) n) (picks r e (suc i) n)) (h i (omega arith) (omega arith))

pub rows_same : {A : Type 0} (f g : ℕ → List A) (j n : ℕ) → ((y : ℕ) → f y ≡ g y) → rows f j n ≡ rows g j n
rows_same f g j zero h = refl
rows_same f g j (suc n) h = ap (λ z. z ++ rows f (suc j) n) (h j) ∙ ap (λ z. g j ++ z) (rows_same f g (suc j) n h)
