-- The list of all matches is whole.
use Rattle.std.proofs.Common.{◌≡◌, ℕ, zero, suc, ◌+◌, ◌<◌, ◌≤◌, Bool, true, false, cond, ◌⊎◌, List, [], ◌∷◌, ◌++◌, length, get_or, sym, refl, ap, ◌∙◌, subst, inl, inr, ⊎_elim, arith}
use Rattle.std.proofs.lemmas.Bool.{cases_Bool, cases_eq}
use Rattle.search.specs.declared.matches.Match.{Match}
use Rattle.filters.specs.Matching.{Question, Matches, matches_at}
use Rattle.search.specs.Listing.{picks, rows, entry, row_list, match_list}
use Rattle.search.specs.Words.{no_match, Before, ListWhole}
use Rattle.search.proofs.Matched.{matches_true, matches_parts}

abbrev pub In : {A : Type 0} → A → List A → Type 0
In x [] = ⊥
In x (y ∷ ys) = (x ≡ y) ⊎ In x ys

pub in_place : {A : Type 0} (d x : A) (l : List A) → In x l → (e : ℕ) × (e < length l) × (get_or l e d ≡ x)
in_place d x [] m = absurd m
in_place d x (y ∷ ys) (inl h) = (0, omega arith, sym h)
in_place d x (y ∷ ys) (inr m) = let w = in_place d x ys m in (suc w.0, omega (arith, w.1), w.2)

pub place_in : {A : Type 0} (d : A) (l : List A) (e : ℕ) → e < length l → In (get_or l e d) l
place_in d [] e h = absurd (let z : ⊥ = omega arith in z)
place_in d (y ∷ ys) zero h = inl refl
place_in d (y ∷ ys) (suc e) h = inr (place_in d ys e (omega arith))

pub in_left : {A : Type 0} (x : A) (l k : List A) → In x l → In x (l ++ k)
in_left x [] k m = absurd m
in_left x (y ∷ ys) k (inl h) = inl h
in_left x (y ∷ ys) k (inr m) = inr (in_left x ys k m)

pub in_right : {A : Type 0} (x : A) (l k : List A) → In x k → In x (l ++ k)
in_right x [] k m = m
in_right x (y ∷ ys) k m = inr (in_right x ys k m)

pub in_either : {A : Type 0} (x : A) (l k : List A) → In x (l ++ k) → In x l ⊎ In x k
in_either x [] k m = inr m
in_either x (y ∷ ys) k (inl h) = inl (inl h)
in_either x (y ∷ ys) k (inr m) = ⊎_elim (λ (a : In x ys). inl (inr a)) (λ (b : In x k). inr b) (in_either x ys k m)

-- what stands in a list of picks was picked
abbrev Picked : {A : Type 0} → (ℕ → Bool) → (ℕ → A) → ℕ → A → Type 0
Picked p e i x = (y : ℕ) × (i ≤ y) × (p y ≡ true) × (x ≡ e y)

picked_later : {A : Type 0} (p : ℕ → Bool) (e : ℕ → A) (i : ℕ) (x : A) → Picked p e (suc i) x → Picked p e i x
picked_later p e i x w = (w.0, omega (arith, w.1), w.2, w.3)

in_picks : {A : Type 0} (p : ℕ → Bool) (e : ℕ → A) (i n : ℕ) (x : A) → In x (picks p e i n) → Picked p e i x
in_picks p e i zero x m = absurd m
in_picks p e i (suc n) x m =
    ⊎_elim (λ (h : p i ≡ true).
    ⊎_elim (λ (s : x ≡ e i). (i, omega arith, h, s)) (λ (k : In x (picks p e (suc i) n)). picked_later p e i x (in_picks p e (suc i) n x k))
    (subst (λ (v : Bool). In x (cond v (e i ∷ picks p e (suc i) n) (picks p e (suc i) n))) h m))
    (λ (h : p i ≡ false). picked_later p e i x (in_picks p e (suc i) n x (subst (λ (v : Bool). In x (cond v (e i ∷ picks p e (suc i) n) (picks p e (suc i) n))) h m)))
    (cases_Bool (p i))

pub picks_in : {A : Type 0} (p : ℕ → Bool) (e : ℕ → A) (i n y : ℕ) → i ≤ y → y < i + n → p y ≡ true → In (e y) (picks p e i n)
picks_in p e i zero y l h t = absurd (let z : ⊥ = omega arith in z)
picks_in p e i (suc n) y l h t =
    ⊎_elim (λ (s : y ≡ i).
    subst (λ (v : Bool). In (e y) (cond v (e i ∷ picks p e (suc i) n) (picks p e (suc i) n))) (sym (subst (λ (v : ℕ). p v ≡ true) s t)) (inl (ap e s)))
    (λ (s : y ≡ i → ⊥).
    let k = picks_in p e (suc i) n y (omega arith) (omega arith) t in
    elim (p i) as (λ v. In (e y) (cond v (e i ∷ picks p e (suc i) n) (picks p e (suc i) n))) [ true ↦ inr k | false ↦ k ])
    (cases_eq y i)

in_rows : {A : Type 0} (f : ℕ → List A) (j n : ℕ) (x : A) → In x (rows f j n) → (y : ℕ) × (j ≤ y) × In x (f y)
in_rows f j zero x m = absurd m
in_rows f j (suc n) x m =
    ⊎_elim (λ (k : In x (f j)). (j, omega arith, k)) (λ (k : In x (rows f (suc j) n)). let w = in_rows f (suc j) n x k in (w.0, omega (arith, w.1), w.2))
    (in_either x (f j) (rows f (suc j) n) m)

rows_in : {A : Type 0} (f : ℕ → List A) (j n y : ℕ) (x : A) → j ≤ y → y < j + n → In x (f y) → In x (rows f j n)
rows_in f j zero y x l h m = absurd (let z : ⊥ = omega arith in z)
rows_in f j (suc n) y x l h m =
    ⊎_elim (λ (s : y ≡ j). in_left x (f j) (rows f (suc j) n) (subst (λ (v : ℕ). In x (f v)) s m))
    (λ (s : y ≡ j → ⊥). in_right x (f j) (rows f (suc j) n) (rows_in f (suc j) n y x (omega arith) (omega arith) m))
    (cases_eq y j)

-- each entry is before all that follow
abbrev pub Rises : List Match → Type 0
Rises [] = Unit {0}
Rises (x ∷ xs) = ((y : Match) → In y xs → Before x y) × Rises xs

rises_join : (l k : List Match) → Rises l → Rises k → ((x y : Match) → In x l → In y k → Before x y) → Rises (l ++ k)
rises_join [] k a b h = b
rises_join (x ∷ xs) k a b h = (
  λ y m. ⊎_elim (λ (i : In y xs). a.0 y i) (λ (i : In y k). h x y (inl refl) i) (in_either y xs k m),
  rises_join xs k a.1 b (λ u v i j. h u v (inr i) j),
)

rises_place : (l : List Match) (e : ℕ) → Rises l → suc e < length l → Before (get_or l e no_match) (get_or l (suc e) no_match)
rises_place [] e r h = absurd (let z : ⊥ = omega arith in z)
rises_place (x ∷ []) e r h = absurd (let z : ⊥ = omega arith in z)
rises_place (x ∷ y ∷ ys) zero r h = r.0 y (inl refl)
rises_place (x ∷ y ∷ ys) (suc e) r h = rises_place (y ∷ ys) e r.1 (omega arith)

rises_picks : (accession : ℕ) (agree : ℕ → ℕ → Bool) (a : Question) (t : List ℕ) (j : ℕ) (p : ℕ → Bool) (i n : ℕ) → Rises (picks p (entry accession agree a t j) i n)
rises_picks accession agree a t j p i zero = tt
rises_picks accession agree a t j p i (suc n) =
    let k = rises_picks accession agree a t j p (suc i) n in
    let E : ℕ → Match = entry accession agree a t j in
    elim (p i) as (λ v. Rises (cond v (E i ∷ picks p E (suc i) n) (picks p E (suc i) n))) [
      | true ↦ (λ y m. let w = in_picks p E (suc i) n y m in inr (sym (ap (λ (z : Match). z.trace) w.3), let q : y.query ≡ w.0 = ap (λ (z : Match). z.query) w.3 in omega (arith, w.1)), k)
      | false ↦ k
    ]

in_row_trace : (accession : ℕ) (agree : ℕ → ℕ → Bool) (a : Question) (t : List ℕ) (j : ℕ) (x : Match) → In x (row_list accession agree a t j) → x.trace ≡ j
in_row_trace accession agree a t j x m = ap (λ (z : Match). z.trace) (in_picks (λ i. matches_at agree a t i j) (entry accession agree a t j) 0 (length a.codes) x m).3

pub rises_rows : (accession : ℕ) (agree : ℕ → ℕ → Bool) (a : Question) (t : List ℕ) (j n : ℕ) → Rises (rows (row_list accession agree a t) j n)
rises_rows accession agree a t j zero = tt
rises_rows accession agree a t j (suc n) =
    rises_join (row_list accession agree a t j) (rows (row_list accession agree a t) (suc j) n)
    (rises_picks accession agree a t j (λ i. matches_at agree a t i j) 0 (length a.codes)) (rises_rows accession agree a t (suc j) n)
    (λ x y m k.
    let u = in_row_trace accession agree a t j x m in
    let w = in_rows (row_list accession agree a t) (suc j) n y k in
    let v = in_row_trace accession agree a t w.0 y w.2 in
    inl (omega (arith, w.1)))

abbrev pub EntryFits : (ℕ → ℕ → Bool) → Question → List ℕ → ℕ → Match → Type 0
EntryFits agree a t accession x = (x.accession ≡ accession) × Matches agree a t x.query x.trace x.mismatches

abbrev with_mismatches : ℕ → ℕ → ℕ → ℕ → Match
with_mismatches accession j i d = record { accession = accession; trace = j; query = i; mismatches = d }

pub list_whole : ListWhole
list_whole agree a t accession =
    record {
      every = λ i j d w.
          let m = picks_in (λ i. matches_at agree a t i j) (entry accession agree a t j) 0 (length a.codes) i (omega arith) (omega (arith, w.some, w.in_query)) (matches_true agree a t i j d w) in
          let k = rows_in (row_list accession agree a t) 0 (length t) j (entry accession agree a t j i) (omega arith) (omega (arith, w.some, w.in_trace)) m in
          let p = in_place no_match (entry accession agree a t j i) (match_list accession agree a t) k in
          (p.0, p.1, p.2 ∙ sym (ap (λ (z : ℕ). with_mismatches accession j i z) w.counted));
      only = λ e l.
          let x : Match = get_or (match_list accession agree a t) e no_match in
          let w = in_rows (row_list accession agree a t) 0 (length t) x (place_in no_match (match_list accession agree a t) e l) in
          let k = in_picks (λ i. matches_at agree a t i w.0) (entry accession agree a t w.0) 0 (length a.codes) x w.2 in
          subst (λ (z : Match). EntryFits agree a t accession z) (sym k.3) (refl, matches_parts agree a t k.0 w.0 k.2);
      rising = λ e l. rises_place (match_list accession agree a t) e (rises_rows accession agree a t 0 (length t)) l;
    }
