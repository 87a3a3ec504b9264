-- The traces that lie in a store, row by row.
use Rattle.std.proofs.Common.{◌≡◌, ℕ, zero, suc, ◌+◌, ◌<◌, ◌≤◌, true, false, cond, not, ◌||◌, eqb, ltb, List, [], ◌∷◌, ◌++◌, map, length, get_or, take, drop, set, sym, refl, ap, ◌∙◌, subst, zero-add, one-add, arith}
use lib.Dec.{leb-suc-suc}
use Rattle.std.specs.List.{remove}
use Rattle.std.proofs.lemmas.List.{length-take-le, length-map, length-drop, drop-drop, drop-take, take-take, take-append-le, drop-append-le}
use Rattle.std.proofs.lemmas.List.Sums.{sum_by-cons, sum_by-take-le}
use Rattle.std.proofs.lemmas.Bool.{lt-ltb}
use Rattle.catalog.specs.declared.row.Row.{Row}
use Rattle.catalog.specs.declared.row.Count.{Count}
use Rattle.catalog.specs.Rows as row
use Rattle.cabinet.specs.Model.{Trace, stands, loans_of, without, lent, with_loans}
use Rattle.cabinet.specs.Words.{no_trace}
use Rattle.cabinet.specs.Shelf.{trace_of, traces_of}
use Rattle.cabinet.specs.Reading.{trace_under, samples_before}

-- one row more in front
pub samples_cons : (r : Row) (rs : List Row) → row.samples_in (r ∷ rs) ≡ r.length + row.samples_in rs
samples_cons r rs = sum_by-cons (λ (x : Row). x.length) r rs

sums_le : (k : ℕ) (rs : List Row) → row.samples_in (take k rs) ≤ row.samples_in rs
sums_le k rs = sum_by-take-le (λ (x : Row). x.length) rs k

module _ {S : Type 0} (fields : S → List ℕ) where
  pub length_traces : (rs : List Row) (store : List S) → length (traces_of fields rs store) ≡ length rs
  length_traces [] store = refl
  length_traces (r ∷ rs) store = ap suc (length_traces rs (drop r.length store))

  -- the trace of a row begins where the samples of the rows before it end
  pub trace_at : (rs : List Row) (store : List S) (i : ℕ) → i < length rs → get_or (traces_of fields rs store) i no_trace ≡ trace_of fields (get_or rs i row.blank) (take (get_or rs i row.blank).length (drop (row.samples_in (take i rs)) store))
  trace_at [] store i l = absurd (let z : ⊥ = omega arith in z)
  trace_at (r ∷ rs) store zero l = refl
  trace_at (r ∷ rs) store (suc i) l =
      let e : drop (row.samples_in (take i rs)) (drop r.length store) ≡ drop (row.samples_in (r ∷ take i rs)) store =
      drop-drop (row.samples_in (take i rs)) r.length store ∙ ap (λ (n : ℕ). drop n store) (sym (samples_cons r (take i rs))) in
      trace_at rs (drop r.length store) i (omega arith) ∙ ap (λ (xs : List S). trace_of fields (get_or rs i row.blank) (take (get_or rs i row.blank).length xs)) e

  -- a row behind the others
  pub traces_push : (rs : List Row) (r : Row) (store : List S) → traces_of fields (rs ++ (r ∷ [])) store ≡ traces_of fields rs store ++ (trace_of fields r (take r.length (drop (row.samples_in rs) store)) ∷ [])
  traces_push [] r store = refl
  traces_push (x ∷ rs) r store =
      let e : drop (row.samples_in rs) (drop x.length store) ≡ drop (row.samples_in (x ∷ rs)) store =
      drop-drop (row.samples_in rs) x.length store ∙ ap (λ (n : ℕ). drop n store) (sym (samples_cons x rs)) in
      ap (λ (ts : List Trace). trace_of fields x (take x.length store) ∷ ts)
      (traces_push rs r (drop x.length store) ∙ ap (λ (xs : List S). traces_of fields rs (drop x.length store) ++ (trace_of fields r (take r.length xs) ∷ [])) e)

  -- only the used front of the store counts
  pub traces_front : (rs : List Row) (xs ys : List S) → take (row.samples_in rs) xs ≡ take (row.samples_in rs) ys → traces_of fields rs xs ≡ traces_of fields rs ys
  traces_front [] xs ys e = refl
  traces_front (r ∷ rs) xs ys e =
      let n : ℕ = r.length in
      let m : ℕ = row.samples_in rs in
      let e' : take (n + m) xs ≡ take (n + m) ys = subst (λ (z : ℕ). take z xs ≡ take z ys) (samples_cons r rs) e in
      let a : take n xs ≡ take n ys = sym (take-take n (n + m) xs (omega arith)) ∙ ap (take n) e' ∙ take-take n (n + m) ys (omega arith) in
      let b : take m (drop n xs) ≡ take m (drop n ys) = sym (drop-take n m xs) ∙ ap (drop n) e' ∙ drop-take n m ys in
      ap (λ (zs : List S). trace_of fields r zs ∷ traces_of fields rs (drop n xs)) a
      ∙ ap (λ (ts : List Trace). trace_of fields r (take n ys) ∷ ts) (traces_front rs (drop n xs) (drop n ys) b)

  -- loans and counts of a row do not move its samples
  pub traces_recounted : (rs : List Row) (cs : List Count) (store : List S) → traces_of fields (row.recounted rs cs) store ≡ traces_of fields rs store
  traces_recounted [] cs store = refl
  traces_recounted (r ∷ rs) [] store = refl
  traces_recounted (r ∷ rs) (c ∷ cs) store = ap (λ (ts : List Trace). trace_of fields r (take r.length store) ∷ ts) (traces_recounted rs cs (drop r.length store))

  module _ (n : ℕ) where
    -- a number is sought among rows and among traces alike
    pub stands_found : (rs : List Row) (store : List S) → stands n (traces_of fields rs store) ≡ ltb (row.place n rs) (length rs)
    stands_found [] store = refl
    stands_found (r ∷ rs) store =
        let k : ℕ = row.place n rs in
        let w = stands_found rs (drop r.length store) in
        elim (eqb r.number n) as (λ b. (b || stands n (traces_of fields rs (drop r.length store))) ≡ ltb (cond (not b) (1 + k) 0) (suc (length rs))) [
          | true ↦ sym (lt-ltb 0 (suc (length rs)) (omega arith))
          | false ↦ w ∙ subst (λ (z : ℕ). ltb k (length rs) ≡ ltb z (suc (length rs))) (sym (one-add k)) (sym (leb-suc-suc (suc k) (length rs)))
        ]

    pub loans_found : (rs : List Row) (store : List S) → row.place n rs < length rs → loans_of n (traces_of fields rs store) ≡ (get_or rs (row.place n rs) row.blank).loans
    loans_found [] store l = absurd (let z : ⊥ = omega arith in z)
    loans_found (r ∷ rs) store l =
        let k : ℕ = row.place n rs in
        (elim (eqb r.number n) as (λ b. cond (not b) (1 + k) 0 < suc (length rs) → cond b r.loans (loans_of n (traces_of fields rs (drop r.length store))) ≡ (get_or (r ∷ rs) (cond (not b) (1 + k) 0) row.blank).loans) [
          | true ↦ λ h. refl
          | false ↦ λ h. loans_found rs (drop r.length store) (omega arith) ∙ subst (λ (z : ℕ). (get_or rs k row.blank).loans ≡ (get_or (r ∷ rs) z row.blank).loans) (sym (one-add k)) refl
        ]) l

    -- loans of one row are those of one trace
    pub traces_lent : (f : ℕ → ℕ) (rs : List Row) (store : List S) → traces_of fields (set rs (row.place n rs) (row.with_loans (f (get_or rs (row.place n rs) row.blank).loans) (get_or rs (row.place n rs) row.blank))) store ≡ with_loans f n (traces_of fields rs store)
    traces_lent f [] store = refl
    traces_lent f (r ∷ rs) store =
        let k : ℕ = row.place n rs in
        elim (eqb r.number n) as (λ b. traces_of fields (set (r ∷ rs) (cond (not b) (1 + k) 0) (row.with_loans (f (get_or (r ∷ rs) (cond (not b) (1 + k) 0) row.blank).loans) (get_or (r ∷ rs) (cond (not b) (1 + k) 0) row.blank))) store ≡ cond b (lent f (trace_of fields r (take r.length store)) ∷ traces_of fields rs (drop r.length store)) (trace_of fields r (take r.length store) ∷ with_loans f n (traces_of fields rs (drop r.length store)))) [
          | true ↦ refl
          | false ↦ subst (λ (z : ℕ). traces_of fields (set (r ∷ rs) z (row.with_loans (f (get_or (r ∷ rs) z row.blank).loans) (get_or (r ∷ rs) z row.blank))) store ≡ trace_of fields r (take r.length store) ∷ with_loans f n (traces_of fields rs (drop r.length store))) (sym (one-add k))
              (ap (λ (ts : List Trace). trace_of fields r (take r.length store) ∷ ts) (traces_lent f rs (drop r.length store)))
        ]

    -- the trace under a number, and where it begins
    pub under_found : (rs : List Row) (store : List S) → row.place n rs < length rs → trace_under n (traces_of fields rs store) ≡ get_or (traces_of fields rs store) (row.place n rs) no_trace
    under_found [] store l = absurd (let z : ⊥ = omega arith in z)
    under_found (r ∷ rs) store l =
        let k : ℕ = row.place n rs in
        let t : Trace = trace_of fields r (take r.length store) in
        let ts : List Trace = traces_of fields rs (drop r.length store) in
        (elim (eqb r.number n) as (λ b. cond (not b) (1 + k) 0 < suc (length rs) → cond b t (trace_under n ts) ≡ get_or (t ∷ ts) (cond (not b) (1 + k) 0) no_trace) [
          | true ↦ λ h. refl
          | false ↦ λ h. under_found rs (drop r.length store) (omega arith) ∙ subst (λ (z : ℕ). get_or ts k no_trace ≡ get_or (t ∷ ts) z no_trace) (sym (one-add k)) refl
        ]) l

    pub before_found : (rs : List Row) (store : List S) → row.samples_in rs ≤ length store → samples_before n (traces_of fields rs store) ≡ row.samples_in (take (row.place n rs) rs)
    before_found [] store h = refl
    before_found (r ∷ rs) store h =
        let k : ℕ = row.place n rs in
        let c : row.samples_in (r ∷ rs) ≡ r.length + row.samples_in rs = samples_cons r rs in
        let a : length (map fields (take r.length store)) ≡ r.length = length-map (take r.length store) fields ∙ length-take-le r.length store (omega arith) in
        let b' = before_found rs (drop r.length store) (omega (arith, length-drop r.length store)) in
        let d = samples_cons r (take k rs) in
        elim (eqb r.number n) as (λ b. cond b 0 (length (map fields (take r.length store)) + samples_before n (traces_of fields rs (drop r.length store))) ≡ row.samples_in (take (cond (not b) (1 + k) 0) (r ∷ rs))) [
          | true ↦ refl
          | false ↦ subst (λ (z : ℕ). length (map fields (take r.length store)) + samples_before n (traces_of fields rs (drop r.length store)) ≡ row.samples_in (take z (r ∷ rs))) (sym (one-add k)) (omega arith)
        ]

  -- the store with one row's samples cut out
  abbrev pub cut : ℕ → ℕ → List S → List S
  cut at len store = take at store ++ drop (at + len) store

  cut_first : (n at len : ℕ) (store : List S) → n + at ≤ length store → (take n (cut (n + at) len store) ≡ take n store) × (drop n (cut (n + at) len store) ≡ cut at len (drop n store))
  cut_first n at len store h =
      let l : length (take (n + at) store) ≡ n + at = length-take-le (n + at) store h in
      let p : n + at + len ≡ n + (at + len) = omega arith in (
        take-append-le n (take (n + at) store) (drop (n + at + len) store) (omega arith) ∙ take-take n (n + at) store (omega arith),
        drop-append-le n (take (n + at) store) (drop (n + at + len) store) (omega arith)
            ∙ ap (λ (xs : List S). xs ++ drop (n + at + len) store) (drop-take n at store)
            ∙ ap (λ (z : ℕ). take at (drop n store) ++ drop z store) p
            ∙ ap (λ (xs : List S). take at (drop n store) ++ xs) (sym (drop-drop (at + len) n store)),
      )

  pub traces_cut : (n : ℕ) (rs : List Row) (store : List S) → row.place n rs < length rs → row.samples_in rs ≤ length store →
      traces_of fields (remove rs (row.place n rs)) (cut (row.samples_in (take (row.place n rs) rs)) (get_or rs (row.place n rs) row.blank).length store) ≡ without n (traces_of fields rs store)
  traces_cut n [] store l h = absurd (let z : ⊥ = omega arith in z)
  traces_cut n (r ∷ rs) store l h =
      let k : ℕ = row.place n rs in
      let len : ℕ = (get_or rs k row.blank).length in
      let at : ℕ = row.samples_in (take k rs) in
      let rest : List S = drop r.length store in
      let t : Trace = trace_of fields r (take r.length store) in
      let ts : List Trace = traces_of fields rs rest in
      let c : row.samples_in (r ∷ rs) ≡ r.length + row.samples_in rs = samples_cons r rs in
      (elim (eqb r.number n) as (λ b. cond (not b) (1 + k) 0 < suc (length rs) →
      traces_of fields (remove (r ∷ rs) (cond (not b) (1 + k) 0)) (cut (row.samples_in (take (cond (not b) (1 + k) 0) (r ∷ rs))) (get_or (r ∷ rs) (cond (not b) (1 + k) 0) row.blank).length store) ≡ cond b ts (t ∷ without n ts)) [
        | true ↦ λ g. ap (λ (z : ℕ). traces_of fields rs (drop z store)) (zero-add r.length)
        | false ↦ λ g. subst (λ (z : ℕ). traces_of fields (remove (r ∷ rs) z) (cut (row.samples_in (take z (r ∷ rs))) (get_or (r ∷ rs) z row.blank).length store) ≡ t ∷ without n ts) (sym (one-add k))
            (subst (λ (z : ℕ). traces_of fields (r ∷ remove rs k) (cut z len store) ≡ t ∷ without n ts) (sym (samples_cons r (take k rs)))
            (let le = sums_le k rs in
            let f = cut_first r.length at len store (omega arith) in
            ap (λ (xs : List S). trace_of fields r xs ∷ traces_of fields (remove rs k) (drop r.length (cut (r.length + at) len store))) f.0
            ∙ ap (λ (xs : List S). t ∷ traces_of fields (remove rs k) xs) f.1
            ∙ ap (λ (us : List Trace). t ∷ us) (traces_cut n rs rest (omega arith) (omega (arith, length-drop r.length store)))))
      ]) l
