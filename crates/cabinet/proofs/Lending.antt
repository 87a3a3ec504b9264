-- The loans of a row are those of its trace: counting them anew leaves all else.
use Rattle.std.proofs.Common.{◌≡◌, ℕ, suc, ◌+◌, ◌-◌, ◌<◌, Bool, true, false, cond, not, eqb, leb, List, [], ◌∷◌, ◌++◌, map, get_or, set, Some, None, Ok, Err, sym, refl, ap, ◌∙◌, subst, one-add, arith}
use Rattle.std.proofs.lemmas.Bool.{le-leb, lt-leb, eq-eqb, ne_eqb}
use Rattle.trace.specs.Told.{only}
use Rattle.trace.specs.Kinds.{Kind}
use Rattle.filters.specs.Asking.{question_of}
use Rattle.filters.specs.Filters.{Rule, Reach, Pattern, StandsFor, Inside, Necessary}
use Rattle.filters.specs.Matching.{Question}
use Rattle.search.specs.declared.matches.Match.{Match}
use Rattle.search.specs.Listing.{match_list}
use Rattle.catalog.specs.declared.row.Row.{Row}
use Rattle.catalog.specs.Rows as row
use Rattle.catalog.specs.Catalogs.{standing, SameSizes}
use Rattle.cabinet.specs.declared.collection.Collection.{Collection}
use Rattle.cabinet.specs.Model.{Opening, Trace, State, Call, lend, take_back, accepted, refused, loans_of, lent, with_loans, codes_of, outcome, after}
use Rattle.cabinet.specs.Words.{all_matches, padded}
use Rattle.cabinet.specs.Shelf.{traces_of, row_of}
use Rattle.cabinet.specs.Promise.{Holds, After, Answers}
use Rattle.cabinet.proofs.Shelving.{traces_lent}
use Rattle.cabinet.proofs.Finding.{found_some, not_standing, is_standing, loans_standing}
use Rattle.cabinet.proofs.Holding.{same_state}
use Rattle.cabinet.proofs.Steps.{refused_kept, accepted_kept}

-- the row under a number with its loans counted anew
abbrev recounted_rows : (ℕ → ℕ) → ℕ → List Row → List Row
recounted_rows f n rs = set rs (row.place n rs) (row.with_loans (f (get_or rs (row.place n rs) row.blank).loans) (get_or rs (row.place n rs) row.blank))

module _ {S : Type 0} (K : Kind S) (a : Question) (f : ℕ → ℕ) (n : ℕ) where
  -- no match goes by loans
  matches_lent : (ts : List Trace) → all_matches K a (with_loans f n ts) ≡ all_matches K a ts
  matches_lent [] = refl
  matches_lent (t ∷ ts) =
      let l : List Match = match_list t.number K.agree a (codes_of K t) in
      elim (eqb t.number n) as (λ (b : Bool). all_matches K a (cond b (lent f t ∷ ts) (t ∷ with_loans f n ts)) ≡ l ++ all_matches K a ts) [
        | true ↦ refl
        | false ↦ ap (λ (k : List Match). l ++ k) (matches_lent ts)
      ]

  -- the rows are those of the traces, with the loans counted anew
  rows_lent : (rule : Rule) (ts : List Trace) → recounted_rows f n (map (row_of K rule a) ts) ≡ map (row_of K rule a) (with_loans f n ts)
  rows_lent rule [] = refl
  rows_lent rule (t ∷ ts) =
      let R : Trace → Row = row_of K rule a in
      let r : Row = row_of K rule a t in
      let rs : List Row = map (row_of K rule a) ts in
      let k : ℕ = row.place n rs in
      elim (eqb t.number n) as (λ (b : Bool). set (r ∷ rs) (cond (not b) (1 + k) 0) (row.with_loans (f (get_or (r ∷ rs) (cond (not b) (1 + k) 0) row.blank).loans) (get_or (r ∷ rs) (cond (not b) (1 + k) 0) row.blank)) ≡ map R (cond b (lent f t ∷ ts) (t ∷ with_loans f n ts))) [
        | true ↦ refl
        | false ↦ subst (λ (z : ℕ). set (r ∷ rs) z (row.with_loans (f (get_or (r ∷ rs) z row.blank).loans) (get_or (r ∷ rs) z row.blank)) ≡ r ∷ map R (with_loans f n ts)) (sym (one-add k))
            (ap (λ (xs : List Row). r ∷ xs) (rows_lent rule ts))
      ]

module _ {S F : Type 0} {K : Kind S} {rule : Rule} {reach : Reach} {means : F → Pattern} {o : Opening} {s : State} {c : Collection S F} {store : List S} {list : List Match} (w : Holds K rule reach means o s c store list) (n : ℕ) where
  -- what lending comes to
  pub lend_none : None ≡ row.found_at n (standing c.catalog) → outcome K o s (lend n) ≡ refused (only 13)
  lend_none e = rw (not_standing w n e)

  lend_full : (at : ℕ) → Some at ≡ row.found_at n (standing c.catalog) → (get_or (standing c.catalog) at row.blank).loans ≡ 255 → outcome K o s (lend n) ≡ refused (only 19)
  lend_full at e l =
      let p : leb 255 (loans_of n s.traces) ≡ true = le-leb 255 (loans_of n s.traces) (omega (arith, loans_standing w n at e)) in
      rw (is_standing w n at e, p)

  lend_free : (at : ℕ) → Some at ≡ row.found_at n (standing c.catalog) → (get_or (standing c.catalog) at row.blank).loans < 255 → outcome K o s (lend n) ≡ accepted n (record { given = s.given; traces = with_loans suc n s.traces; asked = s.asked })
  lend_free at e l =
      let p : leb 255 (loans_of n s.traces) ≡ false = lt-leb 255 (loans_of n s.traces) (omega (arith, loans_standing w n at e)) in
      rw (is_standing w n at e, p)

  -- what taking back comes to
  pub back_other : (mark : ℕ) → (mark ≡ c.mark → ⊥) → outcome K o s (take_back mark n) ≡ refused (only 20)
  back_other mark d =
      let p : eqb mark o.mark ≡ false = ne_eqb mark o.mark (λ z. d (z ∙ sym w.mark)) in
      rw p

  module _ (mark : ℕ) (own : mark ≡ c.mark) where
    own_mark : eqb mark o.mark ≡ true
    own_mark = eq-eqb mark o.mark (own ∙ w.mark)

    pub back_none : None ≡ row.found_at n (standing c.catalog) → outcome K o s (take_back mark n) ≡ refused (only 13)
    back_none e = rw (own_mark, not_standing w n e)

    pub back_not_lent : (at : ℕ) → Some at ≡ row.found_at n (standing c.catalog) → (get_or (standing c.catalog) at row.blank).loans ≡ 0 → outcome K o s (take_back mark n) ≡ refused (only 21)
    back_not_lent at e l =
        let p : eqb (loans_of n s.traces) 0 ≡ true = eq-eqb (loans_of n s.traces) 0 (loans_standing w n at e ∙ l) in
        rw (own_mark, is_standing w n at e, p)

    back_lent : (at : ℕ) → Some at ≡ row.found_at n (standing c.catalog) → ((get_or (standing c.catalog) at row.blank).loans ≡ 0 → ⊥) → outcome K o s (take_back mark n) ≡ accepted n (record { given = s.given; traces = with_loans (λ x. x - 1) n s.traces; asked = s.asked })
    back_lent at e l =
        let p : eqb (loans_of n s.traces) 0 ≡ false = ne_eqb (loans_of n s.traces) 0 (λ z. l (sym (loans_standing w n at e) ∙ z)) in
        rw (own_mark, is_standing w n at e, p)

  -- with the loans of the row counted anew, the collection holds them
  lent_holds : (f : ℕ → ℕ) (at m : ℕ) → Some at ≡ row.found_at n (standing c.catalog) → m ≡ f (get_or (standing c.catalog) at row.blank).loans → (c' : Collection S F) →
      standing c'.catalog ≡ set (standing c.catalog) at (row.with_loans m (get_or (standing c.catalog) at row.blank)) →
      SameSizes c.catalog c'.catalog → c'.mark ≡ c.mark → c'.filter ≡ c.filter → c'.question ≡ c.question →
      Holds K rule reach means o (record { given = s.given; traces = with_loans f n s.traces; asked = s.asked }) c' store list
  lent_holds f at m e is c' rows same mark filter question =
      let rs : List Row = standing c.catalog in
      let rows' : standing c'.catalog ≡ recounted_rows f n rs =
      rows ∙ ap (λ (z : ℕ). set rs at (row.with_loans z (get_or rs at row.blank))) is
      ∙ ap (λ (p : ℕ). set rs p (row.with_loans (f (get_or rs p row.blank).loans) (get_or rs p row.blank))) (found_some n at rs e).0 in
      record {
        mark = mark ∙ w.mark;
        noted_store = same.store ∙ w.noted_store;
        store_length = w.store_length;
        noted_list = same.list ∙ w.noted_list;
        list_length = w.list_length;
        state =
            same_state same.given (ap (λ (xs : List Row). traces_of K.fields xs store) rows' ∙ traces_lent K.fields n f rs store) (ap question_of question)
            ∙ ap (λ (z : State). record { given = z.given; traces = with_loans f n z.traces; asked = z.asked }) w.state;
        counted = rows' ∙ ap (recounted_rows f n) w.counted ∙ rows_lent K s.asked f n rule s.traces;
        filter = subst (λ (x : F). StandsFor rule reach (means x) s.asked) (sym filter) w.filter;
        listed = w.listed ∙ ap (padded o.list) (sym (matches_lent K s.asked f n s.traces));
      }

module _ {S F : Type 0} {K : Kind S} {rule : Rule} {reach : Reach} {means : F → Pattern} {o : Opening} {h : List Call} {c : Collection S F} {store : List S} {list : List Match} (w : After K rule reach means o h c store list)
    (n at : ℕ) (r : Row) (e : Some at ≡ row.found_at n (standing c.catalog)) (row_is : r ≡ get_or (standing c.catalog) at row.blank) where
  row_loans : (get_or (standing c.catalog) at row.blank).loans ≡ r.loans
  row_loans = ap (λ (x : Row). x.loans) (sym row_is)

  module _ (equal : (a b : ℕ) → K.agree a b ≡ true → a ≡ b) (inside : Inside rule) (nec : Necessary rule reach)
      (c' : Collection S F) (m : ℕ) (rows : standing c'.catalog ≡ set (standing c.catalog) at (row.with_loans m (get_or (standing c.catalog) at row.blank)))
      (same : SameSizes c.catalog c'.catalog) (mark : c'.mark ≡ c.mark) (filter : c'.filter ≡ c.filter) (question : c'.question ≡ c.question) where
    -- one loan more
    pub lend_kept : m ≡ r.loans + 1 → r.loans < 255 → (number : ℕ) → n ≡ number →
        After K rule reach means o (lend n ∷ h) c' store list × Answers (Ok number) (outcome K o (after K o h) (lend n))
    lend_kept is few number named =
        subst (λ (z : ℕ). After K rule reach means o (lend n ∷ h) c' store list × Answers (Ok z) (outcome K o (after K o h) (lend n))) named
        (accepted_kept equal inside nec h (lend n) n
        (lent_holds w.holds n suc at m e (omega (arith, row_loans)) c' rows same mark filter question)
        (lend_free w.holds n at e (omega (arith, row_loans))))

    -- one loan less
    pub back_kept : (slip : ℕ) → slip ≡ c.mark → m ≡ r.loans - 1 → (r.loans ≡ 0 → ⊥) →
        After K rule reach means o (take_back slip n ∷ h) c' store list × Answers (Ok n) (outcome K o (after K o h) (take_back slip n))
    back_kept slip own is some =
        accepted_kept equal inside nec h (take_back slip n) n
        (lent_holds w.holds n (λ x. x - 1) at m e (is ∙ ap (λ (z : ℕ). z - 1) (sym row_loans)) c' rows same mark filter question)
        (back_lent w.holds n slip own at e (λ z. some (sym row_loans ∙ z)))

  -- as many loans as can be counted
  pub lend_full_kept : r.loans ≡ 255 → After K rule reach means o (lend n ∷ h) c store list × Answers (Err (only 19)) (outcome K o (after K o h) (lend n))
  lend_full_kept full = refused_kept w (lend n) (only 19) (lend_full w.holds n at e (row_loans ∙ full))
