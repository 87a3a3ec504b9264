-- One more window of a row, from the last down.
use Rattle.std.proofs.Common.{◌≡◌, ℕ, ◌+◌, ◌-◌, ◌<◌, ◌≤◌, Bool, true, false, ◌&&◌, Some, None, List, ◌∷◌, length, set, sym, refl, ap, ◌∙◌, subst, ⊎_elim, arith}
use Rattle.std.proofs.lemmas.Bool.{cases_Bool, both_ways, and_from, and_left, and_right}
use Rattle.search.specs.declared.matches.Match.{Match}
use Rattle.filters.specs.Matching.{Question, matches_at}
use Rattle.search.specs.Comparing.{match_at, fits}
use Rattle.search.specs.Listing.{picks, entry, tested_row, Filled}
use Rattle.search.proofs.Matched.{matches_not, matches_fit}
use Rattle.search.proofs.Picking.{picks_le, picks_none, picks_hit, picks_miss, picks_front, filled_none, filled_more, filled_full}

-- which windows of the row j are listed
abbrev pub listed : (ℕ → ℕ → Bool) → (ℕ → Bool) → Question → List ℕ → ℕ → ℕ → Bool
listed agree near a t j i = near i && matches_at agree a t i j

-- the windows of the row j from y on have been looked at
pub record SoFar (accession : ℕ) (agree : ℕ → ℕ → Bool) (near : ℕ → Bool) (a : Question) (t : List ℕ) (j y : ℕ) (b o : List Match) (n n' : ℕ) : Type 0 where
  pub filled : Filled b o n n' (picks (listed agree near a t j) (entry accession agree a t j) y (length a.codes - a.m + 1 - y))

pub match_some : (accession : ℕ) (agree : ℕ → ℕ → Bool) (a : Question) (t : List ℕ) (i j : ℕ) (v : Match) → Some v ≡ match_at accession agree a t i j → (matches_at agree a t i j ≡ true) × (v ≡ entry accession agree a t j i)
match_some accession agree a t i j v e =
    ⊎_elim (λ (h : matches_at agree a t i j ≡ true). (h, let z : Some v ≡ Some (entry accession agree a t j i) = e ∙ rw h refl in cc))
    (λ (h : matches_at agree a t i j ≡ false). absurd (let z : Some v ≡ None = e ∙ rw h refl in cc))
    (cases_Bool (matches_at agree a t i j))

pub match_none : (accession : ℕ) (agree : ℕ → ℕ → Bool) (a : Question) (t : List ℕ) (i j : ℕ) → None ≡ match_at accession agree a t i j → matches_at agree a t i j ≡ false
match_none accession agree a t i j e =
    ⊎_elim (λ (h : matches_at agree a t i j ≡ true). absurd (let z : None ≡ Some (entry accession agree a t j i) = e ∙ rw h refl in cc))
    (λ (h : matches_at agree a t i j ≡ false). h)
    (cases_Bool (matches_at agree a t i j))

module _ {accession : ℕ} {agree : ℕ → ℕ → Bool} {near : ℕ → Bool} {a : Question} {t : List ℕ} {j y : ℕ} {b o : List Match} {n n' : ℕ} where
  pub so_far_few : SoFar accession agree near a t j y b o n n' → n' ≤ n + (length a.codes - a.m + 1 - y)
  so_far_few f = omega (arith, f.filled.counted, picks_le (listed agree near a t j) (entry accession agree a t j) y (length a.codes - a.m + 1 - y))

  -- a match for which there is room
  pub so_far_put : (v : Match) (x : ℕ) → SoFar accession agree near a t j y b o n n' → 0 < y → y ≤ length a.codes - a.m + 1 → near (y - 1) ≡ true → Some v ≡ match_at accession agree a t (y - 1) j → n' + 1 ≤ length o → x ≡ length o - (n' + 1) →
      SoFar accession agree near a t j (y - 1) b (set o x v) n (n' + 1)
  so_far_put v x f pos le h e room ex =
      let m = match_some accession agree a t (y - 1) j v e in
      let l = picks_hit (listed agree near a t j) (entry accession agree a t j) y (length a.codes - a.m + 1) pos le (and_from (near (y - 1)) _ h m.0) in
      record {
        filled = subst (λ (z : List Match). Filled b (set o x v) n (n' + 1) z) (ap (λ (z : Match). z ∷ picks (listed agree near a t j) (entry accession agree a t j) y (length a.codes - a.m + 1 - y)) m.1 ∙ sym l)
            (filled_more b o (set o x v) n n' (picks (listed agree near a t j) (entry accession agree a t j) y (length a.codes - a.m + 1 - y)) v f.filled room (ap (λ (z : ℕ). set o z v) ex));
      }

  -- a match for which there is none
  pub so_far_count : (v : Match) → SoFar accession agree near a t j y b o n n' → 0 < y → y ≤ length a.codes - a.m + 1 → near (y - 1) ≡ true → Some v ≡ match_at accession agree a t (y - 1) j → length o < n' + 1 → SoFar accession agree near a t j (y - 1) b o n (n' + 1)
  so_far_count v f pos le h e full =
      let m = match_some accession agree a t (y - 1) j v e in
      let l = picks_hit (listed agree near a t j) (entry accession agree a t j) y (length a.codes - a.m + 1) pos le (and_from (near (y - 1)) _ h m.0) in
      record {
        filled = subst (λ (z : List Match). Filled b o n (n' + 1) z) (sym l) (filled_full b o n n' (picks (listed agree near a t j) (entry accession agree a t j) y (length a.codes - a.m + 1 - y)) (entry accession agree a t j (y - 1)) f.filled full);
      }

  -- a window that is not near, or does not match
  so_far_less : SoFar accession agree near a t j y b o n n' → 0 < y → y ≤ length a.codes - a.m + 1 → listed agree near a t j (y - 1) ≡ false → SoFar accession agree near a t j (y - 1) b o n n'
  so_far_less f pos le miss =
      record { filled = subst (λ (z : List Match). Filled b o n n' z) (sym (picks_miss (listed agree near a t j) (entry accession agree a t j) y (length a.codes - a.m + 1) pos le miss)) f.filled }

  pub so_far_far : SoFar accession agree near a t j y b o n n' → 0 < y → y ≤ length a.codes - a.m + 1 → near (y - 1) ≡ false → SoFar accession agree near a t j (y - 1) b o n n'
  so_far_far f pos le h = so_far_less f pos le (and_left (near (y - 1)) _ h)

  pub so_far_miss : SoFar accession agree near a t j y b o n n' → 0 < y → y ≤ length a.codes - a.m + 1 → None ≡ match_at accession agree a t (y - 1) j → SoFar accession agree near a t j (y - 1) b o n n'
  so_far_miss f pos le e = so_far_less f pos le (and_right (near (y - 1)) _ (match_none accession agree a t (y - 1) j e))

  -- no window starts from length - m + 1 on
  pub so_far_whole : a.m ≤ length a.codes → 0 < a.m → y ≡ 0 → SoFar accession agree near a t j y b o n n' → Filled b o n n' (tested_row accession agree a t near j)
  so_far_whole room some done f =
      let w : ℕ = length a.codes - a.m + 1 in
      let l = picks_front (listed agree near a t j) (entry accession agree a t j) 0 w (length a.codes) (omega arith)
      (λ x h k. and_right (near x) _ (matches_not agree a t x j (λ m. omega (arith, m.in_query)))) in
      let e : w - y ≡ w = omega arith in
      subst (λ (z : List Match). Filled b o n n' z) (ap (λ (z : ℕ). picks (listed agree near a t j) (entry accession agree a t j) z (w - y)) done ∙ (ap (λ (z : ℕ). picks (listed agree near a t j) (entry accession agree a t j) 0 z) e ∙ sym l)) f.filled

-- a row with nothing to list
pub row_nothing : (accession : ℕ) (agree : ℕ → ℕ → Bool) (near : ℕ → Bool) (a : Question) (t : List ℕ) (j : ℕ) (o : List Match) (c : ℕ) → ((i : ℕ) → listed agree near a t j i ≡ false) → Filled o o c c (tested_row accession agree a t near j)
row_nothing accession agree near a t j o c h =
    subst (λ (z : List Match). Filled o o c c z) (sym (picks_none (listed agree near a t j) (entry accession agree a t j) 0 (length a.codes) (λ x l m. h x))) (filled_none o c)

-- windows that do not fit
pub row_unfit : (accession : ℕ) (agree : ℕ → ℕ → Bool) (near : ℕ → Bool) (a : Question) (t : List ℕ) (j : ℕ) (o : List Match) (c : ℕ) → false ≡ fits a t j → Filled o o c c (tested_row accession agree a t near j)
row_unfit accession agree near a t j o c e =
    row_nothing accession agree near a t j o c (λ i. and_right (near i) _ (matches_not agree a t i j (λ w. both_ways (fits a t j) (sym e) (matches_fit agree a t i j _ w))))

-- no window of the row has been looked at
pub so_far_start : {accession : ℕ} {agree : ℕ → ℕ → Bool} {near : ℕ → Bool} {a : Question} {t : List ℕ} {j y : ℕ} {o : List Match} {n : ℕ} → y ≡ length a.codes - a.m + 1 → SoFar accession agree near a t j y o o n n
so_far_start {accession} {agree} {near} {a} {t} {j} {y} {o} {n} e =
    let z : 0 ≡ length a.codes - a.m + 1 - y = omega arith in
    record { filled = subst (λ (v : ℕ). Filled o o n n (picks (listed agree near a t j) (entry accession agree a t j) y v)) z (filled_none o n) }
