-- What the rows in use add up to, and what a change of the rows leaves of it.
use Rattle.std.proofs.Common.{◌≡◌, ℕ, suc, ◌+◌, ◌-◌, ◌<◌, ◌≤◌, List, length, get_or, take, drop, set, sum_by, refl, ap, ◌∙◌, ⊎_elim, add-one, arith}
use lib.Seq.{take-set-lt}
use Rattle.std.specs.List.{remove}
use Rattle.std.proofs.lemmas.List.{get_or-take, length-take-le, take_more_set, get_or-set_same, get_or-set_other}
use Rattle.std.proofs.lemmas.List.Sums.{sum_by-set, sum_by_push, sum_by-append, sum_by-take-drop, sum_by-take-le, sum_by-drop_more}
use Rattle.std.proofs.lemmas.List.Edits.{get_or-remove_below, get_or-remove_above}
use Rattle.std.proofs.lemmas.Bool.{cases_eq, cases_lt}
use Rattle.catalog.specs.declared.row.Row.{Row}
use Rattle.catalog.specs.declared.row.Count.{Count}
use Rattle.catalog.specs.declared.row.Totals.{Totals}
use Rattle.catalog.specs.Gaps.{closed}
use Rattle.catalog.specs.Rows.{blank, samples_in, pairs_in, totals_of, with_loans, recounted, pairs_of_counts}
use Rattle.catalog.proofs.Closing.{one_out}
use Rattle.catalog.proofs.Counting.{recounted_front, length_kept, samples_kept, pairs_new}

-- no row in use is longer than a trace
abbrev pub Short : List Row → ℕ → Type 0
Short rows used = (i : ℕ) → i < used → (get_or rows i blank).length ≤ 4096

-- totals of some rows fit where those of all rows do
pub totals_fit : (rs : List Row) (n : ℕ) (t : Totals) (store list : ℕ) → t ≡ totals_of (take n rs) → samples_in rs ≤ store → pairs_in rs ≤ list → (t.samples ≤ store) × (t.pairs ≤ list)
totals_fit rs n t store list e a b =
    let s = sum_by-take-le (λ (r : Row). r.length) rs n in
    let p = sum_by-take-le (λ (r : Row). r.pairs) rs n in
    (omega (arith, ap (λ (x : Totals). x.samples) e), omega (arith, ap (λ (x : Totals). x.pairs) e))

-- a row in use gets another count of loans
module _ (rows : List Row) (used at loans : ℕ) (few : used ≤ length rows) where
  abbrev lent : List Row
  lent = set rows at (with_loans loans (get_or rows at blank))

  pub loans_set : at < used → take used lent ≡ set (take used rows) at (with_loans loans (get_or (take used rows) at blank))
  loans_set lt =
      let g : get_or (take used rows) at blank ≡ get_or rows at blank = get_or-take used rows at blank lt in
      rw g (take-set-lt used rows at _ lt)

  loans_sum : at < used → (f : Row → ℕ) → f (with_loans loans (get_or rows at blank)) ≡ f (get_or rows at blank) → sum_by f (take used lent) ≡ sum_by f (take used rows)
  loans_sum lt f e =
      let t : take used lent ≡ set (take used rows) at (with_loans loans (get_or rows at blank)) = take-set-lt used rows at _ lt in
      let g : get_or (take used rows) at blank ≡ get_or rows at blank = get_or-take used rows at blank lt in
      let fg : f (get_or (take used rows) at blank) ≡ f (get_or rows at blank) = ap f g in
      let s = sum_by-set f (take used rows) at (with_loans loans (get_or rows at blank)) blank (omega (arith, length-take-le used rows few)) in
      rw t (omega arith)

  pub loans_samples : at < used → samples_in (take used lent) ≡ samples_in (take used rows)
  loans_samples lt = loans_sum lt (λ (r : Row). r.length) refl

  pub loans_pairs : at < used → pairs_in (take used lent) ≡ pairs_in (take used rows)
  loans_pairs lt = loans_sum lt (λ (r : Row). r.pairs) refl

  pub loans_short : at < used → Short rows used → Short lent used
  loans_short lt h i li =
      ⊎_elim
      (λ (e : i ≡ at). rw (e, get_or-set_same rows at _ blank (omega arith)) (h at lt))
      (λ (ne : i ≡ at → ⊥). rw (get_or-set_other rows at i _ blank ne) (h i li))
      (cases_eq i at)

-- a row comes in behind the last
module _ (rows : List Row) (used : ℕ) (r : Row) (room : used < length rows) where
  pub push_samples : samples_in (take (used + 1) (set rows used r)) ≡ samples_in (take used rows) + r.length
  push_samples = rw (take_more_set rows used r room) (sum_by_push (λ (x : Row). x.length) (take used rows) r)

  pub push_pairs : pairs_in (take (used + 1) (set rows used r)) ≡ pairs_in (take used rows) + r.pairs
  push_pairs = rw (take_more_set rows used r room) (sum_by_push (λ (x : Row). x.pairs) (take used rows) r)

  pub push_short : r.length ≤ 4096 → Short rows used → Short (set rows used r) (used + 1)
  push_short le h i li =
      ⊎_elim
      (λ (e : i ≡ used). rw (e, get_or-set_same rows used r blank room) le)
      (λ (ne : i ≡ used → ⊥). rw (get_or-set_other rows used i r blank ne) (h i (omega arith)))
      (cases_eq i used)

-- a row goes out
removed_sum : (f : Row → ℕ) (rows : List Row) (at : ℕ) → at < length rows → sum_by f (remove rows at) ≤ sum_by f rows
removed_sum f rows at lt =
    let a = sum_by-append f (take at rows) (drop (suc at) rows) in
    let b = sum_by-take-drop f rows at in
    let d : sum_by f (drop at rows) ≡ f (get_or rows at blank) + sum_by f (drop (suc at) rows) = rw (← add-one at) (sum_by-drop_more f rows at blank lt) in
    omega arith

module _ (rows after : List Row) (used at : ℕ) (few : used ≤ length rows) (lt : at < used) (is : after ≡ closed rows at 1 used) where
  pub removed_rows : take (used - 1) after ≡ remove (take used rows) at
  removed_rows = rw is (one_out rows used at few lt)

  pub removed_samples : samples_in (take (used - 1) after) ≤ samples_in (take used rows)
  removed_samples = rw removed_rows (removed_sum (λ (r : Row). r.length) (take used rows) at (omega (arith, length-take-le used rows few)))

  pub removed_pairs : pairs_in (take (used - 1) after) ≤ pairs_in (take used rows)
  removed_pairs = rw removed_rows (removed_sum (λ (r : Row). r.pairs) (take used rows) at (omega (arith, length-take-le used rows few)))

  pub removed_short : Short rows used → Short after (used - 1)
  removed_short h i li =
      let n : length (take used rows) ≡ used = length-take-le used rows few in
      let g : get_or (take (used - 1) after) i blank ≡ get_or after i blank = get_or-take (used - 1) after i blank li in
      rw (← g, removed_rows)
      (⊎_elim
      (λ (l : i < at). rw (get_or-remove_below (take used rows) at blank i l (omega arith), get_or-take used rows i blank (omega arith)) (h i (omega arith)))
      (λ (l : at ≤ i). rw (get_or-remove_above (take used rows) at blank i l (omega arith), get_or-take used rows (i + 1) blank (omega arith)) (h (i + 1) (omega arith)))
      (cases_lt i at))

-- rows get their new counts
module _ (rows after : List Row) (cs : List Count) (used : ℕ) (few : used ≤ length rows) (all : used ≤ length cs) (is : after ≡ recounted rows (take used cs)) where
  pub counted_rows : take used after ≡ recounted (take used rows) cs
  counted_rows = rw is (recounted_front rows cs used all)

  pub counted_samples : samples_in (take used after) ≡ samples_in (take used rows)
  counted_samples = rw counted_rows (samples_kept (take used rows) cs)

  pub counted_pairs : pairs_in (take used after) ≡ pairs_of_counts (take used cs)
  counted_pairs =
      let n : length (take used rows) ≡ used = length-take-le used rows few in
      rw counted_rows (pairs_new (take used rows) cs (omega arith) ∙ ap (λ (k : ℕ). pairs_of_counts (take k cs)) n)

  pub counted_short : Short rows used → Short after used
  counted_short h i li = rw (is, length_kept rows (take used cs) i) (h i li)
