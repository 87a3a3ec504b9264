-- The counts of the rows: their pairs are the matches, and are no more than (reach + 1) times their places.
use Rattle.std.proofs.Common.{◌≡◌, ℕ, suc, ◌+◌, ◌*◌, ◌≤◌, Bool, true, List, [], ◌∷◌, map, length, sym, refl, ap, ◌∙◌, subst, mul-add, arith}
use Rattle.std.proofs.lemmas.List.Sums.{sum_by-cons}
use Rattle.std.proofs.lemmas.List.{length-append}
use Rattle.trace.specs.Kinds.{Kind}
use Rattle.filters.specs.Matching.{Question, matches_at, pairs}
use Rattle.filters.specs.Filters.{Rule, Reach, Fair, Inside, Necessary, places}
use Rattle.search.specs.Listing.{match_list}
use Rattle.search.proofs.Sums.{bounded}
use Rattle.search.proofs.Scanning.{list_counted, served}
use Rattle.catalog.specs.declared.row.Row.{Row}
use Rattle.catalog.specs.Rows.{pairs_in, places_in}
use Rattle.cabinet.specs.Model.{Trace, codes_of}
use Rattle.cabinet.specs.Words.{all_matches}
use Rattle.cabinet.specs.Shelf.{row_of}

-- on one trace: each match has a passed place at most `reach` behind its start
trace_bounded : (rule : Rule) (reach : Reach) → Inside rule → Necessary rule reach → (agree : ℕ → ℕ → Bool) → ((x y : ℕ) → agree x y ≡ true → x ≡ y) → (a : Question) → Fair a → (t : List ℕ) → pairs agree a t ≤ suc (reach a.m a.k) * places rule a t
trace_bounded rule reach inside nec agree equal a fair t =
    bounded (λ i j. matches_at agree a t i j) (rule a t) (length a.codes) (length t) (reach a.m a.k)
    (λ i j li lj e. served rule reach nec agree equal a (fair.asks (omega arith)) t i j e)
    (λ i j e. inside a t i j e)

-- the list of all matches has an entry for each pair of the rows
pub rows_counted : {S : Type 0} (K : Kind S) (rule : Rule) (a : Question) (ts : List Trace) → pairs_in (map (row_of K rule a) ts) ≡ length (all_matches K a ts)
rows_counted K rule a [] = refl
rows_counted K rule a (t ∷ ts) =
    let p = sum_by-cons (λ (r : Row). r.pairs) (row_of K rule a t) (map (row_of K rule a) ts) in
    let l = length-append (match_list t.number K.agree a (codes_of K t)) (all_matches K a ts) in
    let c = list_counted t.number K.agree a (codes_of K t) in
    let r = rows_counted K rule a ts in
    p ∙ (ap (λ (z : ℕ). z + pairs_in (map (row_of K rule a) ts)) (sym c) ∙ (ap (λ (z : ℕ). length (match_list t.number K.agree a (codes_of K t)) + z) r ∙ sym l))

-- a bound for each part is one for the sum
sum_bounded : (c x x' y y' : ℕ) → x ≤ c * y → x' ≤ c * y' → x + x' ≤ c * (y + y')
sum_bounded c x x' y y' h h' = omega (arith, mul-add c y y')

-- on all traces
pub rows_bounded : {S : Type 0} (K : Kind S) (rule : Rule) (reach : Reach) → Inside rule → Necessary rule reach → ((x y : ℕ) → K.agree x y ≡ true → x ≡ y) → (a : Question) → Fair a → (ts : List Trace) →
    pairs_in (map (row_of K rule a) ts) ≤ suc (reach a.m a.k) * places_in (map (row_of K rule a) ts)
rows_bounded K rule reach inside nec equal a fair [] = omega arith
rows_bounded K rule reach inside nec equal a fair (t ∷ ts) =
    let rows : List Row = map (row_of K rule a) ts in
    let c : ℕ = suc (reach a.m a.k) in
    let p : pairs_in (row_of K rule a t ∷ rows) ≡ pairs K.agree a (codes_of K t) + pairs_in rows = sum_by-cons (λ (r : Row). r.pairs) (row_of K rule a t) rows in
    let q : places_in (row_of K rule a t ∷ rows) ≡ places rule a (codes_of K t) + places_in rows = sum_by-cons (λ (r : Row). r.places) (row_of K rule a t) rows in
    let b = sum_bounded c (pairs K.agree a (codes_of K t)) (pairs_in rows) (places rule a (codes_of K t)) (places_in rows)
    (trace_bounded rule reach inside nec K.agree equal a fair (codes_of K t)) (rows_bounded K rule reach inside nec equal a fair ts) in
    subst (λ (z : ℕ). z ≤ c * places_in (row_of K rule a t ∷ rows)) (sym p)
    (subst (λ (z : ℕ). pairs K.agree a (codes_of K t) + pairs_in rows ≤ c * z) (sym q) b)
