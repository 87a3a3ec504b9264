-- What is read off a collection is what stands.
use Rattle.std.proofs.Common.{◌≡◌, ℕ, suc, ◌+◌, ◌-◌, ◌*◌, ◌<◌, ◌≤◌, true, List, map, length, get_or, take, drop, replicate, Some, sum_by, sym, refl, ap, ◌∙◌, subst, arith}
use Rattle.std.proofs.lemmas.List.{get_or-map, take_at}
use Rattle.trace.specs.Kinds.{Kind}
use Rattle.filters.specs.Filters.{Rule, Reach, Pattern, places}
use Rattle.search.specs.declared.matches.Match.{Match}
use Rattle.search.specs.Words as one
use Rattle.catalog.specs.declared.row.Row.{Row}
use Rattle.catalog.specs.declared.row.Totals.{Totals}
use Rattle.catalog.specs.declared.catalog.Catalog.{Catalog}
use Rattle.catalog.specs.Rows as row
use Rattle.catalog.specs.Catalogs.{standing}
use Rattle.cabinet.specs.declared.collection.Collection.{Collection}
use Rattle.cabinet.specs.declared.report.Report.{Report}
use Rattle.cabinet.specs.Model.{Opening, Trace, State, Call, stands, after, codes_of, pairs_of, samples_of}
use Rattle.cabinet.specs.Words.{Whole, no_trace, all_matches}
use Rattle.cabinet.specs.Shelf.{row_of}
use Rattle.cabinet.specs.Promise.{Holds, After}
use Rattle.cabinet.specs.Reading.{trace_under, samples_before, report_of, Listed}
use Rattle.cabinet.proofs.Shelving.{trace_at, under_found, before_found}
use Rattle.cabinet.proofs.Rising.{numbered}
use Rattle.cabinet.proofs.Wording.{all_whole}
use Rattle.cabinet.proofs.Padding.{padded_none, padded_front}
use Rattle.cabinet.proofs.Standing.{used_standing}
use Rattle.cabinet.proofs.Holding.{traces_told, count_told, samples_told, pairs_told, places_told, matches_told, samples_fit}
use Rattle.cabinet.proofs.Finding.{found_some, is_standing}

-- the rows that stand, added up
abbrev report_in : Catalog → ℕ → Report
report_in c reach = record { traces = c.used; samples = row.samples_in (standing c); pairs = row.pairs_in (standing c); places = row.places_in (standing c); reach = reach }

-- the same report
same_report : (a a' b b' c c' d d' e e' : ℕ) → a ≡ a' → b ≡ b' → c ≡ c' → d ≡ d' → e ≡ e' →
    ◌≡◌ {A = Report} (record { traces = a; samples = b; pairs = c; places = d; reach = e }) (record { traces = a'; samples = b'; pairs = c'; places = d'; reach = e' })
same_report a a' b b' c c' d d' e e' p q r s t = cc

pub totals_report : (c : Catalog) (t : Totals) → t ≡ row.totals_of (standing c) → (r reach : ℕ) → r ≡ reach →
    record { traces = c.used; samples = t.samples; pairs = t.pairs; places = t.places; reach = r } ≡ report_in c reach
totals_report c t a r reach s =
    same_report c.used c.used t.samples (row.samples_in (standing c)) t.pairs (row.pairs_in (standing c)) t.places (row.places_in (standing c)) r reach
    refl (ap (λ (x : Totals). x.samples) a) (ap (λ (x : Totals). x.pairs) a) (ap (λ (x : Totals). x.places) a) s

module _ {S F : Type 0} {K : Kind S} {rule : Rule} {reach : Reach} {means : F → Pattern} {o : Opening} {s : State} {c : Collection S F} {store : List S} {list : List Match} (w : Holds K rule reach means o s c store list) where
  -- all of them added up
  pub report_told : report_in c.catalog (means c.filter).span ≡ report_of K rule reach s
  report_told =
      same_report c.catalog.used (length s.traces) (row.samples_in (standing c.catalog)) (samples_of s.traces) (row.pairs_in (standing c.catalog)) (pairs_of K s.asked s.traces)
      (row.places_in (standing c.catalog)) (sum_by (λ t. places rule s.asked (codes_of K t)) s.traces) (means c.filter).span (reach s.asked.m s.asked.k)
      (sym (used_standing c.catalog) ∙ count_told w) (samples_told w) (pairs_told w) (places_told w) w.filter.span

  -- the matches are at the front of the list
  front_told : take (row.pairs_in (standing c.catalog)) list ≡ all_matches K s.asked s.traces
  front_told =
      let l : List Match = all_matches K s.asked s.traces in
      ap (take (row.pairs_in (standing c.catalog))) w.listed
      ∙ take_at l (replicate (o.list - length l) one.no_match) (row.pairs_in (standing c.catalog)) (sym (matches_told w))

  pub match_told : (i : ℕ) → i < row.pairs_in (standing c.catalog) → get_or list i one.no_match ≡ get_or (all_matches K s.asked s.traces) i one.no_match
  match_told i h =
      ap (λ (x : List Match). get_or x i one.no_match) w.listed ∙ padded_front o.list (all_matches K s.asked s.traces) i (omega (arith, matches_told w))

  module _ (n at : ℕ) (e : Some at ≡ row.found_at n (standing c.catalog)) where
    abbrev rs : List Row
    rs = standing c.catalog

    at_place : at ≡ row.place n rs
    at_place = (found_some n at rs e).0

    at_inside : at < length rs
    at_inside = omega (arith, (found_some n at rs e).1, at_place)

    -- the trace under the number is that of the row
    under_told : trace_under n s.traces ≡ get_or s.traces at no_trace
    under_told =
        subst (λ (z : ℕ). trace_under n s.traces ≡ get_or s.traces z no_trace) (sym at_place)
        (subst (λ (z : State). trace_under n z.traces ≡ get_or z.traces (row.place n rs) no_trace) w.state (under_found K.fields n rs store (found_some n at rs e).1))

    pub row_told : get_or (standing c.catalog) at row.blank ≡ row_of K rule s.asked (trace_under n s.traces)
    row_told =
        let l : at < length s.traces = omega (arith, at_inside, count_told w) in
        ap (λ (xs : List Row). get_or xs at row.blank) w.counted
        ∙ get_or-map (row_of K rule s.asked) s.traces at no_trace row.blank l
        ∙ ap (row_of K rule s.asked) (sym under_told)

    -- its samples lie behind those of the traces before it
    place_told : row.samples_in (take at (standing c.catalog)) ≡ samples_before n s.traces
    place_told =
        subst (λ (z : ℕ). row.samples_in (take z rs) ≡ samples_before n s.traces) (sym at_place)
        (subst (λ (z : State). row.samples_in (take (row.place n rs) rs) ≡ samples_before n z.traces) w.state (sym (before_found K.fields n rs store (samples_fit w))))

    samples_told_at : map K.fields (take (get_or (standing c.catalog) at row.blank).length (drop (row.samples_in (take at (standing c.catalog))) store)) ≡ (trace_under n s.traces).samples
    samples_told_at =
        ap (λ (t : Trace). t.samples)
        (sym (trace_at K.fields rs store at at_inside) ∙ ap (λ (ts : List Trace). get_or ts at no_trace) (traces_told w) ∙ sym under_told)

    length_told : (get_or (standing c.catalog) at row.blank).length ≡ length (trace_under n s.traces).samples
    length_told = ap (λ (r : Row). r.length) row_told

    -- what is cut out of the store between its place and its end
    pub read_told : (r : Row) → r ≡ get_or (standing c.catalog) at row.blank → (t : Totals) → t ≡ row.totals_of (take at (standing c.catalog)) →
        (stands n s.traces ≡ true) × (t.samples ≡ samples_before n s.traces) ×
        (map K.fields (take (t.samples + r.length - t.samples) (drop t.samples store)) ≡ (trace_under n s.traces).samples) ×
        (take (t.samples + r.length - t.samples) (drop t.samples store) ≡ take (length (trace_under n s.traces).samples) (drop t.samples store))
    read_told r own t is =
        let place : ℕ = t.samples in
        let len : ℕ = r.length in
        let p : place ≡ row.samples_in (take at rs) = ap (λ (x : Totals). x.samples) is in
        let q : place + len - place ≡ (get_or rs at row.blank).length = omega (arith, ap (λ (x : Row). x.length) own) in (
          is_standing w n at e,
          p ∙ place_told,
          ap (λ (z : ℕ). map K.fields (take z (drop place store))) q ∙ ap (λ (z : ℕ). map K.fields (take (get_or rs at row.blank).length (drop z store))) p ∙ samples_told_at,
          ap (λ (z : ℕ). take z (drop place store)) (q ∙ length_told),
        )

-- the live front of the list is whole
pub listed_told : {S F : Type 0} {K : Kind S} {rule : Rule} {reach : Reach} {means : F → Pattern} {o : Opening} {h : List Call} {c : Collection S F} {store : List S} {list : List Match} → After K rule reach means o h c store list →
    (report : Report) →
    report ≡ report_in c.catalog (means c.filter).span →
    Listed K rule reach (after K o h) (take report.pairs list) report
listed_told {K = K} {o = o} {h = h} {c = c} {list = list} w report r =
    let s : State = after K o h in
    let l : List Match = all_matches K s.asked s.traces in
    let z : report.pairs ≡ row.pairs_in (standing c.catalog) = ap (λ (x : Report). x.pairs) r in
    let is : take report.pairs list ≡ l = ap (λ (n : ℕ). take n list) z ∙ front_told w.holds in
    record {
      is = is;
      whole = subst (λ (x : List Match). Whole K s.asked s.traces x (length x)) (sym is)
          (subst (λ (x : List Match). Whole K s.asked s.traces x (length l)) (padded_none l)
          (all_whole K s.asked (length l) 0 s.given s.traces (numbered K o h)));
      sums = r ∙ report_told w.holds;
      pairs = ap (λ (x : Report). x.pairs) r ∙ matches_told w.holds ∙ ap length (sym is);
      bounded = subst (λ (x : Report). x.pairs ≤ suc x.reach * x.places) (sym r)
          (subst (λ (z : ℕ). row.pairs_in (standing c.catalog) ≤ suc z * row.places_in (standing c.catalog)) (sym w.holds.filter.span) w.bounded);
    }
