-- The matches of all standing traces, counted and listed trace by trace.
use Rattle.std.proofs.Common.{◌≡◌, ℕ, ◌+◌, ◌-◌, ◌<◌, ◌≤◌, List, [], ◌∷◌, ◌++◌, map, length, get_or, take, drop, set, sym, ap, ◌∙◌, arith}
use borrow.Rule.Slice.PartMut.{put_mid}
use Rattle.std.specs.List.{flat_map}
use Rattle.std.proofs.lemmas.List.{length-set, length-drop, length-take-le, take_all, take_more, take_more_set, take-map, get_or-map, map_more, flat_map_more}
use Rattle.std.proofs.lemmas.List.Sums.{sum_by_more, sum_by-take-le}
use Rattle.trace.specs.Kinds.{Kind}
use Rattle.filters.specs.Matching.{Question, pairs}
use Rattle.filters.specs.Filters.{Rule}
use Rattle.search.specs.declared.matches.Match.{Match}
use Rattle.search.specs.Listing.{match_list, back_in}
use Rattle.search.proofs.Scanning.{list_counted, exact_room}
use Rattle.catalog.specs.declared.row.Row.{Row}
use Rattle.catalog.specs.declared.row.Count.{Count}
use Rattle.catalog.specs.Rows.{blank, samples_in, pairs_in}
use Rattle.cabinet.specs.Model.{Trace, codes_of, pairs_of}
use Rattle.cabinet.specs.Words.{no_trace, all_matches, padded}
use Rattle.cabinet.specs.Shelf.{traces_of, count_of, row_of}
use Rattle.cabinet.specs.Searching.{count_in}
use Rattle.cabinet.proofs.Shelving.{length_traces, trace_at}
use Rattle.cabinet.proofs.Padding.{padded_more}
use Rattle.cabinet.proofs.Bounding.{rows_counted}

module _ {S : Type 0} (K : Kind S) (a : Question) (rs : List Row) (store : List S) where
  -- the codes of a row's part of the store
  abbrev pub part : ℕ → Row → List ℕ
  part at r = map K.code (map K.fields (take (at + r.length - at) (drop at store)))

  -- are those of its trace
  part_codes : (i at : ℕ) (r : Row) → r ≡ get_or rs i blank → i < length rs → at ≡ samples_in (take i rs) → part at r ≡ codes_of K (get_or (traces_of K.fields rs store) i no_trace)
  part_codes i at r is l e =
      let n : ℕ = (get_or rs i blank).length in
      let w : at + n - at ≡ n = omega arith in
      ap (part at) is
      ∙ ap (λ (z : ℕ). map K.code (map K.fields (take z (drop at store)))) w
      ∙ ap (λ (z : ℕ). map K.code (map K.fields (take n (drop z store)))) e
      ∙ ap (codes_of K) (sym (trace_at K.fields rs store i l))

  part_number : (i : ℕ) (r : Row) → r ≡ get_or rs i blank → i < length rs → r.number ≡ (get_or (traces_of K.fields rs store) i no_trace).number
  part_number i r is l = ap (λ (x : Row). x.number) is ∙ ap (λ (t : Trace). t.number) (sym (trace_at K.fields rs store i l))

  -- where the next row begins
  place_more : (i at : ℕ) (r : Row) → r ≡ get_or rs i blank → i < length rs → at ≡ samples_in (take i rs) → at + r.length ≡ samples_in (take (i + 1) rs)
  place_more i at r is l e =
      ap (λ (z : ℕ). z + r.length) e ∙ ap (λ (x : Row). samples_in (take i rs) + x.length) is ∙ sym (sum_by_more (λ (x : Row). x.length) rs i blank l)

  -- the first i traces were counted
  pub record Counting (rule : Rule) (list i at pairs : ℕ) (counts : List Count) : Type 0 where
    pub place : at ≡ samples_in (take i rs)
    pub sum : pairs ≡ pairs_of K a (take i (traces_of K.fields rs store))
    pub fits : pairs ≤ list
    pub full : length counts ≡ 256
    pub counted : take i counts ≡ map (count_of K rule a) (take i (traces_of K.fields rs store))

  -- the count of the next trace
  count_next : (rule : Rule) (i at : ℕ) (r : Row) (n : Count) → r ≡ get_or rs i blank → i < length rs → at ≡ samples_in (take i rs) → n ≡ count_in K.agree rule a (part at r) → n ≡ count_of K rule a (get_or (traces_of K.fields rs store) i no_trace)
  count_next rule i at r n is l e h = h ∙ ap (count_in K.agree rule a) (part_codes i at r is l e)

  -- the pairs with the next trace's
  pairs_next : (rule : Rule) (i pairs : ℕ) (n : Count) → i < length rs → pairs ≡ pairs_of K a (take i (traces_of K.fields rs store)) →
      n ≡ count_of K rule a (get_or (traces_of K.fields rs store) i no_trace) → pairs + n.pairs ≡ pairs_of K a (take (i + 1) (traces_of K.fields rs store))
  pairs_next rule i pairs' n l s e =
      let ts : List Trace = traces_of K.fields rs store in
      let here : ℕ = pairs K.agree a (codes_of K (get_or ts i no_trace)) in
      let m : pairs_of K a (take (i + 1) ts) ≡ pairs_of K a (take i ts) + here =
      sum_by_more (λ (t : Trace). pairs K.agree a (codes_of K t)) ts i no_trace (omega (arith, length_traces K.fields rs store)) in
      let p : n.pairs ≡ here = ap (λ (x : Count). x.pairs) e in
      ap (λ (z : ℕ). pairs' + z) p ∙ ap (λ (z : ℕ). z + here) s ∙ sym m

  -- one trace more
  pub counting_more : (rule : Rule) (list i at pairs : ℕ) (counts : List Count) (r : Row) (n : Count) → Counting rule list i at pairs counts → i < length rs → i < 256 → r ≡ get_or rs i blank →
      n ≡ count_in K.agree rule a (part at r) → pairs + n.pairs ≤ list → Counting rule list (i + 1) (at + r.length) (pairs + n.pairs) (set counts i n)
  counting_more rule list i at pairs counts r n inv l l' is h fits =
      let ts : List Trace = traces_of K.fields rs store in
      let e : n ≡ count_of K rule a (get_or ts i no_trace) = count_next rule i at r n is l inv.place h in
      record {
        place = place_more i at r is l inv.place;
        sum = pairs_next rule i pairs n l inv.sum e;
        fits = fits;
        full = length-set counts i n ∙ inv.full;
        counted =
            take_more_set counts i n (omega (arith, inv.full))
            ∙ ap (λ (cs : List Count). cs ++ (n ∷ [])) inv.counted
            ∙ ap (λ (x : Count). map (count_of K rule a) (take i ts) ++ (x ∷ [])) e
            ∙ sym (map_more (count_of K rule a) ts i no_trace (omega (arith, length_traces K.fields rs store)));
      }

  -- the pairs of some traces are too many, so those of all are
  pub counting_full : (rule : Rule) (list i at pairs : ℕ) (counts : List Count) (r : Row) (n : Count) → Counting rule list i at pairs counts → i < length rs → r ≡ get_or rs i blank →
      n ≡ count_in K.agree rule a (part at r) → list < pairs + n.pairs → list < pairs_of K a (traces_of K.fields rs store)
  counting_full rule list i at pairs' counts r n inv l is h full =
      omega (arith, pairs_next rule i pairs' n l inv.sum (count_next rule i at r n is l inv.place h), sum_by-take-le (λ (t : Trace). pairs K.agree a (codes_of K t)) (traces_of K.fields rs store) (i + 1))

  -- after the last
  pub counting_all : (rule : Rule) (list i at pairs : ℕ) (counts : List Count) → Counting rule list i at pairs counts → i ≡ length rs →
      (length counts ≡ 256) × (take (length (traces_of K.fields rs store)) counts ≡ map (count_of K rule a) (traces_of K.fields rs store))
  counting_all rule list i at pairs counts inv end =
      let ts : List Trace = traces_of K.fields rs store in
      let n : length ts ≡ i = omega (arith, length_traces K.fields rs store) in
      (inv.full, ap (λ (z : ℕ). take z counts) n ∙ inv.counted ∙ ap (map (count_of K rule a)) (take_all i ts (omega arith)))

  -- the matches of the first i traces stand at the front of a list of n
  pub record Listing (n i at first : ℕ) (list : List Match) : Type 0 where
    pub place : at ≡ samples_in (take i rs)
    pub sum : first ≡ pairs_in (take i rs)
    pub listed : list ≡ padded n (all_matches K a (take i (traces_of K.fields rs store)))

  -- one trace more, whose row has the right count of pairs
  pub listing_more : (rule : Rule) (n i at first : ℕ) (list behind : List Match) (r : Row) → Listing n i at first list → i < length rs → r ≡ get_or rs i blank →
      rs ≡ map (row_of K rule a) (traces_of K.fields rs store) → length list ≡ n → first + r.pairs ≤ n →
      behind ≡ back_in (take (first + r.pairs - first) (drop first list)) (match_list r.number K.agree a (part at r)) →
      Listing n (i + 1) (at + r.length) (first + r.pairs) (put_mid first (first + r.pairs - first) list behind)
  listing_more rule n i at first list behind r inv l is right full fits h =
      let ts : List Trace = traces_of K.fields rs store in
      let t : Trace = get_or ts i no_trace in
      let lt : i < length ts = omega (arith, length_traces K.fields rs store) in
      let new : List Match = match_list t.number K.agree a (codes_of K t) in
      let old : List Match = all_matches K a (take i ts) in
      let lo : length old ≡ first =
      sym (inv.sum ∙ ap (λ (xs : List Row). pairs_in (take i xs)) right ∙ ap pairs_in (take-map (row_of K rule a) i ts) ∙ rows_counted K rule a (take i ts)) in
      let ln : r.pairs ≡ length new =
      ap (λ (x : Row). x.pairs) (is ∙ ap (λ (xs : List Row). get_or xs i blank) right ∙ get_or-map (row_of K rule a) ts i no_trace blank lt)
      ∙ sym (list_counted t.number K.agree a (codes_of K t)) in
      let w : first + r.pairs - first ≡ length new = omega arith in
      let room : length (take (first + r.pairs - first) (drop first list)) ≡ length new =
      length-take-le (first + r.pairs - first) (drop first list) (omega (arith, length-drop first list)) ∙ w in
      let e : behind ≡ new =
      h ∙ ap (λ (z : ℕ). back_in (take (first + r.pairs - first) (drop first list)) (match_list z K.agree a (part at r))) (part_number i r is l)
      ∙ ap (λ (cs : List ℕ). back_in (take (first + r.pairs - first) (drop first list)) (match_list t.number K.agree a cs)) (part_codes i at r is l inv.place)
      ∙ exact_room (take (first + r.pairs - first) (drop first list)) new room in
      let f : Trace → List Match = λ x. match_list x.number K.agree a (codes_of K x) in
      record {
        place = place_more i at r is l inv.place;
        sum = ap (λ (z : ℕ). z + r.pairs) inv.sum ∙ ap (λ (x : Row). pairs_in (take i rs) + x.pairs) is ∙ sym (sum_by_more (λ (x : Row). x.pairs) rs i blank l);
        listed =
            ap (λ (z : ℕ). put_mid first z list behind) w
            ∙ ap (λ (z : ℕ). put_mid z (length new) list behind) (sym lo)
            ∙ ap (λ (xs : List Match). put_mid (length old) (length new) xs behind) inv.listed
            ∙ ap (put_mid (length old) (length new) (padded n old)) e
            ∙ padded_more n old new
            ∙ ap (padded n) (flat_map_more f [] (take i ts) t ∙ ap (λ (xs : List Trace). flat_map f xs) (sym (take_more ts i no_trace lt)));
      }

  -- after the last
  pub listing_all : (n i at first : ℕ) (list : List Match) → Listing n i at first list → i ≡ length rs → list ≡ padded n (all_matches K a (traces_of K.fields rs store))
  listing_all n i at first list inv end =
      let ts : List Trace = traces_of K.fields rs store in
      inv.listed ∙ ap (λ (xs : List Trace). padded n (all_matches K a xs)) (take_all i ts (omega (arith, length_traces K.fields rs store)))
