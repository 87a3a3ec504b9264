-- A trace comes in: what its checks answer, and what then stands.
use Rattle.std.proofs.Common.{◌≡◌, ℕ, suc, ◌+◌, ◌-◌, ◌≤◌, Bool, true, false, cond, ltb, leb, List, [], ◌∷◌, ◌++◌, map, length, take, drop, Ok, Err, Result, sym, refl, ap, ◌∙◌, subst, arith}
use borrow.Rule.Slice.PartMut.{put_mid}
use Rattle.std.proofs.lemmas.List.{length-append, length-take-le, length-drop, take_at, take_all, drop_at, drop-drop, map_push, flat_map_more}
use Rattle.std.proofs.lemmas.List.Sums.{sum_by_push}
use Rattle.std.proofs.lemmas.Bool.{le-ltb, ltb-false}
use Rattle.trace.specs.Told.{Told}
use Rattle.trace.specs.Kinds.{Kind}
use Rattle.trace.specs.Files as file
use Rattle.filters.specs.Asking.{question_of}
use Rattle.filters.specs.Filters.{Rule, Reach, Pattern, StandsFor}
use Rattle.filters.specs.Matching.{Question, pairs}
use Rattle.search.specs.declared.matches.Match.{Match}
use Rattle.search.specs.Listing.{match_list, back_in}
use Rattle.search.proofs.Scanning.{exact_room, list_counted}
use Rattle.catalog.specs.declared.row.Row.{Row}
use Rattle.catalog.specs.declared.row.Count.{Count}
use Rattle.catalog.specs.declared.catalog.Catalog.{Catalog}
use Rattle.catalog.specs.declared.refusal.Refusal.{Refusal}
use Rattle.catalog.specs.declared.refusal.Refusal.TheVariants.{OtherMemory, TooManyTraces, NumbersSpent, StoreFull, ListFull}
use Rattle.catalog.specs.Refusals.{told}
use Rattle.catalog.specs.declared.row.Totals.{Totals}
use Rattle.catalog.specs.Rows.{samples_in, pairs_in, totals_of}
use Rattle.catalog.specs.Catalogs.{standing, admitted, new_row, Pushed}
use Rattle.cabinet.specs.declared.collection.Collection.{Collection}
use Rattle.cabinet.specs.Model.{Opening, Lengths, Trace, State, Outcome, accepted, refused, unless, outcome, accession, read, shelve, codes_of, pairs_of, wrong}
use Rattle.cabinet.specs.Words.{all_matches, padded}
use Rattle.cabinet.specs.Searching.{count_in, SearchedThrough}
use Rattle.cabinet.specs.Shelf.{trace_of, traces_of, row_of}
use Rattle.cabinet.specs.Promise.{Holds}
use Rattle.cabinet.proofs.Shelving.{traces_push, traces_front}
use Rattle.cabinet.proofs.Padding.{padded_length, padded_more}
use Rattle.cabinet.proofs.Bringing.{right_lengths, wrong_noted}
use Rattle.cabinet.proofs.Holding.{same_state, given_told, traces_told, asked_told, count_told, samples_told, pairs_told, matches_told}

-- what the catalogue's answer makes of the call
abbrev out : State → file.Trace → Result ℕ Refusal → Outcome
out s t (Ok m) = accepted m (record { given = m; traces = s.traces ++ (record { number = m; machine = t.machine; samples = t.samples; loans = 0 } ∷ []); asked = s.asked })
out s t (Err e) = refused (told e)

out_cond : (s : State) (t : file.Trace) (b : Bool) (e : Refusal) (x : Result ℕ Refusal) → out s t (cond b (Err e) x) ≡ cond b (refused (told e)) (out s t x)
out_cond s t true e x = refl
out_cond s t false e x = refl

-- the four checks, in their order
out_checks : (s : State) (t : file.Trace) (a b c d : Bool) (m : ℕ) →
    out s t (cond a (Err TooManyTraces) (cond b (Err NumbersSpent) (cond c (Err StoreFull) (cond d (Err ListFull) (Ok m))))) ≡ unless a 9 (unless b 10 (unless c 11 (unless d 12 (out s t (Ok m)))))
out_checks s t a b c d m =
    out_cond s t a TooManyTraces _
    ∙ ap (unless a 9) (out_cond s t b NumbersSpent _ ∙ ap (unless b 10) (out_cond s t c StoreFull _ ∙ ap (unless c 11) (out_cond s t d ListFull (Ok m))))

-- a check that did not apply
cond_ok : (b : Bool) (e : Refusal) (x : Result ℕ Refusal) (m : ℕ) → cond b (Err e) x ≡ Ok m → (b ≡ false) × (x ≡ Ok m)
cond_ok true e x m h = let z : ◌≡◌ {A = ℕ} 0 1 = cc in absurd (let y : ⊥ = omega arith in y)
cond_ok false e x m h = (refl, h)

-- what was admitted has room
admitted_room : (rs : List Row) (given store list len : ℕ) (n : Count) (m : ℕ) → admitted rs given store list len n ≡ Ok m → (samples_in rs + len ≤ store) × (pairs_in rs + n.pairs ≤ list)
admitted_room rs given store list len n m h =
    let last : Result ℕ Refusal = cond (ltb list (pairs_in rs + n.pairs)) (Err ListFull) (Ok (suc given)) in
    let third : Result ℕ Refusal = cond (ltb store (samples_in rs + len)) (Err StoreFull) last in
    let second : Result ℕ Refusal = cond (leb 65535 given) (Err NumbersSpent) third in
    let first : Result ℕ Refusal = cond (leb 256 (length rs)) (Err TooManyTraces) second in
    let a = cond_ok (ltb 4096 len) OtherMemory first m h in
    let b = cond_ok (leb 256 (length rs)) TooManyTraces second m a.1 in
    let c = cond_ok (leb 65535 given) NumbersSpent third m b.1 in
    let d = cond_ok (ltb store (samples_in rs + len)) StoreFull last m c.1 in
    let e = cond_ok (ltb list (pairs_in rs + n.pairs)) ListFull (Ok (suc given)) m d.1 in
    (ltb-false store (samples_in rs + len) d.0, ltb-false list (pairs_in rs + n.pairs) e.0)

-- the parts of store and list that a new trace takes, behind those of the others
pub record Free (k : Catalog) (l : Lengths) (t : Totals) (len : ℕ) (n : Count) : Type 0 where
  pub samples : t.samples ≡ samples_in (standing k)
  pub pairs : t.pairs ≡ pairs_in (standing k)
  pub stored : t.samples + len ≤ l.store
  pub listed : t.pairs + n.pairs ≤ l.list

pub parts_free : (k : Catalog) (l : Lengths) (t : Totals) (len : ℕ) (n : Count) (m : ℕ) → false ≡ wrong k.store k.list l → t ≡ totals_of (standing k) → admitted (standing k) k.given k.store k.list len n ≡ Ok m → Free k l t len n
parts_free k l t len n m right all h =
    let a : t.samples ≡ samples_in (standing k) = ap (λ (z : Totals). z.samples) all in
    let b : t.pairs ≡ pairs_in (standing k) = ap (λ (z : Totals). z.pairs) all in
    let r = admitted_room (standing k) k.given k.store k.list len n m h in
    let rl = right_lengths k.store k.list l right in
    record { samples = a; pairs = b; stored = omega arith; listed = omega arith }

-- a part between two places has so many items
pub part_length : {A : Type 0} (xs : List A) (at len : ℕ) → at + len ≤ length xs → length (take (at + len - at) (drop at xs)) ≡ len
part_length xs at len h =
    let e : at + len - at ≡ len = omega arith in
    length-take-le (at + len - at) (drop at xs) (omega (arith, length-drop at xs)) ∙ e

-- a part of the store was written
pub part_written : {S : Type 0} (fields : S → List ℕ) (xs : List (List ℕ)) (store part : List S) (at : ℕ) → at + length xs ≤ length store → length part ≡ length xs → map fields (take (length xs) part) ≡ xs →
    (length (put_mid at (length xs) store part) ≡ length store) × (take at (put_mid at (length xs) store part) ≡ take at store) × (map fields (take (length xs) (drop at (put_mid at (length xs) store part))) ≡ xs)
part_written fields xs store part at h l e =
    let la : length (take at store) ≡ at = length-take-le at store (omega arith) in
    let rest : List _ = drop (length xs) (drop at store) in
    let lr : length rest ≡ length store - (at + length xs) = ap length (drop-drop (length xs) at store) ∙ length-drop (at + length xs) store in
    let d : drop at (put_mid at (length xs) store part) ≡ part ++ rest = drop_at (take at store) (part ++ rest) at la in
    let t : take (length xs) (part ++ rest) ≡ part = take_at part rest (length xs) l in
    let p : take (length xs) part ≡ part = take_all (length xs) part (omega arith) in (
      length-append (take at store) (part ++ rest) ∙ (let z : length (take at store) + length (part ++ rest) ≡ length store = omega (arith, length-append part rest) in z),
      take_at (take at store) (part ++ rest) at la,
      ap (λ (ys : List _). map fields (take (length xs) ys)) d ∙ ap (map fields) (t ∙ sym p) ∙ e,
    )

-- a search whose filter stands for the question lists its matches, whatever it answers
pub listed_through : (agree : ℕ → ℕ → Bool) (rule : Rule) (reach : Reach) (p : Pattern) (a : Question) (t : List ℕ) (marks number : ℕ) (before behind : List Match) (r : Result Count Refusal) →
    SearchedThrough agree rule reach p a t marks number before behind r → StandsFor rule reach p a → 1024 ≤ marks → behind ≡ back_in before (match_list number agree a t)
listed_through agree rule reach p a t marks number before behind (Ok n) s st l = (s st).listed
listed_through agree rule reach p a t marks number before behind (Err e) s st l = absurd (s.1 st l)

module _ {S F : Type 0} {K : Kind S} {rule : Rule} {reach : Reach} {meaning : F → Pattern} {o : Opening} {s : State} {c : Collection S F} {store : List S} {list : List Match} (w : Holds K rule reach meaning o s c store list) where
  abbrev here : List Row
  here = standing c.catalog

  module _ (l : Lengths) (f : List ℕ) where
    pub arrive_fault : false ≡ wrong c.catalog.store c.catalog.list l → (e : Told) → read K f ≡ Err e → outcome K o s (accession l f) ≡ refused e
    arrive_fault right e q = rw (wrong_noted w l false right, q)

    module _ (right : false ≡ wrong c.catalog.store c.catalog.list l) (t : file.Trace) (q : read K f ≡ Ok t) (few : length t.samples ≤ 4096) (n : Count) (counted : n ≡ count_in K.agree rule s.asked (map K.code t.samples)) where
      abbrev arrived : ℕ → Trace
      arrived m = record { number = m; machine = t.machine; samples = t.samples; loans = 0 }

      -- the pairs with the new trace
      more_pairs : (m : ℕ) → pairs_in here + n.pairs ≡ pairs_of K s.asked (s.traces ++ (arrived m ∷ []))
      more_pairs m =
          let p = sum_by_push (λ (x : Trace). pairs K.agree s.asked (codes_of K x)) s.traces (arrived m) in
          omega (arith, p, pairs_told w, ap (λ (z : Count). z.pairs) counted)

      checked : admitted here c.catalog.given c.catalog.store c.catalog.list (length t.samples) n ≡
          cond (leb 256 (length here)) (Err TooManyTraces) (cond (leb 65535 c.catalog.given) (Err NumbersSpent) (cond (ltb c.catalog.store (samples_in here + length t.samples)) (Err StoreFull) (cond (ltb c.catalog.list (pairs_in here + n.pairs)) (Err ListFull) (Ok (suc c.catalog.given)))))
      checked = rw (le-ltb 4096 (length t.samples) few)

      shelved : shelve K o s t ≡ out s t (admitted here c.catalog.given c.catalog.store c.catalog.list (length t.samples) n)
      shelved =
          let count = count_told w in
          let samples = samples_told w in
          let given = given_told w in
          let pairs = more_pairs (suc s.given) in
          let checks = out_checks s t (leb 256 (length here)) (leb 65535 c.catalog.given) (ltb c.catalog.store (samples_in here + length t.samples)) (ltb c.catalog.list (pairs_in here + n.pairs)) (suc c.catalog.given) in
          let same = checked in
          cc

      arrive_outcome : outcome K o s (accession l f) ≡ out s t (admitted here c.catalog.given c.catalog.store c.catalog.list (length t.samples) n)
      arrive_outcome = rw (wrong_noted w l false right, q) shelved

      pub arrive_refused : (e : Refusal) → admitted here c.catalog.given c.catalog.store c.catalog.list (length t.samples) n ≡ Err e → outcome K o s (accession l f) ≡ refused (told e)
      arrive_refused e h = arrive_outcome ∙ ap (out s t) h

      pub arrive_met : (m : ℕ) → admitted here c.catalog.given c.catalog.store c.catalog.list (length t.samples) n ≡ Ok m → outcome K o s (accession l f) ≡ accepted m (record { given = m; traces = s.traces ++ (arrived m ∷ []); asked = s.asked })
      arrive_met m h = arrive_outcome ∙ ap (out s t) h

  -- the filter stands for the question that is held
  pub set_here : StandsFor rule reach (meaning c.filter) (question_of c.question)
  set_here = subst (StandsFor rule reach (meaning c.filter)) (sym (asked_told w)) w.filter

  -- what the search for the standing question found
  pub found_told : (n : Count) (tr : List ℕ) (xs : List (List ℕ)) → n ≡ count_in K.agree rule (question_of c.question) tr → tr ≡ map K.code xs → n ≡ count_in K.agree rule s.asked (map K.code xs)
  found_told n tr xs h e =
      h ∙ ap (λ (z : Question). count_in K.agree rule z tr) (asked_told w) ∙ ap (count_in K.agree rule s.asked) e

  pub listed_here : (m : ℕ) (tr : List ℕ) (xs : List (List ℕ)) (mid own : List Match) → own ≡ back_in mid (match_list m K.agree (question_of c.question) tr) → tr ≡ map K.code xs → own ≡ back_in mid (match_list m K.agree s.asked (map K.code xs))
  listed_here m tr xs mid own h e =
      h ∙ ap (λ (z : Question). back_in mid (match_list m K.agree z tr)) (asked_told w) ∙ ap (λ (z : List ℕ). back_in mid (match_list m K.agree s.asked z)) e

  -- what then stands, in the memory as the call leaves it
  pub arrive_holds : (t : file.Trace) (n : Count) → n ≡ count_in K.agree rule s.asked (map K.code t.samples) →
      (cat : Catalog) (m : ℕ) → Pushed c.catalog t.machine (length t.samples) n cat m → pairs_in here + n.pairs ≤ c.catalog.list →
      (store' : List S) → length store' ≡ length store → take (samples_in here) store' ≡ take (samples_in here) store → map K.fields (take (length t.samples) (drop (samples_in here) store')) ≡ t.samples →
      (mid own list' : List Match) → length mid ≡ n.pairs → own ≡ back_in mid (match_list m K.agree s.asked (map K.code t.samples)) → list' ≡ put_mid (pairs_in here) n.pairs list own →
      Holds K rule reach meaning o (record { given = m; traces = s.traces ++ (record { number = m; machine = t.machine; samples = t.samples; loans = 0 } ∷ []); asked = s.asked }) (record { kind = c.kind; filter = c.filter; question = c.question; mark = c.mark; catalog = cat }) store' list'
  arrive_holds t n counted cat m pushed room store' ls front back mid own list' lm eo el =
      let a : Question = s.asked in
      let ts : List Trace = s.traces in
      let x : Trace = record { number = m; machine = t.machine; samples = t.samples; loans = 0 } in
      let r : Row = new_row m t.machine (length t.samples) n in
      let ml : List Match = match_list m K.agree a (map K.code t.samples) in
      let np : length ml ≡ n.pairs = list_counted m K.agree a (map K.code t.samples) ∙ ap (λ (z : Count). z.pairs) (sym counted) in
      let own_is : own ≡ ml = eo ∙ exact_room mid ml (lm ∙ sym np) in
      let ln : pairs_in here ≡ length (all_matches K a ts) = matches_told w in
      let joins : all_matches K a ts ++ ml ≡ all_matches K a (ts ++ (x ∷ [])) = flat_map_more (λ (y : Trace). match_list y.number K.agree a (codes_of K y)) [] ts x in
      let more = padded_more o.list (all_matches K a ts) ml in
      let listed : list' ≡ padded o.list (all_matches K a (ts ++ (x ∷ []))) = cc in
      let traces : traces_of K.fields (standing cat) store' ≡ ts ++ (x ∷ []) =
      ap (λ (z : List Row). traces_of K.fields z store') pushed.rows
      ∙ traces_push K.fields here r store'
      ∙ ap (λ (z : List Trace). z ++ (trace_of K.fields r (take (length t.samples) (drop (samples_in here) store')) ∷ [])) (traces_front K.fields here store' store front ∙ traces_told w)
      ∙ ap (λ (z : List (List ℕ)). ts ++ (record { number = m; machine = t.machine; samples = z; loans = 0 } ∷ [])) back in
      record {
        mark = w.mark;
        noted_store = pushed.store ∙ w.noted_store;
        store_length = ls ∙ w.store_length;
        noted_list = pushed.list ∙ w.noted_list;
        list_length = ap length listed ∙ padded_length o.list (all_matches K a (ts ++ (x ∷ []))) (omega (arith, ap length joins, length-append (all_matches K a ts) ml, np, ln, room, w.noted_list));
        state = same_state pushed.given traces (asked_told w);
        counted =
            pushed.rows
            ∙ ap (λ (z : List Row). z ++ (r ∷ [])) w.counted
            ∙ ap (λ (z : Count). map (row_of K rule a) ts ++ (new_row m t.machine (length t.samples) z ∷ [])) counted
            ∙ sym (map_push (row_of K rule a) ts x);
        filter = w.filter;
        listed = listed;
      }
