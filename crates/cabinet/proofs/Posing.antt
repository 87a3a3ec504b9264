-- A question is put: what its checks answer, and what then stands.
use Rattle.std.proofs.Common.{◌≡◌, ℕ, ◌+◌, ◌<◌, ◌≤◌, Bool, true, false, cond, ltb, List, [], ◌∷◌, map, length, take, drop, Ok, Err, Result, sym, refl, ap, ◌∙◌, ⊎_elim, arith}
use Rattle.std.proofs.lemmas.List.{length-map, length-take-le, length-drop}
use Rattle.std.proofs.lemmas.Bool.{cases_Bool, le-ltb, lt-ltb, ltb-true, ltb-false}
use Rattle.trace.specs.Told.{Told, only}
use Rattle.trace.specs.Kinds.{Kind}
use Rattle.trace.specs.Files as file
use Rattle.filters.specs.Asking.{question_of}
use Rattle.filters.specs.declared.held.Held.{Held}
use Rattle.filters.specs.declared.refusal.Refusal as filter
use Rattle.filters.specs.Filters.{Rule, Reach, Pattern, StandsFor, verdict}
use Rattle.filters.specs.Matching.{Question}
use Rattle.filters.specs.Refusals.{refusal_number}
use Rattle.search.specs.declared.matches.Match.{Match}
use Rattle.catalog.specs.declared.row.Row.{Row}
use Rattle.catalog.specs.declared.row.Count.{Count}
use Rattle.catalog.specs.declared.catalog.Catalog.{Catalog}
use Rattle.catalog.specs.declared.refusal.Refusal.{Refusal}
use Rattle.catalog.specs.declared.refusal.Refusal.TheVariants.{OtherMemory, ListFull}
use Rattle.catalog.specs.Rows.{samples_in, recounted, with_count, pairs_of_counts}
use Rattle.catalog.specs.Catalogs.{standing, SameSizes, recount_verdict}
use Rattle.cabinet.specs.declared.collection.Collection.{Collection}
use Rattle.cabinet.specs.Model.{Opening, Lengths, Trace, State, accepted, refused, unless, by_verdict, outcome, ask, read, question, pose, pairs_of, wrong}
use Rattle.cabinet.specs.Words.{all_matches, padded}
use Rattle.cabinet.specs.Shelf.{trace_of, traces_of, row_of, count_of}
use Rattle.cabinet.specs.Searching.{CountedAll}
use Rattle.cabinet.specs.Promise.{Holds}
use Rattle.cabinet.proofs.Shelving.{length_traces, traces_recounted, samples_cons}
use Rattle.cabinet.proofs.Standing.{used_standing}
use Rattle.cabinet.proofs.Filing.{Filed}
use Rattle.cabinet.proofs.Bringing.{wrong_noted}
use Rattle.cabinet.proofs.Holding.{same_state, sum_by_map, given_told, traces_told, samples_fit}

-- rows with the counts of their traces are right rows
pub rows_recounted : {S : Type 0} (K : Kind S) (rule : Rule) (a : Question) (rs : List Row) (store : List S) (cs : List Count) → samples_in rs ≤ length store → take (length rs) cs ≡ map (count_of K rule a) (traces_of K.fields rs store) → recounted rs cs ≡ map (row_of K rule a) (traces_of K.fields rs store)
rows_recounted K rule a [] store cs h e = refl
rows_recounted K rule a (r ∷ rs) store [] h e = let z : ◌≡◌ {A = ℕ} 0 1 = cc in absurd (let y : ⊥ = omega arith in y)
rows_recounted {S = S} K rule a (r ∷ rs) store (c ∷ cs) h e =
    let t : Trace = trace_of K.fields r (take r.length store) in
    let rest : List S = drop r.length store in
    let s : samples_in (r ∷ rs) ≡ r.length + samples_in rs = samples_cons r rs in
    let own : c ≡ count_of K rule a t = cc in
    let others : take (length rs) cs ≡ map (count_of K rule a) (traces_of K.fields rs rest) = cc in
    let n : r.length ≡ length t.samples = sym (length-map (take r.length store) K.fields ∙ length-take-le r.length store (omega arith)) in
    ap (λ (z : Count). with_count z r ∷ recounted rs cs) own
    ∙ ap (λ (z : ℕ). record { number = r.number; machine = r.machine; length = z; loans = r.loans; pairs = (count_of K rule a t).pairs; places = (count_of K rule a t).places } ∷ recounted rs cs) n
    ∙ ap (λ (us : List Row). row_of K rule a t ∷ us) (rows_recounted K rule a rs rest cs (omega (arith, length-drop r.length store)) others)

-- the counts' pairs are the question's
counts_told : {S : Type 0} (K : Kind S) (rule : Rule) (a : Question) (ts : List Trace) → pairs_of_counts (map (count_of K rule a) ts) ≡ pairs_of K a ts
counts_told K rule a ts = sum_by_map (λ (c : Count). c.pairs) (count_of K rule a) ts

-- the counts of all rows that stand
pub record Counts {S : Type 0} (K : Kind S) (rule : Rule) (a : Question) (rs : List Row) (store : List S) (cs : List Count) : Type 0 where
  pub few : length rs ≤ length cs
  pub are : take (length rs) cs ≡ map (count_of K rule a) (traces_of K.fields rs store)
  pub pairs : pairs_of_counts (take (length rs) cs) ≡ pairs_of K a (traces_of K.fields rs store)

pub counts_here : {S : Type 0} (K : Kind S) (rule : Rule) (q a : Question) (k : Catalog) (store : List S) (cs : List Count) → q ≡ a → CountedAll K rule q k.list (traces_of K.fields (standing k) store) (Ok cs) → Counts K rule a (standing k) store cs
counts_here K rule q a k store cs e h =
    let rs : List Row = standing k in
    let ts : List Trace = traces_of K.fields rs store in
    let are : take (length rs) cs ≡ map (count_of K rule a) ts =
    ap (λ (z : ℕ). take z cs) (sym (length_traces K.fields rs store)) ∙ h.1 ∙ ap (λ (z : Question). map (count_of K rule z) ts) e in
    record { few = omega (arith, h.0, used_standing k, k.few); are = are; pairs = ap pairs_of_counts are ∙ counts_told K rule a ts }

-- a query that was read and taken, and the question that is then held
pub record Put {S : Type 0} (K : Kind S) (f : List ℕ) (m k : ℕ) (held : Question) : Type 0 where
  pub trace : file.Trace
  pub is : read K f ≡ Ok trace
  pub fair : verdict (length trace.samples) m k ≡ Ok tt
  pub asked_is : held ≡ question K m k trace

pub put : {S : Type 0} (K : Kind S) {f out : List ℕ} {machine count : ℕ} → Filed K.number K.tops f K.code machine count out → (m k : ℕ) (held : Question) →
    Ok tt ≡ verdict (length (take count out)) m k → held ≡ record { codes = take count out; m = m; k = k } → Put K f m k held
put K x m k held v e = record {
  trace = x.trace;
  is = x.is;
  fair = ap (λ (z : ℕ). verdict z m k) (sym x.size) ∙ sym v;
  asked_is = e ∙ ap (λ (z : List ℕ). record { codes = z; m = m; k = k }) x.codes;
}

-- as many counts as rows: only the list's room is left to check
pub recount_refused : (rs : List Row) (list : ℕ) (cs : List Count) (e : Refusal) → length rs ≤ length cs → recount_verdict rs list cs ≡ Err e → (e ≡ ListFull) × (list < pairs_of_counts (take (length rs) cs))
recount_refused rs list cs e h v =
    let n : ℕ = pairs_of_counts (take (length rs) cs) in
    let u : cond (ltb list n) (Err ListFull) (Ok tt) ≡ Err e = ap (λ (b : Bool). cond b (Err OtherMemory) (cond (ltb list n) (Err ListFull) (Ok tt))) (sym (le-ltb (length cs) (length rs) h)) ∙ v in
    ⊎_elim
    (λ (t : ltb list n ≡ true).
    let x : Err ListFull ≡ Err e = ap (λ (b : Bool). cond b (Err ListFull) (Ok tt)) (sym t) ∙ u in
    let y : e ≡ ListFull = cc in
    (y, ltb-true list n t))
    (λ (t : ltb list n ≡ false).
    let x : Ok tt ≡ Err e = ap (λ (b : Bool). cond b (Err ListFull) (Ok tt)) (sym t) ∙ u in
    let z : ◌≡◌ {A = ℕ} 0 1 = cc in absurd (let y : ⊥ = omega arith in y))
    (cases_Bool (ltb list n))

pub recount_fits : (rs : List Row) (list : ℕ) (cs : List Count) → length rs ≤ length cs → recount_verdict rs list cs ≡ Ok tt → pairs_of_counts (take (length rs) cs) ≤ list
recount_fits rs list cs h v =
    let n : ℕ = pairs_of_counts (take (length rs) cs) in
    let u : cond (ltb list n) (Err ListFull) (Ok tt) ≡ Ok tt = ap (λ (b : Bool). cond b (Err OtherMemory) (cond (ltb list n) (Err ListFull) (Ok tt))) (sym (le-ltb (length cs) (length rs) h)) ∙ v in
    ⊎_elim
    (λ (t : ltb list n ≡ true).
    let x : Err ListFull ≡ Ok tt = ap (λ (b : Bool). cond b (Err ListFull) (Ok tt)) (sym t) ∙ u in
    let z : ◌≡◌ {A = ℕ} 0 1 = cc in absurd (let y : ⊥ = omega arith in y))
    (λ (t : ltb list n ≡ false). ltb-false list n t)
    (cases_Bool (ltb list n))

module _ {S F : Type 0} {K : Kind S} {rule : Rule} {reach : Reach} {meaning : F → Pattern} {o : Opening} {s : State} {c : Collection S F} {store : List S} {list : List Match} (w : Holds K rule reach meaning o s c store list) where
  abbrev here : List Row
  here = standing c.catalog

  module _ (l : Lengths) (f : List ℕ) (m k : ℕ) (right : false ≡ wrong c.catalog.store c.catalog.list l) where
    pub ask_fault : (e : Told) → read K f ≡ Err e → outcome K o s (ask l f m k) ≡ refused e
    ask_fault e q = rw (wrong_noted w l false right, q)

    module _ (t : file.Trace) (q : read K f ≡ Ok t) where
      posed : outcome K o s (ask l f m k) ≡ pose K o s m k t
      posed = rw (wrong_noted w l false right, q)

      pub ask_bad : (e : filter.Refusal) → verdict (length t.samples) m k ≡ Err e → outcome K o s (ask l f m k) ≡ refused (only (refusal_number e))
      ask_bad e v = posed ∙ ap (λ (z : Result (Unit {0}) filter.Refusal). by_verdict z (unless (ltb o.list (pairs_of K (question K m k t) s.traces)) 12 (accepted 0 (record { given = s.given; traces = s.traces; asked = question K m k t })))) v

      module _ (v : verdict (length t.samples) m k ≡ Ok tt) where
        taken : outcome K o s (ask l f m k) ≡ unless (ltb o.list (pairs_of K (question K m k t) s.traces)) 12 (accepted 0 (record { given = s.given; traces = s.traces; asked = question K m k t }))
        taken = posed ∙ ap (λ (z : Result (Unit {0}) filter.Refusal). by_verdict z (unless (ltb o.list (pairs_of K (question K m k t) s.traces)) 12 (accepted 0 (record { given = s.given; traces = s.traces; asked = question K m k t })))) v

        pairs_here : pairs_of K (question K m k t) (traces_of K.fields here store) ≡ pairs_of K (question K m k t) s.traces
        pairs_here = ap (λ (z : State). pairs_of K (question K m k t) z.traces) w.state

        pub ask_full : c.catalog.list < pairs_of K (question K m k t) (traces_of K.fields here store) → outcome K o s (ask l f m k) ≡ refused (only 12)
        ask_full h = taken ∙ rw (lt-ltb o.list (pairs_of K (question K m k t) s.traces) (omega (arith, pairs_here, w.noted_list)))

        pub ask_met : pairs_of K (question K m k t) (traces_of K.fields here store) ≤ c.catalog.list → outcome K o s (ask l f m k) ≡ accepted 0 (record { given = s.given; traces = s.traces; asked = question K m k t })
        ask_met h = taken ∙ rw (le-ltb o.list (pairs_of K (question K m k t) s.traces) (omega (arith, pairs_here, w.noted_list)))

  -- what then stands, in the list as the call leaves it
  pub ask_holds : (a : Question) (held : Held) (filter : F) (cat : Catalog) (counts : List Count) (list' : List Match) →
      question_of held ≡ a → StandsFor rule reach (meaning filter) a →
      take (length here) counts ≡ map (count_of K rule a) (traces_of K.fields here store) → standing cat ≡ recounted here counts → SameSizes c.catalog cat →
      length list' ≡ length list → list' ≡ padded (length list) (all_matches K a (traces_of K.fields (standing cat) store)) →
      Holds K rule reach meaning o (record { given = s.given; traces = s.traces; asked = a }) (record { kind = c.kind; filter = filter; question = held; mark = c.mark; catalog = cat }) store list'
  ask_holds a held filter cat counts list' ea st ec er same ll el =
      let es : traces_of K.fields (standing cat) store ≡ s.traces = ap (λ (z : List Row). traces_of K.fields z store) er ∙ traces_recounted K.fields here counts store ∙ traces_told w in
      record {
        mark = w.mark;
        noted_store = same.store ∙ w.noted_store;
        store_length = w.store_length;
        noted_list = same.list ∙ w.noted_list;
        list_length = ll ∙ w.list_length;
        state = same_state (same.given ∙ given_told w) es ea;
        counted = er ∙ rows_recounted K rule a here store counts (samples_fit w) ec ∙ ap (map (row_of K rule a)) (traces_told w);
        filter = st;
        listed = el ∙ ap (λ (z : ℕ). padded z (all_matches K a (traces_of K.fields (standing cat) store))) w.list_length ∙ ap (λ (z : List Trace). padded o.list (all_matches K a z)) es;
      }
