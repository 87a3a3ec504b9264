-- A trace goes: its row, its samples and its matches.
use Rattle.std.proofs.Common.{◌≡◌, ℕ, suc, ◌+◌, ◌-◌, ◌<◌, ◌≤◌, true, false, cond, not, eqb, List, [], ◌∷◌, ◌++◌, map, length, get_or, take, drop, replicate, Some, None, sum_by, sym, refl, ap, ◌∙◌, subst, add-one, one-add, arith}
use borrow.Rule.Slice.PartMut.{put_mid}
use Rattle.std.specs.List.{remove}
use Rattle.std.proofs.lemmas.List.{append_assoc, length-append, length-take-le, length-drop, length-map, take_at, drop_at, drop-drop, drop-take, take-append-drop, replicate-append-replicate}
use Rattle.std.proofs.lemmas.List.Sums.{sum_by-cons, sum_by-append, sum_by-take-drop, sum_by-drop_more}
use Rattle.std.proofs.lemmas.Bool.{le-leb, and_from, cond-true, lt-ltb, le-ltb}
use Rattle.trace.specs.Kinds.{Kind}
use Rattle.filters.specs.Filters.{Rule, Reach, Pattern}
use Rattle.filters.specs.Matching.{Question}
use Rattle.search.specs.declared.matches.Match.{Match}
use Rattle.search.specs.Listing.{match_list}
use Rattle.search.specs.Words.{no_match}
use Rattle.search.proofs.Scanning.{list_counted}
use Rattle.catalog.specs.declared.row.Row.{Row}
use Rattle.catalog.specs.Rows as row
use Rattle.catalog.specs.Gaps.{closed}
use Rattle.trace.specs.Told.{only}
use Rattle.catalog.specs.declared.catalog.Catalog.{Catalog}
use Rattle.catalog.specs.Catalogs.{standing, SameSizes}
use Rattle.cabinet.specs.declared.collection.Collection.{Collection}
use Rattle.cabinet.specs.Model.{Opening, Lengths, Trace, State, accepted, refused, outcome, withdraw, codes_of, without, wrong}
use Rattle.cabinet.specs.Promise.{Holds}
use Rattle.cabinet.specs.Words.{all_matches, padded}
use Rattle.cabinet.specs.Shelf.{traces_of, row_of}
use Rattle.cabinet.proofs.Shelving.{traces_front, traces_cut, cut}
use Rattle.cabinet.proofs.Padding.{padded_length}
use Rattle.cabinet.proofs.Standing.{sum_within}
use Rattle.cabinet.proofs.Bringing.{wrong_noted}
use Rattle.cabinet.proofs.Finding.{not_standing, is_standing, loans_standing}
use Rattle.cabinet.proofs.Holding.{same_state, given_told, traces_told, asked_told, matches_told, samples_fit}

-- a gap that lies among the used items
closed_is : {A : Type 0} (xs : List A) (at len used : ℕ) → used ≤ length xs → at + len ≤ used → closed xs at len used ≡ (take at xs ++ drop (at + len) (take used xs)) ++ drop (used - len) xs
closed_is xs at len used few fit =
    cond-true _ _ _ (and_from _ _ (le-leb used (length xs) few) (and_from _ _ (le-leb at used (omega arith)) (le-leb len (used - at) (omega arith))))

-- one row less
samples_out : (rs : List Row) (p : ℕ) → p < length rs → row.samples_in (remove rs p) ≡ row.samples_in rs - (get_or rs p row.blank).length
samples_out rs p l =
    let f : Row → ℕ = λ r. r.length in
    let u = sum_by-take-drop f rs p in
    let v = sum_by-drop_more f rs p row.blank l in
    let w = sum_by-append f (take p rs) (drop (suc p) rs) in
    let x = ap (λ (z : ℕ). sum_by f (drop z rs)) (add-one p) in
    omega arith

-- the used front of a store after one gap was closed
closed_front : {A : Type 0} (xs : List A) (at len used : ℕ) → used ≤ length xs → at + len ≤ used → take (used - len) (closed xs at len used) ≡ take (used - len) (take at xs ++ drop (at + len) xs)
closed_front xs at len used few fit =
    let n : ℕ = used - (at + len) in
    let u : at + len + n ≡ used = omega arith in
    let m : ℕ = used - len in
    let a : length (take at xs) ≡ at = length-take-le at xs (omega arith) in
    let d : drop (at + len) (take used xs) ≡ take n (drop (at + len) xs) = subst (λ (z : ℕ). drop (at + len) (take z xs) ≡ take n (drop (at + len) xs)) u (drop-take (at + len) n xs) in
    let t : length (take n (drop (at + len) xs)) ≡ n = length-take-le n (drop (at + len) xs) (omega (arith, length-drop (at + len) xs)) in
    let l : length (take at xs ++ take n (drop (at + len) xs)) ≡ m = omega (arith, length-append (take at xs) (take n (drop (at + len) xs))) in
    let front : take m (take at xs ++ drop (at + len) xs) ≡ take at xs ++ take n (drop (at + len) xs) =
    ap (λ (ys : List _). take m (take at xs ++ ys)) (sym (take-append-drop n (drop (at + len) xs)))
    ∙ ap (take m) (sym (append_assoc (take at xs) (take n (drop (at + len) xs)) (drop n (drop (at + len) xs))))
    ∙ take_at (take at xs ++ take n (drop (at + len) xs)) (drop n (drop (at + len) xs)) m l in
    ap (take m) (closed_is xs at len used few fit ∙ ap (λ (ys : List _). (take at xs ++ ys) ++ drop m xs) d)
    ∙ take_at (take at xs ++ take n (drop (at + len) xs)) (drop m xs) m l
    ∙ sym front

-- the samples of the other traces close up
samples_closed : {S : Type 0} (fields : S → List ℕ) (n : ℕ) (rs : List Row) (store : List S) → row.place n rs < length rs → row.samples_in rs ≤ length store →
    traces_of fields (remove rs (row.place n rs)) (closed store (row.samples_in (take (row.place n rs) rs)) (get_or rs (row.place n rs) row.blank).length (row.samples_in rs)) ≡ without n (traces_of fields rs store)
samples_closed fields n rs store l h =
    let p : ℕ = row.place n rs in
    let at : ℕ = row.samples_in (take p rs) in
    let len : ℕ = (get_or rs p row.blank).length in
    traces_front fields (remove rs p) (closed store at len (row.samples_in rs)) (cut fields at len store)
    (subst (λ (z : ℕ). take z (closed store at len (row.samples_in rs)) ≡ take z (cut fields at len store)) (sym (samples_out rs p l)) (closed_front store at len (row.samples_in rs) h (sum_within (λ (r : Row). r.length) rs p l)))
    ∙ traces_cut fields n rs store l h

module _ {S : Type 0} (K : Kind S) (rule : Rule) (a : Question) where
  abbrev rows : List Trace → List Row
  rows ts = map (row_of K rule a) ts

  abbrev matches : Trace → List Match
  matches t = match_list t.number K.agree a (codes_of K t)

  -- the other rows
  rows_without : (n : ℕ) (ts : List Trace) → rows (without n ts) ≡ remove (rows ts) (row.place n (rows ts))
  rows_without n [] = refl
  rows_without n (t ∷ ts) =
      let k : ℕ = row.place n (rows ts) in
      elim (eqb t.number n) as (λ b. rows (cond b ts (t ∷ without n ts)) ≡ remove (row_of K rule a t ∷ rows ts) (cond (not b) (1 + k) 0)) [
        | true ↦ refl
        | false ↦ subst (λ (z : ℕ). rows (t ∷ without n ts) ≡ remove (row_of K rule a t ∷ rows ts) z) (sym (one-add k)) (ap (λ (rs : List Row). row_of K rule a t ∷ rs) (rows_without n ts))
      ]

  -- the list has the matches of the traces before, of the trace itself, and of those behind
  pub record Parts (ts us : List Trace) (p : ℕ) : Type 0 where
    pub before : List Match
    pub own : List Match
    pub behind : List Match
    pub all : all_matches K a ts ≡ before ++ (own ++ behind)
    pub rest : all_matches K a us ≡ before ++ behind
    pub starts : length before ≡ row.pairs_in (take p (rows ts))
    pub size : length own ≡ (get_or (rows ts) p row.blank).pairs

  pub parts : (n : ℕ) (ts : List Trace) → row.place n (rows ts) < length ts → Parts ts (without n ts) (row.place n (rows ts))
  parts n [] l = absurd (let z : ⊥ = omega arith in z)
  parts n (t ∷ ts) l =
      let k : ℕ = row.place n (rows ts) in
      (elim (eqb t.number n) as (λ b. cond (not b) (1 + k) 0 < suc (length ts) → Parts (t ∷ ts) (cond b ts (t ∷ without n ts)) (cond (not b) (1 + k) 0)) [
        | true ↦ λ h. record { before = []; own = matches t; behind = all_matches K a ts; all = refl; rest = refl; starts = refl; size = list_counted t.number K.agree a (codes_of K t) }
        | false ↦ λ h.
            let w = parts n ts (omega arith) in
            subst (λ (z : ℕ). Parts (t ∷ ts) (t ∷ without n ts) z) (sym (one-add k))
            (record {
              before = matches t ++ w.before;
              own = w.own;
              behind = w.behind;
              all = ap (λ (l : List Match). matches t ++ l) w.all ∙ sym (append_assoc (matches t) w.before (w.own ++ w.behind));
              rest = ap (λ (l : List Match). matches t ++ l) w.rest ∙ sym (append_assoc (matches t) w.before w.behind);
              starts =
                  let c = sum_by-cons (λ (r : Row). r.pairs) (row_of K rule a t) (take k (rows ts)) in
                  omega (arith, length-append (matches t) w.before, w.starts, list_counted t.number K.agree a (codes_of K t));
              size = w.size;
            })
      ]) l

-- in the list, the gap closes and zeros come in behind
matches_closed : (n : ℕ) (xs ys zs : List Match) → length xs + (length ys + length zs) ≤ n →
    put_mid (length xs + length zs) (length ys) (closed (padded n (xs ++ (ys ++ zs))) (length xs) (length ys) (length xs + (length ys + length zs))) (replicate (length ys) no_match) ≡ padded n (xs ++ zs)
matches_closed n xs ys zs h =
    let b : ℕ = length ys in
    let left : ℕ = length xs + length zs in
    let all : ℕ = length xs + (b + length zs) in
    let m : List Match = xs ++ (ys ++ zs) in
    let list : List Match = padded n m in
    let lm : length m ≡ all = length-append xs (ys ++ zs) ∙ ap (λ (z : ℕ). length xs + z) (length-append ys zs) in
    let ll : length list ≡ n = padded_length n m (omega arith) in
    let lz : length (xs ++ zs) ≡ left = length-append xs zs in
    let front : take (length xs) list ≡ xs = ap (take (length xs)) (append_assoc xs (ys ++ zs) (replicate (n - length m) no_match)) ∙ take_at xs ((ys ++ zs) ++ replicate (n - length m) no_match) (length xs) refl in
    let used : take all list ≡ m = take_at m (replicate (n - length m) no_match) all lm in
    let last : drop (length xs + b) m ≡ zs =
    sym (drop-drop b (length xs) m) ∙ ap (drop b) (drop_at xs (ys ++ zs) (length xs) refl) ∙ drop_at ys zs b refl in
    let shut : closed list (length xs) b all ≡ (xs ++ zs) ++ drop (all - b) list =
    closed_is list (length xs) b all (omega arith) (omega arith)
    ∙ ap (λ (us : List Match). (us ++ drop (length xs + b) (take all list)) ++ drop (all - b) list) front
    ∙ ap (λ (us : List Match). (xs ++ drop (length xs + b) us) ++ drop (all - b) list) used
    ∙ ap (λ (us : List Match). (xs ++ us) ++ drop (all - b) list) last in
    let tail : drop b (drop (all - b) list) ≡ replicate (n - length m) no_match =
    drop-drop b (all - b) list ∙ ap (λ (z : ℕ). drop z list) (let e : all - b + b ≡ all = omega arith in e) ∙ drop_at m (replicate (n - length m) no_match) all lm in
    let zeros : replicate b no_match ++ replicate (n - length m) no_match ≡ replicate (n - length (xs ++ zs)) no_match =
    replicate-append-replicate b (n - length m) no_match ∙ ap (λ (z : ℕ). replicate z no_match) (let e : b + (n - length m) ≡ n - length (xs ++ zs) = omega arith in e) in
    ap (λ (us : List Match). put_mid left b us (replicate b no_match)) shut
    ∙ ap (λ (us : List Match). us ++ (replicate b no_match ++ drop b (drop left ((xs ++ zs) ++ drop (all - b) list)))) (take_at (xs ++ zs) (drop (all - b) list) left lz)
    ∙ ap (λ (us : List Match). (xs ++ zs) ++ (replicate b no_match ++ drop b us)) (drop_at (xs ++ zs) (drop (all - b) list) left lz)
    ∙ ap (λ (us : List Match). (xs ++ zs) ++ (replicate b no_match ++ us)) tail
    ∙ ap (λ (us : List Match). (xs ++ zs) ++ us) zeros

-- the same, by other names for the lengths
matches_shut : (n : ℕ) (xs ys zs list list' : List Match) (b l a : ℕ) → b ≡ length xs → l ≡ length ys → a ≡ length xs + (length ys + length zs) → a ≤ n → list ≡ padded n (xs ++ (ys ++ zs)) →
    list' ≡ put_mid (a - l) l (closed list b l a) (replicate l no_match) → list' ≡ padded n (xs ++ zs)
matches_shut n xs ys zs list list' b l a p q r h e e' =
    let d : a - l ≡ length xs + length zs = omega arith in
    let m = matches_closed n xs ys zs (omega arith) in
    cc

-- the same gap, by other names for its numbers
pub closed_by : {A : Type 0} (xs ys : List A) {b b' l l' a a' : ℕ} → b ≡ b' → l ≡ l' → a ≡ a' → ys ≡ closed xs b l a → ys ≡ closed xs b' l' a'
closed_by xs ys p q r e = cc

-- the part that was blanked
pub blanked_by : (xs ys zs : List Match) {b b' l l' a a' : ℕ} → b ≡ b' → l ≡ l' → a ≡ a' → ys ≡ closed xs b l a → zs ≡ replicate (length (take (a - (a - l)) (drop (a - l) ys))) no_match → l ≤ a → a ≤ length ys →
    put_mid (a - l) (a - (a - l)) ys zs ≡ put_mid (a' - l') l' (closed xs b' l' a') (replicate l' no_match)
blanked_by xs ys zs {b' = b'} {l = l} {l' = l'} {a = a} {a' = a'} p q r e z h fit =
    let k : a - (a - l) ≡ l' = omega arith in
    let n : length (take (a - (a - l)) (drop (a - l) ys)) ≡ l' = length-take-le (a - (a - l)) (drop (a - l) ys) (omega (arith, length-drop (a - l) ys)) ∙ k in
    let y : ys ≡ closed xs b' l' a' = closed_by xs ys p q r e in
    let m : zs ≡ replicate l' no_match = z ∙ ap (λ (v : ℕ). replicate v no_match) n in
    let d : a - l ≡ a' - l' = omega arith in
    cc

-- a withdrawal, by what stands before it
module _ {S F : Type 0} {K : Kind S} {rule : Rule} {reach : Reach} {meaning : F → Pattern} {o : Opening} {s : State} {c : Collection S F} {store : List S} {list : List Match} (w : Holds K rule reach meaning o s c store list) (l : Lengths) (n : ℕ) where
  abbrev here : List Row
  here = standing c.catalog

  module _ (right : false ≡ wrong c.catalog.store c.catalog.list l) where
    pub withdraw_none : None ≡ row.found_at n here → outcome K o s (withdraw l n) ≡ refused (only 13)
    withdraw_none e = rw (wrong_noted w l false right, not_standing w n e)

    module _ (at : ℕ) (e : Some at ≡ row.found_at n here) where
      pub withdraw_lent : 0 < (get_or here at row.blank).loans → outcome K o s (withdraw l n) ≡ refused (only 14)
      withdraw_lent lent = rw (wrong_noted w l false right, is_standing w n at e, loans_standing w n at e, lt-ltb 0 (get_or here at row.blank).loans lent)

      pub withdraw_met : (get_or here at row.blank).loans ≤ 0 → outcome K o s (withdraw l n) ≡ accepted 0 (record { given = s.given; traces = without n s.traces; asked = s.asked })
      withdraw_met free = rw (wrong_noted w l false right, is_standing w n at e, loans_standing w n at e, le-ltb 0 (get_or here at row.blank).loans free)

  pub withdraw_holds : row.place n here < length here → (store' : List S) (list' : List Match) (cat : Catalog) →
      store' ≡ closed store (row.samples_in (take (row.place n here) here)) (get_or here (row.place n here) row.blank).length (row.samples_in here) → length store' ≡ length store →
      list' ≡ put_mid (row.pairs_in here - (get_or here (row.place n here) row.blank).pairs) (get_or here (row.place n here) row.blank).pairs (closed list (row.pairs_in (take (row.place n here) here)) (get_or here (row.place n here) row.blank).pairs (row.pairs_in here)) (replicate (get_or here (row.place n here) row.blank).pairs no_match) →
      standing cat ≡ remove here (row.place n here) → SameSizes c.catalog cat →
      Holds K rule reach meaning o (record { given = s.given; traces = without n s.traces; asked = s.asked }) (record { kind = c.kind; filter = c.filter; question = c.question; mark = c.mark; catalog = cat }) store' list'
  withdraw_holds h store' list' cat es ls el er same =
      let p : ℕ = row.place n here in
      let a : Question = s.asked in
      let ts : List Trace = s.traces in
      let rows_are : here ≡ map (row_of K rule a) ts = w.counted in
      let pa : p ≡ row.place n (map (row_of K rule a) ts) = ap (row.place n) rows_are in
      let moved : traces_of K.fields (standing cat) store' ≡ without n ts =
      ap (λ (rs : List Row). traces_of K.fields rs store') er ∙ ap (traces_of K.fields (remove here p)) es ∙ samples_closed K.fields n here store h (samples_fit w) ∙ ap (without n) (traces_told w) in
      let lt : row.place n (map (row_of K rule a) ts) < length ts = omega (arith, ap length rows_are, length-map ts (row_of K rule a)) in
      let q = parts K rule a n ts lt in
      let la : length (all_matches K a ts) ≡ length q.before + (length q.own + length q.behind) =
      ap length q.all ∙ length-append q.before (q.own ++ q.behind) ∙ ap (λ (z : ℕ). length q.before + z) (length-append q.own q.behind) in
      let starts : length q.before ≡ row.pairs_in (take p here) =
      q.starts ∙ ap (λ (z : ℕ). row.pairs_in (take z (map (row_of K rule a) ts))) (sym pa) ∙ ap (λ (rs : List Row). row.pairs_in (take p rs)) (sym rows_are) in
      let size : length q.own ≡ (get_or here p row.blank).pairs =
      q.size ∙ ap (λ (z : ℕ). (get_or (map (row_of K rule a) ts) z row.blank).pairs) (sym pa) ∙ ap (λ (rs : List Row). (get_or rs p row.blank).pairs) (sym rows_are) in
      let whole : row.pairs_in here ≡ length q.before + (length q.own + length q.behind) = matches_told w ∙ la in
      let room : row.pairs_in here ≤ o.list = omega (arith, c.catalog.listed, w.noted_list) in
      let shut : list' ≡ padded o.list (q.before ++ q.behind) =
      matches_shut o.list q.before q.own q.behind list list' (row.pairs_in (take p here)) (get_or here p row.blank).pairs (row.pairs_in here) (sym starts) (sym size) whole room (w.listed ∙ ap (padded o.list) q.all) el in
      record {
        mark = w.mark;
        noted_store = same.store ∙ w.noted_store;
        store_length = ls ∙ w.store_length;
        noted_list = same.list ∙ w.noted_list;
        list_length = ap length shut ∙ padded_length o.list (q.before ++ q.behind) (omega (arith, length-append q.before q.behind));
        state = same_state (same.given ∙ given_told w) moved (asked_told w);
        counted = er ∙ ap (λ (rs : List Row). remove rs (row.place n rs)) rows_are ∙ sym (rows_without K rule a n ts);
        filter = w.filter;
        listed = shut ∙ ap (padded o.list) (sym q.rest);
      }
