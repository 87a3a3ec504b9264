-- One more row of a scan, from the last down.
use Rattle.std.proofs.Common.{◌≡◌, ℕ, zero, suc, ◌+◌, ◌-◌, ◌*◌, ◌<◌, ◌≤◌, Bool, true, false, ◌&&◌, Ok, Err, eqb, leb, List, ◌++◌, length, get_or, take, drop, sym, refl, ap, ◌∙◌, subst, ⊎_elim, append-nil, zero-add, arith, length-take-le}
use Rattle.std.proofs.lemmas.Bool.{cases_Bool, cases_eq, cases_lt, and_parts, and_from, and_left, and_right, both_ways, eq-eqb, ne_eqb, lt-ltb, le-ltb}
use Rattle.std.proofs.lemmas.List.{drop_all, get_or-take}
use Rattle.search.specs.declared.refusal.Refusal.TheVariants.{TraceTooLong, OtherQuery, MarksTooShort}
use Rattle.search.specs.declared.matches.Match.{Match}
use Rattle.search.specs.declared.matches.Found.{Found}
use Rattle.filters.specs.Matching.{Question, mismatches, matches_at, pairs, count, sum}
use Rattle.filters.specs.Filters.{Rule, Reach, Pattern, Within, StandsFor, Necessary, Marked}
use Rattle.filters.specs.Questions.{ahead}
use Rattle.filters.specs.Counting.{decides_any}
use Rattle.filters.specs.Pairing.{ahead_at}
use Rattle.search.specs.Listing.{picks, rows, entry, match_list, tested_row, tested_list, tested_pairs, Filled, written, back_in}
use Rattle.search.specs.Scans.{nearer, quieter, places_of, judged, Seen, Scanned}
use Rattle.search.specs.Words.{Whole}
use Rattle.search.proofs.Sums.{sum_same, sum_const_le, count_le, count_same, differ_le, bounded}
use Rattle.search.proofs.Wording.{list_whole}
use Rattle.search.proofs.Matched.{matches_parts}
use Rattle.search.proofs.Picking.{picks_le, picks_count, picks_same, rows_sum, rows_more, rows_le, rows_same, filled_none, filled_join}
use Rattle.search.proofs.Rowing.{row_nothing}
use Rattle.search.proofs.Telling.{Told, Quiet, told_start, told_step, told_skip, told_ahead, quiet_step}

-- the list of a row by the filter as it stands
abbrev pub seen_row : Pattern → (ℕ → ℕ → Bool) → Question → List ℕ → ℕ → ℕ → List Match
seen_row p agree a t accession j = tested_row accession agree a t (λ i. ahead (p.marks t) p.span i j) j

-- how many places of a row are passed
abbrev passed : Pattern → List ℕ → ℕ → ℕ
passed p t j = count p.size (λ i. p.marks t i j)

-- the rows of the trace from j on have been scanned
pub record Scanning (p : Pattern) (agree : ℕ → ℕ → Bool) (a : Question) (t : List ℕ) (accession j : ℕ) (told : List ℕ) (quiet : ℕ) (m₀ m : List ℕ) (b o : List Match) (n places : ℕ) : Type 0 where
  pub tells : Told (p.marks t) p.size p.span j told
  pub still : Quiet (p.marks t) quiet j
  pub scratch : length m ≡ length m₀
  pub filled : Filled b o 0 n (rows (seen_row p agree a t accession) j (length t - j))
  pub counted : places + sum j (λ y. count p.size (λ i. p.marks t i y)) ≡ places_of p t

-- a scan that can be made
pub judged_ok : (u : Unit {0}) (n q size marks : ℕ) → Ok u ≡ judged n q size marks → (n ≤ 4096) × (q ≡ size) × (size ≤ marks)
judged_ok u n q size marks e =
    ⊎_elim (λ (h : 4096 < n). absurd (let z : Ok u ≡ Err TraceTooLong = e ∙ rw (lt-ltb 4096 n h) refl in cc))
    (λ (h : n ≤ 4096).
    ⊎_elim
    (λ (i : q ≡ size).
    ⊎_elim (λ (k : marks < size). absurd (let z : Ok u ≡ Err MarksTooShort = e ∙ rw (le-ltb 4096 n h, eq-eqb q size i, lt-ltb marks size k) refl in cc))
    (λ (k : size ≤ marks). (h, i, k)) (cases_lt marks size))
    (λ (i : q ≡ size → ⊥). absurd (let z : Ok u ≡ Err OtherQuery = e ∙ rw (le-ltb 4096 n h, ne_eqb q size i) refl in cc))
    (cases_eq q size))
    (cases_lt 4096 n)

filled_row : (f : ℕ → List Match) (y n : ℕ) (b o o' : List Match) (c c' : ℕ) → 0 < y → y ≤ n → Filled b o 0 c (rows f y (n - y)) → Filled o o' c c' (f (y - 1)) → Filled b o' 0 c' (rows f (y - 1) (n - (y - 1)))
filled_row f y n b o o' c c' pos le x z =
    let q : y - 1 + 1 ≡ y = omega arith in
    let l = subst (λ (v : ℕ). rows f (y - 1) (n - (y - 1)) ≡ f (y - 1) ++ rows f v (n - v)) q (rows_more f (y - 1) n (omega arith)) in
    subst (λ (v : List Match). Filled b o' 0 c' v) (sym l) (filled_join b o o' 0 c c' (rows f y (n - y)) (f (y - 1)) x z)

ahead_quiet : (p : ℕ → ℕ → Bool) (r n j i : ℕ) → Quiet p n j → r < n → ahead p r i j ≡ false
ahead_quiet p r n j i quiet l =
    ⊎_elim (λ (e : ahead p r i j ≡ true).
    let w = (decides_any (λ d. p (i + d) (j + d)) (suc r)).0 e in
    let s : ℕ = w.0 in
    absurd (both_ways (p (i + s) (j + s)) (quiet (i + s) s (omega (arith, w.1))) w.2))
    (λ (e : ahead p r i j ≡ false). e) (cases_Bool (ahead p r i j))

module _ {p : Pattern} {agree : ℕ → ℕ → Bool} {a : Question} {t : List ℕ} {accession y : ℕ} {told : List ℕ} {quiet : ℕ} {m₀ m : List ℕ} {b o : List Match} {n places : ℕ} where
  -- no row has more entries than the query has codes
  pub scanning_few : length t ≤ 4096 → length a.codes ≤ 1024 → p.size ≤ 1024 → Scanning p agree a t accession y told quiet m₀ m b o n places → (n ≤ 4096 * 1024) × (places ≤ 4096 * 1024)
  scanning_few lt lq ls w =
      let f = rows_le (seen_row p agree a t accession) 1024 y (length t - y) (λ x. omega (arith, picks_le (λ i. ahead (p.marks t) p.span i x && matches_at agree a t i x) (entry accession agree a t x) 0 (length a.codes))) in
      let g = sum_const_le (length t) 1024 (passed p t) (λ x l. omega (arith, count_le p.size (λ i. p.marks t i x))) in
      (omega (arith, w.filled.counted), omega (arith, w.counted))

  pub scanning_more : {told' : List ℕ} {quiet' row : ℕ} {m' : List ℕ} {o' : List Match} {n' : ℕ} (cap : ℕ) →
      Within p → 0 < y → y ≤ length t → Scanning p agree a t accession y told quiet m₀ m b o n places →
      Marked (λ i. p.marks t i (y - 1)) p.size m m' row → quiet' ≡ quieter cap row quiet →
      Told (p.marks t) p.size p.span (y - 1) told' → Filled o o' n n' (seen_row p agree a t accession (y - 1)) →
      Scanning p agree a t accession (y - 1) told' quiet' m₀ m' b o' n' (places + row)
  scanning_more {told'} {quiet'} {row} {m'} {o'} {n'} cap within pos le w mk eq near filled =
      let q : y ≡ suc (y - 1) = omega arith in
      record {
        tells = near;
        still = subst (λ (v : ℕ). Quiet (p.marks t) v (y - 1)) (sym eq) (quiet_step (p.marks t) p.size cap y quiet row (λ i x h. (within t i x h).0) pos w.still mk.count);
        scratch = mk.keeps ∙ w.scratch;
        filled = filled_row (seen_row p agree a t accession) y (length t) b o o' n n' pos le w.filled filled;
        counted = let e = subst (λ (v : ℕ). places + sum v (passed p t) ≡ places_of p t) q w.counted in omega (arith, mk.count);
      }

  -- a row that is skipped
  pub scanning_skip : {quiet' row : ℕ} {m' : List ℕ} (cap : ℕ) →
      Within p → 0 < y → y ≤ length t → Scanning p agree a t accession y told quiet m₀ m b o n places →
      Marked (λ i. p.marks t i (y - 1)) p.size m m' row → quiet' ≡ quieter cap row quiet → p.span + 1 < quiet' →
      Scanning p agree a t accession (y - 1) told quiet' m₀ m' b o n (places + row)
  scanning_skip {quiet'} {row} {m'} cap within pos le w mk eq far =
      let still = subst (λ (v : ℕ). Quiet (p.marks t) v (y - 1)) (sym eq) (quiet_step (p.marks t) p.size cap y quiet row (λ i x h. (within t i x h).0) pos w.still mk.count) in
      scanning_more cap within pos le w mk eq (told_skip (p.marks t) p.size p.span y quiet' told pos w.tells still far)
      (row_nothing accession agree (λ i. ahead (p.marks t) p.span i (y - 1)) a t (y - 1) o n (λ i. and_left (ahead (p.marks t) p.span i (y - 1)) _ (ahead_quiet (p.marks t) p.span quiet' (y - 1) i still (omega arith))))

pub scanning_start : {p : Pattern} {agree : ℕ → ℕ → Bool} {a : Question} {t : List ℕ} {accession j : ℕ} {told m : List ℕ} {b : List Match} → Within p → ((i : ℕ) → i ≤ p.size → get_or told i 0 ≡ p.span + 1) → j ≡ length t → Scanning p agree a t accession j told 0 m m b b 0 0
scanning_start {p} {agree} {a} {t} {accession} {j} {told} {m} {b} within blank e =
    let w : length t - j ≡ 0 = omega arith in
    record {
      tells = told_start (p.marks t) p.size p.span j (length t) told (λ i y h. (within t i y h).1) e blank;
      still = λ x s l. let z : ⊥ = omega arith in absurd z;
      scratch = refl;
      filled = subst (λ (z : ℕ). Filled b b 0 0 (rows (seen_row p agree a t accession) j z)) (sym w) (filled_none b 0);
      counted = subst (λ (z : ℕ). 0 + sum j (passed p t) ≡ sum z (passed p t)) e (zero-add (sum j (passed p t)));
    }

-- the array after a row of marks
pub row_approached : (p : Pattern) (t : List ℕ) {y : ℕ} {m m' front old new : List ℕ} {row reach : ℕ} → Within p → 0 < y → Told (p.marks t) p.size p.span y old → Marked (λ i. p.marks t i (y - 1)) p.size m m' row → front ≡ take p.size m' → reach ≡ p.span →
    ((i : ℕ) → i < length front → get_or new i 0 ≡ nearer (reach + 1) (get_or front i 0) (get_or old (suc i) 0)) → ((i : ℕ) → length front ≤ i → get_or new i 0 ≡ get_or old i 0) → Told (p.marks t) p.size p.span (y - 1) new
row_approached p t {y} {m} {m'} {front} {old} {new} {row} {reach} within pos w mk ef er near rest =
    let lf : length front ≡ p.size = ap length ef ∙ length-take-le p.size m' (omega (arith, mk.room, mk.keeps)) in
    told_step (p.marks t) p.size p.span y m' old new (λ i x h. (within t i x h).0) pos w mk.marks
    (λ i l. near i (omega arith) ∙ (ap (λ (z : ℕ). nearer (z + 1) (get_or front i 0) (get_or old (suc i) 0)) er ∙
    ap (λ (z : ℕ). nearer (p.span + 1) z (get_or old (suc i) 0)) (ap (λ (z : List ℕ). get_or z i 0) ef ∙ get_or-take p.size m' i 0 l)))
    (λ i l. rest i (omega arith))

-- what the windows of a row are, by the array, and by the filter
pub row_told : (p : Pattern) (agree : ℕ → ℕ → Bool) (a : Question) (t : List ℕ) (accession : ℕ) {j reach : ℕ} {told : List ℕ} {o o' : List Match} {n n' : ℕ} → length a.codes ≡ p.size → reach ≡ p.span → Told (p.marks t) p.size p.span j told → Filled o o' n n' (tested_row accession agree a t (λ i. leb (get_or told i 0) reach) j) → Filled o o' n n' (seen_row p agree a t accession j)
row_told p agree a t accession {j} {reach} {told} {o} {o'} {n} {n'} e er w f =
    subst (λ (z : List Match). Filled o o' n n' z)
    (picks_same (λ i. leb (get_or told i 0) reach && matches_at agree a t i j) (λ i. ahead (p.marks t) p.span i j && matches_at agree a t i j) (entry accession agree a t j) 0 (length a.codes)
    (λ i l h. ap (λ z. z && matches_at agree a t i j) (ap (leb (get_or told i 0)) er ∙ told_ahead (p.marks t) p.size p.span j told w i (omega arith)))) f

-- a list has an entry for each place that passes its test
counted : (accession : ℕ) (agree : ℕ → ℕ → Bool) (a : Question) (t : List ℕ) (test : ℕ → ℕ → Bool) → length (rows (λ j. picks (λ i. test i j) (entry accession agree a t j) 0 (length a.codes)) 0 (length t)) ≡ sum (length t) (λ j. count (length a.codes) (λ i. test i j))
counted accession agree a t test =
    let f : ℕ → List Match = λ j. picks (λ i. test i j) (entry accession agree a t j) 0 (length a.codes) in
    let z : 0 + length t ≡ length t = omega arith in
    let x = subst (λ (v : ℕ). sum v (λ y. length (f y)) ≡ 0 + length (rows f 0 (length t))) z (rows_sum f 0 (length t)) in
    let v : 0 + length a.codes ≡ length a.codes = omega arith in
    let y = sum_same (length t) (λ y. length (f y)) (λ y. count (length a.codes) (λ i. test i y))
    (λ y l.
    let e = subst (λ (u : ℕ). count u (λ i. test i y) ≡ 0 + length (f y)) v (picks_count (λ i. test i y) (entry accession agree a t y) 0 (length a.codes)) in
    omega arith) in
    omega arith

tested_counted : (accession : ℕ) (agree : ℕ → ℕ → Bool) (a : Question) (t : List ℕ) (near : ℕ → ℕ → Bool) → length (tested_list accession agree a t near) ≡ tested_pairs agree a t near
tested_counted accession agree a t near = counted accession agree a t (λ i j. near i j && matches_at agree a t i j)

pub list_counted : (accession : ℕ) (agree : ℕ → ℕ → Bool) (a : Question) (t : List ℕ) → length (match_list accession agree a t) ≡ pairs agree a t
list_counted accession agree a t = counted accession agree a t (λ i j. matches_at agree a t i j)

-- nothing was written before
whole_back : (b l : List Match) → written b (length b - 0) l ≡ back_in b l
whole_back b l =
    let z : length b - 0 ≡ length b = omega arith in
    subst (λ (v : ℕ). written b v l ≡ back_in b l) (sym z)
    (ap (λ v. take (length b - length l) b ++ (drop (length l - length b) l ++ v)) (drop_all (length b) b (omega arith)) ∙
    ap (λ v. take (length b - length l) b ++ v) (append-nil (drop (length l - length b) l)))

-- where there is just room
pub exact_room : (b l : List Match) → length b ≡ length l → back_in b l ≡ l
exact_room b l e =
    let x : length b - length l ≡ 0 = omega arith in
    let y : length l - length b ≡ 0 = omega arith in
    ap (λ (v : ℕ). take v b ++ drop (length l - length b) l) x ∙ ap (λ (v : ℕ). drop v l) y

pub seen_all : {p : Pattern} {agree : ℕ → ℕ → Bool} {a : Question} {t : List ℕ} {accession y : ℕ} {told : List ℕ} {quiet : ℕ} {m₀ m : List ℕ} {b o : List Match} {n places : ℕ} →
    Within p → length a.codes ≡ p.size → length t ≤ 4096 → p.size ≤ length m₀ →
    y ≤ 0 → Scanning p agree a t accession y told quiet m₀ m b o n places → Seen p agree a t accession m₀ m b o (record { pairs = n; places = places })
seen_all {y = suc y} within eq lt room done w = absurd (let z : ⊥ = omega arith in z)
seen_all {p} {agree} {a} {t} {accession} {y = zero} {told} {quiet} {m₀} {m} {b} {o} {n} {places} within eq lt room done w =
    let near : ℕ → ℕ → Bool = ahead (p.marks t) p.span in
    let z : length t - 0 ≡ length t = omega arith in
    let f = subst (λ (v : ℕ). Filled b o 0 n (rows (seen_row p agree a t accession) 0 v)) z w.filled in
    let pn : n ≡ tested_pairs agree a t near = omega (arith, f.counted, tested_counted accession agree a t near) in
    let pp : places ≡ places_of p t = omega (arith, w.counted) in
    let bound : sum (length t) (λ j. count p.size (λ i. near i j && matches_at agree a t i j)) ≤ suc p.span * places_of p t =
    bounded (λ i j. near i j && matches_at agree a t i j) (p.marks t) p.size (length t) p.span
    (λ i j li lj e.
    let v = (decides_any (λ d. p.marks t (i + d) (j + d)) (suc p.span)).0 (and_parts (near i j) (matches_at agree a t i j) e).0 in
    (v.0, omega (arith, v.1), v.2))
    (λ i j e. within t i j e) in
    let bound' : tested_pairs agree a t near ≤ suc p.span * places_of p t = subst (λ (v : ℕ). sum (length t) (λ j. count v (λ i. near i j && matches_at agree a t i j)) ≤ suc p.span * places_of p t) (sym eq) bound in
    record {
      query = eq;
      short = lt;
      room = room;
      scratch = w.scratch;
      keeps = f.keeps;
      pairs = pn;
      places = pp;
      bounded = subst (λ (v : ℕ). v ≤ suc p.span * places) (sym pn) (subst (λ (v : ℕ). tested_pairs agree a t near ≤ suc p.span * v) (sym pp) bound');
      listed = f.exact ∙ whole_back b (tested_list accession agree a t near);
    }

-- a window that matches has a passed place at most `reach` behind its start
pub served : (rule : Rule) (reach : Reach) → Necessary rule reach → (agree : ℕ → ℕ → Bool) → ((x y : ℕ) → agree x y ≡ true → x ≡ y) → (a : Question) → a.k < a.m → (t : List ℕ) (i j : ℕ) → matches_at agree a t i j ≡ true → (s : ℕ) × (s ≤ reach a.m a.k) × (rule a t (i + s) (j + s) ≡ true)
served rule reach nec agree equal a km t i j e =
    let w = matches_parts agree a t i j e in
    let d = differ_le agree equal a.codes t i j a.m in
    nec a t i j (mismatches eqb a.codes t i j a.m) km
    (record { some = w.some; in_query = w.in_query; in_trace = w.in_trace; counted = refl; few = omega (arith, w.few) })

-- where the filter stands for the question, its test takes nothing away
no_loss : (rule : Rule) (reach : Reach) → Necessary rule reach → (agree : ℕ → ℕ → Bool) → ((x y : ℕ) → agree x y ≡ true → x ≡ y) → (p : Pattern) (a : Question) → StandsFor rule reach p a → (t : List ℕ) (i j : ℕ) → (ahead (p.marks t) p.span i j && matches_at agree a t i j) ≡ matches_at agree a t i j
no_loss rule reach nec agree equal p a st t i j =
    ⊎_elim
    (λ (e : matches_at agree a t i j ≡ true).
    let x = matches_parts agree a t i j e in
    let w = served rule reach nec agree equal a (st.fair.asks (omega (arith, x.some, x.in_query))) t i j e in
    let s : ℕ = w.0 in
    and_from (ahead (p.marks t) p.span i j) _ (ahead_at (p.marks t) p.span i j s (omega (arith, w.1, st.span)) (st.marks t (i + s) (j + s) ∙ w.2)) e ∙ sym e)
    (λ (e : matches_at agree a t i j ≡ false). and_right (ahead (p.marks t) p.span i j) _ e ∙ sym e)
    (cases_Bool (matches_at agree a t i j))

pub seen_whole : {rule : Rule} {reach : Reach} → Necessary rule reach → {agree : ℕ → ℕ → Bool} → ((x y : ℕ) → agree x y ≡ true → x ≡ y) → {p : Pattern} {a : Question} {t : List ℕ} {accession : ℕ} {m₀ m : List ℕ} {b o : List Match} {f : Found} →
    Seen p agree a t accession m₀ m b o f → StandsFor rule reach p a → Scanned rule reach agree a t accession b o f
seen_whole {rule} {reach} nec {agree} equal {p} {a} {t} {accession} {m₀} {m} {b} {o} {f} w st =
    let near : ℕ → ℕ → Bool = ahead (p.marks t) p.span in
    let loss = no_loss rule reach nec agree equal p a st t in
    let pn : tested_pairs agree a t near ≡ pairs agree a t =
    sum_same (length t) (λ j. count (length a.codes) (λ i. near i j && matches_at agree a t i j)) (λ j. count (length a.codes) (λ i. matches_at agree a t i j))
    (λ j l. count_same (length a.codes) (λ i. near i j && matches_at agree a t i j) (λ i. matches_at agree a t i j) (λ i h. loss i j)) in
    let ln : tested_list accession agree a t near ≡ match_list accession agree a t =
    rows_same (λ j. tested_row accession agree a t (λ i. near i j) j) (λ j. picks (λ i. matches_at agree a t i j) (entry accession agree a t j) 0 (length a.codes)) 0 (length t)
    (λ j. picks_same (λ i. near i j && matches_at agree a t i j) (λ i. matches_at agree a t i j) (entry accession agree a t j) 0 (length a.codes) (λ i l h. loss i j)) in
    let pp : places_of p t ≡ sum (length t) (λ j. count (length a.codes) (λ i. rule a t i j)) =
    subst (λ (v : ℕ). places_of p t ≡ sum (length t) (λ j. count v (λ i. rule a t i j))) st.size
    (sum_same (length t) (λ j. count p.size (λ i. p.marks t i j)) (λ j. count p.size (λ i. rule a t i j))
    (λ j l. count_same p.size (λ i. p.marks t i j) (λ i. rule a t i j) (λ i h. st.marks t i j))) in
    record {
      pairs = w.pairs ∙ pn;
      places = w.places ∙ pp;
      bounded = subst (λ (v : ℕ). f.pairs ≤ suc v * f.places) st.span w.bounded;
      listed = w.listed ∙ ap (back_in b) ln;
      whole = λ e.
          let c = tested_counted accession agree a t near in
          let fit : length b ≡ length (match_list accession agree a t) = e ∙ (w.pairs ∙ (sym c ∙ ap length ln)) in
          subst (λ (v : List Match). Whole agree a t accession v) (sym (w.listed ∙ (ap (back_in b) ln ∙ exact_room b (match_list accession agree a t) fit))) (list_whole agree a t accession);
    }
