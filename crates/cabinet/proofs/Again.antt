-- The same query put next with a window no longer and a slack no smaller: every pair of places that was listed is listed again.
use Rattle.std.proofs.Common.{◌≡◌, ℕ, zero, suc, ◌<◌, ◌≤◌, Bool, true, false, cond, ltb, List, ◌∷◌, map, length, get_or, Ok, Err, Result, sym, refl, ap, ◌∙◌, subst, arith}
use Rattle.trace.specs.Told.{Told}
use Rattle.trace.specs.Kinds.{Kind}
use Rattle.trace.specs.Files as file
use Rattle.filters.specs.declared.refusal.Refusal as filter
use Rattle.filters.specs.declared.refusal.Refusal.TheVariants.{QueryTooLong, BadLength}
use Rattle.filters.specs.Filters.{Rule, Reach, Pattern, verdict}
use Rattle.filters.specs.Matching.{Question}
use Rattle.search.specs.declared.matches.Match.{Match}
use Rattle.search.specs.Words.{no_match}
use Rattle.search.proofs.Sums.{kept_longer}
use Rattle.catalog.specs.Rows.{pairs_in}
use Rattle.catalog.specs.Catalogs.{standing}
use Rattle.cabinet.specs.declared.collection.Collection.{Collection}
use Rattle.cabinet.specs.Model.{Opening, Lengths, Trace, State, Call, ask, Outcome, accepted, unless, by_file, by_verdict, wrong, codes_of, pairs_of, read, question, pose, outcome, kept, after}
use Rattle.cabinet.specs.Words.{no_trace, Whole}
use Rattle.cabinet.specs.Promise.{After, Answers, codes_in}

-- the same pair of places is listed
abbrev Listed : List Match → ℕ → Match → Type 0
Listed list n y = (x : ℕ) × (x < n) × ((get_or list x no_match).accession ≡ y.accession) × ((get_or list x no_match).trace ≡ y.trace) × ((get_or list x no_match).query ≡ y.query)

-- two whole lists on the same traces, the second for a shorter window and a larger slack
whole_again : {S : Type 0} (K : Kind S) (a : Question) (ts : List Trace) (m k : ℕ) (list list' : List Match) (n n' : ℕ) →
    Whole K a ts list n → Whole K (record { codes = a.codes; m = m; k = k }) ts list' n' → 0 < m → m ≤ a.m → a.k ≤ k →
    (e : ℕ) → e < n → Listed list' n' (get_or list e no_match)
whole_again K a ts m k list list' n n' w w' some shorter slacker e l =
    let y : Match = get_or list e no_match in
    let o = w.only e l in
    let t : Trace = get_or ts o.0 no_trace in
    let q = kept_longer K.agree a (codes_of K t) m k y.query y.trace y.mismatches some shorter slacker o.3 in
    let p = w'.every o.0 o.1 y.query y.trace q.0 q.2 in
    (p.0, p.1, ap (λ (z : Match). z.accession) p.2 ∙ sym o.2, ap (λ (z : Match). z.trace) p.2, ap (λ (z : Match). z.query) p.2)

-- what stands once a question is taken
abbrev pub posed : State → List ℕ → ℕ → ℕ → State
posed s codes m k = record { given = s.given; traces = s.traces; asked = record { codes = codes; m = m; k = k } }

-- a question that is taken asks for some places
verdict_some : (q m k n : ℕ) (r : Outcome) → Answers (Ok n) (by_verdict (verdict q m k) r) → 0 < m
verdict_some q zero k n r w =
    absurd ((elim (ltb 1024 q) as (λ (b : Bool). Answers (Ok n) (by_verdict (cond b (Err QueryTooLong) (Err BadLength)) r) → ⊥) [ true ↦ λ z. z | false ↦ λ z. z ]) w)
verdict_some q (suc m) k n r w = omega arith

-- a check that was passed changes nothing
unless_left : {S : Type 0} (K : Kind S) (s s' : State) (n : ℕ) (b : Bool) (number : ℕ) (r : Outcome) → (Answers (Ok n) r → kept K s r ≡ s') → Answers (Ok n) (unless b number r) → kept K s (unless b number r) ≡ s'
unless_left K s s' n true number r h w = absurd w
unless_left K s s' n false number r h w = h w

verdict_left : {S : Type 0} (K : Kind S) (s s' : State) (n : ℕ) (v : Result (Unit {0}) filter.Refusal) (r : Outcome) → (Answers (Ok n) r → kept K s r ≡ s') → Answers (Ok n) (by_verdict v r) → kept K s (by_verdict v r) ≡ s'
verdict_left K s s' n (Ok u) r h w = h w
verdict_left K s s' n (Err e) r h w = absurd w

module _ {S : Type 0} (K : Kind S) (o : Opening) (s : State) (m k n : ℕ) where
  -- by the query that was read
  pose_left : (t : file.Trace) → Answers (Ok n) (pose K o s m k t) → kept K s (pose K o s m k t) ≡ posed s (map K.code t.samples) m k
  pose_left t w =
      let s' : State = posed s (map K.code t.samples) m k in
      let full : Bool = ltb o.list (pairs_of K (question K m k t) s.traces) in
      verdict_left K s s' n (verdict (length t.samples) m k) (unless full 12 (accepted 0 s')) (unless_left K s s' n full 12 (accepted 0 s') (λ z. refl)) w

  -- by the query's file
  file_left : (r : Result file.Trace Told) → Answers (Ok n) (by_file r (pose K o s m k)) → kept K s (by_file r (pose K o s m k)) ≡ posed s (codes_in K r) m k
  file_left (Ok t) w = pose_left t w
  file_left (Err e) w = absurd w

  file_some : (r : Result file.Trace Told) → Answers (Ok n) (by_file r (pose K o s m k)) → 0 < m
  file_some (Ok t) w = verdict_some (length t.samples) m k n (unless (ltb o.list (pairs_of K (question K m k t) s.traces)) 12 (accepted 0 (posed s (map K.code t.samples) m k))) w
  file_some (Err e) w = absurd w

  unless_some : (b : Bool) (number : ℕ) (r : Outcome) → (Answers (Ok n) r → 0 < m) → Answers (Ok n) (unless b number r) → 0 < m
  unless_some true number r h w = absurd w
  unless_some false number r h w = h w

  -- a question that is taken leaves the traces, and stands with a window of some places
  ask_left : (l : Lengths) (f : List ℕ) → Answers (Ok n) (outcome K o s (ask l f m k)) → kept K s (outcome K o s (ask l f m k)) ≡ posed s (codes_in K (read K f)) m k
  ask_left l f w = unless_left K s (posed s (codes_in K (read K f)) m k) n (wrong o.store o.list l) 3 (by_file (read K f) (pose K o s m k)) (file_left (read K f)) w

  ask_some : (l : Lengths) (f : List ℕ) → Answers (Ok n) (outcome K o s (ask l f m k)) → 0 < m
  ask_some l f w = unless_some (wrong o.store o.list l) 3 (by_file (read K f) (pose K o s m k)) (file_some (read K f)) w

-- every pair of places that was listed is listed again
pub again : {S F : Type 0} {K : Kind S} {rule : Rule} {reach : Reach} {stands : F → Pattern} {o : Opening} {h : List Call} {c c' : Collection S F} {store store' : List S} {list list' : List Match} (l : Lengths) (f : List ℕ) (m k n : ℕ) →
    After K rule reach stands o h c store list → After K rule reach stands o (ask l f m k ∷ h) c' store' list' → Answers (Ok n) (outcome K o (after K o h) (ask l f m k)) →
    codes_in K (read K f) ≡ (after K o h).asked.codes → m ≤ (after K o h).asked.m → (after K o h).asked.k ≤ k →
    (e : ℕ) → e < pairs_in (standing c.catalog) →
    (x : ℕ) × (x < pairs_in (standing c'.catalog)) × ((get_or list' x no_match).accession ≡ (get_or list e no_match).accession) × ((get_or list' x no_match).trace ≡ (get_or list e no_match).trace) × ((get_or list' x no_match).query ≡ (get_or list e no_match).query)
again {K = K} {o = o} {h = h} {c = c} {c' = c'} {list = list} {list' = list'} l f m k n w w' taken same shorter slacker e le =
    let s : State = after K o h in
    let n' : ℕ = pairs_in (standing c'.catalog) in
    let left : after K o (ask l f m k ∷ h) ≡ posed s s.asked.codes m k = ask_left K o s m k n l f taken ∙ ap (λ (codes : List ℕ). posed s codes m k) same in
    let whole = subst (λ (z : State). Whole K z.asked z.traces list' n') left w'.whole in
    whole_again K s.asked s.traces m k list list' (pairs_in (standing c.catalog)) n' w.whole whole (ask_some K o s m k n l f taken) shorter slacker e le
