-- Accession numbers rise: whatever the calls, each standing trace has a larger number than those before it, and none has a
-- larger number than the last one given.
use Rattle.std.proofs.Common.{◌≡◌, ℕ, zero, suc, ◌+◌, ◌-◌, ◌<◌, ◌≤◌, Bool, true, false, not, eqb, ltb, leb, List, [], ◌∷◌, ◌++◌, length, get_or, Ok, Err, Result, refl, arith}
use Rattle.std.proofs.lemmas.Bool.{cond_both}
use Rattle.trace.specs.Told.{Told}
use Rattle.trace.specs.Kinds.{Kind}
use Rattle.trace.specs.Files as file
use Rattle.filters.specs.declared.refusal.Refusal as filter
use Rattle.filters.specs.Filters.{verdict}
use Rattle.filters.specs.Matching.{Question}
use Rattle.cabinet.specs.Model.{Opening, Trace, State, Call, accession, withdraw, ask, lend, take_back, Outcome, accepted, unless, by_file, by_verdict, wrong, stands, loans_of, without, lent, with_loans, samples_of, pairs_of, read, new, question, shelve, pose, outcome, kept, after}
use Rattle.cabinet.specs.Words.{no_trace}

-- the numbers of the traces rise strictly, from above `low`, and none is above `high`
abbrev pub Up : ℕ → List Trace → ℕ → Type 0
Up low [] high = low ≤ high
Up low (t ∷ ts) high = (low < t.number) × Up t.number ts high

-- so it is with the traces that stand, up to the last number given
abbrev pub Numbered : State → Type 0
Numbered s = Up 0 s.traces s.given

-- every number is above `low`
pub up_above : (low high : ℕ) (ts : List Trace) → Up low ts high → (x : ℕ) → x < length ts → low < (get_or ts x no_trace).number
up_above low high [] u x l = let z : ⊥ = omega arith in absurd z
up_above low high (t ∷ ts) u zero l = u.0
up_above low high (t ∷ ts) u (suc x) l = omega (arith, u.0, up_above t.number high ts u.1 x (omega arith))

-- a new trace takes the next number
up_push : (low high : ℕ) (ts : List Trace) (t : Trace) → t.number ≡ suc high → Up low ts high → Up low (ts ++ (t ∷ [])) (suc high)
up_push low high [] t e u = (omega arith, omega arith)
up_push low high (x ∷ ts) t e u = (u.0, up_push x.number high ts t e u.1)

-- a trace that goes leaves the others in order
up_lower : (low low' high : ℕ) (ts : List Trace) → low' ≤ low → Up low ts high → Up low' ts high
up_lower low low' high [] l u = omega arith
up_lower low low' high (t ∷ ts) l u = (omega (arith, u.0), u.1)

up_without : (n low high : ℕ) (ts : List Trace) → Up low ts high → Up low (without n ts) high
up_without n low high [] u = u
up_without n low high (t ∷ ts) u =
    cond_both (eqb t.number n) ts (t ∷ without n ts) (λ l. Up low l high)
    (λ e. up_lower t.number low high ts (omega (arith, u.0)) u.1)
    (λ e. (u.0, up_without n t.number high ts u.1))

-- loans change no number
up_lent : (f : ℕ → ℕ) (n low high : ℕ) (ts : List Trace) → Up low ts high → Up low (with_loans f n ts) high
up_lent f n low high [] u = u
up_lent f n low high (t ∷ ts) u =
    cond_both (eqb t.number n) (lent f t ∷ ts) (t ∷ with_loans f n ts) (λ l. Up low l high)
    (λ e. u)
    (λ e. (u.0, up_lent f n t.number high ts u.1))

module _ {S : Type 0} (K : Kind S) where
  -- an outcome leaves the numbers in order
  record Leaves (s : State) (r : Outcome) : Type 0 where
    numbers : Numbered (kept K s r)

  -- a check that refuses leaves what stood
  unless_leaves : (s : State) (b : Bool) (n : ℕ) (r : Outcome) → Numbered s → Leaves s r → Leaves s (unless b n r)
  unless_leaves s true n r u w = record { numbers = u }
  unless_leaves s false n r u w = w

  file_leaves : (s : State) (r : Result file.Trace Told) (f : file.Trace → Outcome) → Numbered s → ((t : file.Trace) → Leaves s (f t)) → Leaves s (by_file r f)
  file_leaves s (Ok t) f u w = w t
  file_leaves s (Err e) f u w = record { numbers = u }

  verdict_leaves : (s : State) (v : Result (Unit {0}) filter.Refusal) (r : Outcome) → Numbered s → Leaves s r → Leaves s (by_verdict v r)
  verdict_leaves s (Ok x) r u w = w
  verdict_leaves s (Err e) r u w = record { numbers = u }

  -- a call that is accepted leaves what it makes
  made_leaves : (s : State) (n given : ℕ) (ts : List Trace) (a : Question) → Up 0 ts given → Leaves s (accepted n (record { given = given; traces = ts; asked = a }))
  made_leaves s n given ts a u = record { numbers = u }

  shelve_leaves : (o : Opening) (s : State) (t : file.Trace) → Numbered s → Leaves s (shelve K o s t)
  shelve_leaves o s t u =
      let ts : List Trace = s.traces ++ (new K (suc s.given) t ∷ []) in
      let w = made_leaves s (suc s.given) (suc s.given) ts s.asked (up_push 0 s.given s.traces (new K (suc s.given) t) refl u) in
      let w = unless_leaves s (ltb o.list (pairs_of K s.asked ts)) 12 _ u w in
      let w = unless_leaves s (ltb o.store (samples_of s.traces + length t.samples)) 11 _ u w in
      let w = unless_leaves s (leb 65535 s.given) 10 _ u w in
      unless_leaves s (leb 256 (length s.traces)) 9 _ u w

  pose_leaves : (o : Opening) (s : State) (m k : ℕ) (t : file.Trace) → Numbered s → Leaves s (pose K o s m k t)
  pose_leaves o s m k t u =
      let w = made_leaves s 0 s.given s.traces (question K m k t) u in
      let w = unless_leaves s (ltb o.list (pairs_of K (question K m k t) s.traces)) 12 _ u w in
      verdict_leaves s (verdict (length t.samples) m k) _ u w

  -- every call leaves the numbers in order
  call_leaves : (o : Opening) (s : State) (call : Call) → Numbered s → Leaves s (outcome K o s call)
  call_leaves o s (accession l f) u = unless_leaves s (wrong o.store o.list l) 3 _ u (file_leaves s (read K f) (shelve K o s) u (λ t. shelve_leaves o s t u))
  call_leaves o s (withdraw l n) u =
      let w = made_leaves s 0 s.given (without n s.traces) s.asked (up_without n 0 s.given s.traces u) in
      let w = unless_leaves s (ltb 0 (loans_of n s.traces)) 14 _ u w in
      let w = unless_leaves s (not (stands n s.traces)) 13 _ u w in
      unless_leaves s (wrong o.store o.list l) 3 _ u w
  call_leaves o s (ask l f m k) u = unless_leaves s (wrong o.store o.list l) 3 _ u (file_leaves s (read K f) (pose K o s m k) u (λ t. pose_leaves o s m k t u))
  call_leaves o s (lend n) u =
      let w = made_leaves s n s.given (with_loans suc n s.traces) s.asked (up_lent suc n 0 s.given s.traces u) in
      let w = unless_leaves s (leb 255 (loans_of n s.traces)) 19 _ u w in
      unless_leaves s (not (stands n s.traces)) 13 _ u w
  call_leaves o s (take_back mark n) u =
      let w = made_leaves s n s.given (with_loans (λ x. x - 1) n s.traces) s.asked (up_lent (λ x. x - 1) n 0 s.given s.traces u) in
      let w = unless_leaves s (eqb (loans_of n s.traces) 0) 21 _ u w in
      let w = unless_leaves s (not (stands n s.traces)) 13 _ u w in
      unless_leaves s (not (eqb mark o.mark)) 20 _ u w

  call_numbered : (o : Opening) (s : State) (call : Call) → Numbered s → Numbered (kept K s (outcome K o s call))
  call_numbered o s call u = (call_leaves o s call u).numbers

  -- so they are in order after every list of calls
  pub numbered : (o : Opening) (h : List Call) → Numbered (after K o h)
  numbered o [] = omega arith
  numbered o (c ∷ h) = call_numbered o (after K o h) c (numbered o h)
