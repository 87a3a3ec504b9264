-- What stands after a list of calls, by their arguments alone. Assumes nothing.
use Rattle.std.specs.Prelude.{ℕ, suc, ◌+◌, ◌-◌, Bool, false, cond, not, ◌||◌, List, [], ◌∷◌, ◌++◌, map, length, Ok, Err, sum_by, Result, ◌==◌, nat_le, nat_lt}
use Rattle.trace.specs.Told.{Told, only}
use Rattle.trace.specs.Kinds.{Kind}
use Rattle.trace.specs.Files as file
use Rattle.filters.specs.declared.refusal.Refusal as filter
use Rattle.filters.specs.Refusals.{refusal_number}
use Rattle.filters.specs.Filters.{verdict, none}
use Rattle.filters.specs.Matching.{Question, pairs}

-- what an accepted opening noted: its mark, and the lengths of the store and of the list
pub record Opening : Type 0 where
  pub mark : ℕ
  pub store : ℕ
  pub list : ℕ

-- the lengths of the memory that is brought to a call
pub record Lengths : Type 0 where
  pub store : ℕ
  pub list : ℕ
  pub codes : ℕ
  pub marks : ℕ

-- a standing trace: its accession number and machine, each sample by its fields, and how many loans of it are counted
pub record Trace : Type 0 where
  pub number : ℕ
  pub machine : ℕ
  pub samples : List (List ℕ)
  pub loans : ℕ

-- the last number given, the standing traces by rising number, and the standing question
pub record State : Type 0 where
  pub given : ℕ
  pub traces : List Trace
  pub asked : Question

pub data Call : Type 0 where
  accession : Lengths → List ℕ → Call  -- a file
  withdraw : Lengths → ℕ → Call  -- a number
  ask : Lengths → List ℕ → ℕ → ℕ → Call  -- a query's file, m and k
  lend : ℕ → Call  -- a number
  take_back : ℕ → ℕ → Call  -- a slip's mark and number

-- what comes of a call: a number that is answered and what then stands, or the refusal
pub data Outcome : Type 0 where
  accepted : ℕ → State → Outcome
  refused : Told → Outcome

-- the first check that applies refuses the call
abbrev pub unless : Bool → ℕ → Outcome → Outcome
unless applies number otherwise = cond applies (refused (only number)) otherwise

-- a file's first fault refuses the call
abbrev pub by_file : Result file.Trace Told → (file.Trace → Outcome) → Outcome
by_file (Ok t) f = f t
by_file (Err e) f = refused e

-- what a filter has against a question refuses the call
abbrev pub by_verdict : Result (Unit {0}) filter.Refusal → Outcome → Outcome
by_verdict (Ok u) otherwise = otherwise
by_verdict (Err e) otherwise = refused (only (refusal_number e))

-- the memory is not the opening's, or a buffer is too short
abbrev pub wrong : ℕ → ℕ → Lengths → Bool
wrong store list l = not (l.store == store) || (not (l.list == list) || (nat_lt l.codes 4096 || nat_lt l.marks 1024))

-- a trace stands under the number
abbrev pub stands : ℕ → List Trace → Bool
stands n [] = false
stands n (t ∷ ts) = t.number == n || stands n ts

abbrev pub loans_of : ℕ → List Trace → ℕ
loans_of n [] = 0
loans_of n (t ∷ ts) = cond (t.number == n) t.loans (loans_of n ts)

abbrev pub without : ℕ → List Trace → List Trace
without n [] = []
without n (t ∷ ts) = cond (t.number == n) ts (t ∷ without n ts)

abbrev pub lent : (ℕ → ℕ) → Trace → Trace
lent f t = record { number = t.number; machine = t.machine; samples = t.samples; loans = f t.loans }

abbrev pub with_loans : (ℕ → ℕ) → ℕ → List Trace → List Trace
with_loans f n [] = []
with_loans f n (t ∷ ts) = cond (t.number == n) (lent f t ∷ ts) (t ∷ with_loans f n ts)

abbrev pub samples_of : List Trace → ℕ
samples_of ts = sum_by (λ t. length t.samples) ts

module _ {S : Type 0} (K : Kind S) where
  -- a trace as the search sees it
  abbrev pub codes_of : Trace → List ℕ
  codes_of t = map K.code t.samples

  abbrev pub pairs_of : Question → List Trace → ℕ
  pairs_of a ts = sum_by (λ t. pairs K.agree a (codes_of t)) ts

  abbrev pub read : List ℕ → Result file.Trace Told
  read f = file.trace_file K.number K.tops f

  abbrev pub new : ℕ → file.Trace → Trace
  new number t = record { number = number; machine = t.machine; samples = t.samples; loans = 0 }

  abbrev pub question : ℕ → ℕ → file.Trace → Question
  question m k t = record { codes = map K.code t.samples; m = m; k = k }

  abbrev pub shelve : Opening → State → file.Trace → Outcome
  shelve o s t =
      unless (nat_le 256 (length s.traces)) 9
      (unless (nat_le 65535 s.given) 10
      (unless (nat_lt o.store (samples_of s.traces + length t.samples)) 11
      (unless (nat_lt o.list (pairs_of s.asked (s.traces ++ (new (suc s.given) t ∷ [])))) 12
      (accepted (suc s.given) (record { given = suc s.given; traces = s.traces ++ (new (suc s.given) t ∷ []); asked = s.asked })))))

  abbrev pub pose : Opening → State → ℕ → ℕ → file.Trace → Outcome
  pose o s m k t =
      by_verdict (verdict (length t.samples) m k)
      (unless (nat_lt o.list (pairs_of (question m k t) s.traces)) 12
      (accepted 0 (record { given = s.given; traces = s.traces; asked = question m k t })))

  -- each call's checks, in order, and what is answered and stands where none applies
  abbrev pub outcome : Opening → State → Call → Outcome
  outcome o s (accession l f) = unless (wrong o.store o.list l) 3 (by_file (read f) (shelve o s))
  outcome o s (withdraw l n) =
      unless (wrong o.store o.list l) 3
      (unless (not (stands n s.traces)) 13
      (unless (nat_lt 0 (loans_of n s.traces)) 14
      (accepted 0 (record { given = s.given; traces = without n s.traces; asked = s.asked }))))
  outcome o s (ask l f m k) = unless (wrong o.store o.list l) 3 (by_file (read f) (pose o s m k))
  outcome o s (lend n) =
      unless (not (stands n s.traces)) 13
      (unless (nat_le 255 (loans_of n s.traces)) 19
      (accepted n (record { given = s.given; traces = with_loans suc n s.traces; asked = s.asked })))
  outcome o s (take_back mark n) =
      unless (not (mark == o.mark)) 20
      (unless (not (stands n s.traces)) 13
      (unless (loans_of n s.traces == 0) 21
      (accepted n (record { given = s.given; traces = with_loans (λ x. x - 1) n s.traces; asked = s.asked }))))

  -- a refused call leaves what stood
  abbrev pub kept : State → Outcome → State
  kept s (accepted n s') = s'
  kept s (refused e) = s

  -- nothing stands after the opening; the newest call comes first in the list
  abbrev pub after : Opening → List Call → State
  after o [] = record { given = 0; traces = []; asked = none }
  after o (c ∷ h) = kept (after o h) (outcome o (after o h) c)
