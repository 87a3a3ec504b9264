-- What a filter means: which places it passes as it stands, and what it passes by a question. Assumes nothing.
use Rattle.std.specs.Prelude.{◌≡◌, ℕ, ◌+◌, ◌<◌, ◌≤◌, Bool, true, cond, ◌||◌, List, [], length, Ok, Err, Result, ◌==◌, nat_eq, nat_le, nat_lt, slice_index}
use Rattle.filters.specs.declared.refusal.Refusal.{Refusal}
use Rattle.filters.specs.declared.refusal.Refusal.TheVariants.{QueryTooLong, BadLength, BadMismatches, MarksTooShort}
use Rattle.filters.specs.Matching.{Question, Matches, count, sum}

abbrev pub Rule : Type 0
Rule = Question → List ℕ → ℕ → ℕ → Bool

abbrev pub Reach : Type 0
Reach = ℕ → ℕ → ℕ

abbrev pub none : Question
none = record { codes = []; m = 0; k = 0 }

-- what a set question, or none, keeps to
pub record Fair (a : Question) : Type 0 where
  pub few : length a.codes ≤ 1024
  pub short : a.m ≤ 512
  pub room : a.m ≤ length a.codes
  pub slack : a.k ≤ 15
  pub asks : 0 < length a.codes → a.k < a.m

-- what is answered to a question of q codes with the window m and the slack k
abbrev pub verdict : ℕ → ℕ → ℕ → Result (Unit {0}) Refusal
verdict q m k =
    cond (nat_lt 1024 q) (Err QueryTooLong)
    (cond (m == 0 || (nat_lt 512 m || nat_lt q m)) (Err BadLength)
    (cond (nat_lt 15 k || nat_le m k) (Err BadMismatches) (Ok tt)))

abbrev pub Inside : Rule → Type 0
Inside rule = (a : Question) (t : List ℕ) (i j : ℕ) → rule a t i j ≡ true → (i < length a.codes) × (j < length t)

abbrev pub Below : Reach → Type 0
Below reach = (m k : ℕ) → k < m → reach m k < m

-- codes that differ at no more than k places of a window: some place from its start to its start + reach is passed
abbrev pub Necessary : Rule → Reach → Type 0
Necessary rule reach =
    (a : Question) (t : List ℕ) (i j d : ℕ) → a.k < a.m → Matches nat_eq a t i j d →
    (s : ℕ) × (s ≤ reach a.m a.k) × (rule a t (i + s) (j + s) ≡ true)

-- how many places of a question and a trace a rule passes
abbrev pub places : Rule → Question → List ℕ → ℕ
places rule a t = sum (length t) (λ j. count (length a.codes) (λ i. rule a t i j))

-- a filter as it stands: how many places of a query it knows, its reach, and the places that it passes on a trace
pub record Pattern : Type 0 where
  pub size : ℕ
  pub span : ℕ
  pub marks : List ℕ → ℕ → ℕ → Bool

-- a rule and a reach at one question
abbrev pub pattern_of : Rule → Reach → Question → Pattern
pattern_of rule reach a = record { size = length a.codes; span = reach a.m a.k; marks = λ t i j. rule a t i j }

-- no place passed lies outside
abbrev pub Within : Pattern → Type 0
Within p = (t : List ℕ) (i j : ℕ) → p.marks t i j ≡ true → (i < p.size) × (j < length t)

-- a filter that stands as p does what the rule and the reach say of the question a
pub record StandsFor (rule : Rule) (reach : Reach) (p : Pattern) (a : Question) : Type 0 where
  pub fair : Fair a
  pub size : p.size ≡ length a.codes
  pub span : p.span ≡ reach a.m a.k
  pub marks : (t : List ℕ) (i j : ℕ) → p.marks t i j ≡ rule a t i j

-- X where it was taken, Y where it was refused
abbrev pub Answered : Result (Unit {0}) Refusal → Type 0 → Type 0 → Type 0
Answered (Ok _) X Y = X
Answered (Err _) X Y = Y

-- the first n marks are 1 or 0 by the test p, the others are as they were, and r of them are 1
pub record Marked (p : ℕ → Bool) (n : ℕ) (before after : List ℕ) (r : ℕ) : Type 0 where
  pub room : n ≤ length before
  pub keeps : length after ≡ length before
  pub marks : (i : ℕ) → i < n → slice_index after i ≡ cond (p i) 1 0
  pub rest : (i : ℕ) → n ≤ i → slice_index after i ≡ slice_index before i
  pub count : r ≡ count n p

-- what is answered for a row of marks, and what it leaves of them
abbrev pub Rowed : Pattern → List ℕ → ℕ → List ℕ → List ℕ → Result ℕ Refusal → Type 0
Rowed p t j before after (Ok n) = Marked (λ i. p.marks t i j) p.size before after n
Rowed p t j before after (Err e) = (length before < p.size) × (e ≡ MarksTooShort) × (after ≡ before)
