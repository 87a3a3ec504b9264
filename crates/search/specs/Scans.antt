-- What a scan of one trace answers. Assumes nothing.
use Rattle.std.specs.Prelude.{◌≡◌, ℕ, suc, ◌+◌, ◌*◌, ◌<◌, ◌≤◌, Bool, cond, ◌≢◌, List, length, Ok, Err, Result, ◌==◌, nat_le, nat_lt}
use Rattle.search.specs.declared.refusal.Refusal.{Refusal}
use Rattle.search.specs.declared.refusal.Refusal.TheVariants.{TraceTooLong, OtherQuery, MarksTooShort}
use Rattle.filters.specs.Matching.{Question, pairs, count, sum}
use Rattle.filters.specs.Filters.{Rule, Reach, Pattern}
use Rattle.filters.specs.Questions.{ahead}
use Rattle.search.specs.declared.matches.Match.{Match}
use Rattle.search.specs.declared.matches.Found.{Found}
use Rattle.search.specs.Listing.{match_list, tested_list, tested_pairs, back_in}
use Rattle.search.specs.Words.{Whole}

-- how far ahead the next passed place is: here, or one more than from the next place of the diagonal, and at most cap
abbrev pub nearer : ℕ → ℕ → ℕ → ℕ
nearer cap mark next = cond (mark == 0) (cond (nat_lt next cap) (next + 1) cap) 0

-- how many rows in a row had nothing passed, counted up to cap + 1
abbrev pub quieter : ℕ → ℕ → ℕ → ℕ
quieter cap row quiet = cond (nat_lt 0 row) 0 (cond (nat_le quiet cap) (quiet + 1) quiet)

-- how many places a filter passes as it stands
abbrev pub places_of : Pattern → List ℕ → ℕ
places_of p t = sum (length t) (λ j. count p.size (λ i. p.marks t i j))

-- a scan that was made, by the filter as it stands: the windows that match and have a place passed from their start to their start + span
pub record Seen (p : Pattern) (agree : ℕ → ℕ → Bool) (a : Question) (t : List ℕ) (accession : ℕ) (marks marks' : List ℕ) (before after : List Match) (f : Found) : Type 0 where
  pub query : length a.codes ≡ p.size
  pub short : length t ≤ 4096
  pub room : p.size ≤ length marks
  pub scratch : length marks' ≡ length marks
  pub keeps : length after ≡ length before
  pub pairs : f.pairs ≡ tested_pairs agree a t (ahead (p.marks t) p.span)
  pub places : f.places ≡ places_of p t
  pub bounded : f.pairs ≤ suc p.span * f.places
  pub listed : after ≡ back_in before (tested_list accession agree a t (ahead (p.marks t) p.span))

-- why a scan is refused
abbrev pub Refused : Refusal → ℕ → ℕ → ℕ → ℕ → Type 0
Refused TraceTooLong q size n marks = 4096 < n
Refused OtherQuery q size n marks = (n ≤ 4096) × (q ≢ size)
Refused MarksTooShort q size n marks = (n ≤ 4096) × (q ≡ size) × (marks < size)

-- what is answered before a scan
abbrev pub judged : ℕ → ℕ → ℕ → ℕ → Result (Unit {0}) Refusal
judged n q size marks = cond (nat_lt 4096 n) (Err TraceTooLong) (cond (q == size) (cond (nat_lt marks size) (Err MarksTooShort) (Ok tt)) (Err OtherQuery))

abbrev pub ScanAnswer : Pattern → (ℕ → ℕ → Bool) → Question → List ℕ → ℕ → List ℕ → List ℕ → List Match → List Match → Result Found Refusal → Type 0
ScanAnswer p agree a t accession marks marks' before after (Ok f) = Seen p agree a t accession marks marks' before after f
ScanAnswer p agree a t accession marks marks' before after (Err e) = Refused e (length a.codes) p.size (length t) (length marks) × (after ≡ before) × (marks' ≡ marks)

-- what a scan through a filter that stands for the question finds
pub record Scanned (rule : Rule) (reach : Reach) (agree : ℕ → ℕ → Bool) (a : Question) (t : List ℕ) (accession : ℕ) (before after : List Match) (f : Found) : Type 0 where
  pub pairs : f.pairs ≡ pairs agree a t
  pub places : f.places ≡ sum (length t) (λ j. count (length a.codes) (λ i. rule a t i j))
  pub bounded : f.pairs ≤ suc (reach a.m a.k) * f.places
  pub listed : after ≡ back_in before (match_list accession agree a t)
  pub whole : length before ≡ f.pairs → Whole agree a t accession after

abbrev pub WholeAnswer : Rule → Reach → (ℕ → ℕ → Bool) → Question → List ℕ → ℕ → List Match → List Match → Result Found Refusal → Type 0
WholeAnswer rule reach agree a t accession before after (Ok f) = Scanned rule reach agree a t accession before after f
WholeAnswer rule reach agree a t accession before after (Err e) = Unit {0}
