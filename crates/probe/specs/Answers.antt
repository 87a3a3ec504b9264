-- What a search answers. Assumes nothing.
use Rattle.std.specs.Prelude.{◌≡◌, ℕ, cond, List, length, Ok, Err, vec_items, Result, nat_lt}
use Rattle.filters.specs.Filters.{Rule, Reach, places}
use Rattle.filters.specs.Matching.{pairs}
use Rattle.search.specs.declared.matches.Match.{Match}
use Rattle.search.specs.Listing.{match_list}
use Rattle.search.specs.Words.{Whole}
use Rattle.trace.specs.Kinds.{pulse}
use Rattle.console.specs.Parts.{longest}
use Rattle.console.specs.Refusals.{and_then}
use Rattle.console.specs.declared.failure.Failure.{Failure}
use Rattle.console.specs.declared.failure.Failure.TheVariants.{Refused, NoMemory}
use Rattle.probe.specs.declared.answer.Answer.{Answer}
use Rattle.probe.specs.declared.refusal.Refusal.{Refusal}
use Rattle.probe.specs.Framing.{framing}
use Rattle.probe.specs.Refusals.{refusal_number}
use Rattle.probe.specs.Tasks.{Task, task}

-- what is shown of a search
pub record Shown : Type 0 where
  pub samples : ℕ
  pub pairs : ℕ
  pub places : ℕ
  pub reach : ℕ
  pub matches : List Match

abbrev pub shown : Answer → Shown
shown a = record { samples = a.samples; pairs = a.found.pairs; places = a.found.places; reach = a.reach; matches = vec_items a.matches }

-- what there is to find of a task, through a filter with this rule and reach, in a trace with the accession number 1
abbrev pub to_find : Rule → Reach → Task → Shown
to_find rule reach x =
    record {
      samples = length x.trace;
      pairs = pairs pulse.agree x.question x.trace;
      places = places rule x.question x.trace;
      reach = reach x.question.m x.question.k;
      matches = match_list 1 pulse.agree x.question x.trace;
    }

-- all that there is to find was found, and the list is whole
pub record Finds (rule : Rule) (reach : Reach) (x : Task) (a : Answer) : Type 0 where
  pub is : shown a ≡ to_find rule reach x
  pub whole : Whole pulse.agree x.question x.trace 1 (vec_items a.matches)

-- a task is done, or its refusal told; where there was too little memory, nothing is said
abbrev pub Searched : Rule → Reach → Result Answer (Failure Refusal) → Result Task ℕ → Type 0
Searched rule reach (Ok a) (Ok x) = Finds rule reach x a
Searched rule reach (Ok a) (Err n) = ⊥
Searched rule reach (Err (Refused e)) x = Err (refusal_number e) ≡ x
Searched rule reach (Err (NoMemory e)) x = Unit {0}

-- what an input asks, or the number of its first refusal
abbrev pub input_task : List ℕ → Result Task ℕ
input_task input = cond (nat_lt longest (length input)) (Err 3) (and_then (framing input) task)
