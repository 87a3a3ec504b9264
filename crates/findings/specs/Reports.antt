-- All that is printed of an input. Assumes nothing.
use Rattle.std.specs.Prelude.{◌≡◌, ℕ, List, Ok, Err, string_bytes, Result, String}
use Rattle.std.specs.declared.alloc.Global.{Global}
use Rattle.trace.specs.Kinds.{pulse}
use Rattle.filters.specs.Filters.{Rule, Reach}
use Rattle.search.specs.declared.matches.Match.{Match}
use Rattle.cabinet.specs.declared.report.Report.{Report}
use Rattle.cabinet.specs.Model.{State}
use Rattle.cabinet.specs.Reading.{report_of, Listed}
use Rattle.cabinet.specs.Words.{all_matches}
use Rattle.console.specs.Filtering.{near_rule, near_reach}
use Rattle.console.specs.Texts.{refusal_line}
use Rattle.console.specs.declared.failure.Failure.{Failure}
use Rattle.console.specs.declared.failure.Failure.TheVariants.{Refused, NoMemory}
use Rattle.findings.specs.declared.refusal.Refusal.{Refusal}
use Rattle.findings.specs.Refusals.{refusal_number}
use Rattle.findings.specs.Sessions.{session}
use Rattle.findings.specs.Texts.{listing_text}

-- what is printed of a state: all matches, and the sums over its traces
abbrev pub state_text : Rule → Reach → State → List ℕ
state_text rule reach s = listing_text (all_matches pulse s.asked s.traces) (report_of pulse rule reach s)

-- what is printed of a session: the state at its end, or the refusal
abbrev pub session_text : Rule → Reach → Result State ℕ → List ℕ
session_text rule reach (Ok s) = state_text rule reach s
session_text rule reach (Err n) = refusal_line n

-- what is printed of an input
abbrev pub report_text : List ℕ → List ℕ
report_text input = session_text near_rule near_reach (session input)

-- the text of a state: that of all its matches, with the report that goes with them
pub record Shows (rule : Rule) (reach : Reach) (s : State) (text : List ℕ) : Type 0 where
  pub matches : List Match
  pub report : Report
  pub listed : Listed pulse rule reach s matches report
  pub is : text ≡ listing_text matches report

-- what a listing of a state tells; without memory nothing is said
abbrev pub ToldOf : Rule → Reach → State → Result (String Global) (Failure Refusal) → Type 0
ToldOf rule reach s (Ok text) = Shows rule reach s (string_bytes text)
ToldOf rule reach s (Err (Refused e)) = ⊥
ToldOf rule reach s (Err (NoMemory e)) = Unit {0}

-- a session is told, with its list whole and its report exact, or its refusal; without memory nothing is said
abbrev pub Tells : Rule → Reach → Result (String Global) (Failure Refusal) → Result State ℕ → Type 0
Tells rule reach (Ok text) x = (s : State) × (x ≡ Ok s) × Shows rule reach s (string_bytes text)
Tells rule reach (Err (Refused e)) x = x ≡ Err (refusal_number e)
Tells rule reach (Err (NoMemory e)) x = Unit {0}

-- a text says what was refused; without memory there is none
abbrev pub Says : Failure Refusal → List ℕ → Type 0
Says (Refused e) text = text ≡ refusal_line (refusal_number e)
Says (NoMemory e) text = ⊥
