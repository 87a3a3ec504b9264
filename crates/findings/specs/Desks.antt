-- What a collection with its memory holds after calls. Assumes nothing.
use Rattle.std.specs.Prelude.{◌≡◌, ℕ, List, [], ◌∷◌, reverse, length, Ok, Err, vec_items, Result, String}
use Rattle.std.specs.declared.alloc.Global.{Global}
use Rattle.trace.specs.Kinds.{pulse}
use Rattle.trace.specs.Told.{number_of}
use Rattle.filters.specs.Filters.{Rule, Reach, Pattern}
use Rattle.catalog.specs.declared.refusal.Refusal as call
use Rattle.catalog.specs.Refusals.{told}
use Rattle.cabinet.specs.Model.{State, Call}
use Rattle.cabinet.specs.Promise.{After}
use Rattle.console.specs.declared.failure.Failure.{Failure}
use Rattle.console.specs.declared.failure.Failure.TheVariants.{Refused, NoMemory}
use Rattle.findings.specs.declared.desk.Desk.{Desk}
use Rattle.findings.specs.declared.refusal.Refusal.{Refusal}
use Rattle.findings.specs.Refusals.{refusal_number}
use Rattle.findings.specs.Reports.{ToldOf}
use Rattle.findings.specs.Sessions.{opening, standing_after, answered, all_in, played}

-- the collection holds what stands after the calls of h, the newest first, in memory of the right lengths
pub record Keeps {F : Type 0} (rule : Rule) (reach : Reach) (stands : F → Pattern) (h : List Call) (d : Desk F) : Type 0 where
  pub after : After pulse rule reach stands opening h d.collection (vec_items d.store) (vec_items d.list)
  pub codes : length (vec_items d.codes) ≡ 4096
  pub marks : length (vec_items d.marks) ≡ 1024

-- a call's answer, where this would stand if it is accepted
abbrev pub answer_of : {A : Type 0} → Result A call.Refusal → State → Result State ℕ
answer_of (Ok a) s = Ok s
answer_of (Err e) s = Err (number_of (told e))

-- one more call came, and was answered as the rules say
pub record WentOn {A F : Type 0} (rule : Rule) (reach : Reach) (stands : F → Pattern) (h : List Call) (c : Call) (r : Result A call.Refusal) (d : Desk F) : Type 0 where
  pub holds : Keeps rule reach stands (c ∷ h) d
  pub answer : answered (standing_after h) c ≡ answer_of r (standing_after (c ∷ h))

-- the same, whatever calls came before
abbrev pub Called : {A F : Type 0} → Rule → Reach → (F → Pattern) → Desk F → Call → Result A call.Refusal → Desk F → Type 0
Called rule reach stands d c r d' = (h : List Call) → Keeps rule reach stands h d → WentOn rule reach stands h c r d'

-- what stands at last, by some calls, or the number of the refusal
abbrev pub Reached : {A F : Type 0} → Rule → Reach → (F → Pattern) → Result A Refusal → Desk F → Result State ℕ → Type 0
Reached rule reach stands (Ok a) d x = (h : List Call) × Keeps rule reach stands h d × (x ≡ Ok (standing_after h))
Reached rule reach stands (Err e) d x = x ≡ Err (refusal_number e)

-- the traces came in, whatever calls came before
abbrev pub CameIn : {A F : Type 0} → Rule → Reach → (F → Pattern) → Desk F → List ℕ → Result A Refusal → Desk F → Type 0
CameIn rule reach stands d bytes r d' = (h : List Call) → Keeps rule reach stands h d → Reached rule reach stands r d' (all_in (length bytes) bytes (standing_after h))

-- what a session left, or the number of its refusal; without memory nothing is said
abbrev pub Left : {F : Type 0} → Rule → Reach → (F → Pattern) → Result (Desk F) (Failure Refusal) → Result State ℕ → Type 0
Left rule reach stands (Ok d) x = (h : List Call) × Keeps rule reach stands h d × (x ≡ Ok (standing_after h))
Left rule reach stands (Err (Refused e)) x = x ≡ Err (refusal_number e)
Left rule reach stands (Err (NoMemory e)) x = Unit {0}

-- none of the calls was refused, and the collection's promise speaks of just them; or the first refusal is told
abbrev pub ByCalls : {F : Type 0} → Rule → Reach → (F → Pattern) → List Call → Result (Desk F) (Failure Refusal) → Type 0
ByCalls rule reach stands cs (Ok d) = Keeps rule reach stands (reverse cs) d × (played cs (standing_after []) ≡ Ok (standing_after (reverse cs)))
ByCalls rule reach stands cs (Err (Refused e)) = played cs (standing_after []) ≡ Err (refusal_number e)
ByCalls rule reach stands cs (Err (NoMemory e)) = Unit {0}

-- what a listing tells, whatever calls came before
abbrev pub ListedBy : {F : Type 0} → Rule → Reach → (F → Pattern) → Desk F → Result (String Global) (Failure Refusal) → Type 0
ListedBy rule reach stands d r = (h : List Call) → Keeps rule reach stands h d → ToldOf rule reach (standing_after h) r
