-- The text of a session. Assumes nothing.
use Rattle.std.proofs.Common.{◌≡◌, ℕ, List, [], IfOk, Ok, Err, Result, sym, ap, ◌∙◌}
use Rattle.std.proofs.lemmas.Result.{IfOk-weaker}
use Rattle.filters.specs.Filters.{Rule, Reach}
use Rattle.cabinet.specs.Model.{State}
use Rattle.console.specs.Filtering.{near_rule, near_reach}
use Rattle.console.specs.declared.failure.Failure.{Failure}
use Rattle.console.specs.declared.failure.Failure.TheVariants.{Refused, NoMemory}
use Rattle.findings.specs.declared.refusal.Refusal.{Refusal}
use Rattle.findings.specs.Reports.{session_text, report_text, Shows, Tells, Says}
use Rattle.findings.specs.Sessions.{session, standing_after, Parts, Holds, calls, played}
use Rattle.findings.specs.Texts.{listing_text}
use Rattle.findings.proofs.Playing.{plays}

-- what shows a state is the state's text
pub shown : (rule : Rule) (reach : Reach) (s : State) (x : Result State ℕ) (text : List ℕ) → x ≡ Ok s → Shows rule reach s text → text ≡ session_text rule reach x
shown rule reach s x text is shows = shows.is ∙ (λ i. listing_text (shows.listed.is i) (shows.listed.sums i)) ∙ ap (session_text rule reach) (sym is)

-- the text of an input of parts is that of their calls
pub parts_text : (input text : List ℕ) → text ≡ report_text input → (p : Parts) → Holds input p → text ≡ session_text near_rule near_reach (played (calls p) (standing_after []))
parts_text input text is p h = is ∙ ap (session_text near_rule near_reach) (plays input p h).is

-- the line of a refusal is the text of a session that is refused
refusal_shown : (rule : Rule) (reach : Reach) (f : Failure Refusal) (x : Result State ℕ) (text : List ℕ) → Tells rule reach (Err f) x → Says f text → text ≡ session_text rule reach x
refusal_shown rule reach (Refused e) x text is says = says ∙ ap (session_text rule reach) (sym is)
refusal_shown rule reach (NoMemory e) x text is says = absurd says

module _ {X E : Type 0} (bytes : X → List ℕ) (r : Result X E) (input : List ℕ) (f : Failure Refusal) (told : Tells near_rule near_reach (Err f) (session input)) (says : IfOk r (λ s. Says f (bytes s))) where
  pub made_text : IfOk r (λ s. bytes s ≡ report_text input)
  made_text = IfOk-weaker r (λ s. Says f (bytes s)) (λ s. bytes s ≡ report_text input) (λ s. refusal_shown near_rule near_reach f (session input) (bytes s) told) says

  pub made_parts : IfOk r (λ s. (p : Parts) → Holds input p → bytes s ≡ session_text near_rule near_reach (played (calls p) (standing_after [])))
  made_parts =
      IfOk-weaker r (λ s. bytes s ≡ report_text input) (λ s. (p : Parts) → Holds input p → bytes s ≡ session_text near_rule near_reach (played (calls p) (standing_after []))) (λ s. parts_text input (bytes s)) made_text
