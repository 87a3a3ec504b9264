-- What an input asks, and its text. Assumes nothing.
use lib.Chars.{codes}
use Rattle.std.proofs.Common.{◌≡◌, ℕ, ◌≤◌, List, [], ◌∷◌, ◌++◌, length, IfOk, Ok, Err, Result, sym, ap, ◌∙◌, append_assoc, refl}
use Rattle.std.specs.Fmt.{digits, decimal}
use Rattle.std.proofs.lemmas.Result.{IfOk-weaker}
use Rattle.std.proofs.lemmas.Bool.{cond-false, le-ltb}
use Rattle.console.specs.Filtering.{near_rule, near_reach}
use Rattle.console.specs.Parts.{longest}
use Rattle.console.specs.Refusals.{and_then}
use Rattle.console.specs.Texts.{summary_line}
use Rattle.probe.specs.declared.answer.Answer.{Answer}
use Rattle.probe.specs.Answers.{shown, Searched, input_task}
use Rattle.probe.specs.Framing.{Framed, framing}
use Rattle.probe.specs.Reports.{shown_text, task_text}
use Rattle.probe.specs.Texts as one
use Rattle.probe.specs.Tasks.{Task, task}

pub begun : (input : List ℕ) (f : Framed) → length input ≤ longest → Ok f ≡ framing input → task f ≡ input_task input
begun input f short is = ap (λ r. and_then r task) is ∙ sym (cond-false _ _ _ (le-ltb longest (length input) short))

pub told : (a : Answer) (x : Result Task ℕ) → Searched near_rule near_reach (Ok a) x → shown_text (shown a) ≡ task_text x
told a (Ok t) f = ap shown_text f.is
told a (Err n) f = absurd f

-- a text that is made is the one that equals it
pub made_same : {X E : Type 0} (bytes : X → List ℕ) (r : Result X E) (x y : List ℕ) → x ≡ y → IfOk r (λ s. bytes s ≡ x) → IfOk r (λ s. bytes s ≡ y)
made_same bytes r x y e = IfOk-weaker r (λ s. bytes s ≡ x) (λ s. bytes s ≡ y) (λ s is. is ∙ e)

-- a text of many parts with its end
ended : (a x b y c z d end : List ℕ) → (a ++ (x ++ (b ++ (y ++ (c ++ (z ++ d)))))) ++ end ≡ a ++ (x ++ (b ++ (y ++ (c ++ (z ++ (d ++ end))))))
ended a x b y c z d end = simp append_assoc refl

-- the summary of one trace
pub one_summary : (samples pairs places reach : ℕ) → summary_line (record { traces = 1; samples = samples; pairs = pairs; places = places; reach = reach }) ≡ one.summary_line samples pairs places reach
unfolding digits
one_summary samples pairs places reach =
    ap (λ text. codes "traces 1 samples " ++ text) (ended (decimal samples) (codes " pairs ") (decimal pairs) (codes " places ") (decimal places) (codes " reach ") (decimal reach) (10 ∷ []))
