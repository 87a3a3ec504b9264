-- All that is printed of an input. Assumes nothing.
use Rattle.std.specs.Prelude.{ℕ, List, ◌++◌, Ok, Err, Result}
use Rattle.console.specs.Filtering.{near_rule, near_reach}
use Rattle.console.specs.Texts.{heading, pair_lines, refusal_line}
use Rattle.probe.specs.Answers.{Shown, to_find, input_task}
use Rattle.probe.specs.Tasks.{Task}
use Rattle.probe.specs.Texts.{summary_line}

abbrev pub shown_text : Shown → List ℕ
shown_text x = heading ++ (pair_lines x.matches ++ summary_line x.samples x.pairs x.places x.reach)

abbrev pub task_text : Result Task ℕ → List ℕ
task_text (Ok x) = shown_text (to_find near_rule near_reach x)
task_text (Err n) = refusal_line n

abbrev pub report_text : List ℕ → List ℕ
report_text input = task_text (input_task input)
