-- All that is printed of an input. Assumes nothing.
use Rattle.std.specs.Prelude.{ℕ, cond, List, length, Ok, Err, Result, nat_le}
use Rattle.trace.specs.Told.{Told}
use Rattle.inspect.specs.AnyFile.{Any, pulses, strokes, any_file, longest}
use Rattle.inspect.specs.Paddings.{padded}
use Rattle.inspect.specs.Labels.{pulse_labels, stroke_labels}
use Rattle.inspect.specs.Texts.{trace_text}
use Rattle.inspect.specs.Wordings.{refusal_text, too_long}

abbrev pub any_text : Any → ℕ → List ℕ
any_text (pulses t) padded = trace_text pulse_labels t padded
any_text (strokes t) padded = trace_text stroke_labels t padded

abbrev pub answer_text : Result Any Told → ℕ → List ℕ
answer_text (Ok a) padded = any_text a padded
answer_text (Err e) padded = refusal_text e

-- an input that is longer than any file is refused before it is read
abbrev pub report_text : List ℕ → List ℕ
report_text file = cond (nat_le (length file) longest) (answer_text (any_file file) (padded file)) too_long
