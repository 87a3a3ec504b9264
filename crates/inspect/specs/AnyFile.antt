-- A trace file of any kind. Assumes nothing.
use Rattle.std.specs.Prelude.{◌≡◌, ℕ, ◌≤◌, cond, List, map, length, Ok, Err, vec_items, Result, ◌==◌}
use Rattle.trace.specs.Told.{Told, only, fault, number_of}
use Rattle.trace.specs.Kinds.{pulse, stroke}
use Rattle.trace.specs.Files.{Trace, trace_file}
use Rattle.inspect.specs.declared.any_kind.Traced.{Traced}
use Rattle.inspect.specs.declared.any_kind.AnyTrace.{AnyTrace}
use Rattle.inspect.specs.declared.any_kind.AnyTrace.TheVariants.{Pulses, Strokes}

-- a trace, by its kind
pub data Any : Type 0 where
  pulses : Trace → Any
  strokes : Trace → Any

abbrev pub as_kind : (Trace → Any) → Result Trace Told → Result Any Told
as_kind any (Ok t) = Ok (any t)
as_kind any (Err e) = Err e

-- the second answer where the first says that the file is of another kind
abbrev pub or_else : Result Any Told → Result Any Told → Result Any Told
or_else (Ok a) other = Ok a
or_else (Err e) other = cond (number_of e == 7) other (Err e)

-- the answers of the readers of pulses and of strokes
abbrev pub any_pulses : List ℕ → Result Any Told
any_pulses file = as_kind pulses (trace_file pulse.number pulse.tops file)

abbrev pub any_strokes : List ℕ → Result Any Told
any_strokes file = as_kind strokes (trace_file stroke.number stroke.tops file)

-- the answer of the reader of pulses, or where that says 'another kind', of the reader of strokes
abbrev pub any_file : List ℕ → Result Any Told
any_file file = or_else (any_pulses file) (any_strokes file)

-- the most bytes of a trace file: three numbers of three bytes, then 4,096 strokes of three numbers of three bytes
abbrev pub longest : ℕ
longest = 36873

-- a file of any kind has no more bytes than that
abbrev pub NoneLonger : List ℕ → Type 0
NoneLonger file = (a : Any) → any_file file ≡ Ok a → length file ≤ longest

-- the refusal is a fault of a file
abbrev pub ToldInFile : Told → Type 0
ToldInFile (only n) = ⊥
ToldInFile (fault n place field) = Unit {0}

-- what the code holds of a file, as the definitions have it
abbrev pub trace_of : {S : Type 0} → (S → List ℕ) → Traced S → Trace
trace_of fields x = record { machine = x.machine; samples = map fields (vec_items x.samples) }

abbrev pub any_of : AnyTrace → Any
any_of (Pulses x) = pulses (trace_of pulse.fields x)
any_of (Strokes x) = strokes (trace_of stroke.fields x)
