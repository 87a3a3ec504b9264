-- What an answer says of a file. Assumes nothing.
use Rattle.std.specs.Prelude.{◌≡◌, ℕ, List, map, length, take, Some, None, Ok, Err, Option, Result}
use Rattle.trace.specs.declared.file.Header.{Header}
use Rattle.trace.specs.declared.kind.KindName.{KindName}
use Rattle.trace.specs.declared.kind.KindName.TheVariants as name
use Rattle.trace.specs.Told.{Told, only, fault}
use Rattle.trace.specs.Refusals.{told}
use Rattle.trace.specs.Files.{Trace, trace_file}
use Rattle.trace.specs.Kinds.{pulse, stroke}
use Rattle.trace.specs.Reading.{fitted}
use Rattle.readings.specs.declared.reading.Unread.{Unread}
use Rattle.readings.specs.declared.reading.Unread.TheVariants.{Refused, Differ, Malformed}
use Rattle.readings.specs.Lines.{Ask}

-- a refusal by its numbers: its own, the place and the field; one that is no file's has neither place nor field, and 0 stands for them
abbrev pub plain : Told → ℕ × ℕ × ℕ
plain (only n) = (n, 0, 0)
plain (fault n place field) = (n, place, field)

-- the answer tells a trace's machine and count, and its codes stand at the front; or it tells the first fault
abbrev pub Says : (List ℕ → ℕ) → Result Header Unread → Result Trace Told → List ℕ → Type 0
Says code (Ok h) (Ok t) codes = (h.machine ≡ t.machine) × (h.count ≡ length t.samples) × (take (length t.samples) codes ≡ map code t.samples)
Says code (Ok h) (Err e) codes = ⊥
Says code (Err (Refused r)) (Ok t) codes = ⊥
Says code (Err (Refused r)) (Err e) codes = told r ≡ e
Says code (Err Differ) x codes = ⊥
Says code (Err Malformed) x codes = ⊥

-- what a reader with this much room says of a file
abbrev pub SaysOf : KindName → Result Header Unread → List ℕ → ℕ → List ℕ → Type 0
SaysOf name.Pulse r file room codes = Says pulse.code r (fitted room (trace_file pulse.number pulse.tops file)) codes
SaysOf name.Stroke r file room codes = Says stroke.code r (fitted room (trace_file stroke.number stroke.tops file)) codes

abbrev pub Answers : Result Header Unread → Option Ask → ℕ → List ℕ → Type 0
Answers r None room codes = r ≡ Err Malformed
Answers r (Some a) room codes = SaysOf a.kind r a.file room codes
