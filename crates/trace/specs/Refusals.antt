-- Every refusal of this crate with its number and, for a file's, its place and field. Assumes nothing.
use Rattle.std.specs.Prelude.{ℕ, Ok, Err, Result}
use Rattle.trace.specs.declared.refusal.Cause.{Cause}
use Rattle.trace.specs.declared.refusal.Cause.TheVariants as cause
use Rattle.trace.specs.declared.refusal.Field.{Field}
use Rattle.trace.specs.declared.refusal.Field.TheVariants as field
use Rattle.trace.specs.declared.refusal.Fault.{Fault}
use Rattle.trace.specs.declared.refusal.Refusal.{Refusal}
use Rattle.trace.specs.declared.refusal.Refusal.TheVariants as refusal
use Rattle.trace.specs.Told.{Told, only, fault}

abbrev pub cause_number : Cause → ℕ
cause_number cause.EndsInsideNumber = 4
cause_number cause.NumberTooLong = 5
cause_number cause.OutOfRange = 6
cause_number cause.OtherKind = 7
cause_number cause.BytesLeftOver = 8

abbrev pub field_number : Field → ℕ
field_number field.Kind = 0
field_number field.Machine = 1
field_number field.Count = 2
field_number field.Sample = 3
field_number field.End = 4

abbrev pub told_fault : Fault → Told
told_fault f = fault (cause_number f.cause) f.place (field_number f.field)

abbrev pub told : Refusal → Told
told refusal.TooShort = only 3
told refusal.OutOfRange = only 6
told (refusal.File f) = told_fault f

-- an answer by what it means: the value as f reads it, or the refusal as g tells it
abbrev pub answer : {A B E : Type 0} → (A → B) → (E → Told) → Result A E → Result B Told
answer f g (Ok a) = Ok (f a)
answer f g (Err e) = Err (g e)
