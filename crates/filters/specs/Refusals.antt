-- Every refusal of this crate with its number. Assumes nothing.
use Rattle.std.specs.Prelude.{ℕ}
use Rattle.filters.specs.declared.refusal.Refusal.{Refusal}
use Rattle.filters.specs.declared.refusal.Refusal.TheVariants.{QueryTooLong, BadLength, BadMismatches, MarksTooShort, NoWindow, NoTuples}

abbrev pub refusal_number : Refusal → ℕ
refusal_number QueryTooLong = 15
refusal_number BadLength = 16
refusal_number BadMismatches = 17
refusal_number MarksTooShort = 18
refusal_number NoWindow = 23
refusal_number NoTuples = 24
