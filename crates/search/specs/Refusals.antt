-- Every refusal of a scan with its number: 3 where what is brought does not fit the call. Assumes nothing.
use Rattle.std.specs.Prelude.{ℕ}
use Rattle.search.specs.declared.refusal.Refusal.{Refusal}
use Rattle.search.specs.declared.refusal.Refusal.TheVariants.{TraceTooLong, OtherQuery, MarksTooShort}

abbrev pub refusal_number : Refusal → ℕ
refusal_number TraceTooLong = 3
refusal_number OtherQuery = 3
refusal_number MarksTooShort = 18
