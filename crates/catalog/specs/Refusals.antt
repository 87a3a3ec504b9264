-- Every refusal of the collection, by its number and, in a file, its place and field. Assumes nothing.
use Rattle.trace.specs.Told.{Told, only}
use Rattle.trace.specs.Refusals as file
use Rattle.filters.specs.Refusals.{refusal_number}
use Rattle.catalog.specs.declared.refusal.Refusal.{Refusal}
use Rattle.catalog.specs.declared.refusal.Refusal.TheVariants.{BadMark, BadMemory, OtherMemory, File, TooManyTraces, NumbersSpent, StoreFull, ListFull, NoTrace, OnLoan, Question, TooManyLoans, OtherMark, NoLoan, NoMatch}

abbrev pub told : Refusal → Told
told BadMark = only 1
told BadMemory = only 2
told OtherMemory = only 3
told (File e) = file.told e
told TooManyTraces = only 9
told NumbersSpent = only 10
told StoreFull = only 11
told ListFull = only 12
told NoTrace = only 13
told OnLoan = only 14
told (Question e) = only (refusal_number e)
told TooManyLoans = only 19
told OtherMark = only 20
told NoLoan = only 21
told NoMatch = only 22
