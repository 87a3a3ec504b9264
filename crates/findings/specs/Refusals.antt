-- Every refusal with its number. Assumes nothing.
use Rattle.std.specs.Prelude.{ℕ}
use Rattle.catalog.specs.Refusals.{told}
use Rattle.trace.specs.Told.{number_of}
use Rattle.console.specs.Refusals as input
use Rattle.findings.specs.declared.refusal.Refusal.{Refusal}
use Rattle.findings.specs.declared.refusal.Refusal.TheVariants.{Input, Call}

-- the number of each refusal
abbrev pub refusal_number : Refusal → ℕ
refusal_number (Input e) = input.refusal_number e
refusal_number (Call e) = number_of (told e)
