-- Every refusal with its number. Assumes nothing.
use Rattle.std.specs.Prelude.{ℕ}
use Rattle.filters.specs.Refusals as filter
use Rattle.search.specs.Refusals as scan
use Rattle.trace.specs.Refusals.{told}
use Rattle.trace.specs.Told.{number_of}
use Rattle.console.specs.Refusals as input
use Rattle.probe.specs.declared.refusal.Refusal.{Refusal}
use Rattle.probe.specs.declared.refusal.Refusal.TheVariants.{Input, BytesLeftOver, File, Filter, Scan}

abbrev pub refusal_number : Refusal → ℕ
refusal_number (Input e) = input.refusal_number e
refusal_number BytesLeftOver = 8
refusal_number (File e) = number_of (told e)
refusal_number (Filter e) = filter.refusal_number e
refusal_number (Scan e) = scan.refusal_number e
