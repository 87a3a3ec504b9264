-- The kinds of samples by their numbers. Assumes nothing.
use Rattle.std.specs.Prelude.{◌≡◌, ℕ, ◌≢◌, Ok, Err, Result}
use Rattle.trace.specs.declared.kind.KindName.{KindName}
use Rattle.trace.specs.declared.kind.KindName.TheVariants.{Pulse, Stroke}
use Rattle.trace.specs.declared.kind.UnknownKind.{UnknownKind}

abbrev pub kind_number : KindName → ℕ
kind_number Pulse = 1
kind_number Stroke = 2

-- the kind with this number, or an error that tells the number where no kind has it
abbrev pub Named : ℕ → Result KindName UnknownKind → Type 0
Named number (Ok name) = kind_number name ≡ number
Named number (Err e) = (e.0 ≡ number) × ((name : KindName) → kind_number name ≢ number)
