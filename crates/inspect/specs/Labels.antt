-- How a kind is named. Assumes nothing.
use Rattle.std.specs.Prelude.{ℕ, List, [], ◌∷◌, codes}
use Rattle.trace.specs.declared.kind.KindName.{KindName}
use Rattle.trace.specs.declared.kind.KindName.TheVariants.{Pulse, Stroke}

-- a kind's number, its name and the names of its fields
pub record Labels : Type 0 where
  pub number : ℕ
  pub title : List ℕ
  pub names : List (List ℕ)

abbrev pub pulse_labels : Labels
pulse_labels = record { number = 1; title = codes "pulse"; names = codes "class" ∷ [] }

abbrev pub stroke_labels : Labels
stroke_labels = record { number = 2; title = codes "stroke"; names = codes "drive" ∷ codes "recovery" ∷ codes "slack" ∷ [] }

abbrev pub labels : KindName → Labels
labels Pulse = pulse_labels
labels Stroke = stroke_labels
