-- Lines of the table: the kind's number, a blank, and the file in hex. Assumes nothing.
use Rattle.std.specs.Prelude.{ℕ, cond, List, [], ◌∷◌, Some, None, vec_items, Option, ◌==◌}
use Rattle.trace.specs.declared.kind.KindName.{KindName}
use Rattle.trace.specs.declared.kind.KindName.TheVariants.{Pulse, Stroke}
use Rattle.readings.specs.declared.line.Asked.{Asked}
use Rattle.readings.specs.Hex.{hex_bytes}

-- the file that a word spells: '-', which is 45, is the empty file
abbrev pub file_of : List ℕ → Option (List ℕ)
file_of [] = None
file_of (b ∷ []) = cond (b == 45) (Some []) (hex_bytes (b ∷ []))
file_of (b ∷ c ∷ rest) = hex_bytes (b ∷ c ∷ rest)

-- '1' is 49, and '2' is 50
abbrev pub kind_of : ℕ → Option KindName
kind_of b = cond (b == 49) (Some Pulse) (cond (b == 50) (Some Stroke) None)

-- a kind and a file's bytes
pub record Ask : Type 0 where
  pub kind : KindName
  pub file : List ℕ

abbrev pub asked : Asked → Ask
asked a = record { kind = a.kind; file = vec_items a.file }

abbrev pub with_file : Option KindName → Option (List ℕ) → Option Ask
with_file None file = None
with_file (Some x) None = None
with_file (Some x) (Some bytes) = Some (record { kind = x; file = bytes })

-- a blank is 32
abbrev pub line_asks : List ℕ → Option Ask
line_asks [] = None
line_asks (k ∷ []) = None
line_asks (k ∷ blank ∷ word) = cond (blank == 32) (with_file (kind_of k) (file_of word)) None
