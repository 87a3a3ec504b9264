-- Worked examples of trace files. Assumes nothing.
use Rattle.std.specs.Prelude.{◌≡◌, ℕ, List, [], ◌∷◌, Ok, Err, Result}
use Rattle.trace.specs.Told.{Told, fault}
use Rattle.trace.specs.Kinds.{pulse, stroke}
use Rattle.trace.specs.Files.{Trace, trace_file}

abbrev pub read_as_pulses : List ℕ → Result Trace Told
read_as_pulses file = trace_file pulse.number pulse.tops file

abbrev pub read_as_strokes : List ℕ → Result Trace Told
read_as_strokes file = trace_file stroke.number stroke.tops file

-- pulses of the classes 5, 19 and 0 from machine 300
abbrev pub three_pulses : Trace
three_pulses = record { machine = 300; samples = (5 ∷ []) ∷ (19 ∷ []) ∷ (0 ∷ []) ∷ [] }

pub record Examples : Type 0 where
  pub plain : read_as_pulses (0x01 ∷ 0xAC ∷ 0x02 ∷ 0x03 ∷ 0x05 ∷ 0x13 ∷ 0x00 ∷ []) ≡ Ok three_pulses
  -- two empty high groups behind the 5
  pub padded : read_as_pulses (0x01 ∷ 0xAC ∷ 0x02 ∷ 0x03 ∷ 0x85 ∷ 0x80 ∷ 0x00 ∷ 0x13 ∷ 0x00 ∷ []) ≡ Ok three_pulses
  -- three of them are one too many
  pub too_long : read_as_pulses (0x01 ∷ 0xAC ∷ 0x02 ∷ 0x03 ∷ 0x85 ∷ 0x80 ∷ 0x80 ∷ 0x00 ∷ 0x13 ∷ 0x00 ∷ []) ≡ Err (fault 5 4 3)
  pub empty : read_as_pulses [] ≡ Err (fault 4 0 0)
  pub one_stroke : read_as_strokes (0x02 ∷ 0x01 ∷ 0x01 ∷ 0x09 ∷ 0x05 ∷ 0x01 ∷ []) ≡ Ok (record { machine = 1; samples = (9 ∷ 5 ∷ 1 ∷ []) ∷ [] })
  pub its_code : stroke.code (9 ∷ 5 ∷ 1 ∷ []) ≡ 119
  -- a recovery of 6
  pub out_of_range : read_as_strokes (0x02 ∷ 0x01 ∷ 0x01 ∷ 0x09 ∷ 0x06 ∷ 0x01 ∷ []) ≡ Err (fault 6 4 3)
