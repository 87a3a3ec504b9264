use Rattle.std.proofs.Common.{◌≡◌, length, vec_items}
use Rattle.readings.specs.Hex.{hex_bytes}
use Rattle.readings.proofs.Spelling.{onto}
use Rattle.readings.proofs.hex.decode.Given as goal

-- what was decoded, and what the rest spells, make up what the text spells
abbrev pub invariant-loop-rest : goal.invariant-loop-rest
invariant-loop-rest l = hex_bytes l.text ≡ onto (vec_items l.bytes) (hex_bytes l.rest)

abbrev pub decreases-loop-rest : goal.decreases-loop-rest
decreases-loop-rest l = length l.rest
