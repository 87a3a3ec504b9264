-- Bytes in hex, two digits to a byte, with small letters. Assumes nothing.
use Rattle.std.specs.Prelude.{ℕ, ◌+◌, ◌-◌, ◌*◌, cond, ◌&&◌, List, [], ◌∷◌, Some, None, Option, nat_le}

-- '0' to '9' are 48 to 57, 'a' to 'f' are 97 to 102
abbrev pub digit_value : ℕ → Option ℕ
digit_value b = cond (nat_le 48 b && nat_le b 57) (Some (b - 48)) (cond (nat_le 97 b && nat_le b 102) (Some (b - 97 + 10)) None)

abbrev pub paired : Option ℕ → Option ℕ → Option ℕ
paired None low = None
paired (Some high) None = None
paired (Some high) (Some low) = Some (high * 16 + low)

abbrev pub byte_value : ℕ → ℕ → Option ℕ
byte_value high low = paired (digit_value high) (digit_value low)

-- a byte in front of others
abbrev pub before : Option ℕ → Option (List ℕ) → Option (List ℕ)
before None rest = None
before (Some b) None = None
before (Some b) (Some bs) = Some (b ∷ bs)

-- the bytes that a text spells, or none where it is not all hex
abbrev pub hex_bytes : List ℕ → Option (List ℕ)
hex_bytes [] = Some []
hex_bytes (high ∷ []) = None
hex_bytes (high ∷ low ∷ rest) = before (byte_value high low) (hex_bytes rest)
