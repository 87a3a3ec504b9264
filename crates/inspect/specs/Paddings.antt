-- How many numbers of a file are padded with empty high groups. Assumes nothing.
use Rattle.std.specs.Prelude.{◌≡◌, ℕ, ◌+◌, Bool, cond, ◌&&◌, List, [], ◌∷◌, length, ◌==◌, nat_le, slice_index}
use Rattle.std.specs.List.{flat_map}
use Rattle.trace.specs.Numbers.{Groups, spelled}

abbrev pub one_if : Bool → ℕ
one_if b = cond b 1 0

-- a byte that says that another follows, and a byte 0 behind it
abbrev pub pads : ℕ → ℕ → Bool
pads a b = nat_le 128 a && b == 0

-- two bytes like that
abbrev pub pads_pair : List ℕ → Bool
pads_pair bytes = length bytes == 2 && pads (slice_index bytes 0) (slice_index bytes 1)

-- the neighbours in a file of which the second pads the first
abbrev pub padded : List ℕ → ℕ
padded [] = 0
padded (a ∷ []) = 0
padded (a ∷ b ∷ bs) = one_if (pads a b) + padded (b ∷ bs)

-- the last, and highest, of some groups
abbrev pub last_group : List ℕ → ℕ
last_group [] = 0
last_group (g ∷ []) = g
last_group (g ∷ h ∷ gs) = last_group (h ∷ gs)

-- a number is padded: it has two groups or more, and the highest is empty
abbrev pub is_padded : List ℕ → Bool
is_padded gs = nat_le 2 (length gs) && last_group gs == 0

-- how many of these numbers are padded
abbrev pub padded_numbers : List (List ℕ) → ℕ
padded_numbers [] = 0
padded_numbers (gs ∷ gss) = one_if (is_padded gs) + padded_numbers gss

abbrev pub AllGroups : List (List ℕ) → Type 0
AllGroups [] = Unit {0}
AllGroups (gs ∷ gss) = Groups gs × AllGroups gss

-- of bytes that spell numbers one behind the other, n is how many of those are padded
abbrev pub CountsPadded : List ℕ → ℕ → Type 0
CountsPadded file n = (gss : List (List ℕ)) → AllGroups gss → file ≡ flat_map spelled gss → n ≡ padded_numbers gss
