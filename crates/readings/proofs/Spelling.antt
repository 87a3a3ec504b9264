-- Bytes in hex, a byte at a time. Assumes nothing.
use Rattle.std.proofs.Common.{◌≡◌, ℕ, ◌≤◌, List, [], ◌∷◌, ◌++◌, length, get_or, drop, Some, None, Option, sym, refl, ap, ◌∙◌, append_assoc, arith}
use Rattle.readings.specs.Hex.{byte_value, before, hex_bytes}

-- bytes in front of what a text spells
abbrev pub onto : List ℕ → Option (List ℕ) → Option (List ℕ)
onto so None = None
onto so (Some bs) = Some (so ++ bs)

onto_push : (so : List ℕ) (b : ℕ) (r : Option (List ℕ)) → onto so (before (Some b) r) ≡ onto (so ++ b ∷ []) r
onto_push so b None = refl
onto_push so b (Some bs) = ap Some (sym (append_assoc so (b ∷ []) bs))

-- one byte more was decoded, from the first two digits of the rest
pub goes_on :
    (so rest : List ℕ) (b : ℕ) → 2 ≤ length rest → byte_value (get_or rest 0 0) (get_or rest 1 0) ≡ Some b →
    onto so (hex_bytes rest) ≡ onto (so ++ b ∷ []) (hex_bytes (drop 2 rest))
goes_on so [] b h e = let z : ⊥ = omega arith in absurd z
goes_on so (high ∷ []) b h e = let z : ⊥ = omega arith in absurd z
goes_on so (high ∷ low ∷ behind) b h e = ap (λ o. onto so (before o (hex_bytes behind))) e ∙ onto_push so b (hex_bytes behind)
