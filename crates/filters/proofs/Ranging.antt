-- What `any` over a range of numbers answers.
use Rattle.std.specs.Prelude.{◌&&◌, MatchBool, nat_le}
use Rattle.std.proofs.Common.{◌≡◌, ℕ, ◌+◌, ◌-◌, ◌<◌, ◌≤◌, Bool, true, false, length, get_or, min, ap, sym, refl, ◌∙◌, ⊎_elim, zero-add, arith}
use Rattle.std.proofs.lemmas.Bool.{cases_lt}
use Rattle.std.proofs.lemmas.Bool.Decides.{nat_tests}
use Rattle.std.proofs.lemmas.List.FromFn.{length-range_with_len, get_or-range_with_len}
use Rattle.std.specs.List.{AllWithin, HoldsAt, range_with_len}
use Rattle.filters.specs.Questions.{ahead, behind}
use Rattle.filters.specs.Pairing.{ahead_at, ahead_none, behind_at, behind_none}

-- some number below n has the test p, or none has
abbrev pub Found : (ℕ → Bool) → ℕ → Bool → Type 0
Found p n r = MatchBool r ((k : ℕ) × (k < n) × (p k ≡ true)) ((k : ℕ) → k < n → p k ≡ false)

item : (n k : ℕ) → k < n → get_or (range_with_len 0 n) k 0 ≡ k
item n k h = get_or-range_with_len 0 n k 0 h ∙ zero-add k

pub found : (p : ℕ → Bool) (n : ℕ) (r : Bool) → MatchBool r ((k : ℕ) × (k < length (range_with_len 0 n)) × HoldsAt (λ d. p d ≡ true) (range_with_len 0 n) k) (AllWithin (λ d. p d ≡ false) (range_with_len 0 n) 0 (length (range_with_len 0 n))) → Found p n r
found p n true h =
    let k : ℕ = h.0 in
    let kn : k < n = omega (arith, h.1, length-range_with_len 0 n) in
    (k, kn, ap p (sym (item n k kn)) ∙ h.2 0)
found p n false h = λ k kn. ap p (sym (item n k kn)) ∙ h k 0 (omega arith) (omega (arith, length-range_with_len 0 n))

past_end : (l x : ℕ) (b : Bool) → (b ≡ true → x < l) → l ≤ x → b ≡ false
past_end l x true h past = let z : ⊥ = omega (arith, h refl) in absurd z
past_end l x false h past = refl

-- what is passed lies before l, so no more need be asked
pub ahead_found : (p : ℕ → ℕ → Bool) (r n l i j : ℕ) (b : Bool) → n ≡ min r (l - j - 1) + 1 → j < l → ((i j : ℕ) → p i j ≡ true → j < l) → Found (λ d. p (i + d) (j + d)) n b → b ≡ ahead p r i j
ahead_found p r n l i j true e in_ w h = sym (ahead_at p r i j h.0 (omega (arith, h.1)) h.2)
ahead_found p r n l i j false e in_ w h =
    sym (ahead_none p r i j (λ d k.
    ⊎_elim (λ (lt : d < n). h d lt)
    (λ (le : n ≤ d). past_end l (j + d) (p (i + d) (j + d)) (w (i + d) (j + d)) (omega (arith, k, le)))
    (cases_lt d n)))

outside : (d i j : ℕ) (b : Bool) → (d ≤ i → d ≤ j → b ≡ false) → (nat_le d i && (nat_le d j && b)) ≡ false
outside d i j b h = grind (arith, nat_tests)

pub behind_found : (p : ℕ → ℕ → Bool) (r n i j : ℕ) (b : Bool) → n ≡ min (min r i) j + 1 → Found (λ d. p (i - d) (j - d)) n b → b ≡ behind p r i j
behind_found p r n i j true e h = sym (behind_at p r i j h.0 (omega (arith, h.1)) (omega (arith, h.1)) (omega (arith, h.1)) h.2)
behind_found p r n i j false e h = sym (behind_none p r i j (λ d l. outside d i j (p (i - d) (j - d)) (λ x y. h d (omega arith))))
