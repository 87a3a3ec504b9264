-- Numbers drawn one by one. Assumes nothing.
use Rattle.std.proofs.Common.{◌≡◌, ℕ, zero, suc, ◌+◌, ◌-◌, ◌/◌, ◌^◌, ◌<◌, ◌≤◌, List, [], ◌∷◌, ◌++◌, length, get_or, refl, sym, ap, ◌∙◌, append_assoc, arith}
use Rattle.std.proofs.lemmas.Nat.{mod_below}
use Rattle.std.proofs.lemmas.List.{append-nil}
use Rattle.draws.specs.Draws.{after, after_all, drawn, drawn_all}

pub drawn_many : (s top n : ℕ) → length (drawn_all s top n) ≡ n
drawn_many s top zero = refl
drawn_many s top (suc n) = ap (λ x. suc x) (drawn_many (after s) top n)

-- a number drawn is at most the top
drawn_low : (s top : ℕ) → drawn s top ≤ top
drawn_low s top = omega (arith, mod_below (s / 2 ^ 33) (top + 1))

pub drawn_lows : (s top n i : ℕ) → i < n → get_or (drawn_all s top n) i 0 ≤ top
drawn_lows s top zero i h = let z : ⊥ = omega arith in absurd z
drawn_lows s top (suc n) zero h = drawn_low (after s) top
drawn_lows s top (suc n) (suc i) h = drawn_lows (after s) top n i (omega arith)

module _ (s top n done : ℕ) where
  -- one draw more, of those that are left
  module _ (next : ℕ) (more : done < n) (is : next ≡ after s) where
    one : n - done ≡ suc (n - (done + 1))
    one = omega arith

    pub state_more : after_all s (n - done) ≡ after_all next (n - (done + 1))
    state_more = ap (after_all s) one ∙ ap (λ x. after_all x (n - (done + 1))) (sym is)

    pub codes_more : (so now : List ℕ) (code : ℕ) → code ≡ drawn next top → now ≡ so ++ code ∷ [] → so ++ drawn_all s top (n - done) ≡ now ++ drawn_all next top (n - (done + 1))
    codes_more so now code drew pushed =
        ap (λ x. so ++ drawn_all s top x) one ∙ ap (λ x. so ++ drawn x top ∷ drawn_all x top (n - (done + 1))) (sym is)
        ∙ ap (λ x. so ++ x ∷ drawn_all next top (n - (done + 1))) (sym drew)
        ∙ sym (append_assoc so (code ∷ []) (drawn_all next top (n - (done + 1)))) ∙ ap (λ xs. xs ++ drawn_all next top (n - (done + 1))) (sym pushed)

  -- none is left
  module _ (all : n ≤ done) where
    none : n - done ≡ zero
    none = omega arith

    pub state_last : after_all s (n - done) ≡ s
    state_last = ap (after_all s) none

    pub codes_last : (so : List ℕ) → so ++ drawn_all s top (n - done) ≡ so
    codes_last so = ap (λ x. so ++ drawn_all s top x) none ∙ append-nil so
