-- What the reader of numbers rests on. Assumes nothing.
use Rattle.std.proofs.Common.{◌≡◌, ℕ, zero, suc, ◌+◌, ◌-◌, ◌*◌, ◌≤◌, List, [], ◌∷◌, ◌++◌, length, Ok, Err, Result, sym, ap, ◌∙◌, not-suc-le-zero, add-zero, arith}
use Rattle.std.proofs.lemmas.Bool.{cond-true, cond-false, lt-ltb, le-ltb}
use Rattle.trace.specs.declared.number.Found.{Found}
use Rattle.trace.specs.declared.refusal.Cause.{Cause}
use Rattle.trace.specs.Numbers.{found, number, number_told, scaled, spelled, value_of, SevenBits, ReadsBack}

-- groups that are spelled out are found again
pub number_spelled : (n : ℕ) (gs rest : List ℕ) → 1 ≤ length gs → length gs ≤ n → SevenBits gs → number n (spelled gs ++ rest) ≡ found (value_of gs) (length gs)
number_spelled n [] rest some few each = absurd (not-suc-le-zero some)
number_spelled zero (g ∷ gs) rest some few each = absurd (not-suc-le-zero few)
number_spelled (suc n) (g ∷ []) rest some few each =
    cond-true _ _ _ (lt-ltb _ _ each.0) ∙ ap (λ v. found v 1) (sym (add-zero g))
number_spelled (suc n) (g ∷ h ∷ gs) rest some few each =
    let low : g + 128 - 128 ≡ g = omega arith in
    cond-false _ _ _ (le-ltb (g + 128) 128 (omega arith)) ∙ ap (scaled (g + 128 - 128)) (number_spelled n (h ∷ gs) rest (omega arith) (omega arith) each.1)
    ∙ ap (λ x. found (x + 128 * value_of (h ∷ gs)) (length (g ∷ h ∷ gs))) low

-- an answer that means a number found is that number
told_found : (r : Result Found Cause) (v n : ℕ) → number_told r ≡ found v n → r ≡ Ok (record { value = v; size = n })
told_found (Ok f) v n e =
    let value : f.value ≡ v = cc in
    let size : f.size ≡ n = cc in
    ap Ok (λ j. record { value = value j; size = size j })
told_found (Err c) v n e = let z : ◌≡◌ {A = ℕ} 0 1 = cc in absurd (omega arith)

pub reads_back : (bytes : List ℕ) (r : Result Found Cause) → number_told r ≡ number 3 bytes → ReadsBack bytes r
reads_back bytes r e gs rest g is = told_found r _ _ (e ∙ ap (number 3) is ∙ number_spelled 3 gs rest g.some g.few g.each)
