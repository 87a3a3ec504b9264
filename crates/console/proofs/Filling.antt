-- A buffer that is filled by one read behind another.
use Rattle.std.proofs.Common.{◌≡◌, ℕ, ◌+◌, List, ◌++◌, None, Some, take, drop, sym, ap, ◌∙◌, subst, append_assoc, Option}
use Rattle.std.proofs.Math.Seq.{take-add}
use Rattle.std.specs.Io.KnownBytes.{Consumes}

-- what two reads took is what the first took, and then what the second did
taken_both : (a b c : Option (List ℕ)) (bs cs : List ℕ) → Consumes a b bs → Consumes b c cs → Consumes a c (bs ++ cs)
taken_both None b c bs cs p q = tt
taken_both (Some x) None c bs cs p q = absurd p
taken_both (Some x) (Some y) None bs cs p q = absurd q
taken_both (Some x) (Some y) (Some z) bs cs p q = p ∙ ap (λ l. bs ++ l) q ∙ sym (append_assoc bs cs z)

-- a read behind the first f bytes leaves them, and they and its own are all that was taken
pub filled_more : (a b c : Option (List ℕ)) (xs ys : List ℕ) (f n : ℕ) → take f ys ≡ take f xs → Consumes a b (take f xs) → Consumes b c (take n (drop f ys)) → Consumes a c (take (f + n) ys)
filled_more a b c xs ys f n front before read =
    subst (Consumes a c) (sym (take-add f n ys)) (taken_both a b c (take f ys) (take n (drop f ys)) (subst (Consumes a b) (sym front) before) read)
