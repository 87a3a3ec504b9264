-- What a `map_err` leaves of an answer, and what the exit of a `?` tells. Assumes nothing.
use Rattle.std.proofs.Common.{◌≡◌, ℕ, Ok, Err, Result, sym, refl, ap, ◌∙◌, subst, arith}
use Rattle.std.specs.Result.{MatchResult, IsErrAnd}
use Rattle.console.specs.Refusals.{Answers}
use Rattle.console.specs.declared.failure.Failure.{Failure}
use Rattle.console.specs.declared.failure.Failure.TheVariants.{Refused}

-- a value is still the same
pub unmapped : {T E D : Type 0} (r : Result T E) (s : Result T D) (x : T) (Q : E → D → Type 0) → s ≡ Ok x → MatchResult r (λ y. s ≡ Ok y) (λ e. IsErrAnd s (Q e)) → r ≡ Ok x
unmapped (Ok y) s x Q is kept = let e : y ≡ x = cc in ap Ok e
unmapped (Err e) s x Q is kept = let z = subst (λ t. IsErrAnd t (Q e)) is kept in absurd z

-- an error was put in the place of another
pub unmapped_error : {T E D : Type 0} (r : Result T E) (s : Result T D) (d : D) (Q : E → D → Type 0) → s ≡ Err d → MatchResult r (λ y. s ≡ Ok y) (λ e. IsErrAnd s (Q e)) → (e : E) × (r ≡ Err e) × Q e d
unmapped_error (Ok y) s d Q is kept = let z : ◌≡◌ {A = ℕ} 0 1 = cc in absurd (omega arith)
unmapped_error (Err e) s d Q is kept = (e, refl, subst (λ t. IsErrAnd t (Q e)) is kept)

-- the exit tells a refusal
pub refuses : {A B R T : Type 0} (f : A → B) (g : R → T) (r : Result A (Failure R)) (e : R) (x : Result B T) → (y : Failure R) × (r ≡ Err y) × (y ≡ Refused e) → Err (g e) ≡ x → Answers f g r x
refuses f g r e x p is = subst (λ z. Answers f g z x) (sym (p.1 ∙ ap Err p.2)) is
