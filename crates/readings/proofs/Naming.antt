-- Kinds by their digits. Assumes nothing.
use Rattle.std.proofs.Common.{◌≡◌, ℕ, ◌-◌, ◌≤◌, Ok, Err, Result, sym, ◌∙◌, arith}
use Rattle.std.specs.Result.{result_ok}
use Rattle.std.proofs.lemmas.Bool.{cond-true, cond-false, eq-eqb, ne_eqb}
use Rattle.trace.specs.declared.kind.KindName.{KindName}
use Rattle.trace.specs.declared.kind.KindName.TheVariants.{Pulse, Stroke}
use Rattle.trace.specs.declared.kind.UnknownKind.{UnknownKind}
use Rattle.trace.specs.KindNames.{Named}
use Rattle.readings.specs.Lines.{kind_of}

-- the kind that has a digit's number is the one that the digit names
pub named : (b n : ℕ) → 48 ≤ b → n ≡ b - 48 → (r : Result KindName UnknownKind) → Named n r → result_ok r ≡ kind_of b
named b n h e (Ok Pulse) is = sym (cond-true _ _ _ (eq-eqb b 49 (omega arith)))
named b n h e (Ok Stroke) is = sym (cond-false _ _ _ (ne_eqb b 49 (λ z. omega arith)) ∙ cond-true _ _ _ (eq-eqb b 50 (omega arith)))
named b n h e (Err x) is = sym (cond-false _ _ _ (ne_eqb b 49 (λ z. is.1 Pulse (omega arith))) ∙ cond-false _ _ _ (ne_eqb b 50 (λ z. is.1 Stroke (omega arith))))
