-- Every refusal with its number, and answers by what they mean. Assumes nothing.
use Rattle.std.specs.Prelude.{◌≡◌, ℕ, Ok, Err, Result}
use Rattle.trace.specs.Refusals.{cause_number}
use Rattle.console.specs.declared.failure.Failure.{Failure}
use Rattle.console.specs.declared.failure.Failure.TheVariants.{Refused, NoMemory}
use Rattle.console.specs.declared.refusal.Refusal.{Refusal}
use Rattle.console.specs.declared.refusal.Refusal.TheVariants.{InputTooLong, Number, FileCutOff}

-- the number of each refusal
abbrev pub refusal_number : Refusal → ℕ
refusal_number InputTooLong = 3
refusal_number (Number cause) = cause_number cause
refusal_number FileCutOff = 4

-- the first refusal stands
abbrev pub and_then : {A B : Type 0} → Result A ℕ → (A → Result B ℕ) → Result B ℕ
and_then (Ok a) f = f a
and_then (Err e) f = Err e

-- an answer by what it means: the value as f reads it, or the refusal as g tells it
abbrev pub answer : {A B R T : Type 0} → (A → B) → (R → T) → Result A R → Result B T
answer f g (Ok a) = Ok (f a)
answer f g (Err e) = Err (g e)

-- the same of what also needs memory; where there was too little, nothing is said
abbrev pub Answers : {A B R T : Type 0} → (A → B) → (R → T) → Result A (Failure R) → Result B T → Type 0
Answers f g (Ok a) x = Ok (f a) ≡ x
Answers f g (Err (Refused e)) x = Err (g e) ≡ x
Answers f g (Err (NoMemory e)) x = Unit {0}
