-- What reading a whole file comes to. Assumes nothing.
use Rattle.std.proofs.Common.{◌≡◌, ℕ, List, [], ◌∷◌, ◌++◌, map, length, take, drop, Ok, Err, Result, sym, refl, ap, ◌∙◌, map-id, take-append-drop}
use Rattle.std.specs.List.{AllZip}
use Rattle.trace.specs.Files.{Trace}
use Rattle.trace.specs.Told.{Told}
use Rattle.trace.specs.Reading.{codes_over, SamplesOver, MadeOver}

-- what was made of the samples of a trace, where each is made as `seen` sees it
module _ {S T V : Type 0} (fields : S → List ℕ) (made : S → T → Type 0) (seen : T → V) (of : List ℕ → V) (each : (s : S) (y : T) → made s y → seen y ≡ of (fields s)) where
  made_each : (xs : List (List ℕ)) (ys : List T) → AllZip (λ xs y. (s : S) × (fields s ≡ xs) × made s y) xs ys → map seen ys ≡ map of xs
  made_each [] [] w = refl
  made_each [] (y ∷ ys) w = absurd w
  made_each (x ∷ xs) [] w = absurd w
  made_each (x ∷ xs) (y ∷ ys) w =
      let head : seen y ≡ of x = each w.0.0 y w.0.2 ∙ ap of w.0.1 in
      ap (λ v. v ∷ map seen ys) head ∙ ap (λ vs. of x ∷ vs) (made_each xs ys w.1)

pub made_codes : {S : Type 0} (fields : S → List ℕ) (made : S → ℕ → Type 0) (code : List ℕ → ℕ) → ((s : S) (y : ℕ) → made s y → y ≡ code (fields s)) → (t : Result Trace Told) (old new : List ℕ) → MadeOver fields made t old new → new ≡ codes_over code t old
made_codes fields made code each (Ok t) old new w =
    let n = length t.samples in
    let front : take n new ≡ map code t.samples = sym (map-id (take n new)) ∙ made_each fields made (λ (y : ℕ). y) code each t.samples (take n new) w.0 in
    sym (take-append-drop n new) ∙ ap (λ xs. xs ++ drop n new) front ∙ ap (λ xs. map code t.samples ++ xs) w.1
made_codes fields made code each (Err e) old new w = w

pub made_samples : {S : Type 0} (fields : S → List ℕ) (made : S → S → Type 0) → ((s y : S) → made s y → y ≡ s) → (t : Result Trace Told) (old new : List S) → MadeOver fields made t old new → SamplesOver fields t old new
made_samples fields made each (Ok t) old new w =
    (made_each fields made fields (λ (xs : List ℕ). xs) (λ s y m. ap fields (each s y m)) t.samples (take (length t.samples) new) w.0 ∙ map-id t.samples, w.1)
made_samples fields made each (Err e) old new w = w
