-- An input that is put together of parts is taken apart into them. Assumes nothing.
use Rattle.std.proofs.Common.{◌≡◌, ℕ, ◌≤◌, List, length, Ok, Result, sym, ap, ◌∙◌}
use Rattle.std.proofs.lemmas.Bool.{cond-false, le-ltb}
use Rattle.console.proofs.Parting.{number_there, file_there}
use Rattle.console.specs.Parts.{longest, Front}
use Rattle.console.specs.Refusals.{and_then}
use Rattle.findings.specs.Framing.{Asked, behind_query, behind_k, behind_m, front_question, questioned, HoldsQuestion, TakesApart}

pub question_there : (input : List ℕ) (a : Asked) (rest : List ℕ) → HoldsQuestion input a rest → questioned input ≡ Ok (record { value = a; rest = rest })
question_there input a rest h =
    let m : Front ℕ = record { value = a.m; rest = h.behind_m } in
    let k : Front ℕ = record { value = a.k; rest = h.behind_k } in
    cond-false _ _ _ (le-ltb longest (length input) h.short) ∙ ap (λ r. and_then r behind_m) (number_there a.m input h.behind_m h.m)
    ∙ ap (λ r. and_then r (behind_k m)) (number_there a.k h.behind_m h.behind_k h.k) ∙ ap (λ r. and_then r (behind_query m k)) (file_there h.behind_k a.query rest h.query)

pub taken_apart : (input : List ℕ) (r : Result (Front Asked) ℕ) → r ≡ questioned input → TakesApart input r
taken_apart input r is a rest h = is ∙ question_there input a rest h

-- an input that is not too long is taken as what it asks
pub short_enough : (input : List ℕ) (r : Result (Front Asked) ℕ) → length input ≤ longest → r ≡ front_question input → r ≡ questioned input
short_enough input r short is = is ∙ sym (cond-false _ _ _ (le-ltb longest (length input) short))
