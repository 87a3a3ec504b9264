-- What was put at the front of some bytes is taken from there. Assumes nothing.
use Rattle.std.proofs.Common.{◌≡◌, ℕ, ◌<◌, ◌≤◌, List, ◌++◌, length, Ok, refl, ap, ◌∙◌, arith, length-append, length-drop}
use Rattle.std.proofs.lemmas.List.{take_at, drop_at}
use Rattle.std.proofs.lemmas.Bool.{cond-true, le-leb}
use Rattle.trace.proofs.Spelling.{begins_found, begins_rest, begins_lies}
use Rattle.trace.specs.Spelling.{Begins}
use Rattle.console.specs.Parts.{front_of, front_number, sized, front_file, HoldsFile}
use Rattle.console.specs.Refusals.{and_then}

pub number_there : (v : ℕ) (bytes rest : List ℕ) → Begins v bytes rest → front_number bytes ≡ Ok (record { value = v; rest = rest })
number_there v bytes rest b = ap (front_of bytes) (begins_found v bytes rest b) ∙ ap (λ r. Ok (record { value = v; rest = r })) (begins_rest v bytes rest b)

sized_there : (file rest : List ℕ) → sized (record { value = length file; rest = file ++ rest }) ≡ Ok (record { value = file; rest = rest })
sized_there file rest =
    let room : length file ≤ length (file ++ rest) = omega (arith, length-append file rest) in
    cond-true _ _ _ (le-leb (length file) (length (file ++ rest)) room)
    ∙ (λ i. Ok (record { value = take_at file rest (length file) refl i; rest = drop_at file rest (length file) refl i }))

pub file_there : (bytes file rest : List ℕ) → HoldsFile bytes file rest → front_file bytes ≡ Ok (record { value = file; rest = rest })
file_there bytes file rest h =
    ap (λ r. and_then r sized) (number_there (length file) bytes h.behind h.size) ∙ ap (λ b. sized (record { value = length file; rest = b })) h.is
    ∙ sized_there file rest

-- a number takes a byte or more
number_shorter : (v : ℕ) (bytes rest : List ℕ) → Begins v bytes rest → length rest < length bytes
number_shorter v bytes rest b =
    let lies = begins_lies v bytes rest b in
    omega (arith, lies.0, lies.1, ap length (begins_rest v bytes rest b), length-drop (length b.groups) bytes)

-- and so does a file
pub file_shorter : (bytes file rest : List ℕ) → HoldsFile bytes file rest → length rest < length bytes
file_shorter bytes file rest h = omega (arith, number_shorter (length file) bytes h.behind h.size, ap length h.is, length-append file rest)
