-- An input that is put together of parts is taken apart into them. Assumes nothing.
use Rattle.std.proofs.Common.{◌≡◌, ℕ, List, [], Ok, Result, ap, ◌∙◌}
use Rattle.console.proofs.Parting.{number_there, file_there}
use Rattle.console.specs.Parts.{Front}
use Rattle.console.specs.Refusals.{and_then}
use Rattle.probe.specs.Framing.{Framed, ended, after_query, after_k, after_m, framing, Holds, TakesApart}

framed_there : (input : List ℕ) (f : Framed) → Holds input f → framing input ≡ Ok f
framed_there input f h =
    let m : Front ℕ = record { value = f.m; rest = h.behind_m } in
    let k : Front ℕ = record { value = f.k; rest = h.behind_k } in
    let query : Front (List ℕ) = record { value = f.query; rest = h.behind_query } in
    ap (λ r. and_then r after_m) (number_there f.m input h.behind_m h.m) ∙ ap (λ r. and_then r (after_k m)) (number_there f.k h.behind_m h.behind_k h.k)
    ∙ ap (λ r. and_then r (after_query m k)) (file_there h.behind_k f.query h.behind_query h.query)
    ∙ ap (λ r. and_then r (ended m k query)) (file_there h.behind_query f.trace [] h.trace)

pub taken_apart : (input : List ℕ) (r : Result Framed ℕ) → r ≡ framing input → TakesApart input r
taken_apart input r is f h = is ∙ framed_there input f h
