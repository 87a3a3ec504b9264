-- A reader with room for every trace answers as the file says. Assumes nothing.
use Rattle.std.proofs.Common.{◌≡◌, ℕ, ◌≤◌, List, ◌++◌, map, length, take, drop, Ok, Err, Result, refl, ap, ◌∙◌, arith}
use Rattle.std.proofs.lemmas.List.{length-map, take_at}
use Rattle.std.proofs.lemmas.Bool.{cond-true, le-leb}
use Rattle.trace.specs.Files.{Head, Trace, trace_file}
use Rattle.trace.specs.Kinds.{pulse}
use Rattle.trace.specs.Reading.{fitted, counts, codes_over}
use Rattle.trace.specs.Spelling.{Meant}
use Rattle.trace.specs.Told.{Told, number_of}
use Rattle.probe.specs.Tasks.{codes_told, pulse_codes}

refused_in : (r : Result Trace Told) (e : Told) → Err e ≡ counts r → Err (number_of e) ≡ codes_told r
refused_in (Ok t) e h = let z : ◌≡◌ {A = ℕ} 0 1 = cc in absurd (omega arith)
refused_in (Err x) e h = let d : e ≡ x = cc in ap (λ y. Err (number_of y)) d

read_in : (r : Result Trace Told) (h : Head) (old out : List ℕ) → Ok h ≡ counts r → out ≡ codes_over pulse.code r old → Ok (take h.count out) ≡ codes_told r
read_in (Ok t) h old out is put =
    let count : h.count ≡ length t.samples = cc in
    ap Ok
    (ap (λ n. take n out) count ∙ ap (take (length t.samples)) put
    ∙ take_at (map pulse.code t.samples) (drop (length t.samples) old) (length t.samples) (length-map t.samples pulse.code))
read_in (Err e) h old out is put = let z : ◌≡◌ {A = ℕ} 0 1 = cc in absurd (omega arith)

module _ (file : List ℕ) (room : ℕ) (enough : 4096 ≤ room) (means : Meant pulse.number pulse.tops file (trace_file pulse.number pulse.tops file)) where
  fits : (r : Result Trace Told) → Meant pulse.number pulse.tops file r → fitted room r ≡ r
  fits (Ok t) m = cond-true _ _ _ (le-leb (length t.samples) room (omega (arith, m.fair.count.1)))
  fits (Err e) m = refl

  whole : fitted room (trace_file pulse.number pulse.tops file) ≡ trace_file pulse.number pulse.tops file
  whole = fits (trace_file pulse.number pulse.tops file) means

  pub refused : (e : Told) → Err e ≡ counts (fitted room (trace_file pulse.number pulse.tops file)) → Err (number_of e) ≡ pulse_codes file
  refused e is = refused_in (trace_file pulse.number pulse.tops file) e (is ∙ ap counts whole)

  -- the codes were written into the front of the vector's places, which are then cut to their count
  pub read : (h : Head) (old out rest items : List ℕ) (len : ℕ) → Ok h ≡ counts (fitted room (trace_file pulse.number pulse.tops file)) → out ≡ codes_over pulse.code (fitted room (trace_file pulse.number pulse.tops file)) old → length out ≡ len → items ≡ take h.count (take len (out ++ rest)) → Ok items ≡ pulse_codes file
  read h old out rest items len is put long cut =
      ap Ok (cut ∙ ap (take h.count) (take_at out rest len long))
      ∙ read_in (trace_file pulse.number pulse.tops file) h old out (is ∙ ap counts whole) (put ∙ ap (λ r. codes_over pulse.code r old) whole)
