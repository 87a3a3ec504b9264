-- A file read into a buffer that has room for every trace.
use Rattle.std.proofs.Common.{◌≡◌, ℕ, ◌≤◌, List, map, length, take, drop, Ok, Err, Result, refl, ap, ◌∙◌, subst, arith}
use Rattle.std.proofs.lemmas.List.{length-map, take_at}
use Rattle.std.proofs.lemmas.Bool.{cond-true, le-leb}
use Rattle.trace.specs.Files.{Head, Trace, trace_file}
use Rattle.trace.specs.Reading.{fitted, counts, codes_over, SamplesOver}
use Rattle.trace.specs.Spelling.{Meant}
use Rattle.trace.specs.Told.{Told}

-- no count is told of a fault
fault_of : (r : Result Trace Told) (e : Told) → Err e ≡ counts r → r ≡ Err e
fault_of (Ok t) e h = let z : ◌≡◌ {A = ℕ} 0 1 = cc in absurd (let y : ⊥ = omega arith in y)
fault_of (Err x) e h = let d : x ≡ e = cc in ap Err d

-- a file that was read, its trace, and the codes at the front of the buffer
pub record Filed (number : ℕ) (tops file : List ℕ) (code : List ℕ → ℕ) (machine count : ℕ) (out : List ℕ) : Type 0 where
  pub trace : Trace
  pub is : trace_file number tops file ≡ Ok trace
  pub machine_is : machine ≡ trace.machine
  pub count_is : count ≡ length trace.samples
  pub few : length trace.samples ≤ 4096
  pub codes : take count out ≡ map code trace.samples
  pub size : length (take count out) ≡ length trace.samples

module _ (number : ℕ) (tops file : List ℕ) (room : ℕ) (enough : 4096 ≤ room) (means : Meant number tops file (trace_file number tops file)) where
  fits : (r : Result Trace Told) → Meant number tops file r → fitted room r ≡ r
  fits (Ok t) m = cond-true _ _ _ (le-leb (length t.samples) room (omega (arith, m.fair.count.1)))
  fits (Err e) m = refl

  -- nothing is refused for want of room
  fits_all : fitted room (trace_file number tops file) ≡ trace_file number tops file
  fits_all = fits (trace_file number tops file) means

  -- the fault is the file's
  pub read_fault : (e : Told) → Err e ≡ counts (fitted room (trace_file number tops file)) → trace_file number tops file ≡ Err e
  read_fault e h = fault_of (trace_file number tops file) e (h ∙ ap counts fits_all)

  filed_in : (code : List ℕ → ℕ) (h : Head) (old out : List ℕ) (r : Result Trace Told) → trace_file number tops file ≡ r → Meant number tops file r → Ok h ≡ counts r → out ≡ codes_over code r old → Filed number tops file code h.machine h.count out
  filed_in code h old out (Ok t) e m is put =
      let c : h.count ≡ length t.samples = cc in
      let a : h.machine ≡ t.machine = cc in
      let codes : take h.count out ≡ map code t.samples =
      ap (λ (n : ℕ). take n out) c ∙ ap (take (length t.samples)) put ∙ take_at (map code t.samples) (drop (length t.samples) old) (length t.samples) (length-map t.samples code) in
      record {
        trace = t;
        is = e;
        machine_is = a;
        count_is = c;
        few = m.fair.count.1;
        codes = codes;
        size = ap length codes ∙ length-map t.samples code;
      }
  filed_in code h old out (Err x) e m is put = let z : ◌≡◌ {A = ℕ} 0 1 = cc in absurd (let y : ⊥ = omega arith in y)

  pub filed : (code : List ℕ → ℕ) (h : Head) (old out : List ℕ) → Ok h ≡ counts (fitted room (trace_file number tops file)) → out ≡ codes_over code (fitted room (trace_file number tops file)) old → Filed number tops file code h.machine h.count out
  filed code h old out is put =
      filed_in code h old out (trace_file number tops file) refl means (is ∙ ap counts fits_all) (put ∙ ap (λ (r : Result Trace Told). codes_over code r old) fits_all)

-- a trace that fits what is left of a store
fits_rest : (t : Trace) (r : Result Trace Told) (room : ℕ) → r ≡ Ok t → length t.samples ≤ room → fitted room r ≡ Ok t
fits_rest t r room e h = ap (fitted room) e ∙ cond-true _ _ _ (le-leb (length t.samples) room h)

-- and its samples are written there
pub written_rest : {S : Type 0} (fields : S → List ℕ) (t : Trace) (r : Result Trace Told) (old part : List S) → r ≡ Ok t → length t.samples ≡ length old → length part ≡ length old → SamplesOver fields (fitted (length old) r) old part → map fields (take (length t.samples) part) ≡ t.samples
written_rest fields t r old part q h l w = (subst (λ (z : Result Trace Told). SamplesOver fields z old part) (fits_rest t r (length old) q (omega arith)) w).0
