use Rattle.std.proofs.Common.{◌≡◌, ℕ, ◌<◌, List, replicate, sym, refl, subst, arith}
use Rattle.std.proofs.lemmas.List.Elements.{All-replicate}
use Rattle.pace.specs.Inputs.{Pulses}
use Rattle.pace.proofs.input.Input.dense.Goals as goal

same_codes : (n : ℕ) (codes : List ℕ) → codes ≡ replicate n 7 → Pulses codes
same_codes n codes e = subst Pulses (sym e) (All-replicate (λ code. code < 20) n 7 (omega arith))

pub returns-clause-size : goal.returns-clause-size
returns-clause-size c =
    let query = c.in_ok-vec.ensures in
    let trace = c.in_ok-vec-2.ensures in record {
      query = query.len;
      trace = trace.len;
      marked = refl;
      codes = (same_codes 1024 _ (query.items_if_clones_equal (λ y e. e)), same_codes 4096 _ (trace.items_if_clones_equal (λ y e. e)));
    }
