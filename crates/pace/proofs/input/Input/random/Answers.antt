use Rattle.std.proofs.Common.{◌≡◌, ℕ, ◌<◌, ◌≤◌, List, length, get_or, sym, refl, ◌∙◌, subst, arith}
use Rattle.std.proofs.lemmas.List.Elements.{All-append, All-drop, All-from_get_or, All-take}
use Rattle.pace.specs.Inputs.{Pulses}
use Rattle.pace.proofs.input.Input.random.Goals as goal

drawn_pulses : (n : ℕ) (codes : List ℕ) → length codes ≡ n → ((i : ℕ) → i < n → get_or codes i 0 ≤ 19) → Pulses codes
drawn_pulses n codes all low = All-from_get_or (λ code. code < 20) codes 0 (λ i h. omega (arith, low i (omega arith)))

pub plant-requires : goal.plant-requires
plant-requires c = (
  omega (arith, c.as_slice.ensures.len, c.in_ok-query.ensures.bound.0),
  omega (arith, c.as_mut_slice.ensures.len, c.in_ok-trace.ensures.bound.0),
)

pub returns : goal.returns
returns c =
    let query = c.in_ok-query.query in
    let trace = c.in_ok-trace.trace in
    let few = c.in_ok-query.ensures.bound in
    let many = c.in_ok-trace.ensures.bound in
    let old_query = drawn_pulses 1024 query.items (sym query.ok.0 ∙ few.0) few.1 in
    let old_trace = drawn_pulses 4096 trace.items (sym trace.ok.0 ∙ many.0) many.1 in
    let planted = c.plant.ensures (subst Pulses (sym c.as_slice.ensures.value) old_query) (subst Pulses (sym c.as_mut_slice.ensures.value) old_trace) in
    let Small : ℕ → Type 0 = λ code. code < 20 in record {
      query = few.0;
      trace = many.0;
      marked = refl;
      codes = (old_query, All-take Small trace.len _ (All-append Small c.plant.new.trace _ planted (All-drop Small _ trace.items old_trace)));
    }
