use Rattle.std.proofs.Common.{ℕ, ◌<◌, drop, sym, subst}
use Rattle.std.proofs.lemmas.List.Elements.{All-append, All-take, All-drop}
use Rattle.pace.specs.Inputs.{Pulses}
use Rattle.pace.proofs.input.plant.Goals as goal

pub returns : goal.returns
returns c query trace =
    let Small : ℕ → Type 0 = λ code. code < 20 in
    let copied = subst Pulses (sym c.copy_from_slice.ensures.after) (All-take Small 64 _ (All-drop Small 300 c.args.query.now query)) in
    let old = c.args.trace.now in
    All-append Small _ _ (All-take Small 2000 old trace)
    (All-append Small c.loop-x.stretch _ (c.loop-x.invariant copied) (All-drop Small 64 (drop 2000 old) (All-drop Small 2000 old trace)))
