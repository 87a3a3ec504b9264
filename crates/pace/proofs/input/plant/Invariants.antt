use Rattle.pace.specs.Inputs.{Pulses}
use Rattle.pace.proofs.input.plant.Given as goal

-- changed codes are codes of pulses too
abbrev pub invariant-loop-x : goal.invariant-loop-x
invariant-loop-x l = Pulses l.initial.stretch → Pulses l.stretch
