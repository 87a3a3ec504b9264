use Rattle.std.proofs.Common.{vec_items}
use Rattle.std.specs.List.{All}
use Rattle.trials.specs.Cases.{Sound}
use Rattle.trials.proofs.naive.all_matches.Given as goal

abbrev pub invariant-loop-place : goal.invariant-loop-place
invariant-loop-place l = All (Sound l.case) (vec_items l.matches)

abbrev pub invariant-loop-start : goal.invariant-loop-start
invariant-loop-start l = All (Sound l.case) (vec_items l.matches)
