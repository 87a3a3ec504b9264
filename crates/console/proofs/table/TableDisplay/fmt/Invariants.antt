use Rattle.std.proofs.Common.{◌++◌, take}
use Rattle.std.specs.Fmt.{HasWritten, IsPlainFormatter}
use Rattle.console.specs.Texts.{heading, pair_lines}
use Rattle.console.proofs.table.TableDisplay.fmt.Given as goal

abbrev pub invariant-loop-pair : goal.invariant-loop-pair
invariant-loop-pair g l = IsPlainFormatter l.fn.f → HasWritten g.W.Write.write_str_gives l.fn.f (heading ++ pair_lines (take l.pair-index l.pair-items)) l.f
