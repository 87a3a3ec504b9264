use Rattle.std.proofs.Common.{map, take}
use Rattle.std.specs.Fmt.{HasWritten, IsPlainFormatter}
use Rattle.inspect.specs.Texts.{column, listed}
use Rattle.inspect.proofs.blocks.ColumnDisplay.fmt.Given as goal

abbrev pub invariant-loop-sample : goal.invariant-loop-sample
invariant-loop-sample g l =
    IsPlainFormatter l.fn.f →
    HasWritten g.W.Write.write_str_gives l.fn.f (listed (column l.self.field (map g.S.Sample.kind.fields (take l.sample-index l.sample-items)))) l.f
