use Rattle.std.proofs.Common.{◌++◌, map}
use Rattle.std.specs.Fmt.{HasWritten, IsPlainFormatter}
use Rattle.inspect.specs.Labels.{labels}
use Rattle.inspect.specs.Texts.{block_head, in_turn, nth_field}
use Rattle.inspect.proofs.blocks.BlockDisplay.fmt.Given as goal

abbrev pub invariant-loop-field : goal.invariant-loop-field
invariant-loop-field g l =
    IsPlainFormatter l.fn.f →
    HasWritten g.W.Write.write_str_gives l.fn.f (block_head l.first l.last ++ in_turn (nth_field (labels g.S.Sample.KIND).names (map g.S.Sample.kind.fields l.self.samples.now)) l.field) l.f
