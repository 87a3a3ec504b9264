use Rattle.std.proofs.Common.{◌≡◌, ◌+◌, ◌*◌, ◌<◌, map, length, drop, vec_items}
use Rattle.std.specs.Fmt.{HasWritten, IsPlainFormatter}
use Rattle.std.specs.Iterator.Adapters.{enumerate_source, enumerate_count}
use Rattle.std.specs.Slice.Iter.{chunks_rest, chunks_size}
use Rattle.inspect.specs.Labels.{labels}
use Rattle.inspect.proofs.Writing.{inspected}
use Rattle.inspect.proofs.blocks.InspectedDisplay.fmt.Given as goal

abbrev pub invariant-loop-k : goal.invariant-loop-k
invariant-loop-k g l =
    record {
      can : (goal.iterator-loop-k g).can_next l.k-iterator;
      ends : (goal.iterator-loop-k g).is_finite l.k-iterator;
      size : chunks_size (enumerate_source l.k-iterator) ≡ 16;
      rest : chunks_rest (enumerate_source l.k-iterator) ≡ drop (16 * enumerate_count l.k-iterator) (vec_items l.self.trace.now.samples);
      begun : 16 * enumerate_count l.k-iterator < length (vec_items l.self.trace.now.samples) + 16;
      written : IsPlainFormatter l.fn.f →
          HasWritten g.W.Write.write_str_gives l.fn.f (inspected (labels g.S.Sample.KIND) l.self.trace.now.machine (map g.S.Sample.kind.fields (vec_items l.self.trace.now.samples)) l.self.padded (enumerate_count l.k-iterator)) l.f;
    }
