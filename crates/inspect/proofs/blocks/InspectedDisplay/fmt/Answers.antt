use Rattle.std.proofs.Common.{◌+◌, ◌*◌, ◌≤◌, min, map, length, drop, vec_items, sym, refl, ap, ◌∙◌, rules, arith, length-drop}
use Rattle.std.proofs.Output.{has_written_append, has_written_of_eq}
use Rattle.std.proofs.lemmas.List.{length-map}
use Rattle.std.specs.Iterator.Adapters.{enumerate_source, enumerate_count}
use Rattle.std.specs.Slice.Iter.{chunks_rest, chunks_size}
use Rattle.trace.specs.KindNames.{kind_number}
use Rattle.inspect.specs.Labels.{labels}
use Rattle.inspect.specs.Texts.{block, nth_block, block_count}
use Rattle.inspect.proofs.Writing.{inspected, inspected_more, inspected_none, part_rows, rest_on, within, all_blocks}
use Rattle.inspect.proofs.blocks.InspectedDisplay.fmt.Goals as goal

pub loop-k-init : goal.loop-k-init
loop-k-init g c =
    let fields = g.S.Sample.kind.fields in
    let kind = labels g.S.Sample.KIND in
    let trace = c.args.self.now.trace.now in
    let samples = vec_items trace.samples in
    let rows = map fields samples in
    let padded = c.args.self.now.padded in
    let title = c.title-title.ensures.is ∙ ap (λ k. (labels k).title) c.KIND.ensures in
    let number = c.number-number.ensures ∙ ap kind_number c.KIND-2.ensures ∙ g.met.S.Sample.named ∙ sym g.met.S.Shown.numbered in
    let count = ap length c.as_slice-samples.ensures.value ∙ sym (length-map samples fields) in
    let begins = c.into_iter-k-iterator.ensures.into_iter_gives in
    let zero = ap enumerate_count begins ∙ c.enumerate-k-items.ensures.count in
    record {
      can = search rules;
      ends = search rules;
      size = ap (λ s. chunks_size (enumerate_source s)) begins ∙ ap chunks_size c.enumerate-k-items.ensures.source ∙ c.chunks.ensures.size;
      rest = ap (λ s. chunks_rest (enumerate_source s)) begins ∙ ap chunks_rest c.enumerate-k-items.ensures.source ∙ c.chunks.ensures.rest ∙ c.as_slice-samples.ensures.value ∙ ap (λ n. drop (16 * n) samples) (sym zero);
      begun = omega (arith, zero);
      written = λ plain.
          let first = c.in_ok-writeln.ensures.writes plain refl in
          has_written_of_eq _ _ _ _ _ (inspected_none kind trace.machine rows padded _ _ _ title number count ∙ ap (inspected kind trace.machine rows padded) (sym zero))
          (has_written_append _ _ _ _ _ _ first (c.in_ok-writeln-2.ensures.writes first.plain refl));
    }

pub invariant_of-block : goal.invariant_of-block
invariant_of-block g c =
    let steps = c.in-Some.ensures.steps in
    let i = c.loop-k.invariant in
    let samples = vec_items c.args.self.now.trace.now.samples in
    let at = i.rest ∙ ap (λ n. drop (16 * n) samples) (sym steps.1) in
    let size = steps.0.1.1 ∙ ap (λ n. min n (length (chunks_rest (enumerate_source c.loop-k.k-iterator)))) i.size in
    let lies = within g.S.Sample.kind.fields samples c.in-Some.k c.in-Some.part.now _ _ at steps.0.1.0 size steps.0.1.2 in
    record { some = lies.0; fits = omega (arith, lies.1, c.as_slice-samples.ensures.len, ap length c.as_slice-samples.ensures.value) }

pub loop-k-preserved : goal.loop-k-preserved
loop-k-preserved g c =
    let fields = g.S.Sample.kind.fields in
    let kind = labels g.S.Sample.KIND in
    let steps = c.in-Some.ensures.steps in
    let i = c.loop-k.invariant in
    let trace = c.args.self.now.trace.now in
    let samples = vec_items trace.samples in
    let rows = map fields samples in
    let padded = c.args.self.now.padded in
    let k = c.in-Some.k in
    let at = i.rest ∙ ap (λ n. drop (16 * n) samples) (sym steps.1) in
    let size = steps.0.1.1 ∙ ap (λ n. min n (length (chunks_rest (enumerate_source c.loop-k.k-iterator)))) i.size in
    let lies = within fields samples k c.in-Some.part.now _ _ at steps.0.1.0 size steps.0.1.2 in
    let part = ap (block kind.names (16 * k)) (part_rows fields samples k c.in-Some.part.now _ _ at steps.0.1.0 size) ∙ ap (nth_block kind.names rows) steps.1 in
    let more = steps.2 in
    record {
      can = search rules;
      ends = search rules;
      size = steps.0.0 ∙ i.size;
      rest = rest_on fields samples k c.in-Some.part.now _ _ at steps.0.1.0 size ∙ ap (λ n. drop (16 * (n + 1)) samples) steps.1 ∙ ap (λ n. drop (16 * n) samples) (sym more);
      begun = omega (arith, lies.0, lies.1, steps.1, more);
      written = λ plain.
          let so_far = i.written plain in
          has_written_of_eq _ _ _ _ _ (inspected_more kind trace.machine rows padded _ _ part ∙ ap (inspected kind trace.machine rows padded) (sym more))
          (has_written_append _ _ _ _ _ _ so_far (c.in_ok-write.ensures.writes so_far.plain refl));
    }

pub returns-clause-writes : goal.returns-clause-writes
returns-clause-writes g c = λ plain ok.
    let fields = g.S.Sample.kind.fields in
    let i = c.loop-k.invariant in
    let trace = c.args.self.now.trace.now in
    let samples = vec_items trace.samples in
    let count = enumerate_count c.loop-k.k-iterator in
    let enough : length samples ≤ 16 * count = omega (arith, c.in-None.ensures.steps.0.1.0, ap length i.rest, length-drop (16 * count) samples) in
    let all = all_blocks (length samples) count enough i.begun ∙ ap block_count (sym (length-map samples fields)) in
    has_written_of_eq _ _ _ _ _ (ap (inspected (labels g.S.Sample.KIND) trace.machine (map fields samples) c.args.self.now.padded) all) (i.written plain)
