use Rattle.std.proofs.Common.{◌≡◌, [], ◌+◌, ◌-◌, ◌++◌, map, length, get_or, sym, refl, ap, ◌∙◌, arith}
use Rattle.std.proofs.Output.{has_written_append, has_written_of_eq}
use Rattle.std.proofs.lemmas.List.{get_or-map, length-map}
use Rattle.inspect.specs.Labels.{labels}
use Rattle.inspect.specs.Texts.{block_head, column, field_line, in_turn, nth_field}
use Rattle.inspect.proofs.Writing.{turn_more}
use Rattle.inspect.proofs.blocks.BlockDisplay.fmt.Goals as goal

pub loop-field-preserved : goal.loop-field-preserved
loop-field-preserved g c = λ plain.
    let names = (labels g.S.Sample.KIND).names in
    let rows = map g.S.Sample.kind.fields c.args.self.now.samples.now in
    let inv = c.loop-field.invariant plain in
    let field = c.loop-field.field in
    let items = c.field_names-name-items in
    let name = sym (get_or-map (λ n. n.now) items.result.now field _ [] c.loop-field-test.true) ∙ ap (λ l. get_or l field []) items.ensures.is ∙ ap (λ k. get_or (labels k).names field []) c.KIND.ensures in
    let line = ap (λ n. field_line n (column field rows)) name in
    has_written_of_eq _ _ _ _ _ (turn_more (block_head _ _) (nth_field names rows) field _ line) (has_written_append _ _ _ _ _ _ inv (c.in_ok-writeln-2.ensures.writes inv.plain refl))

pub returns-clause-writes : goal.returns-clause-writes
returns-clause-writes g c = λ plain ok.
    let names = (labels g.S.Sample.KIND).names in
    let block = c.args.self.now in
    let rows = map g.S.Sample.kind.fields block.samples.now in
    let items = c.field_names-name-items in
    let count = length-map block.samples.now g.S.Sample.kind.fields in
    let named : length items.result.now ≡ length names = sym (length-map items.result.now (λ n. n.now)) ∙ ap length items.ensures.is ∙ ap (λ k. length (labels k).names) c.KIND.ensures in
    let all : c.loop-field.field ≡ length names = omega (arith, named, c.loop-field.auto.field-end) in
    has_written_of_eq _ _ _ _ _ (λ i. block_head block.first (block.first + sym count i - 1) ++ in_turn (nth_field names rows) (all i)) (c.loop-field.invariant plain)
