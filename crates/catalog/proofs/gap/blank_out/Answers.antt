use Rattle.std.proofs.Common.{◌≡◌, ◌+◌, arith}
use Rattle.std.proofs.lemmas.List.Edits.{fill_from_more}
use Rattle.catalog.proofs.gap.blank_out.Goals as goal

pub loop-item-preserved : goal.loop-item-preserved
loop-item-preserved g c =
    let at : 0 + c.loop-item.item-index ≡ c.loop-item.item-index = omega arith in
    let more = fill_from_more c.args.items.now 0 c.loop-item.item-index c.args.value (omega arith) in
    cc
