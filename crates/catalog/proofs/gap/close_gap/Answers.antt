use Rattle.std.proofs.Common.{◌∙◌}
use Rattle.catalog.proofs.Closing.{copied_is_closed}
use Rattle.catalog.proofs.gap.close_gap.Goals as goal

pub returns : goal.returns
returns g c =
    c.copy_within.ensures.after
    ∙ copied_is_closed c.args.items.now c.args.at c.args.len c.args.used c.if-used-items.false c.if-at-used.false c.if-len-used.false
