use Rattle.std.proofs.Common.{rules, ◌∙◌}
use Rattle.std.proofs.lemmas.Iterator.Consumers.{count_from_yields_List, YieldsList-from_filter, YieldsList-at}
use borrow.Author.Tests.{tests}
use Rattle.inspect.specs.Paddings.{pads_pair}
use Rattle.inspect.proofs.Pads.{neighbours_padded, windows_are, counts_padded}
use Rattle.inspect.proofs.padding.padded.Goals as goal

pub returns : goal.returns
returns c =
    let bs = c.args.file.now in
    let pairs = YieldsList-at c.filter.ensures.source (windows_are c.windows.result bs c.windows.ensures.rest c.windows.ensures.size) in
    let is =
    count_from_yields_List c.filter.result c.count.result c.count.ensures.ran (YieldsList-from_filter _ pads_pair pairs c.filter.ensures.closure (λ x b q k. search (rules, tests)))
    ∙ neighbours_padded bs in
    record { is = is; counts = counts_padded bs c.count.result is }
