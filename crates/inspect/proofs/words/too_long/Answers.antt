use Rattle.inspect.proofs.Faults.{none_longer}
use Rattle.inspect.proofs.words.too_long.Goals as goal

pub returns : goal.returns
returns c = record { is = c.format.ensures.ok; true_of_all = none_longer }
