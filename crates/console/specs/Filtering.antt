-- The filter of the programs. Assumes nothing.
use Rattle.std.specs.Prelude.{true, false}
use Rattle.filters.specs.Filters.{Rule, Reach}
use Rattle.filters.specs.Questions.{near}
use Rattle.filters.specs.Rules.{tuple_rule, tuple_reach}

-- neighbouring codes, and codes k + 1 apart near them
abbrev pub near_rule : Rule
near_rule = near (tuple_rule false) (tuple_reach false) (tuple_rule true) (tuple_reach true)

-- its reach, that of the first
abbrev pub near_reach : Reach
near_reach = tuple_reach false
