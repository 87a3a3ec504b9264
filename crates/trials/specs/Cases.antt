-- How large cases are, and what is found in one. Assumes nothing.
use Rattle.std.specs.Prelude.{◌≡◌, ◌<◌, ◌≤◌, vec_len}
use Rattle.search.specs.declared.matches.Match.{Match}
use Rattle.trials.specs.declared.cases.Case.{Case}

-- a query and a trace that are not empty and not long, and a question that no filter refuses
pub record Small (c : Case) : Type 0 where
  pub query : (1 ≤ vec_len c.query) × (vec_len c.query ≤ 24)
  pub trace : (1 ≤ vec_len c.trace) × (vec_len c.trace ≤ 40)
  pub window : (1 ≤ c.m) × (c.m ≤ 12) × (c.m ≤ vec_len c.query)
  pub slack : c.k < c.m

-- a match of a case has its number, and no more mismatches than it may have
pub record Sound (c : Case) (found : Match) : Type 0 where
  pub numbered : found.accession ≡ c.number
  pub few : found.mismatches ≤ c.k
