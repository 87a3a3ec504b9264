-- The text of a match. Assumes nothing.
use Rattle.std.specs.Prelude.{ℕ, List, ◌++◌, codes, decimal}
use Rattle.search.specs.declared.matches.Match.{Match}

-- its accession number, its places in the trace and in the query, and its mismatches
abbrev pub match_text : Match → List ℕ
match_text x = decimal x.accession ++ (codes " " ++ (decimal x.trace ++ (codes " " ++ (decimal x.query ++ (codes " " ++ decimal x.mismatches)))))
