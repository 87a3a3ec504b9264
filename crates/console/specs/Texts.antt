-- The text that is printed. Assumes nothing.
use Rattle.std.specs.Prelude.{ℕ, List, [], ◌∷◌, ◌++◌, codes, decimal}
use Rattle.std.specs.List.{flat_map}
use Rattle.search.specs.declared.matches.Match.{Match}
use Rattle.search.specs.Texts.{match_text}
use Rattle.console.specs.declared.table.Summary.{Summary}
use Rattle.console.specs.declared.table.Table.{Table}

-- the line above the pairs
abbrev pub heading : List ℕ
heading = codes "accession trace query mismatches" ++ (10 ∷ [])

-- a pair: its accession number, its places in the trace and in the query, and its mismatches
abbrev pub pair_line : Match → List ℕ
pair_line p = match_text p ++ (10 ∷ [])

-- a line for each pair
abbrev pub pair_lines : List Match → List ℕ
pair_lines pairs = flat_map pair_line pairs

-- the sums over all traces, and the filter's reach
abbrev pub summary_text : Summary → List ℕ
summary_text s = codes "traces " ++ (decimal s.traces ++ (codes " samples " ++ (decimal s.samples ++ (codes " pairs " ++ (decimal s.pairs ++ (codes " places " ++ (decimal s.places ++ (codes " reach " ++ decimal s.reach))))))))

-- the last line
abbrev pub summary_line : Summary → List ℕ
summary_line s = summary_text s ++ (10 ∷ [])

-- the heading, a line for each pair, and the summary
abbrev pub table_text : Table → List ℕ
table_text t = heading ++ (pair_lines t.matches.now ++ summary_line t.summary)

-- the only line where something was refused
abbrev pub refusal_line : ℕ → List ℕ
refusal_line number = codes "refused " ++ (decimal number ++ (10 ∷ []))
