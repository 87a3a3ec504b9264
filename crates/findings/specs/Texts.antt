-- The text that is printed. Assumes nothing.
use Rattle.std.specs.Prelude.{ℕ, List, ◌++◌}
use Rattle.search.specs.declared.matches.Match.{Match}
use Rattle.cabinet.specs.declared.report.Report.{Report}
use Rattle.console.specs.Texts.{heading, pair_lines, summary_line}
use Rattle.console.specs.declared.table.Summary.{Summary}

-- a report, as it is printed
abbrev pub summary_of : Report → Summary
summary_of r = record { traces = r.traces; samples = r.samples; pairs = r.pairs; places = r.places; reach = r.reach }

-- all matches with the report that goes with them
abbrev pub listing_text : List Match → Report → List ℕ
listing_text matches report = heading ++ (pair_lines matches ++ summary_line (summary_of report))
