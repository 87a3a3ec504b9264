-- Worked examples of what is printed. Assumes nothing.
use Rattle.std.specs.Prelude.{◌≡◌, ℕ, List, [], ◌∷◌, ◌++◌, codes}
use Rattle.findings.specs.Reports.{report_text}
use Rattle.findings.specs.Sessions.{Parts, Holds}

-- m is 6 and k is 1; the query has the pulses 1 to 6 and comes from machine 7
abbrev pub asks : List ℕ
asks = 0x06 ∷ 0x01 ∷ 0x09 ∷ 0x01 ∷ 0x07 ∷ 0x06 ∷ 0x01 ∷ 0x02 ∷ 0x03 ∷ 0x04 ∷ 0x05 ∷ 0x06 ∷ []

-- the query with its third pulse changed and one more at either end, from machine 8
abbrev pub changed : List ℕ
changed = 0x0B ∷ 0x01 ∷ 0x08 ∷ 0x08 ∷ 0x09 ∷ 0x01 ∷ 0x02 ∷ 0x07 ∷ 0x04 ∷ 0x05 ∷ 0x06 ∷ 0x09 ∷ []

-- the query itself, with its length in three bytes
abbrev pub padded : List ℕ
padded = 0x89 ∷ 0x80 ∷ 0x00 ∷ 0x01 ∷ 0x07 ∷ 0x06 ∷ 0x01 ∷ 0x02 ∷ 0x03 ∷ 0x04 ∷ 0x05 ∷ 0x06 ∷ []

-- the query's file
abbrev pub query_file : List ℕ
query_file = 0x01 ∷ 0x07 ∷ 0x06 ∷ 0x01 ∷ 0x02 ∷ 0x03 ∷ 0x04 ∷ 0x05 ∷ 0x06 ∷ []

-- the file of the changed trace
abbrev pub changed_file : List ℕ
changed_file = 0x01 ∷ 0x08 ∷ 0x08 ∷ 0x09 ∷ 0x01 ∷ 0x02 ∷ 0x07 ∷ 0x04 ∷ 0x05 ∷ 0x06 ∷ 0x09 ∷ []

-- the question on the query itself and on the changed trace
abbrev pub both : Parts
both = record { asked = record { m = 6; k = 1; query = query_file }; traces = query_file ∷ changed_file ∷ [] }

-- lines of text, each with its end
abbrev pub lines : List (List ℕ) → List ℕ
lines [] = []
lines (l ∷ ls) = l ++ (10 ∷ lines ls)

pub record Examples : Type 0 where
  pub one : report_text (asks ++ changed) ≡ lines (codes "accession trace query mismatches" ∷ codes "1 1 0 1" ∷ codes "traces 1 samples 8 pairs 1 places 1 reach 3" ∷ [])
  pub two : report_text (asks ++ (padded ++ changed)) ≡ lines (codes "accession trace query mismatches" ∷ codes "1 0 0 0" ∷ codes "2 1 0 1" ∷ codes "traces 2 samples 14 pairs 2 places 5 reach 3" ∷ [])
  pub held : Holds (asks ++ (padded ++ changed)) both
  pub no_trace : report_text asks ≡ lines (codes "accession trace query mismatches" ∷ codes "traces 0 samples 0 pairs 0 places 0 reach 3" ∷ [])
  -- behind the first trace the input ends inside a number
  pub cut_off : report_text (asks ++ (changed ++ (0x80 ∷ []))) ≡ lines (codes "refused 4" ∷ [])
  pub empty : report_text [] ≡ lines (codes "refused 4" ∷ [])
