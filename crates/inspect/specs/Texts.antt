-- The text that is printed of a trace. Assumes nothing.
use Rattle.std.specs.Prelude.{ℕ, zero, suc, ◌+◌, ◌-◌, ◌*◌, ◌/◌, ◌%◌, min, List, [], ◌∷◌, ◌++◌, map, length, take, drop, codes, decimal, slice_index, slice_index_or}
use Rattle.std.specs.List.{flat_map}
use Rattle.trace.specs.Files.{Trace}
use Rattle.inspect.specs.Labels.{Labels}

-- the two lines at the head
abbrev pub title_line : List ℕ → ℕ → ℕ → List ℕ
title_line title number machine = title ++ (codes " trace (kind " ++ (decimal number ++ (codes ") of machine " ++ (decimal machine ++ (10 ∷ [])))))

abbrev pub count_line : ℕ → ℕ → List ℕ
count_line count padded = codes "samples " ++ (decimal count ++ (codes ", padded numbers " ++ (decimal padded ++ (10 ∷ []))))

-- each value behind a blank
abbrev pub listed : List ℕ → List ℕ
listed values = flat_map (λ v. codes " " ++ decimal v) values

-- the values of one field
abbrev pub field_line : List ℕ → List ℕ → List ℕ
field_line name values = codes "  " ++ (name ++ (listed values ++ (10 ∷ [])))

abbrev pub column : ℕ → List (List ℕ) → List ℕ
column field rows = map (λ row. slice_index row field) rows

-- n texts, the one of 0 first
abbrev pub in_turn : (ℕ → List ℕ) → ℕ → List ℕ
in_turn text zero = []
in_turn text (suc n) = in_turn text n ++ text n

-- a line for each field
abbrev pub nth_field : List (List ℕ) → List (List ℕ) → ℕ → List ℕ
nth_field names rows field = field_line (slice_index_or names field []) (column field rows)

abbrev pub field_lines : List (List ℕ) → List (List ℕ) → List ℕ
field_lines names rows = in_turn (nth_field names rows) (length names)

-- which samples a block has
abbrev pub block_head : ℕ → ℕ → List ℕ
block_head first last = codes "samples " ++ (decimal first ++ (codes " to " ++ (decimal last ++ (10 ∷ []))))

-- some samples, the first of which has this place in the trace
abbrev pub block : List (List ℕ) → ℕ → List (List ℕ) → List ℕ
block names first rows = block_head first (first + length rows - 1) ++ field_lines names rows

-- a block has 16 samples, and the last one what is left
abbrev pub nth_block : List (List ℕ) → List (List ℕ) → ℕ → List ℕ
nth_block names rows k = block names (16 * k) (take 16 (drop (16 * k) rows))

-- how many blocks n samples make
abbrev pub block_count : ℕ → ℕ
block_count n = n / 16 + min 1 (n % 16)

abbrev pub blocks : List (List ℕ) → List (List ℕ) → List ℕ
blocks names rows = in_turn (nth_block names rows) (block_count (length rows))

-- the whole text of a trace, in whose file this many numbers are padded
abbrev pub trace_text : Labels → Trace → ℕ → List ℕ
trace_text labels t padded =
    title_line labels.title labels.number t.machine ++ (count_line (length t.samples) padded ++ blocks labels.names t.samples)
