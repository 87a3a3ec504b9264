-- The words of a refusal. Assumes nothing.
use Rattle.std.specs.Prelude.{ℕ, ◌-◌, List, [], ◌∷◌, ◌++◌, codes, decimal, slice_index_or}
use Rattle.trace.specs.Told.{Told, only, fault}
use Rattle.inspect.specs.AnyFile.{longest}

-- the causes, numbered from 4
abbrev pub causes : List (List ℕ)
causes =
    codes "the file ends inside a number"
    ∷ codes "the third byte of a number says that another follows"
    ∷ codes "a number is out of its field's range"
    ∷ codes "the file is of another kind"
    ∷ codes "bytes are left over behind the last sample"
    ∷ []

abbrev pub cause_words : ℕ → List ℕ
cause_words number = slice_index_or causes (number - 4) []

-- the fields, numbered from 0
abbrev pub fields : List (List ℕ)
fields = codes "kind" ∷ codes "machine" ∷ codes "count" ∷ codes "sample" ∷ codes "end" ∷ []

abbrev pub field_name : ℕ → List ℕ
field_name number = slice_index_or fields number []

-- why the file is refused, and where
abbrev pub cause_line : ℕ → List ℕ
cause_line number = codes "refused " ++ (decimal number ++ (codes ": " ++ (cause_words number ++ (10 ∷ []))))

abbrev pub place_line : ℕ → ℕ → List ℕ
place_line place field = codes "byte place " ++ (decimal place ++ (codes ", field " ++ (decimal field ++ (codes " (" ++ (field_name field ++ (codes ")" ++ (10 ∷ [])))))))

abbrev pub refusal_text : Told → List ℕ
refusal_text (only n) = cause_line n
refusal_text (fault n place field) = cause_line n ++ place_line place field

-- an input that is longer than any trace file
abbrev pub too_long : List ℕ
too_long = codes "refused: the input has more than " ++ (decimal longest ++ (codes " bytes, the most that a trace file can have" ++ (10 ∷ [])))
