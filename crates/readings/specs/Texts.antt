-- How an answer that is no trace, and the counts, are printed, byte for byte. Assumes nothing.
use Rattle.std.specs.Prelude.{ℕ, List, ◌++◌, codes}
use Rattle.std.specs.Fmt.{decimal}
use Rattle.trace.specs.Refusals.{told}
use Rattle.readings.specs.declared.reading.Unread.{Unread}
use Rattle.readings.specs.declared.reading.Unread.TheVariants.{Refused, Differ, Malformed}
use Rattle.readings.specs.declared.tally.Causes.{Causes}
use Rattle.readings.specs.declared.tally.Tally.{Tally}
use Rattle.readings.specs.Readings.{plain}

abbrev pub numbers_text : ℕ × ℕ × ℕ → List ℕ
numbers_text p = codes "refused " ++ decimal p.0 ++ codes " " ++ decimal p.1 ++ codes " " ++ decimal p.2

abbrev pub unread_text : Unread → List ℕ
unread_text (Refused r) = numbers_text (plain (told r))
unread_text Differ = codes "differ"
unread_text Malformed = codes "malformed"

-- each cause by its number
abbrev pub causes_text : Causes → List ℕ
causes_text c =
    codes "4: " ++ decimal c.ends_inside_number ++ codes ", 5: " ++ decimal c.number_too_long ++ codes ", 6: " ++ decimal c.out_of_range
    ++ codes ", 7: " ++ decimal c.other_kind ++ codes ", 8: " ++ decimal c.bytes_left_over

abbrev pub tally_text : Tally → List ℕ
tally_text t =
    codes "files " ++ (decimal t.files ++ (codes ", read " ++ (decimal t.read ++ (codes ", refused " ++ (decimal t.refused ++ (codes " (" ++ (causes_text t.causes ++ codes ")")))))))
