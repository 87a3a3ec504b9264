-- Counts of answers. Assumes nothing.
use Rattle.std.specs.Prelude.{ℕ, ◌+◌, ◌-◌, ◌^◌, min, Ok, Err, Result}
use Rattle.trace.specs.declared.file.Header.{Header}
use Rattle.trace.specs.declared.refusal.Cause.{Cause}
use Rattle.trace.specs.declared.refusal.Cause.TheVariants as cause
use Rattle.trace.specs.declared.refusal.Refusal.{Refusal}
use Rattle.trace.specs.declared.refusal.Refusal.TheVariants as refusal
use Rattle.readings.specs.declared.reading.Unread.{Unread}
use Rattle.readings.specs.declared.reading.Unread.TheVariants.{Refused, Differ, Malformed}
use Rattle.readings.specs.declared.tally.Causes.{Causes}
use Rattle.readings.specs.declared.tally.Tally.{Tally}

-- one more, up to the largest number there is
abbrev pub more : ℕ → ℕ
more n = min (n + 1) (2 ^ 32 - 1)

abbrev pub none_yet : Tally
none_yet = record { files = 0; read = 0; refused = 0; causes = record { ends_inside_number = 0; number_too_long = 0; out_of_range = 0; other_kind = 0; bytes_left_over = 0 } }

abbrev pub raised : Causes → Cause → Causes
raised c cause.EndsInsideNumber = record c { ends_inside_number = more c.ends_inside_number }
raised c cause.NumberTooLong = record c { number_too_long = more c.number_too_long }
raised c cause.OutOfRange = record c { out_of_range = more c.out_of_range }
raised c cause.OtherKind = record c { other_kind = more c.other_kind }
raised c cause.BytesLeftOver = record c { bytes_left_over = more c.bytes_left_over }

abbrev pub caused : Tally → Refusal → Tally
caused t refusal.TooShort = t
caused t refusal.OutOfRange = record t { causes = raised t.causes cause.OutOfRange }
caused t (refusal.File f) = record t { causes = raised t.causes f.cause }

abbrev pub counted : Tally → Result Header Unread → Tally
counted t (Ok h) = record t { files = more t.files; read = more t.read }
counted t (Err (Refused r)) = record (caused t r) { files = more t.files; refused = more t.refused }
counted t (Err Differ) = record t { files = more t.files }
counted t (Err Malformed) = record t { files = more t.files }
