-- What an input asks to search for, and where. Assumes nothing.
use Rattle.std.specs.Prelude.{ℕ, List, map, length, Ok, Err, Result}
use Rattle.filters.specs.declared.refusal.Refusal as filter
use Rattle.filters.specs.Filters.{verdict}
use Rattle.filters.specs.Matching.{Question}
use Rattle.filters.specs.Refusals.{refusal_number}
use Rattle.trace.specs.Files.{Trace, trace_file}
use Rattle.trace.specs.Kinds.{pulse}
use Rattle.trace.specs.Told.{Told, number_of}
use Rattle.console.specs.Refusals.{and_then}
use Rattle.probe.specs.Framing.{Framed}

-- the codes of a trace, or the number of a file's first fault
abbrev pub codes_told : Result Trace Told → Result (List ℕ) ℕ
codes_told (Ok t) = Ok (map pulse.code t.samples)
codes_told (Err e) = Err (number_of e)

abbrev pub pulse_codes : List ℕ → Result (List ℕ) ℕ
pulse_codes file = codes_told (trace_file pulse.number pulse.tops file)

-- a question that a filter takes, or the number of its refusal
abbrev pub taken : Question → Result (Unit {0}) filter.Refusal → Result Question ℕ
taken a (Ok _) = Ok a
taken a (Err e) = Err (refusal_number e)

abbrev pub asked : ℕ → ℕ → List ℕ → Result Question ℕ
asked m k codes = taken (record { codes = codes; m = m; k = k }) (verdict (length codes) m k)

-- a question, and the codes of the trace that is searched
pub record Task : Type 0 where
  pub question : Question
  pub trace : List ℕ

abbrev pub tasked : Question → List ℕ → Result Task ℕ
tasked a codes = Ok (record { question = a; trace = codes })

abbrev pub searched_in : List ℕ → Question → Result Task ℕ
searched_in file a = and_then (pulse_codes file) (tasked a)

abbrev pub questioned : Framed → List ℕ → Result Task ℕ
questioned f codes = and_then (asked f.m f.k codes) (searched_in f.trace)

-- the query's file is read first, then the filter is set, and then the trace's file is read
abbrev pub task : Framed → Result Task ℕ
task f = and_then (pulse_codes f.query) (questioned f)
