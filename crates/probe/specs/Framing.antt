-- The input: m, k, and two files behind their lengths. Assumes nothing.
use Rattle.std.specs.Prelude.{◌≡◌, ℕ, cond, List, [], length, Ok, Err, Result, nat_lt}
use Rattle.trace.specs.Spelling.{Begins}
use Rattle.console.specs.Parts.{Front, front_number, front_file, HoldsFile}
use Rattle.console.specs.Refusals.{and_then}
use Rattle.probe.specs.declared.frame.Frames.{Frames}

-- what the input asks
pub record Framed : Type 0 where
  pub m : ℕ
  pub k : ℕ
  pub query : List ℕ
  pub trace : List ℕ

-- nothing is left over behind the trace's file
abbrev pub ended : Front ℕ → Front ℕ → Front (List ℕ) → Front (List ℕ) → Result Framed ℕ
ended m k query trace = cond (nat_lt 0 (length (trace).rest)) (Err 8) (Ok (record { m = m.value; k = k.value; query = query.value; trace = (trace).value }))

abbrev pub after_query : Front ℕ → Front ℕ → Front (List ℕ) → Result Framed ℕ
after_query m k query = and_then (front_file query.rest) (ended m k query)

abbrev pub after_k : Front ℕ → Front ℕ → Result Framed ℕ
after_k m k = and_then (front_file k.rest) (after_query m k)

abbrev pub after_m : Front ℕ → Result Framed ℕ
after_m m = and_then (front_number m.rest) (after_k m)

-- the parts of an input, or the number of the first refusal
abbrev pub framing : List ℕ → Result Framed ℕ
framing input = and_then (front_number input) after_m

-- what the code holds, as the definitions have it
abbrev pub framed : Frames → Framed
framed f = record { m = f.m; k = f.k; query = f.query.now; trace = f.trace.now }

-- the input is put together of these parts, one behind the other, and nothing else
pub record Holds (input : List ℕ) (f : Framed) : Type 0 where
  pub behind_m : List ℕ
  pub behind_k : List ℕ
  pub behind_query : List ℕ
  pub m : Begins f.m input behind_m
  pub k : Begins f.k behind_m behind_k
  pub query : HoldsFile behind_k f.query behind_query
  pub trace : HoldsFile behind_query f.trace []

-- what was put together of some parts is taken apart into them
abbrev pub TakesApart : List ℕ → Result Framed ℕ → Type 0
TakesApart input r = (f : Framed) → Holds input f → r ≡ Ok f
