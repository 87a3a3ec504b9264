-- What an input has the collection do, and what stands then. Assumes nothing.
use Rattle.std.specs.Prelude.{◌≡◌, ℕ, zero, suc, cond, List, [], ◌∷◌, map, reverse, length, Ok, Err, Result, nat_lt}
use Rattle.trace.specs.Kinds.{pulse}
use Rattle.trace.specs.Told.{number_of}
use Rattle.cabinet.specs.Model.{Opening, Lengths, State, Call, accession, ask, Outcome, accepted, refused, outcome, after}
use Rattle.console.specs.Parts.{Front, front_file}
use Rattle.console.specs.Refusals.{and_then}
use Rattle.findings.specs.Framing.{Asked, questioned, HoldsQuestion, HoldsFiles}

-- the program's collection: its mark, and the lengths of its store and its list
abbrev pub opening : Opening
opening = record { mark = 1; store = 32768; list = 2048 }

-- the lengths of what is brought to each call
abbrev pub brought : Lengths
brought = record { store = 32768; list = 2048; codes = 4096; marks = 1024 }

-- the call that puts the question
abbrev pub asking : Asked → Call
asking a = ask brought a.query a.m a.k

-- the call that brings a trace
abbrev pub bringing : List ℕ → Call
bringing file = accession brought file

-- what stands after the calls of h, the newest first
abbrev pub standing_after : List Call → State
standing_after h = after pulse opening h

-- what an outcome leaves, or the number of the refusal
abbrev pub left_by : Outcome → Result State ℕ
left_by (accepted n s) = Ok s
left_by (refused e) = Err (number_of e)

-- what stands after one more call, or the number of its refusal
unfoldable pub answered : State → Call → Result State ℕ
answered s c = left_by (outcome pulse opening s c)

-- the trace at the front comes in, and the bytes behind it go on
abbrev pub one_in : (List ℕ → State → Result State ℕ) → State → Front (List ℕ) → Result State ℕ
one_in go s file = and_then (answered s (bringing file.value)) (go file.rest)

-- traces come in to the end of the bytes; each takes a byte or more, so that as many turns as bytes are enough
abbrev pub all_in : ℕ → List ℕ → State → Result State ℕ
all_in zero bytes s = Ok s
all_in (suc turns) bytes s = cond (nat_lt 0 (length bytes)) (and_then (front_file bytes) (one_in (all_in turns) s)) (Ok s)

-- the question is put to an empty collection, and then the traces come in
abbrev pub session_of : Front Asked → Result State ℕ
session_of a = and_then (answered (standing_after []) (asking a.value)) (all_in (length a.rest) a.rest)

-- what stands at the end, or the number of the first refusal
abbrev pub session : List ℕ → Result State ℕ
session input = and_then (questioned input) session_of

-- what an input is put together of
pub record Parts : Type 0 where
  pub asked : Asked
  pub traces : List (List ℕ)

-- an input that is not too long holds these parts, one behind the other, however its numbers are padded
pub record Holds (input : List ℕ) (p : Parts) : Type 0 where
  pub rest : List ℕ
  pub question : HoldsQuestion input p.asked rest
  pub traces : HoldsFiles rest p.traces

-- the calls that the parts are for, in order
abbrev pub calls : Parts → List Call
calls p = asking p.asked ∷ map bringing p.traces

-- calls, one after the other, up to the first that is refused
abbrev pub played : List Call → State → Result State ℕ
played [] s = Ok s
played (c ∷ cs) s = and_then (answered s c) (played cs)

-- the session is that of the calls, and where none is refused, what stands is what stands after all of them
pub record PlaysCalls (cs : List Call) (r : Result State ℕ) : Type 0 where
  pub is : r ≡ played cs (standing_after [])
  pub stands : (s : State) → r ≡ Ok s → s ≡ standing_after (reverse cs)

-- an input that was put together of parts is a session of their calls
abbrev pub Plays : List ℕ → Result State ℕ → Type 0
Plays input r = (p : Parts) → Holds input p → PlaysCalls (calls p) r
