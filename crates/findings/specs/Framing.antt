-- The input: m, k, and files behind their lengths. Assumes nothing.
use Rattle.std.specs.Prelude.{◌≡◌, ℕ, ◌≤◌, cond, List, [], ◌∷◌, length, Ok, Err, Result, nat_lt}
use Rattle.trace.specs.Spelling.{Begins}
use Rattle.console.specs.Parts.{longest, Front, front_number, front_file, HoldsFile}
use Rattle.console.specs.Refusals.{and_then}
use Rattle.findings.specs.declared.frame.Asked as code

-- what the input asks
pub record Asked : Type 0 where
  pub m : ℕ
  pub k : ℕ
  pub query : List ℕ

-- m, k and the query's file are read, and the traces stand behind them
abbrev pub behind_query : Front ℕ → Front ℕ → Front (List ℕ) → Result (Front Asked) ℕ
behind_query m k query = Ok (record { value = record { m = m.value; k = k.value; query = query.value }; rest = query.rest })

-- m and k are read, and the query's file comes
abbrev pub behind_k : Front ℕ → Front ℕ → Result (Front Asked) ℕ
behind_k m k = and_then (front_file k.rest) (behind_query m k)

-- m is read, and k comes
abbrev pub behind_m : Front ℕ → Result (Front Asked) ℕ
behind_m m = and_then (front_number m.rest) (behind_k m)

-- m, k and the query's file
abbrev pub front_question : List ℕ → Result (Front Asked) ℕ
front_question input = and_then (front_number input) behind_m

-- what an input asks, with the bytes of its traces behind it, or the number of the first refusal
abbrev pub questioned : List ℕ → Result (Front Asked) ℕ
questioned input = cond (nat_lt longest (length input)) (Err 3) (front_question input)

-- a question of the code, as the definitions have it
abbrev pub asked_in : code.Asked → Front Asked
asked_in a = record { value = record { m = a.m; k = a.k; query = a.query.now }; rest = a.rest.now }

-- the bytes are these files, one behind the other, each behind its length, and nothing else
abbrev pub HoldsFiles : List ℕ → List (List ℕ) → Type 0
HoldsFiles bytes [] = bytes ≡ []
HoldsFiles bytes (file ∷ files) = (rest : List ℕ) × HoldsFile bytes file rest × HoldsFiles rest files

-- an input that is not too long is put together of m, k and the query's file, and then comes rest
pub record HoldsQuestion (input : List ℕ) (a : Asked) (rest : List ℕ) : Type 0 where
  pub short : length input ≤ longest
  pub behind_m : List ℕ
  pub behind_k : List ℕ
  pub m : Begins a.m input behind_m
  pub k : Begins a.k behind_m behind_k
  pub query : HoldsFile behind_k a.query rest

-- what was put together of a question and a rest is taken apart into them
abbrev pub TakesApart : List ℕ → Result (Front Asked) ℕ → Type 0
TakesApart input r = (a : Asked) (rest : List ℕ) → HoldsQuestion input a rest → r ≡ Ok (record { value = a; rest = rest })
