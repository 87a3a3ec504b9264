-- The parts of an input: numbers, and files behind their lengths. Assumes nothing.
use Rattle.std.specs.Prelude.{◌≡◌, ℕ, cond, List, ◌++◌, length, take, drop, Ok, Err, Result, nat_le}
use Rattle.trace.specs.Numbers as trace
use Rattle.trace.specs.Spelling.{Begins}
use Rattle.console.specs.declared.refusal.Refusal.{Refusal}
use Rattle.console.specs.Refusals.{refusal_number, and_then}

-- the most bytes that a program takes
abbrev pub longest : ℕ
longest = 32768

-- what stands at the front of some bytes, and the bytes behind it
pub record Front (A : Type 0) : Type 0 where
  pub value : A
  pub rest : List ℕ

-- what a number leaves behind it, or why there is none
abbrev pub front_of : List ℕ → trace.Number → Result (Front ℕ) ℕ
front_of bytes (trace.found v n) = Ok (record { value = v; rest = drop n bytes })
front_of bytes (trace.none e) = Err e

-- a number as in a trace file
abbrev pub front_number : List ℕ → Result (Front ℕ) ℕ
front_number bytes = front_of bytes (trace.number 3 bytes)

-- a file of this many bytes; fewer are refused
abbrev pub sized : Front ℕ → Result (Front (List ℕ)) ℕ
sized size = cond (nat_le size.value (length size.rest)) (Ok (record { value = take size.value size.rest; rest = drop size.value size.rest })) (Err 4)

-- a file behind its length
abbrev pub front_file : List ℕ → Result (Front (List ℕ)) ℕ
front_file bytes = and_then (front_number bytes) sized

-- what was taken, as f reads it, and the bytes that are left; or the refusal's number
abbrev pub taken : {A B : Type 0} → (A → B) → Result A Refusal → List ℕ → Result (Front B) ℕ
taken f (Ok a) rest = Ok (record { value = f a; rest = rest })
taken f (Err e) rest = Err (refusal_number e)

-- the bytes begin with the length of a file, however padded, and the file, and then comes rest
pub record HoldsFile (bytes file rest : List ℕ) : Type 0 where
  pub behind : List ℕ
  pub size : Begins (length file) bytes behind
  pub is : behind ≡ file ++ rest
