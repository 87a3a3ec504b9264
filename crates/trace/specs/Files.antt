-- The trace file: the kind's number, the machine, the count of samples, then each sample's fields. Assumes nothing.
use Rattle.std.specs.Prelude.{ℕ, zero, suc, ◌+◌, cond, ◌&&◌, List, [], ◌∷◌, ◌++◌, length, drop, Ok, Err, Result, ◌==◌, nat_le}
use Rattle.trace.specs.Told.{Told, fault}
use Rattle.trace.specs.Kinds.{kinds}
use Rattle.trace.specs.Numbers.{Number, found, none, number}

-- what was read, and the place of the byte behind it
pub record Read (A : Type 0) : Type 0 where
  pub value : A
  pub next : ℕ

-- the first fault stands
abbrev pub and_then : {A B : Type 0} → Result A Told → (A → Result B Told) → Result B Told
and_then (Ok a) f = f a
and_then (Err e) f = Err e

-- what stands at a place as a number of the field f, from low to high
abbrev pub ranged : ℕ → ℕ → ℕ → ℕ → Number → Result (Read ℕ) Told
ranged low high f at (found v n) = cond (nat_le low v && nat_le v high) (Ok (record { value = v; next = at + n })) (Err (fault 6 at f))
ranged low high f at (none e) = Err (fault e at f)

abbrev pub number_at : ℕ → ℕ → ℕ → List ℕ → ℕ → Result (Read ℕ) Told
number_at low high f file at = ranged low high f at (number 3 (drop at file))

-- a sample's fields, after those that were read: none is above its largest value
abbrev pub fields_at : List ℕ → List ℕ → List ℕ → ℕ → Result (Read (List ℕ)) Told
fields_at [] so file at = Ok (record { value = so; next = at })
fields_at (top ∷ tops) so file at = and_then (number_at 0 top 3 file at) (λ x. fields_at tops (so ++ (x.value ∷ [])) file x.next)

-- n samples, after those that were read
abbrev pub samples_at : List ℕ → ℕ → List (List ℕ) → List ℕ → ℕ → Result (Read (List (List ℕ))) Told
samples_at tops zero so file at = Ok (record { value = so; next = at })
samples_at tops (suc n) so file at = and_then (fields_at tops [] file at) (λ x. samples_at tops n (so ++ (x.value ∷ [])) file x.next)

-- what a file says before its samples
pub record Head : Type 0 where
  pub machine : ℕ
  pub count : ℕ

abbrev pub headed : Read ℕ → Read ℕ → Result (Read Head) Told
headed machine count = Ok (record { value = record { machine = machine.value; count = count.value }; next = count.next })

abbrev pub counted : List ℕ → Read ℕ → Result (Read Head) Told
counted file machine = and_then (number_at 1 4096 2 file machine.next) (headed machine)

-- a file of another kind is refused before anything else is read
abbrev pub of_kind : ℕ → List ℕ → Read ℕ → Result (Read Head) Told
of_kind kind file k = cond (k.value == kind) (and_then (number_at 1 65535 1 file k.next) (counted file)) (Err (fault 7 0 0))

abbrev pub head_of : ℕ → List ℕ → Result (Read Head) Told
head_of kind file = and_then (number_at 1 kinds 0 file 0) (of_kind kind file)

-- a trace: its machine, and each sample by its fields
pub record Trace : Type 0 where
  pub machine : ℕ
  pub samples : List (List ℕ)

-- no byte is left over behind the samples
abbrev pub ended : List ℕ → ℕ → Read (List (List ℕ)) → Result Trace Told
ended file machine xs = cond (nat_le (length file) xs.next) (Ok (record { machine = machine; samples = xs.value })) (Err (fault 8 xs.next 4))

abbrev pub bodied : List ℕ → List ℕ → Read Head → Result Trace Told
bodied tops file h = and_then (samples_at tops h.value.count [] file h.next) (ended file h.value.machine)

-- the trace in a file of the kind with this number and these largest values, or the file's first fault
abbrev pub trace_file : ℕ → List ℕ → List ℕ → Result Trace Told
trace_file kind tops file = and_then (head_of kind file) (bodied tops file)
