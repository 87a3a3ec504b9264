-- What reading a file into a slice answers and leaves. Assumes nothing.
use Rattle.std.specs.Prelude.{◌≡◌, ℕ, ◌≤◌, cond, List, [], ◌++◌, map, length, take, drop, Ok, Err, Result, nat_le}
use Rattle.std.specs.List.{AllZip}
use Rattle.trace.specs.declared.refusal.Fault.{Fault}
use Rattle.trace.specs.declared.file.Header.{Header}
use Rattle.trace.specs.declared.file.Parsed.{Parsed}
use Rattle.trace.specs.Told.{Told, only}
use Rattle.trace.specs.Refusals.{told_fault}
use Rattle.trace.specs.Files.{Read, Head, Trace, trace_file, samples_at}

-- what was read as the definitions have it, its value as f sees it
abbrev pub as_read : {A B : Type 0} → (A → B) → Parsed A → Read B
as_read f x = record { value = f x.value; next = x.next }

-- a header of the code as the definition has it
abbrev pub head : Header → Head
head h = record { machine = h.machine; count = h.count }

-- a trace goes into a slice that has room for its samples; a shorter one is refused
abbrev pub fitted : ℕ → Result Trace Told → Result Trace Told
fitted room (Ok t) = cond (nat_le (length t.samples) room) (Ok t) (Err (only 3))
fitted room (Err e) = Err e

-- the machine and the count of a trace
abbrev pub counts : Result Trace Told → Result Head Told
counts (Ok t) = Ok (record { machine = t.machine; count = length t.samples })
counts (Err e) = Err e

-- the codes of a trace stand at the front and the rest as before; a refusal leaves all as before
abbrev pub codes_over : (List ℕ → ℕ) → Result Trace Told → List ℕ → List ℕ
codes_over code (Ok t) old = map code t.samples ++ drop (length t.samples) old
codes_over code (Err e) old = old

-- the samples of a trace stand at the front and the rest as before; a refusal leaves all as before
abbrev pub SamplesOver : {S : Type 0} → (S → List ℕ) → Result Trace Told → List S → List S → Type 0
SamplesOver fields (Ok t) old new = (map fields (take (length t.samples) new) ≡ t.samples) × (drop (length t.samples) new ≡ drop (length t.samples) old)
SamplesOver fields (Err e) old new = new ≡ old

-- what `made` makes of the samples of a trace stands at the front and the rest as before; a refusal leaves all as before
abbrev pub MadeOver : {S T : Type 0} → (S → List ℕ) → (S → T → Type 0) → Result Trace Told → List T → List T → Type 0
MadeOver {S} fields made (Ok t) old new = AllZip (λ xs y. (s : S) × (fields s ≡ xs) × made s y) t.samples (take (length t.samples) new) × (drop (length t.samples) new ≡ drop (length t.samples) old)
MadeOver fields made (Err e) old new = new ≡ old

-- the whole file was read through: this trace, whose samples begin at `first`, or the first fault
pub record Sound (kind : ℕ) (tops file : List ℕ) (h : Header) (first : ℕ) : Type 0 where
  pub samples : List (List ℕ)
  pub is : trace_file kind tops file ≡ Ok (record { machine = h.machine; samples = samples })
  pub count : length samples ≡ h.count
  pub few : (1 ≤ h.count) × (h.count ≤ 4096)
  pub starts : first ≤ length file
  pub body : samples_at tops h.count [] file first ≡ Ok (record { value = samples; next = length file })

abbrev pub Verified : ℕ → List ℕ → List ℕ → Result (Parsed Header) Fault → Type 0
Verified kind tops file (Ok x) = Sound kind tops file x.value x.next
Verified kind tops file (Err f) = trace_file kind tops file ≡ Err (told_fault f)
