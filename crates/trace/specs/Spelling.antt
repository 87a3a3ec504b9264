-- Trace files in the subject's own words: which file holds which trace, and what its first fault is. Assumes nothing.
use Rattle.std.specs.Prelude.{◌≡◌, ℕ, ◌<◌, ◌≤◌, ◌⊎◌, List, [], ◌∷◌, ◌++◌, length, take, drop, Ok, Err, Result, ◌≢◌}
use Rattle.trace.specs.Told.{Told, fault}
use Rattle.trace.specs.Kinds.{kinds, Within}
use Rattle.trace.specs.Numbers.{spelled, value_of, Groups}
use Rattle.trace.specs.Files.{Trace, trace_file}

-- the bytes begin with the number v, in one to three groups, however padded, and then comes rest
pub record Begins (v : ℕ) (bytes rest : List ℕ) : Type 0 where
  pub groups : List ℕ
  pub sized : Groups groups
  pub value : value_of groups ≡ v
  pub is : bytes ≡ spelled groups ++ rest

-- the bytes begin with these numbers, one behind the other, and then comes rest
abbrev pub Spells : List ℕ → List ℕ → List ℕ → Type 0
Spells [] bytes rest = bytes ≡ rest
Spells (v ∷ vs) bytes rest = (behind : List ℕ) × Begins v bytes behind × Spells vs behind rest

-- the fields of samples, one sample behind the other
abbrev pub flat : List (List ℕ) → List ℕ
flat [] = []
flat (x ∷ xs) = x ++ flat xs

abbrev pub AllWithin : List ℕ → List (List ℕ) → Type 0
AllWithin tops [] = Unit {0}
AllWithin tops (x ∷ xs) = Within x tops × AllWithin tops xs

-- a number of a machine, and a count of samples
abbrev pub Machine : ℕ → Type 0
Machine n = (1 ≤ n) × (n ≤ 65535)

abbrev pub Count : ℕ → Type 0
Count n = (1 ≤ n) × (n ≤ 4096)

-- a trace that a file of a kind with these largest values can hold
pub record Fair (tops : List ℕ) (t : Trace) : Type 0 where
  pub machine : Machine t.machine
  pub count : Count (length t.samples)
  pub fields : AllWithin tops t.samples

-- the numbers of a trace, in the order in which a file has them
abbrev pub numbers : ℕ → Trace → List ℕ
numbers kind t = kind ∷ t.machine ∷ length t.samples ∷ flat t.samples

-- the file spells the numbers of the trace, and nothing else
pub record Holds (kind : ℕ) (tops file : List ℕ) (t : Trace) : Type 0 where
  pub fair : Fair tops t
  pub spells : Spells (numbers kind t) file []

-- behind these numbers a number of this field is due, from low to high
pub data Due (kind : ℕ) (tops : List ℕ) : List ℕ → ℕ → ℕ → ℕ → Type 0 where
  due_kind : Due kind tops [] 0 1 kinds
  due_machine : Due kind tops (kind ∷ []) 1 1 65535
  due_count : (machine : ℕ) → Machine machine → Due kind tops (kind ∷ machine ∷ []) 2 1 4096
  -- behind whole samples, and the first fields of the next one
  due_field : (machine count : ℕ) (samples : List (List ℕ)) (part before : List ℕ) (top : ℕ) (later : List ℕ) →
      Machine machine → Count count → AllWithin tops samples → length samples < count → Within part before → tops ≡ before ++ (top ∷ later) →
      Due kind tops (kind ∷ machine ∷ count ∷ (flat samples ++ part)) 3 0 top

-- each byte says that another follows
abbrev pub Follow : List ℕ → Type 0
Follow [] = Unit {0}
Follow (b ∷ bs) = (128 ≤ b) × Follow bs

-- what is wrong with a number that is due, from low to high, where these bytes stand: the refusal's number
pub data Wrong (low high : ℕ) (bytes : List ℕ) : ℕ → Type 0 where
  cut : length bytes < 3 → Follow bytes → Wrong low high bytes 4
  long : 3 ≤ length bytes → Follow (take 3 bytes) → Wrong low high bytes 5
  range : (v : ℕ) (rest : List ℕ) → Begins v bytes rest → (v < low) ⊎ (high < v) → Wrong low high bytes 6

-- all before the fault is as it should be, and the fault lies there
pub data FirstFault (kind : ℕ) (tops file : List ℕ) : Told → Type 0 where
  -- a number that is due is not there, or out of range
  wrong : (before : List ℕ) (field low high place cause : ℕ) → Due kind tops before field low high → place ≤ length file → Spells before file (drop place file) →
      Wrong low high (drop place file) cause → FirstFault kind tops file (fault cause place field)
  -- the file is of another kind
  other : (v : ℕ) (rest : List ℕ) → Begins v file rest → 1 ≤ v → v ≤ kinds → (v ≢ kind) → FirstFault kind tops file (fault 7 0 0)
  -- a whole trace stands there, and bytes are left over
  left : (t : Trace) (place : ℕ) → Fair tops t → place < length file → Spells (numbers kind t) file (drop place file) → FirstFault kind tops file (fault 8 place 4)

abbrev pub Meant : ℕ → List ℕ → List ℕ → Result Trace Told → Type 0
Meant kind tops file (Ok t) = Holds kind tops file t
Meant kind tops file (Err e) = FirstFault kind tops file e

-- a file is either read, as the one trace that it holds, or refused, with its one first fault; and files that spell
-- the same numbers, padded differently, are read as the same trace
pub record ReadOrRefused (kind : ℕ) (tops file : List ℕ) : Type 0 where
  pub means : Meant kind tops file (trace_file kind tops file)
  pub held : (t : Trace) → Holds kind tops file t → trace_file kind tops file ≡ Ok t
  pub faulty : (e : Told) → FirstFault kind tops file e → trace_file kind tops file ≡ Err e
  pub padded : (file' ns : List ℕ) (t : Trace) → Spells ns file [] → Spells ns file' [] → trace_file kind tops file ≡ Ok t → trace_file kind tops file' ≡ Ok t
