-- What a kind of sample means. Assumes nothing.
use Rattle.std.specs.Prelude.{ℕ, ◌+◌, ◌*◌, ◌≤◌, Bool, true, false, cond, ◌&&◌, List, [], ◌∷◌, length, take, Ok, Err, Result, nat_eq, nat_le, slice_index}
use Rattle.trace.specs.declared.pulse.Pulse.{Pulse}
use Rattle.trace.specs.declared.stroke.Stroke.{Stroke}
use Rattle.trace.specs.Told.{Told, only}

-- kinds are numbered from 1 to this
abbrev pub kinds : ℕ
kinds = 2

-- a kind: its number, its count of codes, the largest value of each field, a sample's fields, the code of fields,
-- and whether two codes agree
pub record Kind (S : Type 0) : Type 0 where
  pub number : ℕ
  pub codes : ℕ
  pub tops : List ℕ
  pub fields : S → List ℕ
  pub code : List ℕ → ℕ
  pub agree : ℕ → ℕ → Bool

-- there is a number for each field, and none is above the field's largest value
abbrev pub Within : List ℕ → List ℕ → Type 0
Within [] [] = Unit {0}
Within [] (t ∷ ts) = ⊥
Within (x ∷ xs) [] = ⊥
Within (x ∷ xs) (t ∷ ts) = (x ≤ t) × Within xs ts

-- each field has a number of its range; numbers past the fields are ignored
abbrev pub in_range : List ℕ → List ℕ → Bool
in_range [] xs = true
in_range (t ∷ ts) [] = false
in_range (t ∷ ts) (x ∷ xs) = nat_le x t && in_range ts xs

-- the fields of the sample that is made from these numbers, or the refusal
abbrev pub made : List ℕ → List ℕ → Result (List ℕ) Told
made tops xs = cond (in_range tops xs) (Ok (take (length tops) xs)) (Err (only 6))

-- pulses: one field, the class
abbrev pub pulse : Kind Pulse
pulse = record {
  number = 1;
  codes = 20;
  tops = 19 ∷ [];
  fields = λ p. p.class ∷ [];
  code = λ xs. slice_index xs 0;
  agree = nat_eq;
}

-- strokes: drive, recovery, slack
abbrev pub stroke : Kind Stroke
stroke = record {
  number = 2;
  codes = 120;
  tops = 9 ∷ 5 ∷ 1 ∷ [];
  fields = λ s. s.drive ∷ s.recovery ∷ s.slack ∷ [];
  code = λ xs. slice_index xs 0 * 12 + slice_index xs 1 * 2 + slice_index xs 2;
  agree = nat_eq;
}
