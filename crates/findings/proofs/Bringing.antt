-- Traces come in, one after the other. Assumes nothing.
use Rattle.std.proofs.Common.{◌≡◌, ℕ, zero, suc, ◌<◌, ◌≤◌, Bool, true, false, eqb, List, ◌∷◌, length, Ok, Err, Result, sym, refl, ap, ◌∙◌, subst, arith}
use Rattle.std.proofs.lemmas.Bool.{eqb-true, true≢false}
use Rattle.trace.specs.Told.{number_of}
use Rattle.filters.specs.Filters.{Rule, Reach, Pattern}
use Rattle.catalog.specs.declared.refusal.Refusal as call
use Rattle.catalog.specs.Refusals.{told}
use Rattle.cabinet.specs.Model.{State, Call}
use Rattle.console.specs.Parts.{Front, front_file}
use Rattle.console.specs.Refusals.{and_then}
use Rattle.findings.specs.declared.desk.Desk.{Desk}
use Rattle.findings.specs.declared.refusal.Refusal.{Refusal}
use Rattle.findings.specs.Desks.{Keeps, Called, Reached}
use Rattle.findings.specs.Refusals.{refusal_number}
use Rattle.findings.specs.Sessions.{bringing, standing_after, one_in, all_in}
use Rattle.findings.proofs.Playing.{all_done, all_more}

-- the test for the end of the bytes
pub done : (n : ℕ) (b : Bool) → b ≡ eqb n 0 → b ≡ true → n ≤ 0
done n b is end = let e : n ≡ 0 = eqb-true n 0 (sym is ∙ end) in omega arith

pub more : (n : ℕ) (b : Bool) → b ≡ eqb n 0 → b ≡ false → 0 < n
more zero b is on = let z = sym is ∙ on in absurd (true≢false z)
more (suc n) b is on = omega arith

-- what is left to come in gives what all would have given: the calls so far, and turns for the bytes that are left
pub record Going {F : Type 0} (rule : Rule) (reach : Reach) (stands : F → Pattern) (h : List Call) (bytes : List ℕ) (d : Desk F) (rest : List ℕ) : Type 0 where
  pub calls : List Call
  pub turns : ℕ
  pub holds : Keeps rule reach stands calls d
  pub enough : length rest ≤ turns
  pub same : all_in (length bytes) bytes (standing_after h) ≡ all_in turns rest (standing_after calls)

-- before the end a file is due, and a turn is left for it
turn : (turns : ℕ) (rest : List ℕ) (s : State) (r : Result (Front (List ℕ)) ℕ) → length rest ≤ turns → 0 < length rest → r ≡ front_file rest →
    (left : ℕ) × (turns ≡ suc left) × (all_in turns rest s ≡ and_then r (one_in (all_in left) s))
turn zero rest s r enough more is = let z : ⊥ = omega arith in absurd z
turn (suc left) rest s r enough more is = (left, refl, all_more left rest s r more is)

module _ {F : Type 0} (rule : Rule) (reach : Reach) (stands : F → Pattern) (h : List Call) (bytes : List ℕ) where
  pub going_first : (d : Desk F) → Keeps rule reach stands h d → Going rule reach stands h bytes d bytes
  going_first d at = record { calls = h; turns = length bytes; holds = at; enough = omega arith; same = refl }

  module _ (d : Desk F) (rest : List ℕ) (going : Going rule reach stands h bytes d rest) where
    pub going_last : length rest ≤ 0 → (h' : List Call) × Keeps rule reach stands h' d × (all_in (length bytes) bytes (standing_after h) ≡ Ok (standing_after h'))
    going_last end = (going.calls, going.holds, going.same ∙ all_done going.turns rest (standing_after going.calls) end)

    -- a frame is refused
    pub frame_refused : (e : ℕ) → 0 < length rest → Err e ≡ front_file rest → all_in (length bytes) bytes (standing_after h) ≡ Err e
    frame_refused e more is = going.same ∙ (turn going.turns rest (standing_after going.calls) (Err e) going.enough more is).2

    module _ (d' : Desk F) (file : Front (List ℕ)) (more : 0 < length rest) (is : Ok file ≡ front_file rest) where
      at_file : (left : ℕ) × (going.turns ≡ suc left) × (all_in going.turns rest (standing_after going.calls) ≡ and_then (Ok file) (one_in (all_in left) (standing_after going.calls)))
      at_file = turn going.turns rest (standing_after going.calls) (Ok file) going.enough more is

      -- a trace is refused
      pub trace_refused : (A : Type 0) (e : call.Refusal) → Called {A = A} rule reach stands d (bringing file.value) (Err e) d' → all_in (length bytes) bytes (standing_after h) ≡ Err (number_of (told e))
      trace_refused A e goes =
          going.same ∙ at_file.2 ∙ ap (λ x. and_then x (all_in at_file.0 file.rest)) (goes going.calls going.holds).answer

      -- a trace came in
      pub going_on : {A : Type 0} (a : A) → Called rule reach stands d (bringing file.value) (Ok a) d' → length file.rest < length rest → Going rule reach stands h bytes d' file.rest
      going_on a goes shorter =
          let went = goes going.calls going.holds in
          record {
            calls = bringing file.value ∷ going.calls;
            turns = at_file.0;
            holds = went.holds;
            enough = omega (arith, at_file.1, going.enough);
            same = going.same ∙ at_file.2 ∙ ap (λ x. and_then x (all_in at_file.0 file.rest)) went.answer;
          }

-- a refusal ends it
pub stopped : {A F : Type 0} (rule : Rule) (reach : Reach) (stands : F → Pattern) (r : Result A Refusal) (e : Refusal) (d : Desk F) (x : Result State ℕ) →
    (y : Refusal) × (r ≡ Err y) × (y ≡ e) → x ≡ Err (refusal_number e) → Reached rule reach stands r d x
stopped rule reach stands r e d x exit is = subst (λ z. Reached rule reach stands z d x) (sym (exit.1 ∙ ap Err exit.2)) is
