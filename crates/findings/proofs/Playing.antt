-- Sessions by their calls. Assumes nothing.
use Rattle.std.proofs.Common.{◌≡◌, ℕ, zero, suc, ◌<◌, ◌≤◌, List, [], ◌∷◌, map, length, Ok, Err, Result, sym, refl, ap, ◌∙◌, subst, arith}
use mathlib.Core.List.{reverse_aux}
use Rattle.std.proofs.lemmas.Bool.{cond-true, cond-false, lt-ltb, le-ltb}
use Rattle.trace.specs.Kinds.{pulse}
use Rattle.cabinet.specs.Model.{State, Call, Outcome, accepted, refused, outcome, kept}
use Rattle.console.proofs.Parting.{file_there, file_shorter}
use Rattle.console.specs.Parts.{Front, front_file}
use Rattle.console.specs.Refusals.{and_then}
use Rattle.findings.specs.Framing.{HoldsFiles}
use Rattle.findings.specs.Sessions.{opening, bringing, asking, standing_after, left_by, answered, one_in, all_in, session_of, session, Parts, Holds, calls, played, Plays}
use Rattle.findings.proofs.Parting.{question_there}

and_then_same : {A B : Type 0} (r : Result A ℕ) (f g : A → Result B ℕ) → ((a : A) → f a ≡ g a) → and_then r f ≡ and_then r g
and_then_same (Ok a) f g same = same a
and_then_same (Err e) f g same = refl

-- at the end of the bytes nothing more comes in
pub all_done : (turns : ℕ) (bytes : List ℕ) (s : State) → length bytes ≤ 0 → all_in turns bytes s ≡ Ok s
all_done zero bytes s end = refl
all_done (suc turns) bytes s end = cond-false _ _ _ (le-ltb 0 (length bytes) end)

-- before it there is a file, or a refusal
pub all_more : (turns : ℕ) (bytes : List ℕ) (s : State) (r : Result (Front (List ℕ)) ℕ) → 0 < length bytes → r ≡ front_file bytes → all_in (suc turns) bytes s ≡ and_then r (one_in (all_in turns) s)
all_more turns bytes s r more is = cond-true _ _ _ (lt-ltb 0 (length bytes) more) ∙ ap (λ x. and_then x (one_in (all_in turns) s)) (sym is)

files_played : (files : List (List ℕ)) (turns : ℕ) (bytes : List ℕ) (s : State) → length bytes ≤ turns → HoldsFiles bytes files → all_in turns bytes s ≡ played (map bringing files) s
files_played [] turns bytes s enough is = all_done turns bytes s (omega (arith, ap length is))
files_played (file ∷ files) zero bytes s enough held = let z : ⊥ = omega (arith, file_shorter bytes file held.0 held.1) in absurd z
files_played (file ∷ files) (suc turns) bytes s enough held =
    let shorter = file_shorter bytes file held.0 held.1 in
    let left : length held.0 ≤ turns = omega arith in
    all_more turns bytes s _ (omega arith) (sym (file_there bytes file held.0 held.1))
    ∙ and_then_same (answered s (bringing file)) (all_in turns held.0) (played (map bringing files)) (λ s'. files_played files turns held.0 s' left held.2)

session_played : (input : List ℕ) (p : Parts) → Holds input p → session input ≡ played (calls p) (standing_after [])
session_played input p h =
    ap (λ r. and_then r session_of) (question_there input p.asked h.rest h.question)
    ∙ and_then_same (answered (standing_after []) (asking p.asked)) (all_in (length h.rest) h.rest) (played (map bringing p.traces))
    (λ s. files_played p.traces (length h.rest) h.rest s (omega arith) h.traces)

left_kept : (s : State) (x : Outcome) (s' : State) → left_by x ≡ Ok s' → s' ≡ kept pulse s x
left_kept s (accepted n x) s' is = let e : x ≡ s' = cc in sym e
left_kept s (refused e) s' is = let z : ◌≡◌ {A = ℕ} 0 1 = cc in absurd (omega arith)

answered_kept : (h : List Call) (c : Call) (s : State) → answered (standing_after h) c ≡ Ok s → s ≡ standing_after (c ∷ h)
unfolding answered
answered_kept h c s is = left_kept (standing_after h) (outcome pulse opening (standing_after h) c) s is

played_step : (cs h : List Call) (c : Call) (s : State) (r : Result State ℕ) → answered (standing_after h) c ≡ r → and_then r (played cs) ≡ Ok s → ((h' : List Call) → played cs (standing_after h') ≡ Ok s → s ≡ standing_after (reverse_aux cs h')) → s ≡ standing_after (reverse_aux cs (c ∷ h))
played_step cs h c s (Ok x) is goes rest = rest (c ∷ h) (subst (λ z. played cs z ≡ Ok s) (answered_kept h c x is) goes)
played_step cs h c s (Err e) is goes rest = let z : ◌≡◌ {A = ℕ} 0 1 = cc in absurd (omega arith)

played_stands : (cs h : List Call) (s : State) → played cs (standing_after h) ≡ Ok s → s ≡ standing_after (reverse_aux cs h)
played_stands [] h s is = let e : standing_after h ≡ s = cc in sym e
played_stands (c ∷ cs) h s is = played_step cs h c s (answered (standing_after h) c) refl is (λ h'. played_stands cs h' s)

-- the law of sessions
pub plays : (input : List ℕ) → Plays input (session input)
plays input p h = record { is = session_played input p h; stands = λ s is. played_stands (calls p) [] s (sym (session_played input p h) ∙ is) }
