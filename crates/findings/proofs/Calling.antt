-- Calls of a collection with its memory. Assumes nothing.
use Rattle.std.proofs.Common.{◌≡◌, ℕ, List, [], ◌∷◌, length, Ok, Err, vec_items, Result, sym, refl, ap, ◌∙◌, subst, arith}
use Rattle.trace.specs.declared.pulse.Pulse.{Pulse}
use Rattle.trace.specs.Kinds.{pulse}
use Rattle.trace.specs.Refusals.{answer}
use Rattle.trace.specs.Told.{number_of}
use Rattle.filters.specs.Filters.{Rule, Reach, Pattern}
use Rattle.search.specs.declared.matches.Match.{Match}
use Rattle.catalog.specs.declared.refusal.Refusal.{Refusal}
use Rattle.catalog.specs.Refusals.{told}
use Rattle.cabinet.specs.Calls.{lengths, opening_verdict}
use Rattle.cabinet.specs.Model.{Lengths, State, Call, Outcome, accepted, refused, outcome, kept}
use Rattle.cabinet.specs.Promise.{After, Answers, Kept}
use Rattle.cabinet.specs.Reading.{Lists, Listed}
use Rattle.cabinet.specs.declared.report.Listing.{Listing}
use Rattle.findings.specs.declared.desk.Desk.{Desk}
use Rattle.findings.specs.Desks.{Keeps, answer_of, Called}
use Rattle.findings.specs.Sessions.{opening, brought, standing_after, left_by, answered}

left_answered : {A : Type 0} (number : A → ℕ) (s : State) (x : Outcome) (r : Result A Refusal) → Answers (answer number told r) x → left_by x ≡ answer_of r (kept pulse s x)
left_answered number s (accepted n x) (Ok a) is = refl
left_answered number s (refused e) (Ok a) is = absurd is
left_answered number s (accepted n x) (Err e) is = absurd is
left_answered number s (refused f) (Err e) is = ap (λ t. Err (number_of t)) (sym is)

answered_so : {A : Type 0} (number : A → ℕ) (h : List Call) (c : Call) (r : Result A Refusal) → Answers (answer number told r) (outcome pulse opening (standing_after h) c) → answered (standing_after h) c ≡ answer_of r (standing_after (c ∷ h))
unfolding answered
answered_so number h c r is = left_answered number (standing_after h) (outcome pulse opening (standing_after h) c) r is

module _ {A F : Type 0} (rule : Rule) (reach : Reach) (stands : F → Pattern) (call : Lengths → Call) (number : A → ℕ) (d d' : Desk F) (r : Result A Refusal) where
  -- what a call was brought is the desk's memory, and so is what it left
  pub called : (store store' : List Pulse) (list list' : List Match) (codes marks : List ℕ) →
      store ≡ vec_items d.store → list ≡ vec_items d.list → codes ≡ vec_items d.codes → marks ≡ vec_items d.marks →
      store' ≡ vec_items d'.store → list' ≡ vec_items d'.list → length (vec_items d'.codes) ≡ length codes → length (vec_items d'.marks) ≡ length marks →
      Kept pulse rule reach stands d.collection store list (call (lengths store list codes marks)) (answer number told r) d'.collection store' list' →
      Called rule reach stands d (call brought) r d'
  called store store' list list' codes marks s l c m s' l' c' m' goes h at =
      let before : After pulse rule reach stands opening h d.collection store list =
      subst (λ x. After pulse rule reach stands opening h d.collection x list) (sym s) (subst (λ x. After pulse rule reach stands opening h d.collection (vec_items d.store) x) (sym l) at.after) in
      let store_long : length store ≡ 32768 = ap length s ∙ at.after.holds.store_length in
      let list_long : length list ≡ 2048 = ap length l ∙ at.after.holds.list_length in
      let codes_long : length codes ≡ 4096 = ap length c ∙ at.codes in
      let marks_long : length marks ≡ 1024 = ap length m ∙ at.marks in
      let long : lengths store list codes marks ≡ brought = λ i. record { store = store_long i; list = list_long i; codes = codes_long i; marks = marks_long i } in
      let went = goes opening h before in
      let next : After pulse rule reach stands opening (call brought ∷ h) d'.collection store' list' = subst (λ x. After pulse rule reach stands opening (call x ∷ h) d'.collection store' list') long went.0 in
      let said = subst (λ x. Answers (answer number told r) (outcome pulse opening (standing_after h) (call x))) long went.1 in
      record {
        holds = record {
          after = subst (λ x. After pulse rule reach stands opening (call brought ∷ h) d'.collection x (vec_items d'.list)) s'
              (subst (λ x. After pulse rule reach stands opening (call brought ∷ h) d'.collection store' x) l' next);
          codes = c' ∙ codes_long;
          marks = m' ∙ marks_long;
        };
        answer = answered_so number h (call brought) r said;
      }

module _ {F : Type 0} (rule : Rule) (reach : Reach) (stands : F → Pattern) (d : Desk F) where
  -- an opening is the desk's
  pub opened : (store : List Pulse) (list list' : List Match) → store ≡ vec_items d.store → list' ≡ vec_items d.list →
      length store ≡ 32768 → length list ≡ 2048 → length (vec_items d.codes) ≡ 4096 → length (vec_items d.marks) ≡ 1024 →
      After pulse rule reach stands (record { mark = 1; store = length store; list = length list }) [] d.collection store list' → Keeps rule reach stands [] d
  opened store list list' s l store_long list_long codes_long marks_long at =
      let first : After pulse rule reach stands opening [] d.collection store list' =
      subst (λ x. After pulse rule reach stands (record { mark = 1; store = 32768; list = x }) [] d.collection store list') list_long
      (subst (λ x. After pulse rule reach stands (record { mark = 1; store = x; list = length list }) [] d.collection store list') store_long at) in
      record {
        after = subst (λ x. After pulse rule reach stands opening [] d.collection x (vec_items d.list)) s (subst (λ x. After pulse rule reach stands opening [] d.collection store x) l first);
        codes = codes_long;
        marks = marks_long;
      }

-- this mark and these lengths are never declined
pub never_declined : (store list : ℕ) (e : Refusal) → store ≡ 32768 → list ≡ 2048 → opening_verdict 1 store list ≡ Err e → ⊥
never_declined store list e s l is =
    let taken : opening_verdict 1 store list ≡ opening_verdict 1 32768 2048 = λ i. opening_verdict 1 (s i) (l i) in
    let z : ◌≡◌ {A = ℕ} 0 1 = cc in
    omega arith

-- a listing is of the desk's list
pub listed : {F : Type 0} (rule : Rule) (reach : Reach) (stands : F → Pattern) (h : List Call) (d : Desk F) (list : List Match) (r : Result Listing Refusal) (x : Listing) →
    list ≡ vec_items d.list → r ≡ Ok x → ((store : List Pulse) → After pulse rule reach stands opening h d.collection store list → Lists pulse rule reach (standing_after h) r) →
    Keeps rule reach stands h d → Listed pulse rule reach (standing_after h) x.matches.now x.report
listed rule reach stands h d list r x l is tells at =
    subst (Lists pulse rule reach (standing_after h)) is (tells (vec_items d.store) (subst (After pulse rule reach stands opening h d.collection (vec_items d.store)) (sym l) at.after))
