-- What a session leaves. Assumes nothing.
use Rattle.std.proofs.Common.{◌≡◌, ℕ, suc, ◌*◌, ◌≤◌, List, [], reverse, length, Ok, Err, vec_items, Result, sym, ap, ◌∙◌, subst}
use Rattle.trace.specs.Kinds.{pulse}
use Rattle.filters.specs.Filters.{Rule, Reach, Pattern}
use Rattle.catalog.specs.Rows.{pairs_in, places_in}
use Rattle.catalog.specs.Catalogs.{standing}
use Rattle.cabinet.specs.Model.{State, Call}
use Rattle.cabinet.specs.Promise as promise
use Rattle.cabinet.specs.Words.{Whole}
use Rattle.console.specs.Parts.{Front}
use Rattle.console.specs.Refusals.{and_then}
use Rattle.console.specs.declared.failure.Failure.{Failure}
use Rattle.console.specs.declared.failure.Failure.TheVariants.{Refused, NoMemory}
use Rattle.findings.specs.declared.desk.Desk.{Desk}
use Rattle.findings.specs.declared.refusal.Refusal.{Refusal}
use Rattle.findings.specs.Desks.{Keeps, Left, ByCalls}
use Rattle.findings.specs.Framing.{Asked, questioned}
use Rattle.findings.specs.Refusals.{refusal_number}
use Rattle.findings.specs.Sessions.{opening, asking, standing_after, answered, all_in, session_of, session, Parts, Holds, calls, PlaysCalls}
use Rattle.findings.proofs.Playing.{plays}

-- a session whose frame was read goes on with the question
pub begun : (input : List ℕ) (a : Front Asked) (r : Result State ℕ) → Ok a ≡ questioned input → answered (standing_after []) (asking a.value) ≡ r → session input ≡ and_then r (all_in (length a.rest) a.rest)
begun input a r is said = ap (λ x. and_then x session_of) (sym is) ∙ ap (λ x. and_then x (all_in (length a.rest) a.rest)) said

module _ {F : Type 0} (rule : Rule) (reach : Reach) (stands : F → Pattern) where
  -- a refusal ends it
  pub stopped : (r : Result (Desk F) (Failure Refusal)) (e : Refusal) (x : Result State ℕ) → (y : Failure Refusal) × (r ≡ Err y) × (y ≡ Refused e) → x ≡ Err (refusal_number e) → Left rule reach stands r x
  stopped r e x exit is = subst (λ z. Left rule reach stands z x) (sym (exit.1 ∙ ap Err exit.2)) is

  -- calls after which the same stands have the same promise
  moved : (h h' : List Call) (d : Desk F) → standing_after h ≡ standing_after h' → Keeps rule reach stands h d → Keeps rule reach stands h' d
  moved h h' d same at =
      record {
        after = record {
          holds = subst (λ s. promise.Holds pulse rule reach stands opening s d.collection (vec_items d.store) (vec_items d.list)) same at.after.holds;
          whole = subst (λ s. Whole pulse s.asked s.traces (vec_items d.list) (pairs_in (standing d.collection.catalog))) same at.after.whole;
          bounded = subst (λ s. pairs_in (standing d.collection.catalog) ≤ suc (reach s.asked.m s.asked.k) * places_in (standing d.collection.catalog)) same at.after.bounded;
        };
        codes = at.codes;
        marks = at.marks;
      }

  by_law : (cs : List Call) (x : Result State ℕ) → PlaysCalls cs x → (r : Result (Desk F) (Failure Refusal)) → Left rule reach stands r x → ByCalls rule reach stands cs r
  by_law cs x law (Ok d) left =
      let same = law.stands (standing_after left.0) left.2 in
      (moved left.0 (reverse cs) d same left.1, sym law.is ∙ left.2 ∙ ap Ok same)
  by_law cs x law (Err (Refused e)) left = sym law.is ∙ left
  by_law cs x law (Err (NoMemory e)) left = tt

  -- an input of parts is played by their calls
  pub by_calls : (input : List ℕ) (r : Result (Desk F) (Failure Refusal)) → Left rule reach stands r (session input) → (p : Parts) → Holds input p → ByCalls rule reach stands (calls p) r
  by_calls input r left p h = by_law (calls p) (session input) (plays input p h) r left
