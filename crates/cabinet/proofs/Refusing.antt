-- What a refused call owes, once its refusal is known.
use Rattle.std.proofs.Common.{◌≡◌, ℕ, List, ◌∷◌, IsErrAnd, Err, Result, sym, ap, ◌∙◌, subst}
use Rattle.std.proofs.lemmas.Result.{err_from_is_err_and}
use Rattle.trace.specs.Kinds.{Kind}
use Rattle.trace.specs.Refusals.{answer}
use Rattle.filters.specs.Filters.{Rule, Reach, Pattern}
use Rattle.search.specs.declared.matches.Match.{Match}
use Rattle.catalog.specs.declared.refusal.Refusal.{Refusal}
use Rattle.catalog.specs.Refusals.{told}
use Rattle.cabinet.specs.declared.collection.Collection.{Collection}
use Rattle.cabinet.specs.Model.{Opening, Call, refused, outcome, after}
use Rattle.cabinet.specs.Promise.{After, Answers}
use Rattle.cabinet.proofs.Steps.{refused_kept}

-- a refusal that comes out of a call below is the call's own
pub refused_by : {S F A : Type 0} {K : Kind S} {rule : Rule} {reach : Reach} {means : F → Pattern} {o : Opening} {h : List Call} {c : Collection S F} {store : List S} {list : List Match} → After K rule reach means o h c store list →
    (f : A → ℕ) (r : Result A Refusal) (e : Refusal) → r ≡ Err e → (call : Call) → outcome K o (after K o h) call ≡ refused (told e) →
    After K rule reach means o (call ∷ h) c store list × Answers (answer f told r) (outcome K o (after K o h) call)
refused_by {K = K} {o = o} {h = h} w f r e q call is =
    let k = refused_kept w call (told e) is in
    (k.0, subst (λ (z : Result _ Refusal). Answers (answer f told z) (outcome K o (after K o h) call)) (sym q) k.1)

-- what a `?` gives back
pub exit_is : {A E : Type 0} (r : Result A E) (e : E) → IsErrAnd r (λ (y : E). y ≡ e) → r ≡ Err e
exit_is r e h =
    let v = err_from_is_err_and r h in
    v.1 ∙ ap Err v.2

-- and what it is known to be
pub exit_as : {A E : Type 0} (r : Result A E) (e f : E) → IsErrAnd r (λ (y : E). y ≡ e) → e ≡ f → r ≡ Err f
exit_as r e f h q = exit_is r e h ∙ ap Err q
