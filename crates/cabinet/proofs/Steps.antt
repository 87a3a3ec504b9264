-- A call goes on with what is promised: where it is refused nothing has changed, and where it is accepted what then stands
-- is held.
use Rattle.std.proofs.Common.{◌≡◌, ℕ, suc, ◌*◌, ◌≤◌, true, List, ◌∷◌, Ok, Err, sym, refl, subst}
use Rattle.trace.specs.Told.{Told}
use Rattle.trace.specs.Kinds.{Kind}
use Rattle.filters.specs.Filters.{Rule, Reach, Pattern, Inside, Necessary}
use Rattle.search.specs.declared.matches.Match.{Match}
use Rattle.catalog.specs.Rows.{pairs_in, places_in}
use Rattle.catalog.specs.Catalogs.{standing}
use Rattle.cabinet.specs.declared.collection.Collection.{Collection}
use Rattle.cabinet.specs.Model.{Opening, State, Call, Outcome, accepted, refused, outcome, kept, after}
use Rattle.cabinet.specs.Words.{Whole}
use Rattle.cabinet.specs.Promise.{Holds, After, Answers}
use Rattle.cabinet.proofs.Promised.{promised}

-- a refused call that leaves collection, store and list
pub refused_kept : {S F : Type 0} {K : Kind S} {rule : Rule} {reach : Reach} {means : F → Pattern} {o : Opening} {h : List Call} {c : Collection S F} {store : List S} {list : List Match} → After K rule reach means o h c store list →
    (call : Call) (e : Told) → outcome K o (after K o h) call ≡ refused e → After K rule reach means o (call ∷ h) c store list × Answers (Err e) (outcome K o (after K o h) call)
refused_kept {K = K} {rule = rule} {reach = reach} {means = means} {o = o} {h = h} {c = c} {store = store} {list = list} w call e q =
    let s : State = after K o h in (
      record {
        holds = subst (λ (r : Outcome). Holds K rule reach means o (kept K s r) c store list) (sym q) w.holds;
        whole = subst (λ (r : Outcome). Whole K (kept K s r).asked (kept K s r).traces list (pairs_in (standing c.catalog))) (sym q) w.whole;
        bounded = subst (λ (r : Outcome). pairs_in (standing c.catalog) ≤ suc (reach (kept K s r).asked.m (kept K s r).asked.k) * places_in (standing c.catalog)) (sym q) w.bounded;
      },
      subst (λ (r : Outcome). Answers (Err e) r) (sym q) refl,
    )

-- an accepted call that leaves what it makes
pub accepted_kept : {S F : Type 0} {K : Kind S} {rule : Rule} {reach : Reach} {means : F → Pattern} {o : Opening} {s : State} {c : Collection S F} {store : List S} {list : List Match} → ((a b : ℕ) → K.agree a b ≡ true → a ≡ b) → Inside rule → Necessary rule reach →
    (h : List Call) (call : Call) (n : ℕ) → Holds K rule reach means o s c store list → outcome K o (after K o h) call ≡ accepted n s →
    After K rule reach means o (call ∷ h) c store list × Answers (Ok n) (outcome K o (after K o h) call)
accepted_kept {K = K} {rule = rule} {reach = reach} {means = means} {o = o} {c = c} {store = store} {list = list} equal inside nec h call n w q = (
  promised equal inside nec (call ∷ h) (subst (λ (r : Outcome). Holds K rule reach means o (kept K (after K o h) r) c store list) (sym q) w),
  subst (λ (r : Outcome). Answers (Ok n) r) (sym q) refl,
)
