-- A row is sought by its number, and what is found stands.
use Rattle.std.proofs.Common.{◌≡◌, ℕ, ◌<◌, ◌≤◌, true, false, ltb, List, length, get_or, Some, None, Option, sym, ap, ◌∙◌, arith}
use Rattle.std.proofs.lemmas.Bool.{cond_both, ltb-true, ltb-false, lt-ltb, le-ltb}
use Rattle.trace.specs.Kinds.{Kind}
use Rattle.filters.specs.Filters.{Rule, Reach, Pattern}
use Rattle.search.specs.declared.matches.Match.{Match}
use Rattle.catalog.specs.declared.row.Row.{Row}
use Rattle.catalog.specs.Rows.{place, found_at, blank}
use Rattle.catalog.specs.Catalogs.{standing}
use Rattle.cabinet.specs.declared.collection.Collection.{Collection}
use Rattle.cabinet.specs.Model.{Opening, State, stands, loans_of}
use Rattle.cabinet.specs.Promise.{Holds}
use Rattle.cabinet.proofs.Shelving.{stands_found, loans_found}

-- what a search came to
pub found_some : (n at : ℕ) (rs : List Row) → Some at ≡ found_at n rs → (at ≡ place n rs) × (place n rs < length rs)
found_some n at rs e =
    cond_both (ltb (place n rs) (length rs)) (Some (place n rs)) None (λ (r : Option ℕ). Some at ≡ r → (at ≡ place n rs) × (place n rs < length rs))
    (λ t z. (cc, ltb-true (place n rs) (length rs) t))
    (λ t z. let y : ◌≡◌ {A = ℕ} 0 1 = cc in (omega arith, omega arith))
    e

pub found_none : (n : ℕ) (rs : List Row) → None ≡ found_at n rs → length rs ≤ place n rs
found_none n rs e =
    cond_both (ltb (place n rs) (length rs)) (Some (place n rs)) None (λ (r : Option ℕ). None ≡ r → length rs ≤ place n rs)
    (λ t z. let y : ◌≡◌ {A = ℕ} 0 1 = cc in omega arith)
    (λ t z. ltb-false (place n rs) (length rs) t)
    e

module _ {S F : Type 0} {K : Kind S} {rule : Rule} {reach : Reach} {means : F → Pattern} {o : Opening} {s : State} {c : Collection S F} {store : List S} {list : List Match} (w : Holds K rule reach means o s c store list) (n : ℕ) where
  abbrev here : List Row
  here = standing c.catalog

  -- a number stands where the catalogue has it
  stands_in : stands n s.traces ≡ ltb (place n here) (length here)
  stands_in = ap (λ (z : State). stands n z.traces) (sym w.state) ∙ stands_found K.fields n here store

  pub not_standing : None ≡ found_at n here → stands n s.traces ≡ false
  not_standing e = stands_in ∙ le-ltb (place n here) (length here) (found_none n here e)

  module _ (at : ℕ) (e : Some at ≡ found_at n here) where
    pub is_standing : stands n s.traces ≡ true
    is_standing = stands_in ∙ lt-ltb (place n here) (length here) (found_some n at here e).1

    -- its loans are the row's
    pub loans_standing : loans_of n s.traces ≡ (get_or here at blank).loans
    loans_standing =
        let f = found_some n at here e in
        ap (λ (z : State). loans_of n z.traces) (sym w.state) ∙ loans_found K.fields n here store f.1 ∙ ap (λ (z : ℕ). (get_or here z blank).loans) (sym f.0)
