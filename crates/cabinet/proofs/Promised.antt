-- What a collection, its store and its list hold is what is promised: the match list is whole, and no longer than the places
-- passed allow.
use Rattle.std.proofs.Common.{◌≡◌, ℕ, suc, ◌*◌, ◌≤◌, true, List, sym, subst}
use Rattle.trace.specs.Kinds.{Kind}
use Rattle.filters.specs.Filters.{Rule, Reach, Pattern, Inside, Necessary}
use Rattle.search.specs.declared.matches.Match.{Match}
use Rattle.catalog.specs.declared.row.Row.{Row}
use Rattle.catalog.specs.Rows.{pairs_in, places_in}
use Rattle.catalog.specs.Catalogs.{standing}
use Rattle.cabinet.specs.declared.collection.Collection.{Collection}
use Rattle.cabinet.specs.Model.{Opening, State, Call, after}
use Rattle.cabinet.specs.Words.{Whole, all_matches, padded}
use Rattle.cabinet.specs.Promise.{Holds, After}
use Rattle.cabinet.proofs.Rising.{Numbered, numbered}
use Rattle.cabinet.proofs.Wording.{all_whole}
use Rattle.cabinet.proofs.Bounding.{rows_bounded}
use Rattle.cabinet.proofs.Holding.{matches_told}

module _ {S F : Type 0} {K : Kind S} {rule : Rule} {reach : Reach} {means : F → Pattern} {o : Opening} {s : State} {c : Collection S F} {store : List S} {list : List Match} (w : Holds K rule reach means o s c store list) where
  -- where the numbers rise, the list is whole
  holds_whole : Numbered s → Whole K s.asked s.traces list (pairs_in (standing c.catalog))
  holds_whole u =
      subst (λ (l : List Match). Whole K s.asked s.traces l (pairs_in (standing c.catalog))) (sym w.listed)
      (subst (λ (n : ℕ). Whole K s.asked s.traces (padded o.list (all_matches K s.asked s.traces)) n) (sym (matches_told w))
      (all_whole K s.asked o.list 0 s.given s.traces u))

  -- codes that agree are equal, and the filter passes a place near each match
  holds_bounded : ((a b : ℕ) → K.agree a b ≡ true → a ≡ b) → Inside rule → Necessary rule reach → pairs_in (standing c.catalog) ≤ suc (reach s.asked.m s.asked.k) * places_in (standing c.catalog)
  holds_bounded equal inside nec =
      subst (λ (rows : List Row). pairs_in rows ≤ suc (reach s.asked.m s.asked.k) * places_in rows) (sym w.counted)
      (rows_bounded K rule reach inside nec equal s.asked w.filter.fair s.traces)

-- what holds after a list of calls is all that is promised after them
pub promised : {S F : Type 0} {K : Kind S} {rule : Rule} {reach : Reach} {means : F → Pattern} {o : Opening} {c : Collection S F} {store : List S} {list : List Match} → ((a b : ℕ) → K.agree a b ≡ true → a ≡ b) → Inside rule → Necessary rule reach → (h : List Call) → Holds K rule reach means o (after K o h) c store list → After K rule reach means o h c store list
promised {K = K} {o = o} equal inside nec h w = record { holds = w; whole = holds_whole w (numbered K o h); bounded = holds_bounded w equal inside nec }
