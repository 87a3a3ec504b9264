-- The memory brought to a call: whether it is the collection's.
use Rattle.std.proofs.Common.{◌≡◌, ℕ, ◌≤◌, Bool, false, not, ◌||◌, eqb, ltb, List, sym, ap, ◌∙◌}
use Rattle.std.proofs.lemmas.Bool.{ltb-false, eqb-true, not-false, or_parts}
use Rattle.trace.specs.Kinds.{Kind}
use Rattle.filters.specs.Filters.{Rule, Reach, Pattern}
use Rattle.search.specs.declared.matches.Match.{Match}
use Rattle.cabinet.specs.declared.collection.Collection.{Collection}
use Rattle.cabinet.specs.Model.{Opening, State, Lengths, wrong}
use Rattle.cabinet.specs.Promise.{Holds}

-- memory that is the collection's has its lengths, and buffers that are long enough
pub record Right (store list : ℕ) (l : Lengths) : Type 0 where
  pub store_is : l.store ≡ store
  pub list_is : l.list ≡ list
  pub codes : 4096 ≤ l.codes
  pub marks : 1024 ≤ l.marks

pub right_lengths : (store list : ℕ) (l : Lengths) → false ≡ wrong store list l → Right store list l
right_lengths store list l e =
    let a = or_parts (not (eqb l.store store)) (not (eqb l.list list) || (ltb l.codes 4096 || ltb l.marks 1024)) (sym e) in
    let b = or_parts (not (eqb l.list list)) (ltb l.codes 4096 || ltb l.marks 1024) a.1 in
    let d = or_parts (ltb l.codes 4096) (ltb l.marks 1024) b.1 in
    record {
      store_is = eqb-true l.store store (not-false (eqb l.store store) a.0);
      list_is = eqb-true l.list list (not-false (eqb l.list list) b.0);
      codes = ltb-false l.codes 4096 d.0;
      marks = ltb-false l.marks 1024 d.1;
    }

-- it is the opening's or not, by what the collection noted
pub wrong_noted : {S F : Type 0} {K : Kind S} {rule : Rule} {reach : Reach} {means : F → Pattern} {o : Opening} {s : State} {c : Collection S F} {store : List S} {list : List Match} → Holds K rule reach means o s c store list →
    (l : Lengths) (b : Bool) → b ≡ wrong c.catalog.store c.catalog.list l → wrong o.store o.list l ≡ b
wrong_noted {o = o} {c = c} w l b e = ap (λ (z : ℕ). wrong z o.list l) (sym w.noted_store) ∙ ap (λ (z : ℕ). wrong c.catalog.store z l) (sym w.noted_list) ∙ sym e
