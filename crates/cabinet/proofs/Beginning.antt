-- What an opening leaves.
use Rattle.std.proofs.Common.{◌≡◌, ℕ, ◌-◌, ◌≤◌, true, false, eqb, ltb, List, [], length, replicate, Ok, sym, refl, ap, ◌∙◌, arith}
use Rattle.std.proofs.lemmas.List.{length-replicate}
use Rattle.std.proofs.lemmas.Bool.{ne_eqb, le-ltb}
use Rattle.trace.specs.Kinds.{Kind}
use Rattle.filters.specs.Asking.{question_of}
use Rattle.filters.specs.Filters.{Rule, Reach, Pattern, StandsFor, Inside, Necessary, none}
use Rattle.search.specs.declared.matches.Match.{Match}
use Rattle.search.specs.Words as one
use Rattle.catalog.specs.declared.row.Row.{Row}
use Rattle.catalog.specs.Catalogs.{sized, Empty}
use Rattle.cabinet.specs.declared.collection.Collection.{Collection}
use Rattle.cabinet.specs.Shelf.{traces_of}
use Rattle.cabinet.specs.Promise.{After}
use Rattle.cabinet.specs.Calls.{opening_verdict}
use Rattle.cabinet.proofs.Holding.{same_state}
use Rattle.cabinet.proofs.Promised.{promised}

-- a mark that can be taken
pub mark_taken : (mark store list : ℕ) → (mark ≡ 0 → ⊥) → mark ≤ 65535 → sized store list ≡ Ok tt → opening_verdict mark store list ≡ Ok tt
mark_taken mark store list some small e =
    let p : eqb mark 0 ≡ false = ne_eqb mark 0 some in
    let q : ltb 65535 mark ≡ false = le-ltb 65535 mark small in
    rw (p, q) e

-- an empty catalogue, no question, and a list of zeros hold what stands at first
pub opened : {S F : Type 0} (K : Kind S) (rule : Rule) (reach : Reach) (means : F → Pattern) → ((a b : ℕ) → K.agree a b ≡ true → a ≡ b) → Inside rule → Necessary rule reach →
    (mark : ℕ) (c : Collection S F) (store : List S) (list list' : List Match) → c.mark ≡ mark → Empty (length store) (length list) c.catalog → question_of c.question ≡ none →
    StandsFor rule reach (means c.filter) none → list' ≡ replicate (length list) one.no_match →
    After K rule reach means (record { mark = mark; store = length store; list = length list }) [] c store list'
opened K rule reach means equal inside nec mark c store list list' marked empty unasked cleared blank =
    let z : length list - 0 ≡ length list = omega arith in
    promised equal inside nec []
    (record {
      mark = marked;
      noted_store = empty.store;
      store_length = refl;
      noted_list = empty.list;
      list_length = ap length blank ∙ length-replicate (length list) one.no_match;
      state = same_state empty.given (ap (λ (rs : List Row). traces_of K.fields rs store) empty.rows) unasked;
      counted = empty.rows;
      filter = cleared;
      listed = blank ∙ ap (λ (n : ℕ). replicate n one.no_match) (sym z);
    })
