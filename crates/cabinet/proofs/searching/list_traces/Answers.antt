use Rattle.std.proofs.Common.{◌≡◌, ℕ, List, map, get_or, sym, refl, subst, arith}
use Rattle.filters.specs.Asking.{question_of}
use Rattle.catalog.specs.declared.row.Row.{Row}
use Rattle.catalog.specs.Rows.{blank}
use Rattle.catalog.specs.Catalogs.{standing}
use Rattle.cabinet.specs.Words.{all_matches, padded}
use Rattle.cabinet.specs.Shelf.{traces_of, row_of}
use Rattle.cabinet.proofs.Standing.{part_listed}
use Rattle.cabinet.proofs.Listing.{listing_more, listing_all}
use Rattle.cabinet.proofs.searching.list_traces.Goals as goal

pub loop-row-preserved : goal.loop-row-preserved
loop-row-preserved g c =
    let l = c.loop-row in
    let k = c.args.catalog.now in
    let K = g.S.Sample.kind in
    let rs : List Row = c.standing-rows.result.now in
    let are = c.standing-rows.ensures in
    let right = subst (λ (rows : List Row). rows ≡ map (row_of K g.F.Filter.rule (question_of c.args.posed.now.question)) (traces_of K.fields rows c.args.store.now)) (sym are) c.requires.counted in
    listing_more K (question_of c.args.posed.now.question) rs c.args.store.now g.F.Filter.rule k.list l.row-index l.at l.first l.list c.search_trace.new.out (get_or rs l.row-index blank)
    l.invariant (omega arith) refl right (omega (arith, c.requires.list)) (part_listed k rs are l.row-index (omega arith) l.first l.invariant.sum) c.search_trace.ensures.listed

pub returns : goal.returns
returns g c =
    let l = c.loop-row in
    let K = g.S.Sample.kind in
    let rs : List Row = c.standing-rows.result.now in
    subst (λ (n : ℕ). l.list ≡ padded n (all_matches K (question_of c.args.posed.now.question) (traces_of K.fields (standing c.args.catalog.now) c.args.store.now))) (sym c.requires.list)
    (subst (λ (rows : List Row). l.list ≡ padded c.args.catalog.now.list (all_matches K (question_of c.args.posed.now.question) (traces_of K.fields rows c.args.store.now))) c.standing-rows.ensures
    (listing_all K (question_of c.args.posed.now.question) rs c.args.store.now c.args.catalog.now.list l.row-index l.at l.first l.list l.invariant (omega arith)))
