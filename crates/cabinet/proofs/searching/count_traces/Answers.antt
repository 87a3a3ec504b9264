use Rattle.std.proofs.Common.{◌≡◌, ◌<◌, List, map, length, get_or, take, refl, ap, subst, arith}
use Rattle.filters.specs.Asking.{question_of}
use Rattle.catalog.specs.declared.row.Row.{Row}
use Rattle.catalog.specs.Rows.{blank}
use Rattle.cabinet.specs.Model.{pairs_of}
use Rattle.cabinet.specs.Shelf.{traces_of, count_of}
use Rattle.cabinet.proofs.Standing.{used_standing}
use Rattle.cabinet.proofs.Listing.{counting_more, counting_full, counting_all}
use Rattle.cabinet.proofs.searching.count_traces.Goals as goal

pub returns-then-pairs-catalog : goal.returns-then-pairs-catalog
returns-then-pairs-catalog g c =
    let l = c.loop-i in
    let k = c.args.catalog.now in
    let rs : List Row = c.standing-rows.result.now in (
      refl,
      subst (λ (rows : List Row). k.list < pairs_of g.S.Sample.kind (question_of c.args.posed.now.question) (traces_of g.S.Sample.kind.fields rows c.args.store.now)) c.standing-rows.ensures
          (counting_full g.S.Sample.kind (question_of c.args.posed.now.question) rs c.args.store.now g.F.Filter.rule k.list l.i l.at l.pairs l.counts (get_or rs l.i blank) c.search_trace-count.result
          l.invariant (omega arith) refl c.search_trace-count.ensures.counted (omega arith)),
    )

pub loop-i-preserved : goal.loop-i-preserved
loop-i-preserved g c =
    let l = c.loop-i in
    let k = c.args.catalog.now in
    let rs : List Row = c.standing-rows.result.now in
    counting_more g.S.Sample.kind (question_of c.args.posed.now.question) rs c.args.store.now g.F.Filter.rule k.list l.i l.at l.pairs l.counts (get_or rs l.i blank) c.search_trace-count.result
    l.invariant (omega arith) (omega (arith, ap length c.standing-rows.ensures, used_standing k, k.few)) refl c.search_trace-count.ensures.counted (omega arith)

pub returns : goal.returns
returns g c =
    let l = c.loop-i in
    let K = g.S.Sample.kind in
    let rs : List Row = c.standing-rows.result.now in
    subst (λ (rows : List Row). (length l.counts ≡ 256) × (take (length (traces_of K.fields rows c.args.store.now)) l.counts ≡ map (count_of K g.F.Filter.rule (question_of c.args.posed.now.question)) (traces_of K.fields rows c.args.store.now))) c.standing-rows.ensures
    (counting_all K (question_of c.args.posed.now.question) rs c.args.store.now g.F.Filter.rule c.args.catalog.now.list l.i l.at l.pairs l.counts l.invariant (omega arith))
