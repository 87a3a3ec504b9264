-- With no memory a collection without room holds what stands at first.
use Rattle.std.proofs.Common.{[], refl}
use Rattle.cabinet.proofs.Beginning.{opened}
use Rattle.cabinet.proofs.collection.Collection.closed.Goals as goal

pub returns : goal.returns
returns g c =
    let e = c.closed.ensures in
    let cleared = c.requires in (
      refl,
      record {
        mark = refl;
        store = e.2;
        list = e.3;
        rows = e.0;
        given = e.1;
        question = c.new.ensures;
        filter = cleared;
        after =
            opened g.S.Sample.kind g.F.Filter.rule g.F.Filter.reaches g.F.Filter.stands g.met.S.Sample.agreeing g.met.F.Filter.inside g.met.F.Filter.necessary
            0 _ [] [] [] refl (record { rows = e.0; given = e.1; store = e.2; list = e.3 }) c.new.ensures cleared refl;
      },
    )
