-- What an opening leaves is an empty catalogue, no question and a list of zeros.
use Rattle.std.proofs.Common.{length, refl, arith}
use Rattle.cabinet.proofs.Beginning.{mark_taken, opened}
use Rattle.cabinet.proofs.collection.Collection.open.Goals as goal

pub returns-in-Ok : goal.returns-in-Ok
returns-in-Ok g c =
    let e = c.in-Ok.ensures in (
      mark_taken c.args.mark (length c.args.store.now) (length c.args.list.now) c.if-mark-eq0.false (omega arith) e.0,
      opened g.S.Sample.kind g.F.Filter.rule g.F.Filter.reaches g.F.Filter.stands g.met.S.Sample.agreeing g.met.F.Filter.inside g.met.F.Filter.necessary
          c.args.mark _ c.args.store.now c.args.list.now c.blank_out.new.items refl e.1 c.new-in-Ok.ensures c.clear.ensures c.blank_out.ensures,
    )
