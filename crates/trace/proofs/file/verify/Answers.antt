use Rattle.std.proofs.Common.{sym, arith}
use Rattle.std.proofs.lemmas.Result.{err_from_is_err_and}
use Rattle.trace.proofs.Chains.{no_samples, refused_by}
use Rattle.trace.proofs.Walks.{samples_fault, samples_more}
use Rattle.trace.proofs.file.verify.Goals as goal

pub loop-preserved : goal.loop-preserved
loop-preserved g c =
    let h = c.in_ok-header.header in
    let told = c.in_ok-at.ensures in
    samples_more g.S.Sample.kind.tops c.args.file.now h.next h.value.count c.loop.counter c.loop.at c.loop.invariant _ (omega arith) (sym told.is) told.lies

pub returns-in_err-at : goal.returns-in_err-at
returns-in_err-at g c =
    let kind = g.S.Sample.kind in
    let file = c.args.file.now in
    let h = c.in_ok-header.header in
    let exit = c.from_residual-in_err-at in
    let bad = samples_fault kind.tops file h.next h.value.count c.loop.counter c.loop.at c.loop.invariant _ (omega arith) (sym c.in_err-at.ensures.is) in
    refused_by kind.number kind.tops file exit.result _ (err_from_is_err_and exit.result exit.ensures.1) (no_samples kind.number kind.tops file _ (sym c.in_ok-header.ensures.is) bad)
