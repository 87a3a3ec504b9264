use Rattle.std.proofs.Common.{sym, ap, ◌∙◌, arith}
use Rattle.std.proofs.lemmas.List.{length-take-le}
use Rattle.std.proofs.lemmas.Result.{IfOk-at_ok}
use Rattle.trace.specs.Refusals.{answer}
use Rattle.trace.proofs.Chains.{answer_ok}
use Rattle.trace.proofs.Walks.{making_none, making_more, making_fault}
use Rattle.trace.proofs.file.write_each.Goals as goal

pub loop-place-init : goal.loop-place-init
loop-place-init g c = making_none g.S.Sample.kind.tops c.args.file.now c.args.header.next c.args.header.value.count g.S.Sample.kind.fields (goal.F-post g c.args.of) c.requires.sound.starts _

pub unwrap-sample-requires : goal.unwrap-sample-requires
unwrap-sample-requires g c =
    let l = c.loop-place in
    let h = c.args.header in
    let room = length-take-le h.value.count c.args.out.now c.requires.room in
    answer_ok _ _ c.sample_at.result
    (λ e bad. making_fault g.S.Sample.kind.tops c.args.file.now h.next h.value.count g.S.Sample.kind.fields (goal.F-post g c.args.of) l.place-index l.at l.front l.invariant e _ (omega (arith, room)) (sym c.sample_at.ensures.is ∙ bad) c.requires.sound.body)

pub loop-place-preserved : goal.loop-place-preserved
loop-place-preserved g c =
    let l = c.loop-place in
    let h = c.args.header in
    let sample = c.unwrap-sample.result in
    let room = length-take-le h.value.count c.args.out.now c.requires.room in
    let told = c.sample_at.ensures in
    let read = c.unwrap-sample.ensures in
    making_more g.S.Sample.kind.tops c.args.file.now h.next h.value.count g.S.Sample.kind.fields (goal.F-post g c.args.of) l.place-index l.at l.front l.invariant sample.value c.of.result sample.next (omega (arith, room)) (omega arith) (sym told.is ∙ ap (answer _ _) read) (IfOk-at_ok _ read told.lies) c.of.ensures
