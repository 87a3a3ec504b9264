use Rattle.std.proofs.lemmas.Result.{err_from_is_err_and}
use Rattle.console.specs.Refusals.{refusal_number}
use Rattle.findings.specs.declared.refusal.Refusal.TheVariants.{Input, Call}
use Rattle.findings.proofs.Bringing.{done, more, going_first, going_last, going_on, frame_refused, trace_refused, stopped}
use Rattle.findings.proofs.desk.Desk.bring_all.Goals as goal

pub loop-files-init : goal.loop-files-init
loop-files-init g c = λ h at. going_first g.F.Filter.rule g.F.Filter.reaches g.F.Filter.stands h c.args.files.now c.args.self.now at

pub returns-in_err-file : goal.returns-in_err-file
returns-in_err-file g c = λ h at.
    let exit = c.from_residual in
    let e = c.in_err-file.field-0.0 in
    stopped g.F.Filter.rule g.F.Filter.reaches g.F.Filter.stands exit.result (Input e) _ _ (err_from_is_err_and exit.result exit.ensures.1)
    (frame_refused g.F.Filter.rule g.F.Filter.reaches g.F.Filter.stands h c.args.files.now c.loop-files.self c.loop-files.files.rest.now (c.loop-files.invariant h at) (refusal_number e) (more _ _ c.is_empty.ensures c.loop-files-test.true) c.in_err-file.ensures.is)

pub returns-in_err-bring : goal.returns-in_err-bring
returns-in_err-bring g c = λ h at.
    let exit = c.from_residual-in_err-bring in
    let e = c.in_err-bring.field-0.0 in
    stopped g.F.Filter.rule g.F.Filter.reaches g.F.Filter.stands exit.result (Call e) _ _ (err_from_is_err_and exit.result exit.ensures.1)
    (trace_refused g.F.Filter.rule g.F.Filter.reaches g.F.Filter.stands h c.args.files.now c.loop-files.self c.loop-files.files.rest.now (c.loop-files.invariant h at) _ _ (more _ _ c.is_empty.ensures c.loop-files-test.true) c.in_ok-file.ensures.is _ e c.in_err-bring.ensures)

pub loop-files-preserved : goal.loop-files-preserved
loop-files-preserved g c = λ h at.
    going_on g.F.Filter.rule g.F.Filter.reaches g.F.Filter.stands h c.args.files.now c.loop-files.self c.loop-files.files.rest.now (c.loop-files.invariant h at) _ _ (more _ _ c.is_empty.ensures c.loop-files-test.true) c.in_ok-file.ensures.is _ c.in_ok-bring.ensures c.in_ok-file.ensures.shorter

pub returns : goal.returns
returns g c = λ h at.
    going_last g.F.Filter.rule g.F.Filter.reaches g.F.Filter.stands h c.args.files.now c.loop-files.self c.loop-files.files.rest.now (c.loop-files.invariant h at) (done _ _ c.is_empty.ensures c.loop-files-test.false)
