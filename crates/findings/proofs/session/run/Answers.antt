use Rattle.std.proofs.Common.{[], ◌∷◌, sym, ap, ◌∙◌, Err}
use Rattle.std.proofs.lemmas.Result.{err_from_is_err_and}
use Rattle.console.proofs.Answering.{unmapped, unmapped_error}
use Rattle.findings.specs.Desks.{answer_of}
use Rattle.findings.specs.Framing.{asked_in}
use Rattle.findings.specs.Refusals.{refusal_number}
use Rattle.findings.specs.Sessions.{asking, standing_after}
use Rattle.findings.proofs.Holding.{begun, stopped}
use Rattle.findings.proofs.session.run.Goals as goal

pub returns-in_err-map_err : goal.returns-in_err-map_err
returns-in_err-map_err g c =
    let asked = c.in_ok-asked.asked in
    let exit = c.from_residual-in_err-map_err in
    let was = unmapped_error c.ask.result c.map_err.result _ _ c.in_err-map_err.was c.map_err.ensures.cases in
    let went = c.ask.ensures [] c.in_ok-desk.ensures in
    stopped g.F.Filter.rule g.F.Filter.reaches g.F.Filter.stands exit.result c.in_err-map_err.field-0.0 _ (err_from_is_err_and exit.result exit.ensures.1)
    (begun c.args.input.now (asked_in asked) _ c.in_ok-asked.ensures.is (went.answer ∙ ap (λ r. answer_of r (standing_after (asking (asked_in asked).value ∷ []))) was.1) ∙ ap (λ e. Err (refusal_number e)) (sym was.2))

pub returns-in_err-bring_all : goal.returns-in_err-bring_all
returns-in_err-bring_all g c =
    let asked = c.in_ok-asked.asked in
    let exit = c.from_residual-in_err-bring_all in
    let e = c.in_err-bring_all.field-0.0 in
    let was = unmapped c.ask.result c.map_err.result _ _ c.in_ok-map_err.was c.map_err.ensures.cases in
    let went = c.ask.ensures [] c.in_ok-desk.ensures in
    let came = c.in_err-bring_all.ensures (asking (asked_in asked).value ∷ []) went.holds in
    stopped g.F.Filter.rule g.F.Filter.reaches g.F.Filter.stands exit.result e _ (err_from_is_err_and exit.result exit.ensures.1)
    (begun c.args.input.now (asked_in asked) _ c.in_ok-asked.ensures.is (went.answer ∙ ap (λ r. answer_of r (standing_after (asking (asked_in asked).value ∷ []))) was) ∙ came)

pub returns : goal.returns
returns g c =
    let asked = c.in_ok-asked.asked in
    let was = unmapped c.ask.result c.map_err.result _ _ c.in_ok-map_err.was c.map_err.ensures.cases in
    let went = c.ask.ensures [] c.in_ok-desk.ensures in
    let came = c.in_ok-bring_all.ensures (asking (asked_in asked).value ∷ []) went.holds in
    (came.0, came.1, begun c.args.input.now (asked_in asked) _ c.in_ok-asked.ensures.is (went.answer ∙ ap (λ r. answer_of r (standing_after (asking (asked_in asked).value ∷ []))) was) ∙ came.2)
