use Rattle.std.proofs.Common.{◌++◌, string_bytes}
use Rattle.console.specs.Texts.{heading, pair_lines}
use Rattle.probe.proofs.Reporting.{one_summary, made_same}
use Rattle.probe.proofs.report.answer_text.Goals as goal

pub returns : goal.returns
returns c =
    let answer = c.args.answer.now in
    let summary = one_summary answer.samples answer.found.pairs answer.found.places answer.reach in
    record { is = made_same string_bytes c.to_string.result _ _ (λ i. heading ++ (pair_lines (c.as_slice-matches.ensures.value i) ++ summary i)) c.to_string.ensures.ok }
