use Rattle.std.proofs.Common.{string_bytes}
use Rattle.probe.specs.Answers.{shown, input_task}
use Rattle.probe.specs.Reports.{shown_text, report_text}
use Rattle.probe.proofs.Reporting.{told, made_same}
use Rattle.probe.proofs.report.report.Goals as goal

pub returns-in-Ok : goal.returns-in-Ok
returns-in-Ok c =
    let input = c.args.input.now in
    let answer = c.in-Ok.answer in
    record { is = made_same string_bytes c.answer_text.result (shown_text (shown answer)) (report_text input) (told answer (input_task input) c.in-Ok.ensures) c.answer_text.ensures.is }
