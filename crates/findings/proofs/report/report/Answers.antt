use Rattle.std.proofs.Common.{string_bytes}
use Rattle.console.specs.Filtering.{near_rule, near_reach}
use Rattle.findings.specs.Sessions.{session}
use Rattle.findings.proofs.Telling.{shown, parts_text, made_text, made_parts}
use Rattle.findings.proofs.Worked.{examples}
use Rattle.findings.proofs.report.report.Goals as goal

pub returns-in-Ok : goal.returns-in-Ok
returns-in-Ok c =
    let input = c.args.input.now in
    let told = c.in-Ok.ensures in
    let text = string_bytes c.in-Ok.text in
    let is = shown near_rule near_reach told.0 (session input) text told.1 told.2 in
    record { is = is; parts = parts_text input text is; examples = examples }

pub returns-in-Err : goal.returns-in-Err
returns-in-Err c =
    let input = c.args.input.now in
    let failure = c.in-Err.failure in
    let line = c.failure_line in
    record {
      is = made_text string_bytes line.result input failure c.in-Err.ensures line.ensures;
      parts = made_parts string_bytes line.result input failure c.in-Err.ensures line.ensures;
      examples = examples;
    }
