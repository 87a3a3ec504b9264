use Rattle.std.proofs.Common.{Ok, Err, string_bytes, refl, arith}
use Rattle.trace.specs.Refusals.{told_fault}
use Rattle.inspect.specs.AnyFile.{any_of}
use Rattle.inspect.specs.Paddings.{padded}
use Rattle.inspect.specs.Reports.{answer_text, report_text}
use Rattle.inspect.specs.Wordings.{too_long}
use Rattle.inspect.proofs.Reporting.{past_longest, answered, made_same}
use Rattle.inspect.proofs.report.report.Goals as goal

pub returns-then-input-gt-LONGEST_FILE : goal.returns-then-input-gt-LONGEST_FILE
returns-then-input-gt-LONGEST_FILE c = record { is = made_same string_bytes c.too_long.result too_long _ (past_longest c.args.input.now (omega arith)) c.too_long.ensures.is }

pub returns-in-Ok : goal.returns-in-Ok
returns-in-Ok c =
    let input = c.args.input.now in
    let r = Ok (any_of c.in-Ok.trace) in
    record { is = made_same string_bytes c.any_text.result (answer_text r c.padded.result) (report_text input) (answered input r c.padded.result (omega arith) c.in-Ok.ensures.is c.padded.ensures.is) c.any_text.ensures.is }

pub returns-in-Err-Refused : goal.returns-in-Err-Refused
returns-in-Err-Refused c =
    let input = c.args.input.now in
    let r = Err (told_fault c.in-Err-Refused.fault) in
    record { is = made_same string_bytes c.refusal_text.result (answer_text r (padded input)) (report_text input) (answered input r (padded input) (omega arith) (rw c.in-Err-Refused.field-0-is at c.in-Err-Refused.ensures.is) refl) c.refusal_text.ensures.is }
