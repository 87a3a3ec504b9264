use Rattle.std.proofs.Common.{string_bytes}
use Rattle.inspect.proofs.Reporting.{refusal_lines, made_same}
use Rattle.inspect.proofs.words.refusal_text.Goals as goal

pub returns : goal.returns
returns c =
    let lines = refusal_lines _ c.args.fault.place _ _ _ _ _ c.number-number.ensures c.cause_words-words.ensures.is c.number-part.ensures c.field_name-name.ensures.is in
    record { is = made_same string_bytes c.format.result _ _ lines c.format.ensures.ok }
