use Rattle.std.proofs.Common.{◌≤◌, length, drop, Err, vec_items, sym, ap, ◌∙◌, arith}
use Rattle.std.proofs.lemmas.Result.{err_from_is_err_and, IfOk-from_err, IfOk-at_ok}
use Rattle.trace.specs.Reading.{head}
use Rattle.trace.specs.Refusals.{answer, told}
use Rattle.console.proofs.Answering.{unmapped, unmapped_error, refuses}
use Rattle.probe.specs.Refusals.{refusal_number}
use Rattle.probe.proofs.Pulses.{refused, read}
use Rattle.probe.proofs.codes.read_pulses.Goals as goal

pub returns-in_err-header : goal.returns-in_err-header
returns-in_err-header c =
    let exit = c.from_residual-in_err-header in
    let places = c.as_mut_slice.result.now in
    let room : 4096 ≤ length places = omega (arith, c.as_mut_slice.ensures.len, c.in_ok-codes.ensures.len) in
    let was = unmapped_error c.read_codes.result c.map_err.result _ _ c.in_err-header.was c.map_err.ensures.cases in
    let said = c.read_codes.ensures in
    record {
      is = refuses vec_items refusal_number exit.result c.in_err-header.field-0.0 _ (err_from_is_err_and exit.result exit.ensures.1)
          (ap (λ e. Err (refusal_number e)) was.2 ∙ refused c.args.file.now (length places) room said.one.means (told was.0) (sym (ap (answer head told) was.1) ∙ said.is));
      few = IfOk-from_err _ _ exit.ensures.0;
    }

pub returns : goal.returns
returns c =
    let places = c.as_mut_slice.result.now in
    let out = c.read_codes.new.codes in
    let codes = c.in_ok-codes.codes in
    let header = c.in_ok-header.header in
    let room : 4096 ≤ length places = omega (arith, c.as_mut_slice.ensures.len, c.in_ok-codes.ensures.len) in
    let was = unmapped c.read_codes.result c.map_err.result header _ c.in_ok-header.was c.map_err.ensures.cases in
    let said = c.read_codes.ensures in
    record {
      is = read c.args.file.now (length places) room said.one.means (head header) places out (drop (length out) codes.items) _ codes.len
          (sym (ap (answer head told) was) ∙ said.is) said.put (c.read_codes.auto.codes ∙ c.as_mut_slice.ensures.len) c.truncate.ensures.items;
      few = omega (arith, c.truncate.ensures.len, (IfOk-at_ok _ was said.few).1);
    }
