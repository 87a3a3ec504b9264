use Rattle.std.proofs.Common.{ℕ, length, Result, sym, ap, ◌∙◌, arith}
use Rattle.std.proofs.lemmas.Bool.{both_ways}
use Rattle.std.proofs.lemmas.Result.{err_from_is_err_and}
use Rattle.trace.specs.Told.{Told}
use Rattle.trace.specs.Refusals.{answer, told}
use Rattle.trace.specs.Files.{Trace, trace_file}
use Rattle.trace.specs.Reading.{head, fitted}
use Rattle.readings.proofs.Both.{read_says, refused_says, alike}
use Rattle.readings.proofs.reading.read_both.Goals as goal

pub returns-in_err-header : goal.returns-in_err-header
returns-in_err-header g c even =
    let p = err_from_is_err_and c.from_residual.result c.from_residual.ensures.1 in
    let is = ap (answer head told) (sym c.in_err-header.was) ∙ c.read_codes-read.ensures.is in
    rw (p.1, p.2) (refused_says g.S.Sample.kind.code c.args.codes.now _ _ _ is)

pub returns-then-same_codes : goal.returns-then-same_codes
returns-then-same_codes g c even =
    let one = c.read_codes-read.ensures in
    read_says g.S.Sample.kind.code c.args.codes.now _ c.in_ok-header.header _ (ap (answer head told) (sym c.in_ok-header.was) ∙ one.is) one.put

-- what was written as codes is what was written as samples
pub returns-else-same_codes : goal.returns-else-same_codes
returns-else-same_codes g c even =
    let kind = g.S.Sample.kind in
    let there : ℕ → Result Trace Told = λ room. fitted room (trace_file kind.number kind.tops c.args.file.now) in
    let one = c.read_codes-read.ensures in
    let is = ap (answer head told) (sym c.in_ok-header.was) ∙ one.is in
    both_ways c.same_codes.result c.if-same_codes.false
    (c.same_codes.ensures.1 (alike kind.code c.args.codes.now c.read_codes-read.new.codes kind.fields c.args.samples.now c.read_samples.new.out c.in_ok-header.header there (length c.args.codes.now) (length c.args.samples.now) even is one.put c.read_samples.ensures.put _ (omega (arith, c.from-count.ensures))))
