use Rattle.std.proofs.Common.{◌∙◌, Some, None, arith}
use Rattle.filters.specs.Matching.{Question}
use Rattle.filters.specs.Asked.{asked}
use Rattle.search.proofs.Comparing.{differ, matched, at_most_is, mismatches_le, windows_compare}
use Rattle.search.proofs.compare.Comparison.match_at.Goals as goal

pub returns-in_err-mismatches : goal.returns-in_err-mismatches
returns-in_err-mismatches g c =
    c.from_residual.ensures ∙ matched c.args.self.now.accession g.S.Sample.kind.agree (asked c.args.self.now.question) c.args.self.now.trace.now c.args.i c.args.j c.requires.some c.requires.inside.0 c.requires.inside.1 None c.in_err-mismatches.ensures

pub overflow_cast-result-3 : goal.overflow_cast-result-3
overflow_cast-result-3 g c =
    let a : Question = asked c.args.self.now.question in
    let d = at_most_is a.k (differ g.S.Sample.kind.agree a.codes c.args.self.now.trace.now c.args.i c.args.j a.m) c.in_ok-mismatches.mismatches c.in_ok-mismatches.ensures in
    omega (arith, windows_compare g.S.Sample.kind.agree a.codes c.args.self.now.trace.now c.args.i c.args.j a.m c.requires.inside.0, mismatches_le g.S.Sample.kind.agree a.codes c.args.self.now.trace.now c.args.i c.args.j a.m)

pub returns : goal.returns
returns g c =
    matched c.args.self.now.accession g.S.Sample.kind.agree (asked c.args.self.now.question) c.args.self.now.trace.now c.args.i c.args.j c.requires.some c.requires.inside.0 c.requires.inside.1 (Some c.in_ok-mismatches.mismatches) c.in_ok-mismatches.ensures
