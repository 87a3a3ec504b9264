use Rattle.std.proofs.Common.{◌++◌, ap, ◌∙◌}
use Rattle.console.proofs.Answering.{unmapped}
use Rattle.console.specs.Texts.{heading, pair_lines, summary_line}
use Rattle.findings.specs.Sessions.{opening}
use Rattle.findings.proofs.Calling.{listed}
use Rattle.findings.proofs.desk.Desk.listing.Goals as goal

pub returns : goal.returns
returns g c = λ h at.
    let listing = c.in_ok-listing.listing in
    let was = unmapped c.listing.result c.map_err.result _ _ c.in_ok-listing.was c.map_err.ensures.cases in
    record {
      matches = listing.matches.now;
      report = listing.report;
      listed = listed g.F.Filter.rule g.F.Filter.reaches g.F.Filter.stands h c.args.self.now _ _ _ c.as_slice.ensures.value was (c.listing.ensures.whole opening h) at;
      is = c.in_ok-to_string.ensures.ok ∙ ap (λ s. heading ++ (pair_lines listing.matches.now ++ summary_line s)) c.summary.ensures;
    }
