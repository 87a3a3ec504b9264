use Rattle.std.proofs.Common.{◌≡◌, length, vec_len, arith}
use Rattle.std.proofs.lemmas.List.{with_items_is}
use Rattle.console.proofs.Answering.{unmapped}
use Rattle.probe.proofs.Finding.{finds}
use Rattle.probe.proofs.answer.find.Goals as goal

pub returns : goal.returns
returns g c = λ stands short.
    let places = c.as_mut_slice.result.now in
    let counted = unmapped c.scan.result c.map_err.result _ _ c.in_ok-found.was c.map_err.ensures.cases in
    let listed = unmapped c.scan-2.result c.map_err-2.result _ _ c.in_ok-map_err.was c.map_err-2.ensures.cases in
    let long : length places ≡ c.in_ok-found.found.pairs = omega (arith, c.as_mut_slice.ensures.len, c.in_ok-matches.ensures.len) in
    let kept : length c.scan-2.new.out ≡ vec_len c.in_ok-matches.matches = omega (arith, c.scan-2.auto.out, c.as_mut_slice.ensures.len) in
    finds g.F.Filter.rule g.F.Filter.reaches _ _ _ _ places c.scan-2.new.out _ _ _ stands counted (c.scan.ensures.whole stands) listed (c.scan-2.ensures.whole stands) long (omega arith) c.reach.ensures.is
    (with_items_is c.in_ok-matches.matches c.scan-2.new.out kept)
