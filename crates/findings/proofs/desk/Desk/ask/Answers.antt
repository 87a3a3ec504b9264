use Rattle.std.proofs.Common.{length, sym, ap, ◌∙◌}
use Rattle.std.proofs.lemmas.List.{with_items_is}
use Rattle.cabinet.specs.Model.{ask}
use Rattle.findings.proofs.Calling.{called}
use Rattle.findings.proofs.desk.Desk.ask.Goals as goal

pub returns : goal.returns
returns g c =
    let desk = c.args.self.now in
    let list = with_items_is desk.list c.ask.new.list (c.ask.auto.list ∙ c.as_mut_slice.ensures.len) in
    let codes = with_items_is desk.codes c.ask.new.codes (c.ask.auto.codes ∙ c.as_mut_slice-2.ensures.len) in
    let marks = with_items_is desk.marks c.ask.new.marks (c.ask.auto.marks ∙ c.as_mut_slice-3.ensures.len) in
    called g.F.Filter.rule g.F.Filter.reaches g.F.Filter.stands (λ l. ask l c.args.file.now c.args.m c.args.k) (λ _. 0) desk _ c.ask.result _ _ _ _ _ _
    c.as_slice.ensures.value c.as_mut_slice.ensures.value c.as_mut_slice-2.ensures.value c.as_mut_slice-3.ensures.value
    c.as_slice.ensures.value (sym list) (ap length codes ∙ c.ask.auto.codes) (ap length marks ∙ c.ask.auto.marks) c.ask.ensures.kept
