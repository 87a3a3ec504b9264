use Rattle.std.proofs.Common.{length, sym, ap, ◌∙◌}
use Rattle.std.proofs.lemmas.List.{with_items_is}
use Rattle.cabinet.specs.Model.{accession}
use Rattle.findings.proofs.Calling.{called}
use Rattle.findings.proofs.desk.Desk.bring.Goals as goal

pub returns : goal.returns
returns g c =
    let desk = c.args.self.now in
    let store = with_items_is desk.store c.accession.new.store (c.accession.auto.store ∙ c.as_mut_slice.ensures.len) in
    let list = with_items_is desk.list c.accession.new.list (c.accession.auto.list ∙ c.as_mut_slice-2.ensures.len) in
    let codes = with_items_is desk.codes c.accession.new.codes (c.accession.auto.codes ∙ c.as_mut_slice-3.ensures.len) in
    let marks = with_items_is desk.marks c.accession.new.marks (c.accession.auto.marks ∙ c.as_mut_slice-4.ensures.len) in
    called g.F.Filter.rule g.F.Filter.reaches g.F.Filter.stands (λ l. accession l c.args.file.now) (λ n. n) desk _ c.accession.result _ _ _ _ _ _
    c.as_mut_slice.ensures.value c.as_mut_slice-2.ensures.value c.as_mut_slice-3.ensures.value c.as_mut_slice-4.ensures.value
    (sym store) (sym list) (ap length codes ∙ c.accession.auto.codes) (ap length marks ∙ c.accession.auto.marks) c.accession.ensures.kept
