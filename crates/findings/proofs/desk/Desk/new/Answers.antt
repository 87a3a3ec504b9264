use Rattle.std.proofs.Common.{◌≡◌, length, sym, ◌∙◌, arith}
use Rattle.std.proofs.lemmas.List.{with_items_is}
use Rattle.findings.proofs.Calling.{opened, never_declined}
use Rattle.findings.proofs.desk.Desk.new.Goals as goal

pub unreachable-requires : goal.unreachable-requires
unreachable-requires g c =
    let store : length c.as_slice.result.now ≡ 32768 = omega (arith, c.as_slice.ensures.len, c.in_ok-store.ensures.len) in
    let list : length c.as_mut_slice.result.now ≡ 2048 = omega (arith, c.as_mut_slice.ensures.len, c.in_ok-list.ensures.len) in
    never_declined _ _ _ store list c.in-Err.ensures.0

pub returns : goal.returns
returns g c =
    let list = c.in_ok-list.list in
    let codes = c.in_ok-codes.codes in
    let marks = c.in_ok-marks.marks in
    opened g.F.Filter.rule g.F.Filter.reaches g.F.Filter.stands _ _ _ _ c.as_slice.ensures.value (sym (with_items_is list c.open.new.list (c.open.auto.list ∙ c.as_mut_slice.ensures.len)))
    (omega (arith, c.as_slice.ensures.len, c.in_ok-store.ensures.len)) (omega (arith, c.as_mut_slice.ensures.len, c.in_ok-list.ensures.len))
    (omega (arith, codes.ok.0, c.in_ok-codes.ensures.len)) (omega (arith, marks.ok.0, c.in_ok-marks.ensures.len)) c.in-Ok.ensures.1
