use Rattle.std.proofs.Common.{◌≡◌, ℕ, ◌-◌, ◌<◌, length, get_or, refl, ◌∙◌, arith}
use Rattle.filters.specs.Tuples.{tuple_number}
use Rattle.filters.proofs.Digits.{number_small}
use Rattle.filters.proofs.Cutting.{number_rest}
use Rattle.filters.proofs.Numbering.{filling_more, rolls_to}
use Rattle.filters.proofs.number.number_all.Goals as goal
use Rattle.filters.proofs.number.number_all.Goals.{then-i-gap, else-i-gap}

pub rolled-requires : goal.rolled-requires
rolled-requires c =
    let g : ℕ = c.args.shape.gap in
    let e = c.loop-i.invariant.numbers (c.loop-i.i - c.args.shape.gap) (omega (arith, c.args.shape.apart)) in
    let s = number_small c.args.shape.size c.args.shape.gap c.args.codes.now (c.loop-i.i - c.args.shape.gap) in
    (omega arith, omega (arith, c.power-top.ensures))

pub loop-i-preserved : goal.loop-i-preserved
loop-i-preserved c =
    let lt : c.loop-i.i < length c.args.out.now = omega arith in
    let is : c.if-i-gap.out ≡ tuple_number c.args.shape.size c.args.shape.gap c.args.codes.now c.loop-i.i =
    elim c.if-i-gap.branch [
      | then-i-gap w ↦ w.out-is ∙ (w.number_at.ensures.0 ∙ number_rest c.args.shape.size c.args.shape.gap c.args.codes.now c.loop-i.i)
      | else-i-gap w ↦
          w.out-is ∙ (w.rolled.ensures ∙ rolls_to c.args.shape.size c.args.shape.gap c.args.codes.now c.loop-i.i (get_or c.loop-i.out (c.loop-i.i - c.args.shape.gap) 0) c.power-top.result c.span-span.result
          c.args.shape.some w.if-i-gap.false
          (c.loop-i.invariant.numbers (c.loop-i.i - c.args.shape.gap) (omega (arith, c.args.shape.apart, w.if-i-gap.false))) c.power-top.ensures c.span-span.ensures)
    ] in
    filling_more c.args.shape.size c.args.shape.gap c.args.codes.now c.args.out.now c.loop-i.out _ c.loop-i.i c.if-i-gap.out c.loop-i.invariant lt is refl
