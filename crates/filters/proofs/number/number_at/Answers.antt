use Rattle.std.proofs.Common.{◌+◌, ◌*◌, ◌%◌, get_or, refl, arith, rules, tests}
use Rattle.std.proofs.lemmas.Iterator.{YieldsList-from_range}
use Rattle.std.proofs.lemmas.Iterator.Consumers.{fold_from_yields_List}
use Rattle.filters.proofs.Digits.{spot, number_small}
use Rattle.filters.proofs.Folding.{callable_in_range, number_fold}
use Rattle.filters.proofs.number.number_at.Goals as goal

pub fold-requires-clause-callable : goal.fold-requires-clause-callable
fold-requires-clause-callable c =
    callable_in_range (λ x p q k. search (rules, tests)) (λ x v lo hi. let h = spot x c.args.shape.size c.args.shape.gap hi in search rules)

pub returns : goal.returns
returns c =
    let e =
    number_fold c.args.shape.size c.args.shape.gap c.args.codes.now c.fold.result
    (fold_from_yields_List _ (λ v x. (v * 640 + get_or c.args.codes.now (x * c.args.shape.gap) 0) % 1021) 0 c.fold.result c.fold.ensures.ran
    (YieldsList-from_range 0 c.args.shape.size c.args.shape.size refl (omega arith)) (λ a x b q k. search (rules, tests))) in
    (e, omega (arith, e, number_small c.args.shape.size c.args.shape.gap c.args.codes.now 0))
