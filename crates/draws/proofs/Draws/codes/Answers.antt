use Rattle.std.proofs.Common.{◌-◌, ◌≤◌, ◌∙◌, length, get_or, sym, ap, subst}
use Rattle.draws.proofs.Drawing.{state_more, codes_more, state_last, codes_last, drawn_many, drawn_lows}
use Rattle.draws.proofs.Draws.codes.Goals as goal

pub loop-preserved : goal.loop-preserved
loop-preserved c =
    let loop = c.loop in
    let code = c.code.ensures in
    let top = c.args.alphabet - 1 in record {
      state = loop.invariant.state ∙ state_more loop.self.state top c.args.n loop.counter c.code.new.self.state c.loop-test.true code.state;
      value =
          loop.invariant.value
          ∙ codes_more loop.self.state top c.args.n loop.counter c.code.new.self.state c.loop-test.true code.state loop.codes.items c.push.new.self.items c.code.result code.value c.in_ok-push.ensures.items;
    }

pub returns-clause-state : goal.returns-clause-state
returns-clause-state c = sym (c.loop.invariant.state ∙ state_last c.loop.self.state 0 c.args.n c.loop.counter c.loop-test.false)

pub returns-clause-value : goal.returns-clause-value
returns-clause-value c = sym (c.loop.invariant.value ∙ codes_last c.loop.self.state (c.args.alphabet - 1) c.args.n c.loop.counter c.loop-test.false c.loop.codes.items)

pub returns-clause-bound : goal.returns-clause-bound
returns-clause-bound c =
    let top = c.args.alphabet - 1 in
    let are = returns-clause-value c in (
      c.loop.codes.ok.0 ∙ ap length are ∙ drawn_many c.args.self.now.state top c.args.n,
      λ i h. subst (λ xs. get_or xs i 0 ≤ top) (sym are) (drawn_lows c.args.self.now.state top c.args.n i h),
    )
