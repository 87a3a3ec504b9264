use Rattle.std.proofs.Common.{length, arith, length-append}
use Rattle.std.proofs.lemmas.Slice.Zip.{zip_turn, zip_end}
use Rattle.search.proofs.Comparing.{agrees_more, differs_more, too_many, all_compared}
use Rattle.search.proofs.compare.compare.Goals as goal

pub returns-then-n-k : goal.returns-then-n-k
returns-then-n-k g c =
    let t = zip_turn c.args.window.now c.args.other.now c.loop-code.yielded c.into_iter-code-iterator.result c.loop-code.code-iterator c.next.new.self c.next.result (cc) (cc) c.loop-code.yielded_by (c.in-Some.code, c.in-Some.opposite) c.in-Some.is c.next.ensures.steps in
    let e = differs_more g.S.Sample.kind.agree c.args.window.now c.args.other.now (length c.loop-code.yielded) c.in-Some.code.now c.in-Some.opposite.now (t.2 0) (t.3 0) c.if-not-agree.ensures in
    too_many g.S.Sample.kind.agree c.args.window.now c.args.other.now c.args.k (length c.loop-code.yielded) (length c.args.window.now) t.0 (omega arith)

pub loop-code-preserved-then-not-agree : goal.loop-code-preserved-then-not-agree
loop-code-preserved-then-not-agree g c =
    let t = zip_turn c.args.window.now c.args.other.now c.loop-code.yielded c.into_iter-code-iterator.result c.loop-code.code-iterator c.next.new.self c.next.result (cc) (cc) c.loop-code.yielded_by (c.in-Some.code, c.in-Some.opposite) c.in-Some.is c.next.ensures.steps in
    let e = differs_more g.S.Sample.kind.agree c.args.window.now c.args.other.now (length c.loop-code.yielded) c.in-Some.code.now c.in-Some.opposite.now (t.2 0) (t.3 0) c.if-not-agree.ensures in
    rw (length-append c.loop-code.yielded) (omega arith, omega arith, omega arith, omega arith)

pub loop-code-preserved : goal.loop-code-preserved
loop-code-preserved g c =
    let t = zip_turn c.args.window.now c.args.other.now c.loop-code.yielded c.into_iter-code-iterator.result c.loop-code.code-iterator c.next.new.self c.next.result (cc) (cc) c.loop-code.yielded_by (c.in-Some.code, c.in-Some.opposite) c.in-Some.is c.next.ensures.steps in
    let e = agrees_more g.S.Sample.kind.agree c.args.window.now c.args.other.now (length c.loop-code.yielded) c.in-Some.code.now c.in-Some.opposite.now (t.2 0) (t.3 0) c.if-not-agree.ensures in
    rw (length-append c.loop-code.yielded) (omega arith, omega arith, omega arith, omega arith)

pub returns : goal.returns
returns g c =
    let t = zip_end c.args.window.now c.args.other.now c.loop-code.yielded c.into_iter-code-iterator.result c.loop-code.code-iterator c.next.new.self c.next.result (cc) (cc) c.loop-code.yielded_by c.in-None.is c.next.ensures.steps in
    all_compared g.S.Sample.kind.agree c.args.window.now c.args.other.now c.args.k c.loop-code.n (length c.loop-code.yielded) (length c.args.window.now) c.loop-code.invariant.0 (omega arith) (omega arith)
