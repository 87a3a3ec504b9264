use Rattle.trace.proofs.Digits.{reads_back}
use Rattle.trace.proofs.number.number.Goals as goal

pub returns-clause-reads_back : goal.returns-clause-reads_back
returns-clause-reads_back c = reads_back c.args.bytes.now c.decode.result c.decode.ensures.is
