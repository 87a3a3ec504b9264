use Rattle.std.proofs.Common.{sym}
use Rattle.trace.proofs.Chains.{no_kind}
use Rattle.trace.proofs.file.read_kind.Goals as goal

pub returns-in-Err-clause-is : goal.returns-in-Err-clause-is
returns-in-Err-clause-is c = sym (no_kind c.args.file.now _ (sym c.in_ok-found.ensures.is) c.in-Err.ensures.1)
