use Rattle.probe.proofs.Parting.{taken_apart}
use Rattle.probe.proofs.frame.take_frames.Goals as goal

pub returns : goal.returns
returns c = record { is = c.split.ensures; apart = taken_apart c.args.input.now _ c.split.ensures }
