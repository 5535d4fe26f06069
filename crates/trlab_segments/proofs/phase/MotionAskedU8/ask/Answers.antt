use Rattle.std.proofs.Common.{rules}
use Rattle.trlab_segments.proofs.phase.MotionAskedU8.ask.Goals as goal

pub returns : goal.returns
returns c = search rules
