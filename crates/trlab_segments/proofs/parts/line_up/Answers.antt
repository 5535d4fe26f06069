use Rattle.std.proofs.Common.{rules}
use Rattle.trlab_segments.proofs.parts.line_up.Goals as goal

pub loop-number-init : goal.loop-number-init
loop-number-init g c = search rules
