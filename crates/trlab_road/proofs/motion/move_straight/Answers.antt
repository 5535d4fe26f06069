use Rattle.std.proofs.Common.{rules}
use Rattle.trlab_road.proofs.motion.move_straight.Goals as goal

pub loop-index-init : goal.loop-index-init
loop-index-init c = search rules
