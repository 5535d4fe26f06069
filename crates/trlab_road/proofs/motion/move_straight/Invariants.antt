use Rattle.std.proofs.Common.{◌+◌, ◌*◌}
use Rattle.trlab_road.specs.{declared.motion.TheConstants.MOVED_TOGETHER, Stored.HaveMovedAhead}
use Rattle.trlab_road.proofs.motion.move_straight.Given as goal

-- the cars of the blocks before this one went ahead
abbrev pub invariant-loop-block : goal.invariant-loop-block
invariant-loop-block l = HaveMovedAhead l.speeds l.from l.fn.cars l.cars (MOVED_TOGETHER * l.block)

-- and the cars of this one up to an index
abbrev pub invariant-loop-k : goal.invariant-loop-k
invariant-loop-k l = HaveMovedAhead l.speeds l.from l.fn.cars l.cars (l.at + l.k)

-- and the cars after all blocks
abbrev pub invariant-loop-index : goal.invariant-loop-index
invariant-loop-index l = HaveMovedAhead l.speeds l.from l.fn.cars l.cars l.index
