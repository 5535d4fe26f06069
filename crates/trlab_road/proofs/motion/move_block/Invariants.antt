use Rattle.std.proofs.Common.{◌≡◌, ◌<◌, ◌+◌, ℕ, length, slice_index, slice_index_or}
use Rattle.trlab_road.specs.{declared.motion.TheConstants.MOVED_TOGETHER, Stored.{moved_ahead, no_car}}
use Rattle.trlab_road.proofs.motion.move_block.Given as goal

-- the first cars went ahead
abbrev pub invariant-loop-k : goal.invariant-loop-k
invariant-loop-k l = (length l.moved ≡ MOVED_TOGETHER) × ((k : ℕ) → k < l.k → slice_index_or l.moved k no_car
    ≡ moved_ahead (slice_index_or l.cars (l.at + k) no_car) (slice_index l.speeds (l.from + k)))
