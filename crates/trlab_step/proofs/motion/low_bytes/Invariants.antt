use Rattle.std.proofs.Common.{◌≡◌, ◌<◌, ◌%◌, ℕ, length, slice_index}
use Rattle.trlab_step.proofs.motion.low_bytes.Given as goal

abbrev pub invariant-loop-k : goal.invariant-loop-k
invariant-loop-k g l = (length l.bytes ≡ g.row.N) × ((k : ℕ) → k < l.k → slice_index l.bytes k ≡ slice_index l.numbers k % 256)
