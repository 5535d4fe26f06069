use Rattle.std.proofs.Common.{arith}
use Rattle.trlab_step.proofs.for_embedders.commit_motion.Goals as goal

pub speeds_to_bytes-requires : goal.speeds_to_bytes-requires
speeds_to_bytes-requires c k low =
    let allowed = c.requires.within_limit k (let one_each = c.requires.one_each in omega (arith, low, one_each)) in
    let limit = c.snapshot-start.ensures.legal.shape.limit.low_limit in
    omega (arith, allowed, limit)
