use Rattle.std.proofs.Common.{arith}
use Rattle.trlab_segments.proofs.pool.within_processors.Goals as goal

pub overflow_cast-result : goal.overflow_cast-result
overflow_cast-result g c = omega (arith, c.if-processors-workers.true, c.ranges.workers)

pub returns-then-processors-workers-clause-at_most_workers : goal.returns-then-processors-workers-clause-at_most_workers
returns-then-processors-workers-clause-at_most_workers g c = omega (arith, c.if-processors-workers.true)
