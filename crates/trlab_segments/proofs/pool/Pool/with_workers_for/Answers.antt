use Rattle.std.proofs.Common.{rules}
use Rattle.trlab_segments.proofs.pool.Pool.with_workers_for.Goals as goal

pub returns-clause-used : goal.returns-clause-used
returns-clause-used g c = search rules
