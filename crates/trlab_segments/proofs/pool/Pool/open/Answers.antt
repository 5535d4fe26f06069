use Rattle.std.proofs.Common.{rules, ap}
use Rattle.trlab_segments.specs.declared.pool.task.Task.{Task}
use Rattle.trlab_segments.proofs.pool.Pool.open.Goals as goal

pub returns : goal.returns
returns g c = rw (← ap (λ (t : Task g.row.A.Denot g.row.P.Denot). t.brief.road) c.deref.ensures) (search rules)
