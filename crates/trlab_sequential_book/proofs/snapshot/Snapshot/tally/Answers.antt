use Rattle.std.proofs.Common.{ap}
use Rattle.trlab_step.specs.Run.{Progress}
use Rattle.trlab_sequential_book.proofs.snapshot.Snapshot.tally.Goals as goal

pub returns-clause-run : goal.returns-clause-run
returns-clause-run c = rw (← c.self.view_is) (c.self.inside.road, c.self.invariant.comes)

pub returns-clause-value : goal.returns-clause-value
returns-clause-value c = ap (λ (seen : Progress). seen.sum) c.self.view_is
