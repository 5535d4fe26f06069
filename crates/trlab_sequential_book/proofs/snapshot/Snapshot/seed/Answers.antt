use Rattle.std.proofs.Common.{ap}
use Rattle.trlab_step.specs.Run.{Progress}
use Rattle.trlab_sequential_book.proofs.snapshot.Snapshot.seed.Goals as goal

pub returns-clause-value : goal.returns-clause-value
returns-clause-value c = rw c.get.ensures (ap (λ (seen : Progress). seen.seed) c.self.view_is)

pub returns-clause-legal : goal.returns-clause-legal
returns-clause-legal c = rw c.get.ensures c.self.invariant.legal
