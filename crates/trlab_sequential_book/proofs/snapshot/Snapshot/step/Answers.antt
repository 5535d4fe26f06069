use Rattle.std.proofs.Common.{ap}
use Rattle.trlab_step.specs.Run.{Progress}
use Rattle.trlab_sequential_book.proofs.snapshot.Snapshot.step.Goals as goal

pub returns : goal.returns
returns c = ap (λ (seen : Progress). seen.step) c.self.view_is
