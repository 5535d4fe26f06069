use Rattle.std.proofs.Common.{ap}
use Rattle.trlab_step.specs.Run.{Progress}
use Rattle.trlab_sequential_book.proofs.snapshot.Snapshot.sheet.Goals as goal

pub returns-clause-value : goal.returns-clause-value
returns-clause-value c = ap (λ (seen : Progress). seen.sheet) c.self.view_is

pub returns-clause-rules : goal.returns-clause-rules
returns-clause-rules c = rw (← c.self.view_is) c.self.invariant.suits
