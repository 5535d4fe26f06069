use Rattle.std.proofs.Common.{ap}
use Rattle.trlab_sequential_book.specs.Leases.{LeaseState}
use Rattle.trlab_sequential_book.proofs.lease.Lease.step.Goals as goal

pub returns-clause-value : goal.returns-clause-value
returns-clause-value c = ap (λ (lease : LeaseState). lease.step) c.self.view_is
