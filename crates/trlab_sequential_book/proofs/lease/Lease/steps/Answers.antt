use Rattle.std.proofs.Common.{ap}
use Rattle.trlab_sequential_book.specs.Leases.{LeaseState}
use Rattle.trlab_sequential_book.proofs.lease.Lease.steps.Goals as goal

pub returns : goal.returns
returns c = ap (λ (lease : LeaseState). lease.steps) c.self.view_is
