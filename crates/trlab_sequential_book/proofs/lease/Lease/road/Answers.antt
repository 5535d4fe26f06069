use Rattle.std.proofs.Common.{ap}
use Rattle.trlab_sequential_book.specs.Leases.{LeaseState}
use Rattle.trlab_sequential_book.proofs.lease.Lease.road.Goals as goal

pub returns-clause-value : goal.returns-clause-value
returns-clause-value c = rw c.deref.ensures (ap (λ (lease : LeaseState). lease.road) c.self.view_is)
