use Rattle.std.proofs.Common.{ap}
use Rattle.trlab_sequential_book.specs.Leases.{LeaseState}
use Rattle.trlab_sequential_book.proofs.lease.Lease.base_road.Goals as goal

pub returns : goal.returns
returns c = rw c.get.ensures (ap (λ (lease : LeaseState). lease.base.road) c.self.view_is)
