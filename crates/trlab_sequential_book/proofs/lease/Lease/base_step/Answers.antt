use Rattle.std.proofs.Common.{ap}
use Rattle.trlab_sequential_book.specs.Leases.{LeaseState}
use Rattle.trlab_sequential_book.proofs.lease.Lease.base_step.Goals as goal

pub returns : goal.returns
returns c = ap (λ (lease : LeaseState). lease.base.step) c.self.view_is
