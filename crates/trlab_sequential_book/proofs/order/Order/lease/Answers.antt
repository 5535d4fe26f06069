use Rattle.std.proofs.Common.{refl}
use Rattle.trlab_sequential_book.proofs.order.Order.lease.Goals as goal

pub returns : goal.returns
returns c = refl
