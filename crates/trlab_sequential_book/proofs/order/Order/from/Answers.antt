use Rattle.std.proofs.Common.{refl}
use Rattle.trlab_sequential_book.proofs.order.Order.from.Goals as goal

pub returns : goal.returns
returns c = refl
