use Rattle.std.proofs.Common.{refl}
use Rattle.trlab_sequential_book.proofs.seed.Seed.copy.Goals as goal

pub returns : goal.returns
returns c = rw c.in_ok-road.ensures refl
