use Rattle.std.proofs.Common.{refl}
use Rattle.trlab_road.proofs.spreading.flat_cell.Goals as goal

pub returns : goal.returns
returns c = refl
