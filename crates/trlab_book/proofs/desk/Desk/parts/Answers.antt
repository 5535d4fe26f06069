use Rattle.std.proofs.Common.{refl}
use Rattle.trlab_book.proofs.desk.Desk.parts.Goals as goal

pub returns : goal.returns
returns g c = refl
