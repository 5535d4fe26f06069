use Rattle.std.proofs.Common.{refl}
use Rattle.trlab_machine.proofs.for_embedders.result_number.Goals as goal

pub returns-in-Stay : goal.returns-in-Stay
returns-in-Stay c = rw c.in-Stay.is refl
