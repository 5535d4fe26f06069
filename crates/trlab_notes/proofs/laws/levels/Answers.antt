use Rattle.std.proofs.Common.{refl}
use Rattle.trlab_notes.proofs.laws.levels.Goals as goal

pub returns-clause-at_most : goal.returns-clause-at_most
returns-clause-at_most c = refl

pub returns-clause-below : goal.returns-clause-below
returns-clause-below c = refl
