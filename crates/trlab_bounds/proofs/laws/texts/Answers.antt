use Rattle.std.proofs.Common.{refl}
use Rattle.trlab_bounds.proofs.laws.texts.Goals as goal

pub returns-clause-text : goal.returns-clause-text
returns-clause-text c = refl

pub returns-clause-longest : goal.returns-clause-longest
returns-clause-longest c = refl
