use Rattle.std.proofs.Common.{refl}
use Rattle.trlab_bounds.proofs.laws.programs.Goals as goal

pub returns-clause-instructions : goal.returns-clause-instructions
returns-clause-instructions c = refl

pub returns-clause-variables : goal.returns-clause-variables
returns-clause-variables c = refl

pub returns-clause-words : goal.returns-clause-words
returns-clause-words c = refl

pub returns-clause-certain : goal.returns-clause-certain
returns-clause-certain c = refl
