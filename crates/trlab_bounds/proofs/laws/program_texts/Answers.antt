use Rattle.std.proofs.Common.{refl}
use Rattle.trlab_bounds.proofs.laws.program_texts.Goals as goal

pub returns-clause-greatest : goal.returns-clause-greatest
returns-clause-greatest c = refl

pub returns-clause-digits : goal.returns-clause-digits
returns-clause-digits c = refl

pub returns-clause-label : goal.returns-clause-label
returns-clause-label c = refl
