use Rattle.std.proofs.Common.{refl}
use Rattle.trlab_bounds.proofs.laws.runs.Goals as goal

pub returns-clause-steps : goal.returns-clause-steps
returns-clause-steps c = refl

pub returns-clause-later : goal.returns-clause-later
returns-clause-later c = refl

pub returns-clause-workers : goal.returns-clause-workers
returns-clause-workers c = refl

pub returns-clause-runners : goal.returns-clause-runners
returns-clause-runners c = refl
