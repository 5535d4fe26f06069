use Rattle.std.proofs.Common.{refl}
use Rattle.trlab_bounds.proofs.laws.roads.Goals as goal

pub returns-clause-limit : goal.returns-clause-limit
returns-clause-limit c = refl

pub returns-clause-length : goal.returns-clause-length
returns-clause-length c = refl

pub returns-clause-lanes : goal.returns-clause-lanes
returns-clause-lanes c = refl

pub returns-clause-gap : goal.returns-clause-gap
returns-clause-gap c = refl
