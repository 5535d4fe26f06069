use Rattle.std.proofs.Common.{refl}
use Rattle.trlab_jobs.proofs.limits.sweeps.Goals as goal

pub returns-clause-cars : goal.returns-clause-cars
returns-clause-cars c = refl

pub returns-clause-largest : goal.returns-clause-largest
returns-clause-largest c = refl

pub returns-clause-points : goal.returns-clause-points
returns-clause-points c = refl

pub returns-clause-work : goal.returns-clause-work
returns-clause-work c = refl

pub returns-clause-steps : goal.returns-clause-steps
returns-clause-steps c = refl
