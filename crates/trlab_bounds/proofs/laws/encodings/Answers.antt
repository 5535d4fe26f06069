use Rattle.std.proofs.Common.{refl}
use Rattle.trlab_bounds.proofs.laws.encodings.Goals as goal

pub returns-clause-magic : goal.returns-clause-magic
returns-clause-magic c = refl

pub returns-clause-version : goal.returns-clause-version
returns-clause-version c = refl

pub returns-clause-headspeed : goal.returns-clause-headspeed
returns-clause-headspeed c = refl

pub returns-clause-header : goal.returns-clause-header
returns-clause-header c = refl

pub returns-clause-instruction : goal.returns-clause-instruction
returns-clause-instruction c = refl
