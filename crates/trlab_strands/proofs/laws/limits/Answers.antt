use Rattle.std.proofs.Common.{refl}
use Rattle.trlab_strands.proofs.laws.limits.Goals as goal

pub returns : goal.returns
returns c = record { parts = refl }
