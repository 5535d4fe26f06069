use Rattle.trlab_step.proofs.PartLaws.{crossings_are_one, crossings_join}
use Rattle.trlab_step.proofs.laws.crossings_join.Goals as goal

pub returns : goal.returns
returns c = record { one = crossings_are_one; join = crossings_join }
