use Rattle.trlab_step.proofs.PartLaws.{speeds_are_one, speeds_join}
use Rattle.trlab_step.proofs.laws.speeds_join.Goals as goal

pub returns : goal.returns
returns c = record { one = speeds_are_one; join = speeds_join }
