use Rattle.trlab_step.proofs.RunLaws.{road_is_unique}
use Rattle.trlab_step.proofs.laws.road_is_unique.Goals as goal

pub returns : goal.returns
returns c = road_is_unique
