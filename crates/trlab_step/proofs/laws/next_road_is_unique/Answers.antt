use Rattle.trlab_step.proofs.NextLaws.{next_road_is_unique}
use Rattle.trlab_step.proofs.laws.next_road_is_unique.Goals as goal

pub returns : goal.returns
returns c = next_road_is_unique
