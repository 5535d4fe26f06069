use Rattle.trlab_step.proofs.NextLaws.{next_road_exists}
use Rattle.trlab_step.proofs.laws.next_road_exists.Goals as goal

pub returns : goal.returns
returns c = next_road_exists
