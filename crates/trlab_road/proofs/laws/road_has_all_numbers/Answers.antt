use Rattle.trlab_road.proofs.Numbers.{all_present}
use Rattle.trlab_road.proofs.laws.road_has_all_numbers.Goals as goal

pub returns : goal.returns
returns c = all_present
