use Rattle.trlab_step.proofs.RunLaws.{run_comes_to_road}
use Rattle.trlab_step.proofs.laws.road_exists.Goals as goal

pub returns : goal.returns
returns c = run_comes_to_road
