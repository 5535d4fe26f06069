use Rattle.trlab_road.proofs.{MotionLaws.one_road_only, MotionExists.road_moves_somewhere}
use Rattle.trlab_road.proofs.MotionInOrder.{moves_by}
use Rattle.trlab_road.proofs.laws.motion_gives_one_road.Goals as goal

pub returns : goal.returns
returns c = record { some_road = road_moves_somewhere; one_road = one_road_only; by_cars = moves_by }
