use Rattle.std.proofs.Common.{sym, subst}
use Rattle.trlab_road.specs.{Cells.Cells, LaneChange.{ChangesLanes, road_after_change}}
use Rattle.trlab_road.proofs.LaneChangeLaws.{crosses_by, road_after_change_is, one_road_after_change}
use Rattle.trlab_road.proofs.LaneChangeLaws.{lane_change_clean, lane_change_legal}
use Rattle.trlab_road.proofs.laws.lane_change_is_clean.Goals as goal

pub returns : goal.returns
returns c = record {
  one_road = λ crosses old new. (
    λ m. one_road_after_change crosses old new (road_after_change crosses old) m (road_after_change_is crosses old),
    λ is. subst (λ (road : Cells). ChangesLanes crosses old road) (sym is) (road_after_change_is crosses old),
  );
  by_cars = crosses_by;
  clean = λ crosses old new legal free m. lane_change_clean crosses old new legal m free;
  legal = λ crosses old new legal free m. lane_change_legal crosses old new legal m free;
}
