-- The lane change by answers in standing order.
use Rattle.std.proofs.Common.{◌≡◌, ℕ, Bool, false, List, get_or, sym, ◌∙◌, ap}
use Rattle.trlab_road.specs.Cells.{Cells, cell, lane_of, IsLegal, rank}
use Rattle.trlab_road.specs.LaneChange.{other_lane, crosses_at, AreSafeCrossings, ChangesLanes}
use Rattle.trlab_road.specs.{LaneChange.{CrossesToEmpty, IsCleanLaneChange}, Gaps.side, Motion.in_order}
use Rattle.trlab_road.proofs.{Ring.none_is, LaneChangeLaws.{crosses_by, lane_change_clean, lane_change_legal}}
use Rattle.trlab_road.proofs.StandingOrder.{in_order_at, rank_below_cars}

-- if the answers in standing order are allowed, cars change lanes only to empty cells
pub allowed_free : (road : Cells) (answers : List Bool) → AreSafeCrossings road answers
    → CrossesToEmpty (crosses_at road answers) road
allowed_free road answers allowed = record {
  two_lanes = allowed.two_lanes;
  side_empty = λ car here goes.
      let k = allowed.side_empty (rank road car.lane car.place) (rank_below_cars road car.lane car.place (car.number, car.speed) here) goes in
      let e = in_order_at (λ m y. side (lane_of road (other_lane m)) y) false road car.lane car.place car.number car.speed here in
      none_is (cell road (other_lane car.lane) car.place) (sym e ∙ k);
}

pub crosses_in_order : (road new : Cells) (answers : List Bool)
    → ChangesLanes (crosses_at road answers) road new
    → (crosses : ℕ → ℕ → Bool) → answers ≡ in_order crosses road → ChangesLanes crosses road new
crosses_in_order road new answers m crosses is =
    crosses_by (crosses_at road answers) crosses road new
    (λ car here. ap (λ (xs : List Bool). get_or xs (rank road car.lane car.place) false) is ∙ in_order_at crosses false road car.lane car.place car.number car.speed here) m

-- if the answers are allowed, the road after the lane change is legal, and the lane change is clean
pub cross_legal : (road new : Cells) (answers : List Bool) → IsLegal road → AreSafeCrossings road answers
    → ChangesLanes (crosses_at road answers) road new → IsLegal new
cross_legal road new answers legal allowed m = lane_change_legal (crosses_at road answers) road new legal m (allowed_free road answers allowed)

pub cross_clean : (road new : Cells) (answers : List Bool) → IsLegal road → AreSafeCrossings road answers
    → ChangesLanes (crosses_at road answers) road new → IsCleanLaneChange road new
cross_clean road new answers legal allowed m = lane_change_clean (crosses_at road answers) road new legal m (allowed_free road answers allowed)
