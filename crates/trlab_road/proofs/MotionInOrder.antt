-- The motion phase by answers in standing order.
use Rattle.std.proofs.Common.{◌≡◌, ℕ, List, length, get_or, ◌∙◌, ap, slice_index}
use Rattle.trlab_road.specs.{Cells.{Cells, lane_of, AgreeAtCars, IsLegal, rank}, Gaps.{ahead, gap}}
use Rattle.trlab_road.specs.Motion.{in_order, AreSafeSpeeds, Fits, Moves, IsCleanMotion}
use Rattle.trlab_road.proofs.MotionLaws.{moved_legal, moves_clean}
use Rattle.trlab_road.proofs.{StandingOrder.{in_order_at, rank_below_cars}, Ring.car_in}

-- the answer of the car at a lane and a place, from the answers in standing order
abbrev pub answer_at : Cells → List ℕ → ℕ → ℕ → ℕ
answer_at road answers l x = slice_index answers (rank road l x)

-- allowed answers in standing order fit each car in its cell
pub allowed_fits : (road : Cells) (answers : List ℕ) → AreSafeSpeeds road answers
    → Fits (answer_at road answers) road
allowed_fits road answers allowed = record {
  each_lane = λ l h. record {
    gaps = λ x number speed here.
        let k = allowed.within_gaps (rank road l x) (rank_below_cars road l x (number, speed) here) in
        let e = in_order_at (λ m y. gap (lane_of road m) y) 0 road l x number speed here in
        rw e at k;
  };
  within_limit = λ car here. allowed.within_limit (rank road car.lane car.place) (rank_below_cars road car.lane car.place (car.number, car.speed) here);
}

-- the motion phase depends on the answers only at cars
pub moves_by : (answer other : ℕ → ℕ → ℕ) (old new : Cells)
    → AgreeAtCars answer other old
    → Moves answer old new → Moves other old new
moves_by answer other old new same m = record {
  same_limit = m.same_limit;
  same_lanes = m.same_lanes;
  each_lane = λ l h. let lane = m.each_lane l h in record {
    same_length = lane.same_length;
    arrives = λ x number speed here. rw (same (car_in l x number speed) here) at (lane.arrives x number speed here);
    nothing_else = λ y number speed there.
        let came = lane.nothing_else y number speed there in
        let e = same (car_in l came.0 number came.1.0) came.1.1.was in
        (came.0, (came.1.0, record { was = came.1.1.was; reaches = came.1.1.reaches ∙ ap (ahead (length (lane_of old l)) came.0) e; at_speed = came.1.1.at_speed ∙ e }));
  };
}

pub moves_in_order : (road new : Cells) (answers : List ℕ) → Moves (answer_at road answers) road new
    → (answer : ℕ → ℕ → ℕ) → answers ≡ in_order answer road → Moves answer road new
moves_in_order road new answers m answer is =
    moves_by (answer_at road answers) answer road new
    (λ car here. ap (λ (xs : List ℕ). get_or xs (rank road car.lane car.place) 0) is ∙ in_order_at answer 0 road car.lane car.place car.number car.speed here) m

-- if the answers are allowed, the road after the motion is legal, and the motion is clean
pub allowed_legal : (road new : Cells) (answers : List ℕ) → IsLegal road → AreSafeSpeeds road answers
    → Moves (answer_at road answers) road new → IsLegal new
allowed_legal road new answers legal allowed m = moved_legal (answer_at road answers) road new legal m (allowed_fits road answers allowed)

pub allowed_clean : (road new : Cells) (answers : List ℕ) → IsLegal road → AreSafeSpeeds road answers
    → Moves (answer_at road answers) road new → IsCleanMotion road new
allowed_clean road new answers legal allowed m = moves_clean (answer_at road answers) road new legal m (allowed_fits road answers allowed)
