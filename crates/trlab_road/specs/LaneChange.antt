-- The lane change, the first phase of a step on two lanes (Rickert, Nagel, Schreckenberg and Latour 1996):
-- all cars that change lanes do so at once. A function of a lane and a place, `crosses`, or a
-- list of answers in standing order states whether each car changes lanes.
use Rattle.std.specs.Prelude.{◌≡◌, ℕ, ◌-◌, ◌<◌, Bool, true, false, cond, Some, None, List, length, map}
use Rattle.std.specs.{Prelude.slice_index_or, List.range_with_len, Option.option_or}
use Rattle.trlab_road.specs.{declared.car.Car.Car, Cells.{Cell, Lane, Cells, IsAt, at, cell, lane_of, cars}}
use Rattle.trlab_road.specs.{Cells.{IsNthCar, rank}, Gaps.side, Motion.in_order}

-- the other lane of a road with two lanes: 1 for lane 0, and 0 for lane 1
abbrev pub other_lane : ℕ → ℕ
other_lane l = 1 - l

-- the cell `own` after the lane change: its own car if that stays, otherwise the car of the side cell
-- `beside` if that crosses, otherwise empty
abbrev pub cell_after_change : Bool → Bool → Cell → Cell → Cell
cell_after_change own_crosses beside_crosses own beside =
    option_or (cond own_crosses None own) (cond beside_crosses beside None)

-- lane `new` is lane `own` after the lane change: its car at place x leaves if `own_crosses x`, and the car
-- at place x of lane `beside` arrives if `beside_crosses x`, unless a car stays there
pub record LaneCrosses (own_crosses beside_crosses : ℕ → Bool) (own beside new : Lane) : Type 0 where
  pub same_length : length new ≡ length own
  pub each_cell : (x : ℕ) → x < length own
      → at new x ≡ cell_after_change (own_crosses x) (beside_crosses x) (at own x) (at beside x)

-- road `new` is road `old` after the lane change: the car on lane l at place x crosses if `crosses l x`;
-- for example, if only the car at place 2 crosses, `1.0.` and `....` become `1...` and `..0.`
pub record ChangesLanes (crosses : ℕ → ℕ → Bool) (old new : Cells) : Type 0 where
  pub same_limit : new.limit ≡ old.limit
  pub same_lanes : length new.lanes ≡ length old.lanes
  pub each_lane : (l : ℕ) → l < length old.lanes
      → LaneCrosses (crosses l) (crosses (other_lane l))
      (lane_of old l) (lane_of old (other_lane l)) (lane_of new l)

-- lane l of a road after the lane change: each of its cells follows from the cells of both lanes at its place
abbrev pub lane_after_change : (ℕ → ℕ → Bool) → Cells → ℕ → Lane
lane_after_change crosses road l =
    let other = other_lane l in
    let places = range_with_len 0 (length (lane_of road l)) in
    map (λ x. cell_after_change (crosses l x) (crosses other x) (cell road l x) (cell road other x)) places

-- a road after the lane change, in which the car on lane l at place x crosses if `crosses l x`
abbrev pub road_after_change : (ℕ → ℕ → Bool) → Cells → Cells
road_after_change crosses road =
    let lanes = range_with_len 0 (length road.lanes) in
    record { limit = road.limit; lanes = map (lane_after_change crosses road) lanes }

-- the road has two lanes, and a car for which `crosses` is true has an empty side cell
pub record CrossesToEmpty (crosses : ℕ → ℕ → Bool) (road : Cells) : Type 0 where
  pub two_lanes : length road.lanes ≡ 2
  pub side_empty : (car : Car) → IsAt road car → crosses car.lane car.place ≡ true
      → cell road (other_lane car.lane) car.place ≡ None

-- a car after it has crossed: at the same place on the other lane, with the same number and speed
abbrev pub car_after_crossing : Car → Car
car_after_crossing car = record {
  number = car.number;
  lane = other_lane car.lane;
  place = car.place;
  speed = car.speed;
}

-- a car of road `old` is still in its cell on road `new`, or has crossed to its side cell, which was empty;
-- its number and its speed are unchanged
pub data StaysOrCrosses (old new : Cells) (car : Car) : Type 0 where
  on_own_lane : IsAt new car → StaysOrCrosses old new car
  on_other_lane : cell old (other_lane car.lane) car.place ≡ None → IsAt new (car_after_crossing car)
      → StaysOrCrosses old new car

-- the lane change from `old` to `new` loses and adds no car: each stays or crosses to an empty side cell, and
-- each car of `new` was at the same place of some lane, with the same number and speed
pub record IsCleanLaneChange (old new : Cells) : Type 0 where
  pub same_count : cars new ≡ cars old
  pub none_lost : (car : Car) → IsAt old car → StaysOrCrosses old new car
  pub none_made : (car : Car) → IsAt new car
      → (l : ℕ) × (cell old l car.place ≡ Some (car.number, car.speed))

-- `value` is the result of `look` for the other lane, at the place of the k-th car in standing order; any
-- value if there is no k-th car
abbrev pub IsValueOnOtherLane : {X : Type 0} → (Lane → ℕ → X) → Cells → ℕ → X → Type 0
IsValueOnOtherLane look road k value = (car : Car) → IsNthCar road k car
    → value ≡ look (lane_of road (other_lane car.lane)) car.place

-- `gap` is the result of `look`, such as `sidegap` or `sideback`, for the other lane, at the place of the
-- k-th car in standing order (any number if there is no k-th car), and it is below the lane length
pub record IsGapOnOtherLane (look : Lane → ℕ → ℕ) (road : Cells) (k gap : ℕ) : Type 0 where
  pub of_car : IsValueOnOtherLane look road k gap
  pub below : gap < length (lane_of road 0)

-- for each car of a road with two lanes, in standing order: is its side cell empty?
abbrev pub sides : Cells → List Bool
sides road = in_order (λ l x. side (lane_of road (other_lane l)) x) road

-- does the car on lane l at place x cross? `answers` lists this for the cars in standing order; false if the
-- list is too short
abbrev pub crosses_at : Cells → List Bool → ℕ → ℕ → Bool
crosses_at road answers l x = slice_index_or answers (rank road l x) false

-- `answers` lists, for each car of a road with two lanes in standing order, whether the car crosses; this is
-- true only for cars whose side cell is empty
pub record AreSafeCrossings (road : Cells) (answers : List Bool) : Type 0 where
  pub two_lanes : length road.lanes ≡ 2
  pub one_each : length answers ≡ cars road
  pub side_empty : (k : ℕ) → k < cars road
      → slice_index_or answers k false ≡ true → slice_index_or (sides road) k false ≡ true
