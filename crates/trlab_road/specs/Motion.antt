-- The motion, the second phase of a step (Nagel and Schreckenberg 1992): all cars move at once. A function
-- of a lane and a place, `answer`, or a list in standing order gives the number of cells that each car moves.
use Rattle.std.specs.Prelude.{◌≡◌, ℕ, ◌<◌, ◌≤◌, Some, None, List, length, map, slice_index}
use Rattle.trlab_road.specs.{declared.car.Car.Car, Cells.{Lane, Cells, IsAt, at, lane_of, cars}}
use Rattle.trlab_road.specs.{Cells.{lane_car_count, IsNthCar, standing}, Gaps.{ahead, gap}}

-- the car with this number and speed, at y after the motion of lane `old`, was at x with the speed `before`
-- and has moved `answer x` cells, its new speed
pub record ComesFrom (answer : ℕ → ℕ) (old : Lane) (y number speed x before : ℕ) : Type 0 where
  pub was : at old x ≡ Some (number, before)
  pub reaches : y ≡ ahead (length old) x (answer x)
  pub at_speed : speed ≡ answer x

-- lane `new` is lane `old` after the motion: the car at x has moved `answer x` cells ahead, its new speed,
-- and no other cell holds a car; for example, with the answers 2 and 1 the lane `1..0.` becomes `..2.1`
pub record LaneMoves (answer : ℕ → ℕ) (old new : Lane) : Type 0 where
  pub same_length : length new ≡ length old
  pub arrives : (x number speed : ℕ)
      → at old x ≡ Some (number, speed)
      → at new (ahead (length old) x (answer x)) ≡ Some (number, answer x)
  pub nothing_else : (y number speed : ℕ)
      → at new y ≡ Some (number, speed)
      → (x : ℕ) × ((before : ℕ) × ComesFrom answer old y number speed x before)

-- road `new` is road `old` after the motion: the car on lane l at place x has moved `answer l x` cells ahead
pub record Moves (answer : ℕ → ℕ → ℕ) (old new : Cells) : Type 0 where
  pub same_limit : new.limit ≡ old.limit
  pub same_lanes : length new.lanes ≡ length old.lanes
  pub each_lane : (l : ℕ) → l < length old.lanes
      → LaneMoves (answer l) (lane_of old l) (lane_of new l)

-- the answer of each car on a lane is at most the gap ahead of it
pub record LaneFits (answer : ℕ → ℕ) (lane : Lane) : Type 0 where
  pub gaps : (x number speed : ℕ)
      → at lane x ≡ Some (number, speed) → answer x ≤ gap lane x

-- the answer of each car on a road is at most the gap ahead of it, and at most the limit
pub record Fits (answer : ℕ → ℕ → ℕ) (road : Cells) : Type 0 where
  pub each_lane : (l : ℕ) → l < length road.lanes → LaneFits (answer l) (lane_of road l)
  pub within_limit : (car : Car) → IsAt road car → answer car.lane car.place ≤ road.limit

-- the g cells ahead of place x on a lane are empty
pub record IsClearAhead (lane : Lane) (x g : ℕ) : Type 0 where
  pub clear : (j : ℕ) → 1 ≤ j → j ≤ g → at lane (ahead (length lane) x j) ≡ None

-- the car from place x of lane `old` is `speed` cells ahead on lane `new`, with this number and speed, and it
-- has moved over cells that were empty
pub record GoesAhead (old new : Lane) (x number speed : ℕ) : Type 0 where
  pub arrives : at new (ahead (length old) x speed) ≡ Some (number, speed)
  pub over_empty : IsClearAhead old x speed

-- the motion of a lane from `old` to `new` is clean: no car is lost or added, and each has moved ahead over
-- empty cells by its new speed
pub record IsCleanLaneMotion (old new : Lane) : Type 0 where
  pub same_count : lane_car_count new ≡ lane_car_count old
  pub none_lost : (x number before : ℕ)
      → at old x ≡ Some (number, before) → (speed : ℕ) × GoesAhead old new x number speed
  pub none_made : (y number speed : ℕ)
      → at new y ≡ Some (number, speed)
      → (x : ℕ) × ((before : ℕ) × (at old x ≡ Some (number, before)))

-- the motion of a road from `old` to `new` is clean: on each lane no car is lost or added, and each has moved
-- ahead over empty cells
pub record IsCleanMotion (old new : Cells) : Type 0 where
  pub same_lanes : length new.lanes ≡ length old.lanes
  pub each_lane : (l : ℕ) → l < length old.lanes → IsCleanLaneMotion (lane_of old l) (lane_of new l)

-- the list of the values of `answer`, a function of a lane and a place, at the cars of a road in standing
-- order
abbrev pub in_order : {X : Type 0} → (ℕ → ℕ → X) → Cells → List X
in_order answer road = map (λ (car : Car). answer car.lane car.place) (standing road)

-- `value` is the result of `look` for the lane and the place of the k-th car in standing order; any value if
-- there is no k-th car
abbrev pub IsValueOnOwnLane : {X : Type 0} → (Lane → ℕ → X) → Cells → ℕ → X → Type 0
IsValueOnOwnLane look road k value = (car : Car) → IsNthCar road k car
    → value ≡ look (lane_of road car.lane) car.place

-- the gap ahead of each car of a road, in standing order
abbrev pub gaps : Cells → List ℕ
gaps road = in_order (λ l x. gap (lane_of road l) x) road

-- `answers` lists a number of cells for each car in standing order, at most the car's gap and the limit
pub record AreSafeSpeeds (road : Cells) (answers : List ℕ) : Type 0 where
  pub one_each : length answers ≡ cars road
  pub within_gaps : (k : ℕ) → k < cars road → slice_index answers k ≤ slice_index (gaps road) k
  pub within_limit : (k : ℕ) → k < cars road → slice_index answers k ≤ road.limit
