-- Roads as contracts see them: a speed limit and lanes of cells; legal roads; the standing order of cars.
use Rattle.std.specs.Prelude.{◌≡◌, ℕ, is_some, Option, Some, None, List, [], slice_index_or, count_by, sum_by}
use Rattle.std.specs.Prelude.{take, ◌<◌, ◌≤◌, length, suc, ◌+◌, ◌∷◌, ◌++◌, slice_get}
use Rattle.trlab_road.specs.declared.car.Car.{Car}
use Rattle.trlab_bounds.specs.declared.roads.TheConstants.{MAX_LIMIT, MAX_LENGTH, MAX_LANES}

-- Roads as contracts see them: a speed limit and lanes of cells on a ring.

-- a cell: `None` if it is empty, otherwise the number and the speed of its car; for example, `Some (7, 2)`
-- holds car 7, which has speed 2
abbrev pub Cell : Type 0
Cell = Option (ℕ × ℕ)

-- a lane: the list of its cells, numbered from 0; it is a ring, so cell 0 follows the last cell
abbrev pub Lane : Type 0
Lane = List Cell

-- a road, cell by cell: its speed limit, in cells per step, and its lanes, numbered from 0
pub record Cells : Type 0 where
  pub limit : ℕ
  pub lanes : List Lane

-- the cell of a lane at place x; empty if x is past the end of the lane
abbrev pub at : Lane → ℕ → Cell
at lane x = slice_index_or lane x None

-- lane l of a road; a lane without cells if the road has no lane l
abbrev pub lane_of : Cells → ℕ → Lane
lane_of road l = slice_index_or road.lanes l []

-- the cell of a road on lane l at place x; empty if there is no such lane or place
abbrev pub cell : Cells → ℕ → ℕ → Cell
cell road l x = at (lane_of road l) x

-- the number of cars on a lane
abbrev pub lane_car_count : Lane → ℕ
lane_car_count lane = count_by is_some lane

-- the number of cars on a lane at places smaller than x; for example, 2 on `1.0.3` for x = 4
abbrev pub cars_before : Lane → ℕ → ℕ
cars_before lane x = lane_car_count (take x lane)

-- the number of cars on a road, all lanes together
abbrev pub cars : Cells → ℕ
cars road = sum_by lane_car_count road.lanes

-- the car is on the road: the cell at its lane and place holds its number and its speed
abbrev pub IsAt : Cells → Car → Type 0
IsAt road car = cell road car.lane car.place ≡ Some (car.number, car.speed)

-- some car of the road has this number
abbrev pub HasNumber : Cells → ℕ → Type 0
HasNumber road number = (car : Car) × (IsAt road car × (car.number ≡ number))

-- `answer` and `other` are functions of a lane and a place, and have the same value at each car of the road;
-- their values elsewhere do not matter
abbrev pub AgreeAtCars : {X : Type 0} → (ℕ → ℕ → X) → (ℕ → ℕ → X) → Cells → Type 0
AgreeAtCars answer other road =
    (car : Car) → IsAt road car → answer car.lane car.place ≡ other car.lane car.place

-- Legal roads, the only ones on which rules run.

-- a road may have this number of lanes: 1 to MAX_LANES
pub record LanesFit (lanes : ℕ) : Type 0 where
  pub some_lane : 1 ≤ lanes
  pub few_lanes : lanes ≤ MAX_LANES

-- a lane may have this number of cells: 1 to MAX_LENGTH
pub record LengthFits (cells : ℕ) : Type 0 where
  pub some_cell : 1 ≤ cells
  pub few_cells : cells ≤ MAX_LENGTH

-- a road may have this speed limit: 1 to MAX_LIMIT cells per step
pub record LimitFits (limit : ℕ) : Type 0 where
  pub some_limit : 1 ≤ limit
  pub low_limit : limit ≤ MAX_LIMIT

-- a road has 1 to MAX_LANES lanes of the same length, 1 to MAX_LENGTH cells, and a limit from 1 to MAX_LIMIT
pub record HasValidShape (road : Cells) : Type 0 where
  pub lanes : LanesFit (length road.lanes)
  pub cells : LengthFits (length (lane_of road 0))
  pub equal : (l : ℕ) → l < length road.lanes → length (lane_of road l) ≡ length (lane_of road 0)
  pub limit : LimitFits road.limit

-- a legal road: it has 1 to MAX_LANES lanes of one length, 1 to MAX_LENGTH cells, and a limit from 1 to
-- MAX_LIMIT; no car is faster than the limit; and its n cars have the numbers 0 to n - 1, each once
pub record IsLegal (road : Cells) : Type 0 where
  pub shape : HasValidShape road
  pub within_limit : (car : Car) → IsAt road car → car.speed ≤ road.limit
  pub numbered : (car : Car) → IsAt road car → car.number < cars road
  pub once : (car other : Car) → IsAt road car → IsAt road other → car.number ≡ other.number
      → (car.lane ≡ other.lane) × (car.place ≡ other.place)

-- The standing order of the cars of a road: lane by lane, and on each lane by increasing place.

-- the cars in a list of cells, which are the cells of lane l from place x on
abbrev pub standing_from : ℕ → ℕ → Lane → List Car
standing_from l x [] = []
standing_from l x (None ∷ cells) = standing_from l (suc x) cells
standing_from l x (Some car ∷ cells) =
    record { number = car.0; lane = l; place = x; speed = car.1 } ∷ standing_from l (suc x) cells

-- the cars on a list of lanes, which are the lanes of a road from lane l on, in standing order
abbrev pub standing_from_lane : ℕ → List Lane → List Car
standing_from_lane l [] = []
standing_from_lane l (lane ∷ lanes) = standing_from l 0 lane ++ standing_from_lane (suc l) lanes

-- the cars of a road in standing order: lane by lane, and on each lane by increasing place
abbrev pub standing : Cells → List Car
standing road = standing_from_lane 0 road.lanes

-- the car is the k-th of the road in standing order, counted from 0
abbrev pub IsNthCar : Cells → ℕ → Car → Type 0
IsNthCar road k car = slice_get (standing road) k ≡ Some car

-- the number of cars before place x of lane l in standing order; if a car is there, this is its index
-- in standing order, counted from 0. For example, on the lanes `0.1.` and `.2..` place 1 of lane 1 has rank 2
abbrev pub rank : Cells → ℕ → ℕ → ℕ
rank road l x = sum_by lane_car_count (take l road.lanes) + lane_car_count (take x (lane_of road l))
