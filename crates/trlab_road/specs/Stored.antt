-- Roads as the code keeps them: each lane is the list of its cars, by increasing place.
use Rattle.std.specs.Prelude.{ℕ, ◌≡◌, suc, ◌+◌, ◌<◌, ◌≤◌, cond, sum_by, take, Some, None, List, [], ◌∷◌}
use Rattle.std.specs.Prelude.{length, map, nat_eq, slice_index, slice_index_or, false, Bool, Vec, ◌-◌}
use Rattle.std.specs.{Global.Global, List.range_with_len}
use Rattle.trlab_road.specs.{declared.{car.Car.Car, gaps.SideGaps.SideGaps}, Cells.{Cell, Lane, Cells, at}}
use Rattle.trlab_road.specs.Cells.{lane_car_count, IsLegal, IsAt, lane_of, IsNthCar, standing_from}
use Rattle.trlab_road.specs.{Gaps.{largest, side, sideback, sidegap, gap, headspeed}, Motion.LaneFits}
use Rattle.trlab_road.specs.{Motion.{LaneMoves, IsValueOnOwnLane, gaps}, Pictures.{dot, speed_character}}

-- Cars as lanes keep them.

-- a car in the list of a lane: its number, its place along the lane and its speed
pub record LaneCar : Type 0 where
  pub number : ℕ
  pub place : ℕ
  pub speed : ℕ

-- How the code keeps a road: each lane as the list of its cars, by increasing place.

-- the cell at place x of a lane with the listed cars: the first of them at x, or empty if none is at x
abbrev pub cell_at : List LaneCar → ℕ → Cell
cell_at [] x = None
cell_at (car ∷ cars) x = cond (nat_eq car.place x) (Some (car.number, car.speed)) (cell_at cars x)

-- the lane of n cells with the listed cars, all other cells empty; for example, a lane of 4 cells with only a
-- car of speed 2 at place 1 is `.2..`
abbrev pub cells_of : ℕ → List LaneCar → Lane
cells_of n cars = map (cell_at cars) (range_with_len 0 n)

-- the places of the listed cars strictly increase, are at least x and below n
abbrev pub IsSortedFrom : ℕ → ℕ → List LaneCar → Type 0
IsSortedFrom x n [] = Unit {0}
IsSortedFrom x n (car ∷ cars) = (x ≤ car.place) × (car.place < n) × IsSortedFrom (suc car.place) n cars

-- the places of the listed cars strictly increase (n is a number above all of them)
abbrev pub IsRising : List LaneCar → Type 0
IsRising cars = (n : ℕ) × IsSortedFrom 0 n cars

-- the default for a car past the end of a list: number, place and speed are 0
abbrev pub no_car : LaneCar
no_car = record { number = 0; place = 0; speed = 0 }

-- the place of car k of a list; 0 if the list has no car k
abbrev pub place_of : List LaneCar → ℕ → ℕ
place_of cars k = (slice_index_or cars k no_car).place

-- the cars before the index `next` of the list are at place x or before it, and all others are past x
pub record IsFirstPast (cars : List LaneCar) (x next : ℕ) : Type 0 where
  pub before : (k : ℕ) → k < next → k < length cars → place_of cars k ≤ x
  pub after : (k : ℕ) → next ≤ k → k < length cars → x < place_of cars k

-- a car in the list of lane l, as a car of the road
abbrev pub car_on : ℕ → LaneCar → Car
car_on l car = record { number = car.number; lane = l; place = car.place; speed = car.speed }

-- the list of cars of each lane, from the vectors in which the code keeps them
abbrev pub lists_of : List (Vec LaneCar Global) → List (List LaneCar)
lists_of lists = map (λ (v : Vec LaneCar Global). v.items) lists

-- the lanes of n cells with the cars of these vectors, one vector per lane
abbrev pub lanes_from : ℕ → List (Vec LaneCar Global) → List Lane
lanes_from n lists = map (λ (v : Vec LaneCar Global). cells_of n v.items) lists

-- the list of cars of lane l; empty if there is no lane l
abbrev pub list_at : List (Vec LaneCar Global) → ℕ → List LaneCar
list_at lists l = slice_index_or (lists_of lists) l []

-- in the list of each lane the places strictly increase and are below n
pub record AreSorted (n : ℕ) (lists : List (Vec LaneCar Global)) : Type 0 where
  pub rises : (l : ℕ) → l < length lists → IsSortedFrom 0 n (list_at lists l)

-- the invariant of a `Road` with lanes of n cells: its cells are legal, and the list of each lane is sorted
-- by place
pub record IsListedRoad (n : ℕ) (lists : List (Vec LaneCar Global)) (road : Cells) : Type 0 where
  pub legal : IsLegal road
  pub sorted : AreSorted n lists

-- the k-th car in standing order is at index i in the list of lane l
pub record IsFoundAt (lists : List (Vec LaneCar Global)) (k l i : ℕ) : Type 0 where
  pub on_lane : l < length lists
  pub low : i < length (list_at lists l)
  pub order : k ≡ sum_by length (take l (lists_of lists)) + i

-- the cars before `index` in the list are at places before x, and all others are at x or past it
pub record IsFirstFrom (cars : List LaneCar) (x index : ℕ) : Type 0 where
  pub within : index ≤ length cars
  pub before : (k : ℕ) → k < index → k < length cars → place_of cars k < x
  pub from : (k : ℕ) → index ≤ k → k < length cars → x ≤ place_of cars k

-- `beside` describes the cell at place x of a lane with n cells and these cars, the side cell of a car on the
-- other lane: is it empty, and how many cells are empty ahead of it and behind it?
pub record DescribesSideCell (n : ℕ) (cars : List LaneCar) (x : ℕ) (beside : SideGaps) : Type 0 where
  pub empty : beside.is_empty ≡ side (cells_of n cars) x
  pub ahead : beside.ahead ≡ sidegap (cells_of n cars) x
  pub behind : beside.behind ≡ sideback (cells_of n cars) x
  pub ahead_within : beside.ahead < n
  pub behind_within : beside.behind < n

-- lane `leaving` has the cars of lane `old` that cross, each in its cell, and no others
pub record HasLeavingCars (crosses : ℕ → Bool) (old leaving : Lane) : Type 0 where
  pub same_length : length leaving ≡ length old
  pub each_cell : (x : ℕ) → x < length old → at leaving x ≡ cond (crosses x) (at old x) None

-- the answer of the car at place x of a lane; the answers of the lane's cars begin at the index `from`
abbrev pub lane_answer : Lane → List ℕ → ℕ → ℕ → ℕ
lane_answer lane answers from x = slice_index answers (from + lane_car_count (take x lane))

-- does the car at place x of a lane cross? The answers of the lane's cars begin at the index `from`; false if
-- the list is too short
abbrev pub lane_crosses_at : Lane → List Bool → ℕ → ℕ → Bool
lane_crosses_at lane answers from x = slice_index_or answers (from + lane_car_count (take x lane)) false

-- the answer of the car at each place of lane l, from a list of the answers of all cars in standing order
abbrev pub list_answer : ℕ → List (Vec LaneCar Global) → List ℕ → ℕ → ℕ → ℕ
list_answer n lists answers l =
    let before = sum_by lane_car_count (take l (lanes_from n lists)) in
    lane_answer (cells_of n (list_at lists l)) answers before

-- on each lane of n cells, the answer of each car is at most the gap ahead of it; `answers` lists the answers
-- of all cars in standing order
pub record SpeedsFitGaps (n : ℕ) (lists : List (Vec LaneCar Global)) (answers : List ℕ) : Type 0 where
  pub each_lane : (l : ℕ) → l < length lists
      → LaneFits (list_answer n lists answers l) (cells_of n (list_at lists l))

-- the lanes of n cells with the cars of `lists` have the cars of `next` after the motion by `answers`, which
-- lists the answers of all cars in standing order
pub record SpeedsMove (n : ℕ) (lists next : List (Vec LaneCar Global)) (answers : List ℕ) : Type 0 where
  pub same_lanes : length next ≡ length lists
  pub each_lane : (l : ℕ) → l < length lists
      → LaneMoves (list_answer n lists answers l)
      (cells_of n (list_at lists l)) (cells_of n (list_at next l))

-- the speed that a character shows, for example 7 for `7` and 12 for `c`; 0 if it shows no speed
abbrev pub speed_of_character : ℕ → ℕ
speed_of_character character =
    largest (λ speed. nat_eq (speed_character speed) character) character

-- the lane that a picture shows, with its cars numbered from n on; for example, `2.0` with n = 5 shows car 5
-- of speed 2, an empty cell, and car 6 of speed 0
abbrev pub lane_of_picture : ℕ → List ℕ → Lane
lane_of_picture n [] = []
lane_of_picture n (character ∷ picture) =
    cond (nat_eq character dot)
    (None ∷ lane_of_picture n picture)
    (Some (n, speed_of_character character) ∷ lane_of_picture (suc n) picture)

-- the lanes that pictures show, with their cars numbered from n on, lane by lane
abbrev pub lanes_of_pictures : ℕ → List (List ℕ) → List Lane
lanes_of_pictures n [] = []
lanes_of_pictures n (picture ∷ pictures) =
    let lane = lane_of_picture n picture in
    lane ∷ lanes_of_pictures (n + lane_car_count lane) pictures

-- Cars of a list after a motion in which no car passes the end of the lane.

-- a car after it has moved `speed` cells ahead, its new speed, without passing the end of the lane
abbrev pub moved_ahead : LaneCar → ℕ → LaneCar
moved_ahead car speed = record { number = car.number; place = car.place + speed; speed = speed }

-- `new` lists the cars of `old` after the first k of them have moved ahead, car j by the speed at index
-- `from` + j of `speeds`; the other cars are unchanged
pub record HaveMovedAhead (speeds : List ℕ) (from : ℕ) (old new : List LaneCar) (k : ℕ) : Type 0 where
  pub same_count : length new ≡ length old
  pub moved : (j : ℕ) → j < k
      → slice_index_or new j no_car
      ≡ moved_ahead (slice_index_or old j no_car) (slice_index speeds (from + j))
  pub others : (j : ℕ) → k ≤ j → slice_index_or new j no_car ≡ slice_index_or old j no_car

-- Lists of successive cars of one lane, in order of place: each car is followed by the next car ahead of it.

-- `line` lists all cars of a lane of the road, in order of place
abbrev pub IsLineOf : Cells → ℕ → List LaneCar → Type 0
IsLineOf road lane line = map (car_on lane) line ≡ standing_from lane 0 (lane_of road lane)

-- `line` lists, in order of place, the k-th car in standing order and all cars after it on the same lane;
-- there is a k-th car
pub record IsLineFrom (road : Cells) (k : ℕ) (line : List LaneCar) : Type 0 where
  pub lane : ℕ
  pub some : 0 < length line
  pub standing : (j : ℕ) → j < length line
      → IsNthCar road (k + j) (car_on lane (slice_index_or line j no_car))
  pub whole : k + length line ≡ sum_by lane_car_count (take (lane + 1) road.lanes)

-- `car` is the k-th car in standing order, and `next` has the place and the speed of its next car ahead, at a
-- later place of the lane: the number of cells between `car` and `next` is the gap of `car`, and the speed of
-- `next` is the headspeed of `car`
pub record IsFollowed (road : Cells) (k : ℕ) (car next : LaneCar) : Type 0 where
  pub lane : ℕ
  pub standing : IsNthCar road k (car_on lane car)
  pub here : IsAt road (car_on lane car)
  pub past : car.place < next.place
  pub ahead : IsValueOnOwnLane gap road k (next.place - car.place - 1)
  pub in_gaps : next.place - car.place - 1 ≡ slice_index (gaps road) k
  pub head : IsValueOnOwnLane headspeed road k next.speed
