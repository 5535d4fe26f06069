-- Cars that follow one another on a lane: their gaps, their order, and how far each goes. Laws:
-- `gaps_follow_speeds`, `gaps_fill_lanes`, `nobody_overtakes`, `cars_go_distance`.
use Rattle.std.specs.{Prelude.{◌≡◌, ℕ, zero, suc, ◌+◌, ◌<◌, ◌≤◌, List, map, sum, sum_by}, List.range_with_len}
use Rattle.trlab_road.specs.{declared.car.Car.Car, Cells.{Lane, Cells, IsAt, lane_of, lane_car_count, cars}}
use Rattle.trlab_road.specs.{Cells.{IsLegal, standing_from}, Gaps.{gap, next_place}}
use Rattle.trlab_rules.specs.Rules.{Programs}
use Rattle.trlab_machine.specs.declared.dice.Dice.{Dice}
use Rattle.trlab_step.specs.{declared.tally.StepTally.StepTally, Next.IsNext}
use Rattle.trlab_step.specs.{Published.{AllMoveAhead, car_after_motion}, Run.{Seed, Sheet, ComesTo, IsRoadAt}}
use Rattle.trlab_traffic.specs.Terms.{EachRule, StaysInLane, lane_empty_cells}

-- Gaps: how they change in a step.

-- `next` is on the lane of `car`, at the place of the next car ahead; this is the place of `car` itself if
-- the lane has no other car
pub record IsNextAhead (road : Cells) (car next : Car) : Type 0 where
  pub same_lane : next.lane ≡ car.lane
  pub ahead : next.place ≡ next_place (lane_of road car.lane) car.place

-- under any rule without lane changes the new gap of `car` is its old gap, plus the cells that the next car
-- ahead moves, minus the cells that `car` moves; `goes` gives the number of cells that each car moves
abbrev pub GapChangesBySpeedDifference : Type 0
GapChangesBySpeedDifference =
    (rule : Programs) (dice : Dice) (old new : Cells) (tally : StepTally) (goes : Car → ℕ) (car next : Car)
    → StaysInLane rule → IsLegal old → IsNext rule dice old new tally → AllMoveAhead goes old new
    → IsAt old car → IsAt old next → IsNextAhead old car next
    → gap (lane_of new car.lane) (car_after_motion old car (goes car)).place + goes car
    ≡ gap (lane_of old car.lane) car.place + goes next

-- Gaps and density: the gaps of a lane add up to its empty cells, and without lane changes a lane keeps its
-- cars.

-- the gaps of the cars of a lane, in order of place; for example, 1 and 3 on a ring of 6 cells with cars in
-- cells 1 and 3
abbrev pub lane_gaps : Lane → List ℕ
lane_gaps lane = map (λ (car : Car). gap lane car.place) (standing_from 0 0 lane)

-- the gaps of a lane with a car add up to its empty cells, so the mean gap is the number of empty cells per
-- car
abbrev pub GapsFillLane : Type 0
GapsFillLane = (lane : Lane) → 1 ≤ lane_car_count lane → sum (lane_gaps lane) ≡ lane_empty_cells lane

-- under any sheet of rules without lane changes each lane of a run keeps its number of cars
abbrev pub RunKeepsLaneCars : Type 0
RunKeepsLaneCars =
    (seed : Seed) (sheet : Sheet) (step : ℕ) (road : Cells) (sum : StepTally) (l : ℕ)
    → EachRule StaysInLane sheet → ComesTo seed sheet step road sum
    → lane_car_count (lane_of road l) ≡ lane_car_count (lane_of seed.road l)

-- Nobody overtakes on a lane: the next car ahead of a car stays the same.

-- the car numbered `next` is the next car ahead of the car numbered `number`, on the same lane; the two are
-- the same car if the lane has no other
pub record IsNextOf (road : Cells) (number next : ℕ) : Type 0 where
  pub car : Car
  pub next_car : Car
  pub on_road : IsAt road car
  pub next_on_road : IsAt road next_car
  pub numbered : car.number ≡ number
  pub next_numbered : next_car.number ≡ next
  pub follows : IsNextAhead road car next_car

-- each car of a road has a next car ahead, which is the car itself if its lane has no other car
abbrev pub EachCarHasNext : Type 0
EachCarHasNext = (road : Cells) (car : Car) → IsAt road car → (next : ℕ) × IsNextOf road car.number next

-- no car of a legal road has two different next cars ahead
abbrev pub NextCarIsUnique : Type 0
NextCarIsUnique = (road : Cells) (number next other : ℕ) → IsLegal road
    → IsNextOf road number next → IsNextOf road number other → next ≡ other

-- under any rule without lane changes each car has the same next car ahead after a step as before it
abbrev pub StepKeepsNextCar : Type 0
StepKeepsNextCar =
    (rule : Programs) (dice : Dice) (old new : Cells) (tally : StepTally) (number next : ℕ)
    → StaysInLane rule → IsNext rule dice old new tally
    → IsNextOf old number next → IsNextOf new number next

-- under any sheet of rules without lane changes each car has the same next car ahead at each step of a run as
-- at the start
abbrev pub RunKeepsNextCar : Type 0
RunKeepsNextCar =
    (seed : Seed) (sheet : Sheet) (step : ℕ) (road : Cells) (sum : StepTally) (number next : ℕ)
    → EachRule StaysInLane sheet → ComesTo seed sheet step road sum
    → IsNextOf seed.road number next → IsNextOf road number next

-- How far each car goes in a run.

-- the car with this number has gone `far` cells in the first `step` steps of a run: the sum of its speeds
-- after each of these steps
abbrev pub HasGone : Seed → Sheet → ℕ → ℕ → ℕ → Type 0
HasGone seed sheet zero number far = far ≡ 0
HasGone seed sheet (suc step) number far =
    (road : Cells) × (car : Car) × (before : ℕ) × IsRoadAt seed sheet (suc step) road × IsAt road car
    × (car.number ≡ number) × HasGone seed sheet step number before × (far ≡ before + car.speed)

-- after each number of steps each car of a run from a legal road has gone some number of cells, `far`
abbrev pub EachCarHasGone : Type 0
EachCarHasGone =
    (seed : Seed) (sheet : Sheet) (step : ℕ) (road : Cells) (sum : StepTally) (number : ℕ)
    → IsLegal seed.road → ComesTo seed sheet step road sum → number < cars seed.road
    → (far : ℕ) × HasGone seed sheet step number far

-- no car of a run from a legal road has gone two different numbers of cells in the same number of steps
abbrev pub GoneIsUnique : Type 0
GoneIsUnique =
    (seed : Seed) (sheet : Sheet) (step number far other : ℕ)
    → IsLegal seed.road → HasGone seed sheet step number far → HasGone seed sheet step number other
    → far ≡ other

-- if every step is counted (`warm` is 0), the numbers of cells that the cars of a run have gone add up to the
-- distance of the run; the car with number i has gone `far i` cells
abbrev pub CarsGoDistance : Type 0
CarsGoDistance =
    (seed : Seed) (sheet : Sheet) (step : ℕ) (road : Cells) (sum : StepTally) (far : ℕ → ℕ)
    → IsLegal seed.road → seed.warm ≡ 0 → ComesTo seed sheet step road sum
    → ((number : ℕ) → number < cars seed.road → HasGone seed sheet step number (far number))
    → sum_by far (range_with_len 0 (cars seed.road)) ≡ sum.distance
