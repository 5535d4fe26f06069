-- Bounds on steps and runs: on the distance of all cars, on the numbers of stopped cars and of lane
-- changes, and on the cost of random braking. Laws: `step_stays_under_triangle`,
-- `run_stays_under_triangle`, `run_keeps_below_peak`, `moving_speed_is_bounded`, `few_cars_change_lanes`,
-- `braking_costs_distance`.
use Rattle.std.specs.Prelude.{◌≡◌, ℕ, zero, suc, ◌+◌, ◌*◌, ◌≤◌, Bool, ◌&&◌, count_by, nat_le, nat_lt}
use Rattle.std.specs.Prelude.{if◌then◌else◌}
use Rattle.trlab_road.specs.{declared.car.Car.Car, Cells.{Cells, lane_of, cars, IsLegal, standing}, Gaps.gap}
use Rattle.trlab_rules.specs.{Published.vdr_braking_chance, Rules.{Programs, IsNasch, IsVdr, IsRickert}}
use Rattle.trlab_machine.specs.declared.dice.Dice.{Dice}
use Rattle.trlab_step.specs.{declared.tally.StepTally.StepTally, Next.{IsStep, IsNext}, Published.happens_to}
use Rattle.trlab_step.specs.Run.{Seed, Sheet, ComesTo, IsRoadAt, dice_at}
use Rattle.trlab_traffic.specs.Terms.{all_cells, always, counted_steps, distance_at_limit, empty_cells}

-- The triangle, under any rule. Cars pass only over empty cells, no two over the same, and none is faster
-- than v_max, the limit. So flow against density is always on or under the triangle min(v_max * density, 1
-- - density).

-- the cars and the empty cells of a road add up to its cells, because a cell holds at most one car
abbrev pub CellsAreTakenOrEmpty : Type 0
CellsAreTakenOrEmpty = (road : Cells) → cars road + empty_cells road ≡ all_cells road

-- the distance of all cars of a road in `steps` steps is under the triangle: per step it is at most the
-- number of empty cells, and at most the limit times the number of cars
pub record IsDistanceUnderTriangle (road : Cells) (steps distance : ℕ) : Type 0 where
  pub by_empty_cells : distance ≤ steps * empty_cells road
  pub by_limit : distance ≤ steps * distance_at_limit road

-- under any rule the distance of a step of a legal road is at most the number of empty cells, and at most the
-- limit times the number of cars
abbrev pub StepStaysUnderTriangle : Type 0
StepStaysUnderTriangle =
    (rule : Programs) (dice : Dice) (road next : Cells) (tally : StepTally)
    → IsLegal road → IsNext rule dice road next tally → IsDistanceUnderTriangle road 1 tally.distance

-- under any sheet of rules the distance of a run from a legal road is, per counted step, at most the number
-- of empty cells, and at most the limit times the number of cars
abbrev pub RunStaysUnderTriangle : Type 0
RunStaysUnderTriangle =
    (seed : Seed) (sheet : Sheet) (step : ℕ) (road : Cells) (sum : StepTally)
    → IsLegal seed.road → ComesTo seed sheet step road sum
    → IsDistanceUnderTriangle seed.road (counted_steps seed step) sum.distance

-- under any sheet of rules the flow of a run from a legal road, which is its distance per counted step and
-- cell, is at most v / (v + 1), the peak of the triangle; v is the limit. To have only whole numbers, both
-- sides are multiplied by (v + 1) * (counted steps) * (cells)
abbrev pub RunKeepsBelowPeak : Type 0
RunKeepsBelowPeak =
    (seed : Seed) (sheet : Sheet) (step : ℕ) (road : Cells) (sum : StepTally)
    → IsLegal seed.road → ComesTo seed sheet step road sum
    → (seed.road.limit + 1) * sum.distance ≤ counted_steps seed step * (seed.road.limit * all_cells seed.road)

-- Moving cars: each moves at least one cell per step, and at most as many cells as the limit.

-- the mean speed of moving cars in `steps` steps of a road, with the tally `sum`, is from 1 to the limit: if
-- cars move m times, which is `steps` times the number of cars, minus `sum.stopped`, then the distance is
-- from m to the limit times m
pub record BoundsMovingSpeed (road : Cells) (steps : ℕ) (sum : StepTally) : Type 0 where
  pub cell_each : steps * cars road ≤ sum.distance + sum.stopped
  pub limit_each : sum.distance + road.limit * sum.stopped ≤ steps * distance_at_limit road

-- under any rule the mean speed of the cars that are not stopped in a step of a legal road is from 1 to the
-- limit
abbrev pub StepBoundsMovingSpeed : Type 0
StepBoundsMovingSpeed =
    (rule : Programs) (dice : Dice) (road next : Cells) (tally : StepTally)
    → IsLegal road → IsNext rule dice road next tally → BoundsMovingSpeed road 1 tally

-- under any sheet of rules the mean speed of moving cars, in the counted steps of a run from a legal road, is
-- from 1 to the limit
abbrev pub RunBoundsMovingSpeed : Type 0
RunBoundsMovingSpeed =
    (seed : Seed) (sheet : Sheet) (step : ℕ) (road : Cells) (sum : StepTally)
    → IsLegal seed.road → ComesTo seed sheet step road sum
    → BoundsMovingSpeed seed.road (counted_steps seed step) sum

-- Lane changes: in a step at most as many as there are cars, and as there are empty cells.

-- `changes`, the number of lane changes in `steps` steps of a road, is bounded: per step it is at most the
-- number of cars, and at most the number of empty cells
pub record BoundsLaneChanges (road : Cells) (steps changes : ℕ) : Type 0 where
  pub by_cars : changes ≤ steps * cars road
  pub by_empty_cells : changes ≤ steps * empty_cells road

-- under any rule the number of lane changes in a step of a legal road is at most the number of cars, and at
-- most the number of empty cells, because each change needs an empty cell of its own
abbrev pub StepBoundsLaneChanges : Type 0
StepBoundsLaneChanges =
    (rule : Programs) (dice : Dice) (road next : Cells) (tally : StepTally)
    → IsLegal road → IsNext rule dice road next tally → BoundsLaneChanges road 1 tally.changes

-- under any sheet of rules the number of lane changes in the counted steps of a run from a legal road is per
-- step at most the number of cars, and at most the number of empty cells
abbrev pub RunBoundsLaneChanges : Type 0
RunBoundsLaneChanges =
    (seed : Seed) (sheet : Sheet) (step : ℕ) (road : Cells) (sum : StepTally)
    → IsLegal seed.road → ComesTo seed sheet step road sum
    → BoundsLaneChanges seed.road (counted_steps seed step) sum.changes

-- Random braking costs distance: each time a car brakes at random, the distance of all cars is smaller by
-- at least one cell. So the number of brakings gives upper bounds on the flow of models with randomization.

-- does a car brake at random in a step with these dice, if a car of speed v brakes with probability
-- `chance v` / 2 ^ 31?
abbrev pub is_braking_at_random : (ℕ → ℕ) → Dice → Car → Bool
is_braking_at_random chance dice car = happens_to dice car 0 (chance car.speed)

-- the number of cars of a road that brake at random in a step with these dice
abbrev pub braking_cars : (ℕ → ℕ) → Dice → Cells → ℕ
braking_cars chance dice road = count_by (is_braking_at_random chance dice) (standing road)

-- does a car of a road have a gap, at least one empty cell ahead?
abbrev pub has_gap : Cells → Car → Bool
has_gap road car = nat_lt 0 (gap (lane_of road car.lane) car.place)

-- the number of cars with a gap that brake at random in a step of a road with these dice
abbrev pub braking_cars_with_gap : (ℕ → ℕ) → Dice → Cells → ℕ
braking_cars_with_gap chance dice road =
    count_by (λ (car : Car). is_braking_at_random chance dice car && has_gap road car) (standing road)

-- over the counted steps among the first `step` steps of a run, the numbers of braking cars add up to
-- `sum`; `braking` gives this number for the dice of a step and the road before it
abbrev pub AddsUpTo : (Dice → Cells → ℕ) → Seed → Sheet → ℕ → ℕ → Type 0
AddsUpTo braking seed sheet zero sum = sum ≡ 0
AddsUpTo braking seed sheet (suc step) sum =
    (road : Cells) × (before : ℕ) × IsRoadAt seed sheet step road × AddsUpTo braking seed sheet step before
    × (sum ≡ (if nat_le seed.warm step then before + braking (dice_at seed step) road else before))

-- in `steps` steps of a road cars have braked `braked` times, `with_gap` times of these with a gap. Each
-- braking has cost a cell: with `braked` more cells the distance is still at most that of cars at the
-- limit, and with `with_gap` more cells at most the number of empty cells per step
pub record BrakingCosts (road : Cells) (steps distance braked with_gap : ℕ) : Type 0 where
  pub by_limit : distance + braked ≤ steps * distance_at_limit road
  pub by_empty_cells : distance + with_gap ≤ steps * empty_cells road

-- each braking costs at least one cell in a step of the Nagel-Schreckenberg model with braking probability
-- p / 2 ^ 31
abbrev pub BrakingCostsSteps : Type 0
BrakingCostsSteps =
    (p : ℕ) (rule : Programs) (dice : Dice) (road next : Cells) (tally : StepTally)
    → IsNasch p rule → IsLegal road → IsNext rule dice road next tally
    → let chance : ℕ → ℕ = λ speed. p in
    let with_gap = braking_cars_with_gap chance dice road in
    BrakingCosts road 1 tally.distance (braking_cars chance dice road) with_gap

-- in the counted steps of a run cars have braked at random `braked` times, `with_gap` times of these with a
-- gap
pub record HasBraked (chance : ℕ → ℕ) (seed : Seed) (sheet : Sheet) (step braked with_gap : ℕ) : Type 0 where
  pub all : AddsUpTo (braking_cars chance) seed sheet step braked
  pub with_gaps : AddsUpTo (braking_cars_with_gap chance) seed sheet step with_gap

-- the cars of each run have braked some number of times
abbrev pub EachRunHasBraked : Type 0
EachRunHasBraked =
    (chance : ℕ → ℕ) (seed : Seed) (sheet : Sheet) (step : ℕ) (road : Cells) (sum : StepTally)
    → ComesTo seed sheet step road sum
    → (braked : ℕ) × (with_gap : ℕ) × HasBraked chance seed sheet step braked with_gap

-- each braking costs at least one cell in a run of the Nagel-Schreckenberg model with braking probability
-- p / 2 ^ 31
abbrev pub BrakingCostsRuns : Type 0
BrakingCostsRuns =
    (p : ℕ) (rule : Programs) (seed : Seed) (step : ℕ) (road : Cells) (sum : StepTally) (braked with_gap : ℕ)
    → IsNasch p rule → IsLegal seed.road → ComesTo seed (always rule) step road sum
    → HasBraked (λ speed. p) seed (always rule) step braked with_gap
    → BrakingCosts seed.road (counted_steps seed step) sum.distance braked with_gap

-- each braking costs at least one cell in a run of the VDR model of Barlovic et al. (1998) with braking
-- probabilities p / 2 ^ 31 of moving and p0 / 2 ^ 31 of stopped cars
abbrev pub BrakingCostsRunsWithSlowStarts : Type 0
BrakingCostsRunsWithSlowStarts =
    (p p0 : ℕ) (rule : Programs) (seed : Seed) (step : ℕ) (road : Cells) (sum : StepTally)
    (braked with_gap : ℕ)
    → IsVdr p p0 rule → IsLegal seed.road → ComesTo seed (always rule) step road sum
    → HasBraked (vdr_braking_chance p p0) seed (always rule) step braked with_gap
    → BrakingCosts seed.road (counted_steps seed step) sum.distance braked with_gap

-- each braking costs at least one cell in a step of the two-lane model of Rickert et al. (1996) with
-- braking probability p / 2 ^ 31 and lane-change probability c / 2 ^ 31. The gaps are those after the lane
-- changes, on the road `middle`
abbrev pub BrakingCostsStepsWithLaneChanges : Type 0
BrakingCostsStepsWithLaneChanges =
    (p c : ℕ) (rule : Programs) (dice : Dice) (road middle next : Cells) (tally : StepTally)
    → IsRickert p c rule → IsLegal road → IsStep rule dice road middle next tally
    → let chance : ℕ → ℕ = λ speed. p in
    let with_gap = braking_cars_with_gap chance dice middle in
    BrakingCosts road 1 tally.distance (braking_cars chance dice road) with_gap

-- each braking costs at least one cell in a run of the two-lane model of Rickert et al. (1996) with braking
-- probability p / 2 ^ 31 and lane-change probability c / 2 ^ 31: if cars have braked `braked` times in the
-- counted steps, the distance is at most that of cars at the limit, less `braked`
abbrev pub BrakingCostsRunsWithLaneChanges : Type 0
BrakingCostsRunsWithLaneChanges =
    (p c : ℕ) (rule : Programs) (seed : Seed) (step : ℕ) (road : Cells) (sum : StepTally) (braked : ℕ)
    → IsRickert p c rule → IsLegal seed.road → ComesTo seed (always rule) step road sum
    → AddsUpTo (braking_cars (λ speed. p)) seed (always rule) step braked
    → sum.distance + braked ≤ counted_steps seed step * distance_at_limit seed.road
