-- Free flow and jams.
use Rattle.std.specs.Prelude.{◌≡◌, ℕ, ◌+◌, ◌*◌, ◌≤◌, length, ◌<◌, true, false}
use Rattle.trlab_bounds.specs.declared.programs.TheConstants.{CERTAIN}
use Rattle.trlab_road.specs.{declared.car.Car.Car, Cells.{Cells, IsAt, lane_of, cars, IsLegal, Lane}}
use Rattle.trlab_road.specs.{Gaps.{gap, ahead, behind}, Spreading.CanSpread}
use Rattle.trlab_rules.specs.Rules.{Programs, IsNasch, IsVdr}
use Rattle.trlab_machine.specs.declared.dice.Dice.{Dice}
use Rattle.trlab_step.specs.{declared.tally.StepTally.StepTally, Next.IsNext}
use Rattle.trlab_step.specs.Published.{AllMoveAhead, happens_to, car_after_motion}
use Rattle.trlab_step.specs.Run.{Seed, ComesTo, Sheet, IsRoadAt, dice_at}
use Rattle.trlab_traffic.specs.Terms.{all_cells, always, counted_steps, distance_at_limit, rotate_road}
use Rattle.trlab_traffic.specs.Terms.{EachRule, StaysInLane, is_taken}

-- Free flow, in which each car drives at v_max and has room to do so. Without random braking of moving cars
-- it lasts for ever, and slow starts make it metastable. Laws: `free_flow_stays_free`,
-- `slow_starts_are_metastable`, `two_flows_at_one_density`.

-- a road in free flow: each car drives at the limit, with a gap of at least the limit
pub record IsInFreeFlow (road : Cells) : Type 0 where
  pub at_limit : (car : Car) → IsAt road car → car.speed ≡ road.limit
  pub room : (car : Car) → IsAt road car → road.limit ≤ gap (lane_of road car.lane) car.place

-- in the Nagel-Schreckenberg model without randomization each car of a legal road in free flow moves by
-- v_max, the limit, and the next road is in free flow too
abbrev pub FreeFlowGoesOn : Type 0
FreeFlowGoesOn =
    (rule : Programs) (dice : Dice) (old new : Cells) (tally : StepTally)
    → IsNasch 0 rule → IsLegal old → IsInFreeFlow old → IsNext rule dice old new tally
    → AllMoveAhead (λ car. old.limit) old new × IsInFreeFlow new

-- a run flows freely: its road after `step` steps is in free flow, and the distance of its counted steps is
-- the distance if all cars drive at v_max, the limit; so the flow is v_max times the density
abbrev pub FlowsFreely : Seed → ℕ → Cells → StepTally → Type 0
FlowsFreely seed step road sum =
    IsInFreeFlow road × (sum.distance ≡ counted_steps seed step * distance_at_limit seed.road)

-- in the Nagel-Schreckenberg model without randomization a run from a legal road in free flow stays in free
-- flow, with all cars driving at v_max
abbrev pub FreeFlowStaysFree : Type 0
FreeFlowStaysFree =
    (rule : Programs) (seed : Seed) (step : ℕ) (road : Cells) (sum : StepTally)
    → IsNasch 0 rule → IsLegal seed.road → IsInFreeFlow seed.road → ComesTo seed (always rule) step road sum
    → FlowsFreely seed step road sum

-- all cars of a run have moved as one: after `step` steps they are limit * `step` cells ahead of their places
-- at the start, so rotating the road by this number of cells gives the initial road
abbrev pub MovesAsOne : Seed → ℕ → Cells → Type 0
MovesAsOne seed step road = rotate_road (seed.road.limit * step) road ≡ seed.road

-- in the Nagel-Schreckenberg model without randomization all cars of a run from a legal road in free flow
-- move as one, so they keep their distances from one another
abbrev pub FreeFlowMovesAsOne : Type 0
FreeFlowMovesAsOne =
    (rule : Programs) (seed : Seed) (step : ℕ) (road : Cells) (sum : StepTally)
    → IsNasch 0 rule → IsLegal seed.road → IsInFreeFlow seed.road → ComesTo seed (always rule) step road sum
    → MovesAsOne seed step road

-- Slow starts make free flow metastable (the VDR model of Barlovic et al. 1998). If moving cars never brake
-- at random, free flow lasts for ever. If stopped cars always brake and all cars are stopped, no car ever
-- moves, however few there are. So at one density there are two flows, and the initial state decides which.

-- a road whose cars are all stopped
pub record IsStopped (road : Cells) : Type 0 where
  pub stopped : (car : Car) → IsAt road car → car.speed ≡ 0

-- in the VDR model of Barlovic et al. (1998), if moving cars brake with probability 0, a run from a legal
-- road in free flow stays in free flow, for any braking probability p0 / 2 ^ 31 of stopped cars
abbrev pub SlowStartsKeepFreeFlow : Type 0
SlowStartsKeepFreeFlow =
    (p0 : ℕ) (rule : Programs) (seed : Seed) (step : ℕ) (road : Cells) (sum : StepTally)
    → IsVdr 0 p0 rule → IsLegal seed.road → IsInFreeFlow seed.road → ComesTo seed (always rule) step road sum
    → FlowsFreely seed step road sum

-- in the VDR model of Barlovic et al. (1998), if moving cars brake with probability 0, all cars of a run from
-- a legal road in free flow move as one, for any braking probability p0 / 2 ^ 31 of stopped cars
abbrev pub SlowStartsMoveFreeFlowAsOne : Type 0
SlowStartsMoveFreeFlowAsOne =
    (p0 : ℕ) (rule : Programs) (seed : Seed) (step : ℕ) (road : Cells) (sum : StepTally)
    → IsVdr 0 p0 rule → IsLegal seed.road → IsInFreeFlow seed.road → ComesTo seed (always rule) step road sum
    → MovesAsOne seed step road

-- in the VDR model of Barlovic et al. (1998), if stopped cars brake with probability 1, a run from a legal
-- road of stopped cars keeps this road, and its distance is 0, for any braking probability p / 2 ^ 31 of
-- moving cars
abbrev pub SlowStartsKeepJams : Type 0
SlowStartsKeepJams =
    (p : ℕ) (rule : Programs) (seed : Seed) (step : ℕ) (road : Cells) (sum : StepTally)
    → IsVdr p CERTAIN rule → IsLegal seed.road → IsStopped seed.road
    → ComesTo seed (always rule) step road sum → (road ≡ seed.road) × (sum.distance ≡ 0)

-- a legal road of one lane with `cells` cells, n cars and this limit
pub record IsRing (cells limit n : ℕ) (road : Cells) : Type 0 where
  pub legal : IsLegal road
  pub one_lane : length road.lanes ≡ 1
  pub same_cells : all_cells road ≡ cells
  pub same_limit : road.limit ≡ limit
  pub same_cars : cars road ≡ n

-- the rule has two flows on rings of `cells` cells with n cars and this limit: there is a ring `free` such
-- that in each counted step of a run from it all cars drive at the limit, and a ring `jam` such that no car
-- moves
pub record HasTwoFlows (cells limit n : ℕ) (rule : Programs) : Type 0 where
  pub free : Cells
  pub jam : Cells
  pub free_ring : IsRing cells limit n free
  pub jam_ring : IsRing cells limit n jam
  pub flows : (seed : Seed) (step : ℕ) (road : Cells) (sum : StepTally) → seed.road ≡ free
      → ComesTo seed (always rule) step road sum → sum.distance ≡ counted_steps seed step * (limit * n)
  pub stays : (seed : Seed) (step : ℕ) (road : Cells) (sum : StepTally) → seed.road ≡ jam
      → ComesTo seed (always rule) step road sum → sum.distance ≡ 0

-- the VDR model of Barlovic et al. (1998), if moving cars brake with probability 0 and stopped cars with 1,
-- has two flows on rings at each density that leaves room to drive at the limit: n cars need n * (limit + 1)
-- cells. Without cars (n = 0) both flows are 0
abbrev pub TwoFlowsAtOneDensity : Type 0
TwoFlowsAtOneDensity =
    (cells limit n : ℕ) (rule : Programs)
    → IsVdr 0 CERTAIN rule → CanSpread 1 cells limit n → n * (limit + 1) ≤ cells
    → HasTwoFlows cells limit n rule

-- Jams and queues: a car without a gap stops, so each car of a queue waits for the car ahead. Laws:
-- `car_without_gap_stops`, `queue_dissolves_from_front`, `queue_flows_out_car_by_car`.

-- the same car in the same cell, with speed 0
abbrev pub stopped_car : Car → Car
stopped_car car = record car { speed = 0 }

-- under any rule without lane changes a car that has no gap stays in its cell and is stopped
abbrev pub CarWithoutGapStops : Type 0
CarWithoutGapStops =
    (rule : Programs) (dice : Dice) (old new : Cells) (tally : StepTally) (car : Car)
    → StaysInLane rule → IsNext rule dice old new tally
    → IsAt old car → gap (lane_of old car.lane) car.place ≡ 0 → IsAt new (stopped_car car)

-- Queues: cars directly behind each other. Each car waits until the next car ahead has gone, so a queue
-- dissolves from its front, one car per step.

-- a queue of n + 1 cars on a lane, for n below its length: the head is in cell x, and each of the n cells
-- behind it holds a car. For example, `..000.` has a queue with x = 4 and n = 2. A larger n says that every
-- cell of the lane holds a car
abbrev pub IsQueue : Lane → ℕ → ℕ → Type 0
IsQueue lane x n = (j : ℕ) → j ≤ n → is_taken lane (behind (length lane) x j) ≡ true

-- a car is the j-th behind the head of a queue on its lane, with j from 1 to n: the head is in cell x, and n
-- cars are directly behind it
pub record IsQueued (road : Cells) (x n j : ℕ) (car : Car) : Type 0 where
  pub queue : IsQueue (lane_of road car.lane) x n
  pub behind_head : 1 ≤ j
  pub within : j ≤ n
  pub on_road : IsAt road car
  pub place : car.place ≡ behind (length (lane_of road car.lane)) x j

-- under any sheet of rules without lane changes the j-th car behind the head of a queue is stopped in its
-- cell after each of the first j steps, even if the queue fills the ring
abbrev pub QueueWaits : Type 0
QueueWaits =
    (seed : Seed) (sheet : Sheet) (step : ℕ) (road : Cells) (x n j : ℕ) (car : Car)
    → EachRule StaysInLane sheet → IsQueued seed.road x n j car
    → 1 ≤ step → step ≤ j → IsRoadAt seed sheet step road → IsAt road (stopped_car car)

-- in the Nagel-Schreckenberg model without randomization the j-th car behind the head of a queue has moved
-- one cell after j + 1 steps, and has speed 1, if the head has a gap at the start
abbrev pub QueueStarts : Type 0
QueueStarts =
    (seed : Seed) (rule : Programs) (road : Cells) (x n j : ℕ) (car : Car)
    → IsNasch 0 rule → IsLegal seed.road → IsQueued seed.road x n j car
    → 1 ≤ gap (lane_of seed.road car.lane) x
    → IsRoadAt seed (always rule) (j + 1) road → IsAt road (car_after_motion seed.road car 1)

-- The outflow of a queue in the VDR model of Barlovic et al. (1998): once the car ahead has left its cell,
-- the next car leaves in the first step in which it does not brake at random. If a stopped car brakes with
-- probability r, and random words are independent, cars therefore leave 1 / (1 - r) steps apart on average.

-- a car of the initial road of a run leaves its cell in step s: it is still there after each of the first s
-- steps, and moves in the next step
pub record LeavesInStep (seed : Seed) (sheet : Sheet) (car : Car) (s : ℕ) : Type 0 where
  pub waits : (step : ℕ) (road : Cells) → step ≤ s → IsRoadAt seed sheet step road
      → (speed : ℕ) × IsAt road (record car { speed = speed })
  pub moves : (road : Cells) (same : Car) → IsRoadAt seed sheet (s + 1) road → IsAt road same
      → same.number ≡ car.number → 1 ≤ same.speed

-- car `next` is right behind `car` on the same lane of a road
pub record IsRightBehind (road : Cells) (car next : Car) : Type 0 where
  pub on_road : IsAt road car
  pub next_on_road : IsAt road next
  pub same_lane : car.lane ≡ next.lane
  pub place : car.place ≡ ahead (length (lane_of road next.lane)) next.place 1

-- t is the first step after step s in which a stopped car does not brake at random, if it brakes with
-- probability p0 / 2 ^ 31
pub record IsFirstWithoutBraking (p0 : ℕ) (seed : Seed) (car : Car) (s t : ℕ) : Type 0 where
  pub later : s < t
  pub brakes_before : (step : ℕ) → s < step → step < t → happens_to (dice_at seed step) car 0 p0 ≡ true
  pub does_not_brake : happens_to (dice_at seed t) car 0 p0 ≡ false

-- in the VDR model of Barlovic et al. (1998), with braking probabilities p / 2 ^ 31 of moving and
-- p0 / 2 ^ 31 of stopped cars, a car right behind a car that leaves its cell in step s leaves its own cell
-- in the first step after s in which it does not brake at random
abbrev pub QueueFlowsOut : Type 0
QueueFlowsOut =
    (p p0 : ℕ) (rule : Programs) (seed : Seed) (car next : Car) (s t : ℕ)
    → IsVdr p p0 rule → IsLegal seed.road → IsRightBehind seed.road car next
    → LeavesInStep seed (always rule) car s → IsFirstWithoutBraking p0 seed next s t
    → LeavesInStep seed (always rule) next t
