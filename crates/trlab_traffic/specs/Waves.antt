-- Kinematic waves (Lighthill and Whitham 1955) without randomization, and the minimum principle (Newell
-- 1993, Daganzo 2006), which is their Hopf-Lax formula. Laws: `kinematic_waves`, `minimum_principle`.
use Rattle.std.specs.Prelude.{◌≡◌, ◌⊎◌, ℕ, zero, suc, ◌+◌, ◌-◌, ◌*◌, ◌<◌, ◌≤◌, length, min, sum_by}
use Rattle.trlab_road.specs.{declared.car.Car.Car, Cells.{Lane, Cells, IsAt, lane_of, lane_car_count}}
use Rattle.trlab_road.specs.{Cells.{IsLegal, standing}, Gaps.{ahead, gap, next_place}}
use Rattle.trlab_rules.specs.Rules.{Programs, IsNasch}
use Rattle.trlab_step.specs.{declared.tally.StepTally.StepTally, Published.{AllMoveAhead, car_after_motion}}
use Rattle.trlab_step.specs.Run.{Seed, Sheet, ComesTo, IsRoadAt}
use Rattle.trlab_traffic.specs.Terms.{EachRule, StaysInLane, always, is_taken, lane_max_distance}
use Rattle.trlab_traffic.specs.{Following.HasGone, Comparison.ReachesSpeedAtOnce, Diagram.HasRelaxed}

-- Kinematic waves: once a lane has relaxed, its pattern of taken and empty cells keeps its form and moves,
-- ahead at v_max if the lane is dilute, and back by one cell per step if it is congested, for every v_max.

-- the pattern of taken and empty cells has moved k cells ahead round the ring, from lane `old` to lane
-- `new`
pub record PatternMovesAhead (k : ℕ) (old new : Lane) : Type 0 where
  pub same_cells : length new ≡ length old
  pub moved : (x : ℕ) → x < length old → is_taken new (ahead (length old) x k) ≡ is_taken old x

-- the pattern of taken and empty cells has moved k cells back round the ring, from lane `old` to lane `new`
pub record PatternMovesBack (k : ℕ) (old new : Lane) : Type 0 where
  pub same_cells : length new ≡ length old
  pub moved : (x : ℕ) → x < length old → is_taken new x ≡ is_taken old (ahead (length old) x k)

-- the lane has room for all its cars to drive at v_max, the limit: with N cars, at least N (limit + 1)
-- cells
abbrev pub IsDilute : ℕ → Lane → Type 0
IsDilute limit lane = lane_car_count lane * (limit + 1) ≤ length lane

-- the lane has no more room than its cars need to drive at v_max, the limit: with N cars, at most
-- N (limit + 1) cells
abbrev pub IsCongested : ℕ → Lane → Type 0
IsCongested limit lane = length lane ≤ lane_car_count lane * (limit + 1)

-- without randomization cars need `delay` steps to reach v_max, the limit: `limit` steps in the
-- Nagel-Schreckenberg model, but none if the limit is 1, and none under a rule that lets cars reach their
-- speed at once
abbrev pub AcceleratesIn : ℕ → ℕ → Programs → Type 0
AcceleratesIn limit delay rule =
    (IsNasch 0 rule × (delay ≡ limit))
    ⊎ ((IsNasch 0 rule × (limit ≡ 1) × (delay ≡ 0)) ⊎ (ReachesSpeedAtOnce rule × (delay ≡ 0)))

-- lane l of a run has relaxed at step `step`, where cars need `delay` steps to reach v_max
abbrev pub LaneHasRelaxed : Seed → ℕ → ℕ → ℕ → Type 0
LaneHasRelaxed seed delay l step =
    HasRelaxed seed.road.limit delay (lane_max_distance seed.road.limit (lane_of seed.road l)) step

-- `old` is the road of a run under one rule after `step` steps, and `new` the road k steps later
pub record AreStepsApart (seed : Seed) (rule : Programs) (step k : ℕ) (old new : Cells) : Type 0 where
  pub earlier : IsRoadAt seed (always rule) step old
  pub later : IsRoadAt seed (always rule) (step + k) new

-- free flow: the pattern of a dilute lane that has relaxed moves ahead by v_max cells per step
abbrev pub FreeFlowMovesAhead : Type 0
FreeFlowMovesAhead =
    (rule : Programs) (seed : Seed) (delay step k : ℕ) (old new : Cells) (l : ℕ)
    → AcceleratesIn seed.road.limit delay rule → IsLegal seed.road → l < length seed.road.lanes
    → LaneHasRelaxed seed delay l step → IsDilute seed.road.limit (lane_of seed.road l)
    → AreStepsApart seed rule step k old new
    → PatternMovesAhead (seed.road.limit * k) (lane_of old l) (lane_of new l)

-- jams: the pattern of a congested lane that has relaxed moves back by one cell per step, for every v_max
abbrev pub JamsMoveBack : Type 0
JamsMoveBack =
    (rule : Programs) (seed : Seed) (delay step k : ℕ) (old new : Cells) (l : ℕ)
    → AcceleratesIn seed.road.limit delay rule → IsLegal seed.road → l < length seed.road.lanes
    → LaneHasRelaxed seed delay l step → IsCongested seed.road.limit (lane_of seed.road l)
    → AreStepsApart seed rule step k old new
    → PatternMovesBack k (lane_of old l) (lane_of new l)

-- the pattern of a lane of n cells that has relaxed comes again after n steps
abbrev pub PatternIsPeriodic : Type 0
PatternIsPeriodic =
    (rule : Programs) (seed : Seed) (delay step : ℕ) (old new : Cells) (l x : ℕ)
    → AcceleratesIn seed.road.limit delay rule → IsLegal seed.road → l < length seed.road.lanes
    → LaneHasRelaxed seed delay l step → AreStepsApart seed rule step (length (lane_of seed.road l)) old new
    → x < length (lane_of seed.road l) → is_taken (lane_of new l) x ≡ is_taken (lane_of old l) x

-- each car of a congested lane that has relaxed closes its gap in every step: it moves up to the cell right
-- behind the one in which the next car ahead was
abbrev pub CongestedCarsCloseGaps : Type 0
CongestedCarsCloseGaps =
    (rule : Programs) (seed : Seed) (delay step : ℕ) (old new : Cells) (car : Car)
    → AcceleratesIn seed.road.limit delay rule → IsLegal seed.road → IsAt old car
    → LaneHasRelaxed seed delay car.lane step → IsCongested seed.road.limit (lane_of seed.road car.lane)
    → AreStepsApart seed rule step 1 old new
    → IsAt new (car_after_motion old car (gap (lane_of old car.lane) car.place))

-- in the Nagel-Schreckenberg model without randomization each car moves by its gap or by v_max, whichever
-- is smaller, from step v_max on: acceleration no longer holds it back
abbrev pub AccelerationEnds : Type 0
AccelerationEnds =
    (rule : Programs) (seed : Seed) (step : ℕ) (old new : Cells)
    → IsNasch 0 rule → IsLegal seed.road → seed.road.limit ≤ step → AreStepsApart seed rule step 1 old new
    → AllMoveAhead (λ car. min old.limit (gap (lane_of old car.lane) car.place)) old new

-- The minimum principle: how far each car has gone after any number of steps, in closed form.

-- the number of empty cells between the car at place x and the j-th car ahead: the gaps of this car and of
-- the next j - 1 cars, added up. Cars are counted round the ring, again in each lap. For example, on
-- `0.0..` it is 1, 3 and 4 for x = 0 and j = 1, 2 and 3
abbrev pub gaps_ahead : Lane → ℕ → ℕ → ℕ
gaps_ahead lane x zero = 0
gaps_ahead lane x (suc j) = gap lane x + gaps_ahead lane (next_place lane x) j

-- the smallest of the numbers f 0 to f n
abbrev pub smallest_to : ℕ → (ℕ → ℕ) → ℕ
smallest_to zero f = f 0
smallest_to (suc n) f = min (smallest_to n f) (f (suc n))

-- how far the car at place x of a lane moves in `step` steps by Newell's minimum principle: the smallest of
-- the bounds that are set by the j-th car ahead, for j = 0 to `step`. This car acts with a delay of j
-- steps, one for each car between; by then it has moved at most limit * (step - j) cells, and all gaps up
-- to it can be closed. For j = 0 it is the car itself, driving at the limit
abbrev pub newell_distance : ℕ → Lane → ℕ → ℕ → ℕ
newell_distance limit lane x step = smallest_to step (λ j. limit * (step - j) + gaps_ahead lane x j)

-- under a rule that lets cars reach their speed at once, each car of a run from a legal road goes exactly
-- as far as the minimum principle allows
abbrev pub MinimumPrinciple : Type 0
MinimumPrinciple =
    (rule : Programs) (seed : Seed) (step : ℕ) (car : Car) (far : ℕ)
    → ReachesSpeedAtOnce rule → IsLegal seed.road → IsAt seed.road car
    → HasGone seed (always rule) step car.number far
    → far ≡ newell_distance seed.road.limit (lane_of seed.road car.lane) car.place step

-- under such a rule, if every step is counted (`warm` is 0), the distance of a run is the sum of these
-- distances over the cars of the initial road. So it follows from this road without computing any step
abbrev pub MinimumPrincipleGivesDistance : Type 0
MinimumPrincipleGivesDistance =
    (rule : Programs) (seed : Seed) (step : ℕ) (road : Cells) (sum : StepTally)
    → ReachesSpeedAtOnce rule → IsLegal seed.road → seed.warm ≡ 0 → ComesTo seed (always rule) step road sum
    → let limit = seed.road.limit in
    let gone : Car → ℕ = λ car. newell_distance limit (lane_of seed.road car.lane) car.place step in
    sum.distance ≡ sum_by gone (standing seed.road)

-- in the Nagel-Schreckenberg model with v_max = 1 and without randomization, which is Wolfram's rule 184,
-- each car of a run from a legal road goes exactly as far as the minimum principle allows
abbrev pub Rule184MinimumPrinciple : Type 0
Rule184MinimumPrinciple =
    (rule : Programs) (seed : Seed) (step : ℕ) (car : Car) (far : ℕ)
    → IsNasch 0 rule → IsLegal seed.road → seed.road.limit ≡ 1 → IsAt seed.road car
    → HasGone seed (always rule) step car.number far
    → far ≡ newell_distance seed.road.limit (lane_of seed.road car.lane) car.place step

-- without randomization the minimum principle holds from every step on at which cars have had time to reach
-- v_max, in the Nagel-Schreckenberg model from step v_max on. A car of a run from a legal road has gone
-- `far` cells at such a step, where the road is `first`; in the next k steps it goes exactly as far as the
-- minimum principle allows from there
abbrev pub MinimumPrincipleLater : Type 0
MinimumPrincipleLater =
    (rule : Programs) (seed : Seed) (delay step k : ℕ) (first road : Cells) (car : Car) (far more : ℕ)
    → AcceleratesIn seed.road.limit delay rule → IsLegal seed.road → delay ≤ step
    → IsRoadAt seed (always rule) step first → IsAt first car → IsRoadAt seed (always rule) (step + k) road
    → HasGone seed (always rule) step car.number far → HasGone seed (always rule) (step + k) car.number more
    → more ≡ far + newell_distance seed.road.limit (lane_of first car.lane) car.place k

-- under any sheet of rules without lane changes no car of a run from a legal road goes further than the
-- minimum principle allows
abbrev pub NobodyBeatsMinimumPrinciple : Type 0
NobodyBeatsMinimumPrinciple =
    (sheet : Sheet) (seed : Seed) (step : ℕ) (car : Car) (far : ℕ)
    → EachRule StaysInLane sheet → IsLegal seed.road → IsAt seed.road car
    → HasGone seed sheet step car.number far
    → far ≤ newell_distance seed.road.limit (lane_of seed.road car.lane) car.place step
