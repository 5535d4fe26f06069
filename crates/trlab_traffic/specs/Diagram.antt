-- The fundamental diagram of the Nagel-Schreckenberg model without randomization is a triangle: the flow of
-- one lane reaches min(v_max * density, 1 - density), and keeps this value. Laws: `nasch_reaches_triangle`,
-- `rule_184_reaches_triangle`, `gap_reaches_triangle`, `even_cars_flow_on_triangle`.
use Rattle.std.specs.Prelude.{◌≡◌, ℕ, ◌+◌, ◌-◌, ◌*◌, ◌<◌, ◌≤◌, length, min, sum_by}
use Rattle.trlab_road.specs.{declared.car.Car.Car, Cells.{Cells, IsAt, lane_of, cars, IsLegal}, Gaps.gap}
use Rattle.trlab_road.specs.Spreading.{IsEvenlySpaced, CanSpread}
use Rattle.trlab_rules.specs.Rules.{Programs, IsNasch}
use Rattle.trlab_step.specs.{declared.tally.StepTally.StepTally, Run.{Seed, Sheet, ComesTo}}
use Rattle.trlab_traffic.specs.Terms.{EachRule, StaysInLane, always, counted_steps, empty_cells}
use Rattle.trlab_traffic.specs.{Terms.{lane_max_distance, max_distance}, FlowAndJams.IsQueued}
use Rattle.trlab_traffic.specs.Comparison.{ReachesSpeedAtOnce}

-- the flow of a run is on the triangle, min(v_max * density, 1 - density): per counted step its distance
-- is v_max times the number of cars, or the number of empty cells, whichever is smaller
abbrev pub FlowsOnTriangle : Seed → ℕ → StepTally → Type 0
FlowsOnTriangle seed step sum = sum.distance ≡ counted_steps seed step * max_distance seed.road

-- a lane or road whose cars need `delay` steps to reach v_max, the limit, and can together move at most
-- `most` cells per step, has relaxed at step `step` if the first `delay` steps are over and one car at
-- v_max can move `most` cells from then until the end of this step. So with N cars and E empty cells,
-- `step` is at least `delay`, and at least delay - 1 + min(N, E / v_max)
pub record HasRelaxed (limit delay most step : ℕ) : Type 0 where
  pub to_accelerate : delay ≤ step
  pub to_spread : most ≤ limit * (step + 1 - delay)

-- in the Nagel-Schreckenberg model without randomization the flow of a run from any legal road of one lane
-- is min(v_max * density, 1 - density) if it has relaxed at step `warm`
abbrev pub NaschReachesTriangle : Type 0
NaschReachesTriangle =
    (rule : Programs) (seed : Seed) (step : ℕ) (road : Cells) (sum : StepTally)
    → IsNasch 0 rule → IsLegal seed.road → length seed.road.lanes ≡ 1
    → HasRelaxed seed.road.limit seed.road.limit (max_distance seed.road) seed.warm
    → ComesTo seed (always rule) step road sum
    → FlowsOnTriangle seed step sum

-- in the Nagel-Schreckenberg model without randomization the distance of a run from a legal road is, per
-- counted step, the sum over its lanes of v_max times the number of cars or the number of empty cells,
-- whichever is smaller on the lane, if each lane has relaxed at step `warm`. The sum is less than the
-- minimum for the whole road if v_max limits one lane and the empty cells the other
abbrev pub NaschReachesTriangleByLane : Type 0
NaschReachesTriangleByLane =
    (rule : Programs) (seed : Seed) (step : ℕ) (road : Cells) (sum : StepTally)
    → IsNasch 0 rule → IsLegal seed.road
    → ((l : ℕ) → l < length seed.road.lanes
    → let most = lane_max_distance seed.road.limit (lane_of seed.road l) in
    HasRelaxed seed.road.limit seed.road.limit most seed.warm)
    → ComesTo seed (always rule) step road sum
    → sum.distance ≡ counted_steps seed step * sum_by (lane_max_distance seed.road.limit) seed.road.lanes

-- in the Nagel-Schreckenberg model without randomization and with v_max = 1, which is Wolfram's rule 184,
-- the flow of a run from any legal road of one lane with N cars and E empty cells is min(density,
-- 1 - density) if `warm` is at least min(N, E) - 1
abbrev pub Rule184ReachesTriangle : Type 0
Rule184ReachesTriangle =
    (rule : Programs) (seed : Seed) (step : ℕ) (road : Cells) (sum : StepTally)
    → IsNasch 0 rule → IsLegal seed.road → length seed.road.lanes ≡ 1 → seed.road.limit ≡ 1
    → min (cars seed.road) (empty_cells seed.road) ≤ seed.warm + 1 → ComesTo seed (always rule) step road sum
    → FlowsOnTriangle seed step sum

-- under a rule that lets cars reach their speed at once, the flow of a run from any legal road of one lane
-- is min(v_max * density, 1 - density) if in `warm` + 1 steps one car at v_max moves as far as all cars
-- together can move in one step: with N cars and E empty cells, if `warm` is at least min(N, E / v_max) - 1
abbrev pub GapReachesTriangle : Type 0
GapReachesTriangle =
    (rule : Programs) (seed : Seed) (step : ℕ) (road : Cells) (sum : StepTally)
    → ReachesSpeedAtOnce rule → IsLegal seed.road → length seed.road.lanes ≡ 1
    → max_distance seed.road ≤ seed.road.limit * (seed.warm + 1) → ComesTo seed (always rule) step road sum
    → FlowsOnTriangle seed step sum

-- all cars of a road of one lane are in one queue, as on `..000.` or `0...00`: `head` has all empty cells
-- ahead of it, and `tail` is the last car of the queue
pub record AreInOneQueue (road : Cells) (head tail : Car) : Type 0 where
  pub one_lane : length road.lanes ≡ 1
  pub head_on_road : IsAt road head
  pub all_room : gap (lane_of road head.lane) head.place ≡ empty_cells road
  pub tail_is_last : IsQueued road head.place (cars road - 1) (cars road - 1) tail

-- from one queue no rules without lane changes reach the triangle sooner than `GapReachesTriangle` says: as
-- long as one car at v_max could not have moved as far as all cars together can move in one step, the
-- distance of a step is below min(v_max * cars, empty cells). The run ends with this step, `warm`, the only
-- one that is counted
abbrev pub QueueReachesTriangleNoSooner : Type 0
QueueReachesTriangleNoSooner =
    (sheet : Sheet) (seed : Seed) (road : Cells) (sum : StepTally) (head tail : Car)
    → EachRule StaysInLane sheet → IsLegal seed.road → AreInOneQueue seed.road head tail
    → seed.road.limit * (seed.warm + 1) < max_distance seed.road
    → ComesTo seed sheet (seed.warm + 1) road sum → sum.distance < max_distance seed.road

-- in the Nagel-Schreckenberg model without randomization the flow of a run from n evenly spaced, stopped
-- cars on one lane is min(v_max * density, 1 - density) if `warm` is at least v_max - 1: time to reach
-- v_max
abbrev pub EvenCarsFlowOnTriangle : Type 0
EvenCarsFlowOnTriangle =
    (cells limit n : ℕ) (rule : Programs) (seed : Seed) (step : ℕ) (road : Cells) (sum : StepTally)
    → IsNasch 0 rule → CanSpread 1 cells limit n → IsEvenlySpaced 1 cells limit n seed.road
    → limit ≤ seed.warm + 1 → ComesTo seed (always rule) step road sum
    → FlowsOnTriangle seed step sum
