-- One step of a road: the lane change, then the motion, each for all cars at once.
use Rattle.std.specs.Prelude.{◌≡◌, ◌↔◌, ℕ, Bool, Option, Some, None, Result, Err, IfOk, IsSome, length}
use Rattle.std.specs.Prelude.{sum_by, count_by, nat_eq}
use Rattle.trlab_road.specs.{declared.car.Car.Car, Cells.{Cells, IsLegal, standing}}
use Rattle.trlab_road.specs.{LaneChange.{ChangesLanes, IsCleanLaneChange}, Motion.{Moves, IsCleanMotion}}
use Rattle.trlab_verify.specs.Verified.{CheckedProgram}
use Rattle.trlab_rules.specs.Rules.{Programs}
use Rattle.trlab_step.specs.declared.for_embedders.StepFault.{StepFault, TheVariants.LanesMismatch}
use Rattle.trlab_step.specs.declared.tally.StepTally.{StepTally}
use Rattle.trlab_step.specs.Answers.{AnswersSpeeds, AnswersCrossings, StepCallsAreSafe}
use Rattle.trlab_machine.specs.declared.dice.Dice.{Dice}

-- the sum of the speeds of all cars on a road
abbrev pub total_speed : Cells → ℕ
total_speed road = sum_by (λ (car : Car). car.speed) (standing road)

-- the number of cars on a road that are stopped: their speed is 0
abbrev pub stopped_cars : Cells → ℕ
stopped_cars road = count_by (λ (car : Car). nat_eq car.speed 0) (standing road)

-- the number of cars on a road for which `crosses`, a function of lane and place, is true
abbrev pub crossing_cars : (ℕ → ℕ → Bool) → Cells → ℕ
crossing_cars crosses road = count_by (λ (car : Car). crosses car.lane car.place) (standing road)

-- the lane change from `road` to `middle`, in which `changes` cars cross. With a change program, the road has
-- two lanes, and a car crosses exactly if the program answers true. Without one (`None`), no car crosses
abbrev pub IsLaneChangePhase : Option CheckedProgram → Dice → Cells → Cells → ℕ → Type 0
IsLaneChangePhase None dice road middle changes = (middle ≡ road) × (changes ≡ 0)
IsLaneChangePhase (Some change) dice road middle changes =
    (length road.lanes ≡ 2) × (crosses : ℕ → ℕ → Bool) × AnswersCrossings change dice road crosses
    × ChangesLanes crosses road middle × (changes ≡ crossing_cars crosses road)

-- the motion from `road` to `next`: each car moves by the speed that the motion program answers for it
abbrev pub IsMotionPhase : CheckedProgram → Dice → Cells → Cells → Type 0
IsMotionPhase motion dice road next =
    (speeds : ℕ → ℕ → ℕ) × AnswersSpeeds motion dice road speeds × Moves speeds road next

-- the motion from `road` to `next` by the answers of the motion program, with its tally, which counts no lane
-- changes; no car moves onto or through another, no car is lost or added, and `next` is legal
pub record IsCountedMotion (motion : CheckedProgram) (dice : Dice) (road next : Cells)
    (tally : StepTally) : Type 0 where
  pub phase : IsMotionPhase motion dice road next
  pub distance : tally.distance ≡ total_speed next
  pub stopped : tally.stopped ≡ stopped_cars next
  pub changes : tally.changes ≡ 0
  pub clean : IsCleanMotion road next
  pub legal : IsLegal next

-- a step under a rule: the lane change from `road` to `middle` (Rickert et al. 1996), then the motion from
-- there to `next` (Nagel and Schreckenberg 1992); `tally` has the number of lane changes, the sum of the new
-- speeds and the number of stopped cars
pub record IsStep (rule : Programs) (dice : Dice) (road middle next : Cells)
    (tally : StepTally) : Type 0 where
  pub lane_change : IsLaneChangePhase rule.change dice road middle tally.changes
  pub motion : IsMotionPhase rule.motion dice middle next
  pub distance : tally.distance ≡ total_speed next
  pub stopped : tally.stopped ≡ stopped_cars next

-- a step under a rule, with the dice of the step, leads from `road` to `next`; `tally` is its tally
abbrev pub IsNext : Programs → Dice → Cells → Cells → StepTally → Type 0
IsNext rule dice road next tally = (middle : Cells) × IsStep rule dice road middle next tally

-- a clean step: no car moves onto or through another, no car is lost or added, and each call of a program is
-- safe: its view is in range, and it ends within its budget
pub record IsCleanStep (rule : Programs) (dice : Dice) (road middle next : Cells)
    (tally : StepTally) : Type 0 where
  pub step : IsStep rule dice road middle next tally
  pub clean_lane_change : IsCleanLaneChange road middle
  pub clean_motion : IsCleanMotion middle next
  pub calls : StepCallsAreSafe rule dice road middle

-- a clean step under a rule, with the dice of the step, leads from `road` to `next`; `tally` is its tally
abbrev pub IsCleanNext : Programs → Dice → Cells → Cells → StepTally → Type 0
IsCleanNext rule dice road next tally = (middle : Cells) × IsCleanStep rule dice road middle next tally

-- `step_result` is the result of a step: the next road after a clean step, which is legal, and the tally; or
-- a fault, which is `LanesMismatch` exactly if the rule has a change program and the road has one lane
pub record IsStepResult (rule : Programs) (dice : Dice) (road : Cells)
    (step_result : Result (Cells × StepTally) StepFault) : Type 0 where
  pub mismatch : (step_result ≡ Err LanesMismatch) ↔ (IsSome rule.change × (length road.lanes ≡ 1))
  pub next : IfOk step_result (λ after. IsNext rule dice road after.0 after.1)
  pub clean : IfOk step_result (λ after. IsCleanNext rule dice road after.0 after.1)
  pub legal : IfOk step_result (λ after. IsLegal after.0)
