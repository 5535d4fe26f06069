-- Laws of answers, steps and runs, independent of the code that computes the answers and moves the cars; and
-- driven runs, which have all guarantees step by step. The cars `from..to` are those with the indices from,
-- from + 1 and so on to to - 1 in standing order.
use Rattle.std.specs.Prelude.{◌≡◌, ◌≤◌, ◌++◌, ℕ, suc, Bool, Option, Some, None, List, [], length, sum}
use Rattle.std.specs.Prelude.{count_by, nat_eq, nat_le, if◌then◌else◌, ◌<◌}
use Rattle.trlab_code.specs.{declared.program.Kind.{Kind, TheVariants.{Motion, Change}}, Views.IsViewInRange}
use Rattle.trlab_verify.specs.Verified.{CheckedProgram, IsChecked}
use Rattle.trlab_road.specs.{declared.car.Car.Car, Cells.{Cells, IsAt, cars, IsLegal}}
use Rattle.trlab_road.specs.{LaneChange.ChangesLanes, Motion.{Moves, in_order}}
use Rattle.trlab_rules.specs.Rules.{Programs}
use Rattle.trlab_step.specs.{declared.tally.StepTally.StepTally, Answers.{AnswersCrossing, AnswersSpeed}}
use Rattle.trlab_step.specs.Answers.{AnswersSpeedsPart, AnswersCrossingsPart, IsSpeedsPart, view_for_kind}
use Rattle.trlab_step.specs.{Answers.StepCallsAreSafe, Next.{IsNext, IsCleanNext, IsStep}, Run.{Seed, Sheet}}
use Rattle.trlab_step.specs.Run.{in_force, tally_sum, dice_at, ComesTo, IsRuleFor, IsSheetFor, IsRoadAt}
use Rattle.trlab_machine.specs.declared.dice.Dice.{Dice}

-- road `new` is legal, and has the limit and the numbers of lanes and cars of road `old`
pub record IsLegalLike (old new : Cells) : Type 0 where
  pub legal : IsLegal new
  pub same_lanes : length new.lanes ≡ length old.lanes
  pub same_limit : new.limit ≡ old.limit
  pub same_count : cars new ≡ cars old

-- for the cars `from..to` of a road, with given dice, a motion program answers at most one list of speeds
abbrev pub SpeedsAreUnique : Type 0
SpeedsAreUnique =
    (motion : CheckedProgram) (dice : Dice) (road : Cells) (from to : ℕ) (speeds others : List ℕ)
    → to ≤ cars road → AnswersSpeedsPart motion dice road from to speeds
    → AnswersSpeedsPart motion dice road from to others → speeds ≡ others

-- a motion program's speeds for the cars `from..middle`, followed by those for the cars `middle..to`, are its
-- speeds for the cars `from..to`
abbrev pub SpeedsJoin : Type 0
SpeedsJoin =
    (motion : CheckedProgram) (dice : Dice) (road : Cells) (from middle to : ℕ) (first second : List ℕ)
    → AnswersSpeedsPart motion dice road from middle first
    → AnswersSpeedsPart motion dice road middle to second
    → AnswersSpeedsPart motion dice road from to (first ++ second)

-- for the cars `from..to` of a road, with given dice, a change program answers at most one list of crossings
abbrev pub CrossingsAreUnique : Type 0
CrossingsAreUnique =
    (change : CheckedProgram) (dice : Dice) (road : Cells) (from to : ℕ) (crosses others : List Bool)
    → to ≤ cars road → AnswersCrossingsPart change dice road from to crosses
    → AnswersCrossingsPart change dice road from to others → crosses ≡ others

-- a change program's answers for the cars `from..middle`, followed by those for the cars `middle..to`, are
-- its answers for the cars `from..to`
abbrev pub CrossingsJoin : Type 0
CrossingsJoin =
    (change : CheckedProgram) (dice : Dice) (road : Cells) (from middle to : ℕ) (first second : List Bool)
    → AnswersCrossingsPart change dice road from middle first
    → AnswersCrossingsPart change dice road middle to second
    → AnswersCrossingsPart change dice road from to (first ++ second)

-- the lane change from `road` to `middle` by the list `crosses`. With a change program, the road has two
-- lanes, the list has the program's answers for all cars in standing order, and all cars whose answer is true
-- cross at once. Without one (`None`), the list is empty, and the road does not change
abbrev pub IsLaneChangeByAnswers : Option CheckedProgram → Dice → Cells → Cells → List Bool → Type 0
IsLaneChangeByAnswers None dice road middle crosses = (middle ≡ road) × (crosses ≡ [])
IsLaneChangeByAnswers (Some change) dice road middle crosses =
    (length road.lanes ≡ 2) × AnswersCrossingsPart change dice road 0 (cars road) crosses
    × ((answer : ℕ → ℕ → Bool) → crosses ≡ in_order answer road → ChangesLanes answer road middle)

-- the motion from `road` to `next` by the list `speeds`: it has the motion program's answers for all cars in
-- standing order, each at most the limit and the car's gap, and all cars move by these speeds at once
pub record IsMotionByAnswers (motion : CheckedProgram) (dice : Dice) (road next : Cells) (speeds : List ℕ)
    : Type 0 where
  pub answers : IsSpeedsPart motion dice road 0 (cars road) speeds
  pub moves : (answer : ℕ → ℕ → ℕ) → speeds ≡ in_order answer road → Moves answer road next

-- the tally of a step from its answers: the sum of `speeds`, the number of zeros among them, and the number
-- of true entries of `crosses`; for example, speeds 2, 0 and 1 have distance 3 and one stopped car
abbrev pub tally_of_answers : List Bool → List ℕ → StepTally
tally_of_answers crosses speeds = record {
  distance = sum speeds;
  stopped = count_by (λ speed. nat_eq speed 0) speeds;
  changes = count_by (λ answer. answer) crosses;
}

-- if a lane change by a list of answers leads from `road` to `middle`, and a motion by such a list from there
-- to `next`, then `next` is the next road after `road`, with the tally of these answers
abbrev pub AnswersLeadToNextRoad : Type 0
AnswersLeadToNextRoad =
    (rule : Programs) (dice : Dice) (road middle next : Cells) (crosses : List Bool) (speeds : List ℕ)
    → IsLaneChangeByAnswers rule.change dice road middle crosses
    → IsMotionByAnswers rule.motion dice middle next speeds
    → IsNext rule dice road next (tally_of_answers crosses speeds)

-- on a legal road, the view of each car is in range: for motion programs, and on two lanes for change
-- programs
abbrev pub ViewsAreInRange : Type 0
ViewsAreInRange =
    (kind : Kind) (road : Cells) (car : Car) → IsLegal road → (kind ≡ Change → length road.lanes ≡ 2)
    → IsAt road car → IsViewInRange (view_for_kind kind road car)

-- if an accepted motion program answers a speed for a car of a legal road, it has executed at most as many
-- instructions as its budget
abbrev pub SpeedsComeWithinBudget : Type 0
SpeedsComeWithinBudget =
    (motion : CheckedProgram) (dice : Dice) (road : Cells) (car : Car) (speed : ℕ)
    → IsChecked Motion motion → IsLegal road → IsAt road car
    → (answer : AnswersSpeed motion dice road car speed) → answer.0 ≤ motion.budget

-- if an accepted change program answers for a car of a legal road with two lanes, it has executed at most as
-- many instructions as its budget
abbrev pub CrossingsComeWithinBudget : Type 0
CrossingsComeWithinBudget =
    (change : CheckedProgram) (dice : Dice) (road : Cells) (car : Car) (crosses : Bool)
    → IsChecked Change change → IsLegal road → length road.lanes ≡ 2 → IsAt road car
    → (answer : AnswersCrossing change dice road car crosses) → answer.0 ≤ change.budget

-- in a step of a legal road, under a rule for its number of lanes, all calls of programs are safe: each view
-- is in range, and each call ends with an answer within the budget
abbrev pub StepsCallSafely : Type 0
StepsCallSafely =
    (rule : Programs) (dice : Dice) (road middle next : Cells) (tally : StepTally)
    → IsRuleFor (length road.lanes) rule → IsLegal road → IsStep rule dice road middle next tally
    → StepCallsAreSafe rule dice road middle

-- under a rule for its number of lanes a legal road has a next road, which is legal, with the same limit and
-- the same numbers of lanes and cars; in the step no car moves onto or through another, and all calls of
-- programs are safe
abbrev pub NextRoadExists : Type 0
NextRoadExists =
    (rule : Programs) (dice : Dice) (road : Cells) → IsRuleFor (length road.lanes) rule → IsLegal road
    → (next : Cells) × (tally : StepTally) × IsCleanNext rule dice road next tally × IsLegalLike road next

-- under one rule and with given dice, a road has at most one next road, with at most one tally
abbrev pub NextRoadIsUnique : Type 0
NextRoadIsUnique =
    (rule : Programs) (dice : Dice) (road next other : Cells) (tally other_tally : StepTally)
    → IsNext rule dice road next tally → IsNext rule dice road other other_tally
    → (next ≡ other) × (tally ≡ other_tally)

-- a run from a legal road, with rules for its number of lanes, has after any number of steps a road and a sum
-- of tallies; the road is legal, with the limit and the numbers of lanes and cars of the initial road
abbrev pub RoadExists : Type 0
RoadExists =
    (seed : Seed) (sheet : Sheet) (step : ℕ) → IsLegal seed.road → IsSheetFor (length seed.road.lanes) sheet
    → (road : Cells) × (sum : StepTally) × ComesTo seed sheet step road sum
    × IsLegalLike seed.road road

-- after any number of steps, a run has at most one road, and at most one sum of tallies
abbrev pub RoadIsUnique : Type 0
RoadIsUnique =
    (seed : Seed) (sheet : Sheet) (step : ℕ) (road other : Cells) (sum other_sum : StepTally)
    → ComesTo seed sheet step road sum → ComesTo seed sheet step other other_sum
    → (road ≡ other) × (sum ≡ other_sum)

-- from its road at a step, a run continues with the next road under the rule in force; if the step is `warm`
-- or later, its tally is added to the sum
abbrev pub RunContinues : Type 0
RunContinues =
    (seed : Seed) (sheet : Sheet) (step : ℕ) (road next : Cells) (sum tally : StepTally) (rule : Programs)
    → ComesTo seed sheet step road sum → in_force sheet step ≡ Some rule
    → IsNext rule (dice_at seed step) road next tally
    → ComesTo seed sheet (suc step) next (if nat_le seed.warm step then tally_sum sum tally else sum)

-- in each step of a run from a legal road, with rules for its number of lanes, all calls of programs are
-- safe: each view is in range, and each call ends with an answer within the budget
abbrev pub RunsCallSafely : Type 0
RunsCallSafely =
    (seed : Seed) (sheet : Sheet) (step : ℕ) (road middle next : Cells) (sum : StepTally) (rule : Programs)
    (tally : StepTally) → IsLegal seed.road → IsSheetFor (length seed.road.lanes) sheet
    → ComesTo seed sheet step road sum → in_force sheet step ≡ Some rule
    → IsStep rule (dice_at seed step) road middle next tally
    → StepCallsAreSafe rule (dice_at seed step) road middle

-- step `step` of a run is driven: the rule in force is for the number of lanes and leads from `road` to
-- `next`, no car moves onto or through another, no car is lost or added, and each call of a program is safe:
-- its view is in range, and it ends within its budget
pub record IsDrivenStep (seed : Seed) (sheet : Sheet) (step : ℕ) (road next : Cells) : Type 0 where
  pub rule : Programs
  pub tally : StepTally
  pub under : in_force sheet step ≡ Some rule
  pub suits : IsRuleFor (length road.lanes) rule
  pub clean : IsCleanNext rule (dice_at seed step) road next tally

-- a run is driven for `steps` steps: `roads 0` is the initial road, each step is driven, and each road
-- up to `roads steps` is legal, with the limit and the numbers of lanes and cars of `roads 0`
pub record IsDriven (seed : Seed) (sheet : Sheet) (steps : ℕ) (roads : ℕ → Cells) : Type 0 where
  pub start : roads 0 ≡ seed.road
  pub legal : (step : ℕ) → step ≤ steps → IsLegalLike seed.road (roads step)
  pub each : (step : ℕ) → step < steps → IsDrivenStep seed sheet step (roads step) (roads (suc step))

-- if a run starts from a legal road, with rules for its number of lanes, and `roads` gives its road at each
-- step up to `steps`, then the run is driven
abbrev pub RunsAreDriven : Type 0
RunsAreDriven =
    (seed : Seed) (sheet : Sheet) (steps : ℕ) (roads : ℕ → Cells)
    → IsLegal seed.road → IsSheetFor (length seed.road.lanes) sheet
    → ((step : ℕ) → step ≤ steps → IsRoadAt seed sheet step (roads step))
    → IsDriven seed sheet steps roads
