-- The answers of the cars of a road in a step, from their views; the views of a block of cars; and the calls of
-- programs in a step, each of which is safe.
use Rattle.std.specs.Prelude.{◌≡◌, ◌+◌, ◌<◌, ◌≤◌, ℕ, Bool, true, false, Some, List, length, slice_get}
use Rattle.std.specs.Prelude.{slice_index, slice_index_or, IfSome}
use Rattle.trlab_code.specs.declared.{program.Kind.{Kind, TheVariants.{Motion, Change}}, view.View.View}
use Rattle.trlab_code.specs.Views.{motion_view, change_view, IsViewInRange}
use Rattle.trlab_code.specs.Machine.{Goes, EndsWith, EndsWithin}
use Rattle.trlab_verify.specs.Verified.{CheckedProgram}
use Rattle.trlab_machine.specs.{declared.dice.Dice.Dice, Blocks.words_of, Answers.crossing_answer}
use Rattle.trlab_road.specs.{declared.car.Car.Car, Cells.{Cells, IsAt, lane_of, IsNthCar}, Motion.gaps}
use Rattle.trlab_road.specs.{Gaps.{gap, headspeed, side, sidegap, sideback}, LaneChange.{other_lane, sides}}
use Rattle.trlab_rules.specs.Rules.{Programs}

-- the dice of a step of a run: the key, the number of the road and the number of the step, which determine
-- the random words of each car
abbrev pub dice_of : List ℕ → ℕ → ℕ → Dice
dice_of key road_number step = record { key = key; road = road_number; step = step }

-- the view of a car on a road for a motion program: its speed, the limit, its gap and its headspeed
abbrev pub motion_view_of : Cells → Car → View
motion_view_of road car =
    let own = lane_of road car.lane in
    motion_view car.speed road.limit (gap own car.place) (headspeed own car.place)

-- the view of a car on a road for a change program: its speed, the limit, its gap, its lane and its
-- headspeed; and, on the other lane, whether its side cell is empty, its sidegap and its sideback
abbrev pub change_view_of : Cells → Car → View
change_view_of road car =
    let own = lane_of road car.lane in
    let other = lane_of road (other_lane car.lane) in
    change_view car.speed road.limit (gap own car.place) (side other car.place)
    (sidegap other car.place) (sideback other car.place) car.lane (headspeed own car.place)

-- the motion program, run for the car on the road with the car's random words from the dice, ends with the
-- speed `answer`
abbrev pub AnswersSpeed : CheckedProgram → Dice → Cells → Car → ℕ → Type 0
AnswersSpeed motion dice road car answer =
    (steps : ℕ) × EndsWith Motion motion.program.instrs
    (motion_view_of road car) (words_of dice car.number) (Goes answer) steps

-- the change program, run for the car on the road with the car's random words from the dice, ends with the
-- answer to cross if `crosses` is true, otherwise with the answer to stay
abbrev pub AnswersCrossing : CheckedProgram → Dice → Cells → Car → Bool → Type 0
AnswersCrossing change dice road car crosses =
    (steps : ℕ) × EndsWith Change change.program.instrs
    (change_view_of road car) (words_of dice car.number) (crossing_answer crosses) steps

-- `answers` is a function of lane and place; for each car of the road, `IsAnswer` holds for the car and the
-- answer at its lane and place
pub record AreAnswers {X : Type 0} (IsAnswer : Car → X → Type 0) (road : Cells)
    (answers : ℕ → ℕ → X) : Type 0 where
  pub each : (car : Car) → IsAt road car → IsAnswer car (answers car.lane car.place)

-- `answers` lists one answer for each index `from..to` of the standing order (for example 2, 3 and 4 for
-- `2..5`), and `IsAnswer` holds for the car with this index, if there is one, and its answer
pub record AreAnswersPart {X : Type 0} (IsAnswer : Car → X → Type 0) (road : Cells) (from to : ℕ)
    (answers : List X) : Type 0 where
  pub one_each : from + length answers ≡ to
  pub each : (k : ℕ) (car : Car) (answer : X) → slice_get answers k ≡ Some answer
      → IsNthCar road (from + k) car → IsAnswer car answer

-- a function of lane and place gives, for each car of the road, the speed that the motion program answers
abbrev pub AnswersSpeeds : CheckedProgram → Dice → Cells → (ℕ → ℕ → ℕ) → Type 0
AnswersSpeeds motion dice road = AreAnswers (AnswersSpeed motion dice road) road

-- a function of lane and place gives, for each car of the road, the answer of the change program: true if the
-- car crosses, false if it stays
abbrev pub AnswersCrossings : CheckedProgram → Dice → Cells → (ℕ → ℕ → Bool) → Type 0
AnswersCrossings change dice road = AreAnswers (AnswersCrossing change dice road) road

-- a list has the speeds that the motion program answers for the cars `from..to` in standing order
abbrev pub AnswersSpeedsPart : CheckedProgram → Dice → Cells → ℕ → ℕ → List ℕ → Type 0
AnswersSpeedsPart motion dice road = AreAnswersPart (AnswersSpeed motion dice road) road

-- a list has the answers of the change program for the cars `from..to` in standing order: true to cross,
-- false to stay
abbrev pub AnswersCrossingsPart : CheckedProgram → Dice → Cells → ℕ → ℕ → List Bool → Type 0
AnswersCrossingsPart change dice road = AreAnswersPart (AnswersCrossing change dice road) road

-- `speeds` are for the cars from index `from` of the standing order on, and each is at most the limit and the
-- car's gap
pub record SpeedsFitPart (road : Cells) (from : ℕ) (speeds : List ℕ) : Type 0 where
  pub within_gaps : (k : ℕ) → k < length speeds
      → slice_index speeds k ≤ slice_index (gaps road) (from + k)
  pub within_limit : (k : ℕ) → k < length speeds → slice_index speeds k ≤ road.limit

-- `crosses` is for the cars from index `from` of the standing order on, and true only for cars whose side
-- cell is empty
pub record CrossingsFitPart (road : Cells) (from : ℕ) (crosses : List Bool) : Type 0 where
  pub side_empty : (k : ℕ) → k < length crosses → slice_index_or crosses k false ≡ true
      → slice_index_or (sides road) (from + k) false ≡ true

-- the motion program answers `speeds` for the cars `from..to` in standing order, and each speed is at most
-- the limit and the car's gap
abbrev pub IsSpeedsPart : CheckedProgram → Dice → Cells → ℕ → ℕ → List ℕ → Type 0
IsSpeedsPart motion dice road from to speeds =
    AnswersSpeedsPart motion dice road from to speeds × SpeedsFitPart road from speeds

-- the change program answers `crosses` for the cars `from..to` in standing order, and only cars with an empty
-- side cell cross
abbrev pub IsCrossingsPart : CheckedProgram → Dice → Cells → ℕ → ℕ → List Bool → Type 0
IsCrossingsPart change dice road from to crosses =
    AnswersCrossingsPart change dice road from to crosses × CrossingsFitPart road from crosses

-- the view of a car on a road, for a program of this kind: a motion program or a change program
abbrev pub view_for_kind : Kind → Cells → Car → View
view_for_kind Motion road car = motion_view_of road car
view_for_kind Change road car = change_view_of road car

-- `view` is the view of the k-th car in standing order, for a motion program or a change program, and
-- `number` is its number. The view is in range; its limit is the road's limit, its gap is entry k of the
-- road's list `gaps`, and for a change program its `side` is entry k of `sides`
pub record DescribesCar (kind : Kind) (road : Cells) (k : ℕ) (view : View) (number : ℕ) : Type 0 where
  pub is_view : IsViewInRange view
  pub seen : (car : Car) → IsNthCar road k car → view ≡ view_for_kind kind road car
  pub number_of : (car : Car) → IsNthCar road k car → number ≡ car.number
  pub limit : view.limit ≡ road.limit
  pub gap : view.gap ≡ slice_index (gaps road) k
  pub side : kind ≡ Change → view.side ≡ slice_index_or (sides road) k false

-- the call of the program `checked` for a car is safe: the car's view is in range, and with the car's random
-- words the program ends with an answer within its budget
pub record IsSafeCall (kind : Kind) (checked : CheckedProgram) (dice : Dice) (road : Cells)
    (car : Car) : Type 0 where
  pub in_range : IsViewInRange (view_for_kind kind road car)
  pub ends : EndsWithin kind checked.program.instrs (view_for_kind kind road car)
      (words_of dice car.number) checked.budget

-- the call of a program for each car of the road is safe
abbrev pub AreSafeCalls : Kind → CheckedProgram → Dice → Cells → Type 0
AreSafeCalls kind checked dice road =
    (car : Car) → IsAt road car → IsSafeCall kind checked dice road car

-- all calls of a step are safe: those of the change program, if there is one, for the cars of the road before
-- the step, and those of the motion program for the cars of the middle road, after the lane change
pub record StepCallsAreSafe (rule : Programs) (dice : Dice) (road middle : Cells) : Type 0 where
  pub lane_change : IfSome rule.change (λ change. AreSafeCalls Change change dice road)
  pub motion : AreSafeCalls Motion rule.motion dice middle
