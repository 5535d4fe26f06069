-- Accepted programs have an answer for each car of a legal road.
use Rattle.std.proofs.Common.{◌≡◌, ℕ, zero, suc, ◌-◌, ◌<◌, ◌≤◌, Bool, Option, true, false, cond, Some, None}
use Rattle.std.proofs.Common.{length, refl, subst, arith, is_none}
use Rattle.trlab_bounds.specs.declared.roads.TheConstants.{MAX_LENGTH}
use Rattle.trlab_words.proofs.RandomWords.{length-random_words}
use Rattle.trlab_code.specs.{declared.program.Kind.TheVariants.{Motion, Change}, Views.IsViewInRange}
use Rattle.trlab_verify.specs.Verified.{CheckedProgram, IsChecked}
use Rattle.trlab_road.specs.{Cells.{Cell, Cells, Lane, cell, lane_of, IsAt, IsLegal}, LaneChange.other_lane}
use Rattle.trlab_road.specs.{LaneChange.CrossesToEmpty, Gaps.{gap, side, ahead, behind, clear_cells, largest}}
use Rattle.trlab_road.specs.{Gaps.is_clear, Motion.Fits, declared.car.Car.Car}
use Rattle.trlab_road.proofs.{Headspeeds.headspeed_within, MotionLaws.on_lane, Ring.car_in}
use Rattle.trlab_machine.proofs.{Crossings.checked_change_answers, Speeds.checked_motion_moves}
use Rattle.trlab_machine.specs.{declared.dice.Dice.Dice, Blocks.words_of}
use Rattle.trlab_step.specs.Answers.{motion_view_of, change_view_of, AnswersSpeed, AnswersCrossing}
use Rattle.trlab_step.specs.Answers.{AnswersSpeeds, AnswersCrossings}

greatest_within : (test : ℕ → Bool) (n : ℕ) → largest test n ≤ n
greatest_within test zero = omega arith
greatest_within test (suc n) = pick (test (suc n)) n (largest test n) (greatest_within test n)
  where
    pick : (b : Bool) (n g : ℕ) → g ≤ n → cond b (suc n) g ≤ suc n
    pick true n g h = omega arith
    pick false n g h = omega arith

-- a run of empty cells is shorter than the lane
clear_within : (lane : Lane) (way : ℕ → ℕ) → clear_cells lane way ≤ length lane - 1
clear_within lane way = greatest_within (is_clear lane way) (length lane - 1)

or_none : (b : Bool) (n most : ℕ) → n ≤ most → cond b n 0 ≤ most
or_none true n most h = h
or_none false n most h = omega arith

short_run : (run n cells : ℕ) → run ≤ n - 1 → n ≡ cells → cells ≤ MAX_LENGTH → run ≤ 99999
short_run run n cells most size high = omega (arith, most, size, high)

not_below : (n : ℕ) → 0 ≤ n
not_below n = omega arith

lane_beside : (l lanes : ℕ) → lanes ≡ 2 → other_lane l < lanes
lane_beside l lanes two = omega (arith, two)

lane_low : (l lanes : ℕ) → l < lanes → lanes ≡ 2 → l ≤ 1
lane_low l lanes on two = omega (arith, on, two)

-- an empty cell holds no car
not_some : {A : Type 0} {a : A} → ◌≡◌ {A = Option A} None (Some a) → ⊥
not_some h = cc

-- a lane of a legal road is short, and so are the distances that a car sees on it
pub seen_within : (road : Cells) (l : ℕ) (way : ℕ → ℕ) → IsLegal road → l < length road.lanes → clear_cells (lane_of road l) way ≤ 99999
seen_within road l way legal on =
    short_run (clear_cells (lane_of road l) way) (length (lane_of road l)) (length (lane_of road 0)) (clear_within (lane_of road l) way) (legal.shape.equal l on) legal.shape.cells.few_cells

-- the view of a car of a legal road is in range for its motion program
pub motion_view_is_view : (road : Cells) (car : Car) → IsLegal road → IsAt road car → IsViewInRange (motion_view_of road car)
motion_view_is_view road car legal here = record {
  speed = legal.within_limit car here;
  some_limit = legal.shape.limit.some_limit;
  limit = legal.shape.limit.low_limit;
  gap = seen_within road car.lane (ahead (length (lane_of road car.lane)) car.place) legal (on_lane road car.lane car.place (car.number, car.speed) here);
  sidegap = not_below 99999;
  sideback = not_below 99999;
  lane = not_below 1;
  headspeed = headspeed_within road car.lane car.place legal;
}

-- the view of a car of a legal road of two lanes is in range for its change program
pub change_view_is_view : (road : Cells) (car : Car) → IsLegal road → length road.lanes ≡ 2 → IsAt road car → IsViewInRange (change_view_of road car)
change_view_is_view road car legal two here =
    let l = car.lane in
    let x = car.place in
    let on = on_lane road l x (car.number, car.speed) here in
    let beside = lane_beside l (length road.lanes) two in
    let other = lane_of road (other_lane l) in
    let empty = side other x in
    record {
      speed = legal.within_limit car here;
      some_limit = legal.shape.limit.some_limit;
      limit = legal.shape.limit.low_limit;
      gap = seen_within road l (ahead (length (lane_of road l)) x) legal on;
      sidegap = or_none empty (clear_cells other (ahead (length other) x)) 99999 (seen_within road (other_lane l) (ahead (length other) x) legal beside);
      sideback = or_none empty (clear_cells other (behind (length other) x)) 99999 (seen_within road (other_lane l) (behind (length other) x) legal beside);
      lane = lane_low l (length road.lanes) on two;
      headspeed = headspeed_within road l x legal;
    }

some_inside : {a b : ℕ × ℕ} → ◌≡◌ {A = Cell} (Some a) (Some b) → a ≡ b
some_inside h = cc

-- the speed of a motion program for the content of a cell, if this is a car
record AnswersCell (motion : CheckedProgram) (dice : Dice) (road : Cells) (l x : ℕ) (c : Cell) (v : ℕ) : Type 0 where
  answers : (number speed : ℕ) → c ≡ Some (number, speed) → AnswersSpeed motion dice road (car_in l x number speed) v
  within_gap : (number speed : ℕ) → c ≡ Some (number, speed) → v ≤ gap (lane_of road l) x
  within_limit : (number speed : ℕ) → c ≡ Some (number, speed) → v ≤ road.limit

answer_of : (motion : CheckedProgram) (dice : Dice) (road : Cells) → IsChecked Motion motion → IsLegal road → (l x : ℕ) (c : Cell) → cell road l x ≡ c → (v : ℕ) × AnswersCell motion dice road l x c v
answer_of motion dice road checked legal l x None empty = (0, record { answers = λ number speed h. absurd (not_some h); within_gap = λ number speed h. absurd (not_some h); within_limit = λ number speed h. absurd (not_some h) })
answer_of motion dice road checked legal l x (Some here) is =
    let car = car_in l x here.0 here.1 in
    let ends = checked_motion_moves motion (motion_view_of road car) (words_of dice here.0) checked (motion_view_is_view road car legal is) (length-random_words dice.key dice.road here.0 dice.step) in (
      ends.speed,
      record {
        answers = λ number speed h. subst (λ (c : ℕ × ℕ). AnswersSpeed motion dice road (car_in l x c.0 c.1) ends.speed) (some_inside h) (ends.steps, ends.ends);
        within_gap = λ number speed h. ends.allowed.gap;
        within_limit = λ number speed h. ends.allowed.limit;
      },
    )

-- an accepted motion program has a speed for each car of a legal road, within its gap and the limit
pub speeds_exist : (motion : CheckedProgram) (dice : Dice) (road : Cells) → IsChecked Motion motion → IsLegal road → (speeds : ℕ → ℕ → ℕ) × AnswersSpeeds motion dice road speeds × Fits speeds road
speeds_exist motion dice road checked legal =
    let answer = λ (l x : ℕ). answer_of motion dice road checked legal l x (cell road l x) refl in (
      λ l x. (answer l x).0,
      record { each = λ car here. (answer car.lane car.place).1.answers car.number car.speed here },
      record {
        each_lane = λ l h. record { gaps = λ x. (answer l x).1.within_gap };
        within_limit = λ car here. (answer car.lane car.place).1.within_limit car.number car.speed here;
      },
    )

none_of : (c : Cell) → is_none c ≡ true → c ≡ None
none_of None h = refl
none_of (Some car) h = absurd cc

-- the answer of a change program for the content of a cell, if this is a car
record ChoosesCell (change : CheckedProgram) (dice : Dice) (road : Cells) (l x : ℕ) (c : Cell) (crosses : Bool) : Type 0 where
  answers : (number speed : ℕ) → c ≡ Some (number, speed) → AnswersCrossing change dice road (car_in l x number speed) crosses
  side_empty : (number speed : ℕ) → c ≡ Some (number, speed) → crosses ≡ true → cell road (other_lane l) x ≡ None

crossing_of : (change : CheckedProgram) (dice : Dice) (road : Cells) → IsChecked Change change → IsLegal road → length road.lanes ≡ 2 → (l x : ℕ) (c : Cell) → cell road l x ≡ c → (crosses : Bool) × ChoosesCell change dice road l x c crosses
crossing_of change dice road checked legal two l x None empty = (false, record { answers = λ number speed h. absurd (not_some h); side_empty = λ number speed h. absurd (not_some h) })
crossing_of change dice road checked legal two l x (Some here) is =
    let car = car_in l x here.0 here.1 in
    let ends = checked_change_answers change (change_view_of road car) (words_of dice here.0) checked (change_view_is_view road car legal two is) (length-random_words dice.key dice.road here.0 dice.step) in (
      ends.crosses,
      record {
        answers = λ number speed h. subst (λ (c : ℕ × ℕ). AnswersCrossing change dice road (car_in l x c.0 c.1) ends.crosses) (some_inside h) (ends.steps, ends.ends);
        side_empty = λ number speed h goes. none_of (cell road (other_lane l) x) (ends.side goes);
      },
    )

-- an accepted change program has an answer for each car of a legal road of two lanes, and changes only to
-- empty cells
pub crossings_exist : (change : CheckedProgram) (dice : Dice) (road : Cells) → IsChecked Change change → IsLegal road → length road.lanes ≡ 2 → (crosses : ℕ → ℕ → Bool) × AnswersCrossings change dice road crosses × CrossesToEmpty crosses road
crossings_exist change dice road checked legal two =
    let choice = λ (l x : ℕ). crossing_of change dice road checked legal two l x (cell road l x) refl in (
      λ l x. (choice l x).0,
      record { each = λ car here. (choice car.lane car.place).1.answers car.number car.speed here },
      record { two_lanes = two; side_empty = λ car here. (choice car.lane car.place).1.side_empty car.number car.speed here },
    )
