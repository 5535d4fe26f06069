-- The views of the cars whose programs are run, and the answers of their programs.
use Rattle.std.proofs.Common.{◌≡◌, ◌∙◌, ℕ, ◌≤◌, Bool, true, false, Some, List, length, refl, sym, ap, subst}
use Rattle.std.proofs.Common.{slice_index, slice_index_or}
use Rattle.trlab_code.specs.declared.{program.Kind.TheVariants.{Motion, Change}, view.View.View}
use Rattle.trlab_code.specs.{Machine.{EndsWith, Goes}, Views.{IsViewInRange, motion_view}}
use Rattle.trlab_machine.specs.Blocks.{CrossesWith, MovesWith, with_other_lane, words_of}
use Rattle.trlab_machine.specs.{Answers.crossing_answer, declared.dice.Dice.Dice}
use Rattle.trlab_road.specs.{declared.car.Car.Car, Cells.{Cells, lane_of, IsAt, IsLegal, IsNthCar}}
use Rattle.trlab_road.specs.{LaneChange.{other_lane, sides}, Gaps.{gap, headspeed, side, sidegap, sideback}}
use Rattle.trlab_road.specs.Motion.{gaps}
use Rattle.trlab_step.specs.Answers.{AnswersCrossing, AnswersSpeed, change_view_of, dice_of, motion_view_of}
use Rattle.trlab_step.{specs.Answers.DescribesCar, proofs.AnswersExist.change_view_is_view}
use Rattle.trlab_step.proofs.{AnswersExist.motion_view_is_view, Parts.{same_beside, same_view}}
use Rattle.trlab_verify.specs.Verified.{CheckedProgram}

some_same : {a b : Car} → Some a ≡ Some b → a ≡ b
some_same h = cc

-- an index of the standing order has only one car
same : (road : Cells) (k : ℕ) (told : Car) → IsNthCar road k told → (car : Car) → IsNthCar road k car → told ≡ car
same road k told order car here = some_same (sym order ∙ here)

not_change : Motion ≡ Change → ⊥
not_change h = cc

module _ (road : Cells) (k : ℕ) (told : Car) (order : IsNthCar road k told) (limit gap_ahead speed_ahead : ℕ) (limited : limit ≡ road.limit)
    (gap_is : gap_ahead ≡ slice_index (gaps road) k) (gap_of : (car : Car) → IsNthCar road k car → gap_ahead ≡ gap (lane_of road car.lane) car.place)
    (speed_of : (car : Car) → IsNthCar road k car → speed_ahead ≡ headspeed (lane_of road car.lane) car.place) where
  pub motion_asked : IsLegal road → IsAt road told → DescribesCar Motion road k (motion_view told.speed limit gap_ahead speed_ahead) told.number
  motion_asked legal at =
      let own : (car : Car) → IsNthCar road k car → motion_view told.speed limit gap_ahead speed_ahead ≡ motion_view_of road car =
      λ car here. same_view _ _ _ _ _ _ _ _ (ap (λ (one : Car). one.speed) (same road k told order car here)) limited (gap_of car here) (speed_of car here) in
      record {
        is_view = subst IsViewInRange (sym (own told order)) (motion_view_is_view road told legal at);
        seen = own;
        number_of = λ car here. ap (λ (one : Car). one.number) (same road k told order car here);
        limit = limited;
        gap = gap_is;
        side = λ e. absurd (not_change e);
      }

-- the parts of a car's view that only a change program sees
module _ (road : Cells) (k : ℕ) (told : Car) (order : IsNthCar road k told) (view : View) (number : ℕ) (own : DescribesCar Motion road k view number) where
  pub beside_asked : IsLegal road → length road.lanes ≡ 2 → IsAt road told → (empty : Bool) (ahead behind : ℕ) → empty ≡ slice_index_or (sides road) k false
      → ((car : Car) → IsNthCar road k car → empty ≡ side (lane_of road (other_lane car.lane)) car.place)
      → ((car : Car) → IsNthCar road k car → ahead ≡ sidegap (lane_of road (other_lane car.lane)) car.place)
      → ((car : Car) → IsNthCar road k car → behind ≡ sideback (lane_of road (other_lane car.lane)) car.place)
      → DescribesCar Change road k (with_other_lane view told.lane empty ahead behind) number
  beside_asked legal two at empty ahead behind side_is side_of ahead_of behind_of =
      let all : (car : Car) → IsNthCar road k car → with_other_lane view told.lane empty ahead behind ≡ change_view_of road car =
      λ car here. same_beside road view told car empty ahead behind (own.seen car here) (same road k told order car here) (side_of car here) (ahead_of car here) (behind_of car here) in
      record {
        is_view = subst IsViewInRange (sym (all told order)) (change_view_is_view road told legal two at);
        seen = all;
        number_of = own.number_of;
        limit = own.limit;
        gap = own.gap;
        side = λ e. side_is;
      }

-- dice by their parts
pub same_dice : (dice : Dice) (key : List ℕ) (road step : ℕ) → dice.key ≡ key → dice.road ≡ road → dice.step ≡ step → dice ≡ dice_of key road step
same_dice dice key road step a b d = ap (λ k. dice_of k dice.road dice.step) a ∙ ap (λ r. dice_of key r dice.step) b ∙ ap (dice_of key road) d

-- a motion program computes this speed for the k-th car in standing order, within its gap and the limit
pub record GoesBy (motion : CheckedProgram) (dice : Dice) (road : Cells) (k speed : ℕ) : Type 0 where
  pub answer : (car : Car) → IsNthCar road k car → AnswersSpeed motion dice road car speed
  pub gap : speed ≤ slice_index (gaps road) k
  pub limit : speed ≤ road.limit

-- a change program decides in this way whether the k-th car in standing order changes lanes, only to an
-- empty cell
pub record CrossesBy (change : CheckedProgram) (dice : Dice) (road : Cells) (k : ℕ) (crosses : Bool)
    : Type 0 where
  pub answer : (car : Car) → IsNthCar road k car → AnswersCrossing change dice road car crosses
  pub side : crosses ≡ true → slice_index_or (sides road) k false ≡ true

-- the speed of a car in a block is the answer of its motion program
pub goes_by : (motion : CheckedProgram) (dice : Dice) (road : Cells) (k : ℕ) (view : View) (number speed : ℕ) → DescribesCar Motion road k view number
    → MovesWith motion.program.instrs view (words_of dice number) motion.budget speed → GoesBy motion dice road k speed
goes_by motion dice road k view number speed asked moves = record {
  answer = λ car here. (
    moves.steps,
    subst (λ v. EndsWith Motion motion.program.instrs v (words_of dice car.number) (Goes speed) moves.steps) (asked.seen car here)
        (subst (λ n. EndsWith Motion motion.program.instrs view (words_of dice n) (Goes speed) moves.steps) (asked.number_of car here) moves.ends),
  );
  gap = subst (λ n. speed ≤ n) asked.gap moves.allowed.gap;
  limit = subst (λ n. speed ≤ n) asked.limit moves.allowed.limit;
}

-- the same for its lane change
pub crosses_by : (change : CheckedProgram) (dice : Dice) (road : Cells) (k : ℕ) (view : View) (number : ℕ) (crosses : Bool) → DescribesCar Change road k view number
    → CrossesWith change.program.instrs view (words_of dice number) change.budget crosses → CrossesBy change dice road k crosses
crosses_by change dice road k view number crosses asked chooses = record {
  answer = λ car here. (
    chooses.steps,
    subst (λ v. EndsWith Change change.program.instrs v (words_of dice car.number) (crossing_answer crosses) chooses.steps) (asked.seen car here)
        (subst (λ n. EndsWith Change change.program.instrs view (words_of dice n) (crossing_answer crosses) chooses.steps) (asked.number_of car here) chooses.ends),
  );
  side = λ goes. sym (asked.side refl) ∙ chooses.side goes;
}
