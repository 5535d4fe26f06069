-- The answers of all cars give the two phases of a step.
use Rattle.std.proofs.Common.{◌≡◌, ℕ, Some, None, List, refl, sym, ◌∙◌, ap, arith, Bool, Option, false}
use Rattle.std.proofs.Common.{length, count_by, nat_eq, sum}
use Rattle.trlab_verify.specs.Verified.{CheckedProgram}
use Rattle.trlab_road.specs.{Cells.{Cells, cars}, LaneChange.{ChangesLanes, crosses_at}}
use Rattle.trlab_road.{specs.Motion.{Moves, in_order}, proofs.MotionInOrder.answer_at}
use Rattle.trlab_machine.specs.declared.dice.Dice.{Dice}
use Rattle.trlab_step.specs.Answers.{AnswersSpeedsPart, AnswersCrossingsPart, AnswersSpeed, AnswersCrossing}
use Rattle.trlab_step.specs.{Answers.IsSpeedsPart, Next.{total_speed, stopped_cars, IsLaneChangePhase}}
use Rattle.trlab_step.specs.{Next.IsMotionPhase, Laws.{IsLaneChangeByAnswers, AnswersLeadToNextRoad}}
use Rattle.trlab_step.proofs.{Parts.whole_allowed, SumsOverCars.{answers_in_order, total_speed-moved}}
use Rattle.trlab_step.proofs.{SumsOverCars.{stopped_cars-moved, crossing_cars-counted}, PartLaws.by_place}

-- if all cars change lanes by their programs' answers on the given road, the lane change is done
pub lane_change_is_done : (change : CheckedProgram) (dice : Dice) (road middle : Cells) (crosses : List Bool) (changes : ℕ) → length road.lanes ≡ 2 → AnswersCrossingsPart change dice road 0 (cars road) crosses
    → ((answer : ℕ → ℕ → Bool) → crosses ≡ in_order answer road → ChangesLanes answer road middle)
    → changes ≡ count_by (λ c. c) crosses → IsLaneChangePhase (Some change) dice road middle changes
lane_change_is_done change dice road middle crosses changes two part phase counted =
    let one_each = part.one_each in
    let size : length crosses ≡ cars road = omega (arith, one_each) in
    let done = phase (crosses_at road crosses) (sym (answers_in_order false road crosses size)) in
    (two, crosses_at road crosses, by_place false (AnswersCrossing change dice road) road crosses part, done, counted ∙ sym (crossing_cars-counted road crosses size))

-- a motion by answers in standing order is a motion by the answers of the cars' places
pub moved_by_place : (motion : CheckedProgram) (dice : Dice) (road next : Cells) (speeds : List ℕ) → AnswersSpeedsPart motion dice road 0 (cars road) speeds
    → ((answer : ℕ → ℕ → ℕ) → speeds ≡ in_order answer road → Moves answer road next) → Moves (answer_at road speeds) road next
moved_by_place motion dice road next speeds part moves =
    let one_each = part.one_each in
    moves (answer_at road speeds) (sym (answers_in_order 0 road speeds (omega (arith, one_each))))

module _ (motion : CheckedProgram) (dice : Dice) (road next : Cells) (speeds : List ℕ) where
  -- if all cars move by their programs' answers on the given road, the motion is done
  pub motion_is_done : AnswersSpeedsPart motion dice road 0 (cars road) speeds → Moves (answer_at road speeds) road next → IsMotionPhase motion dice road next
  motion_is_done part moves = (answer_at road speeds, by_place 0 (AnswersSpeed motion dice road) road speeds part, moves)

  -- the sum of the answers is the sum of the new speeds
  pub all_gone : (distance : ℕ) → IsSpeedsPart motion dice road 0 (cars road) speeds → Moves (answer_at road speeds) road next
      → distance ≡ sum speeds → distance ≡ total_speed next
  all_gone distance told moves gone = gone ∙ sym (total_speed-moved road next speeds (whole_allowed motion dice road speeds told) moves)

  -- there are as many answers 0 as stopped cars
  pub all_stopped : (stopped : ℕ) → IsSpeedsPart motion dice road 0 (cars road) speeds → Moves (answer_at road speeds) road next
      → stopped ≡ count_by (λ speed. nat_eq speed 0) speeds → stopped ≡ stopped_cars next
  all_stopped stopped told moves counted = counted ∙ sym (stopped_cars-moved road next speeds (whole_allowed motion dice road speeds told) moves)

-- the lane change by the cars' answers, or none, for any way of computing the answers
crossed_by_answers : (change : Option CheckedProgram) (dice : Dice) (road middle : Cells) (crosses : List Bool) → IsLaneChangeByAnswers change dice road middle crosses
    → IsLaneChangePhase change dice road middle (count_by (λ c. c) crosses)
crossed_by_answers None dice road middle crosses by = (by.0, ap (λ cs. count_by (λ c. c) cs) by.1)
crossed_by_answers (Some change) dice road middle crosses by =
    lane_change_is_done change dice road middle crosses (count_by (λ c. c) crosses) by.0 by.1 by.2 refl

-- followed by the motion by their answers, gives the next road
pub answers_lead_to_next_road : AnswersLeadToNextRoad
answers_lead_to_next_road rule dice road middle next crosses speeds cross go =
    let moves = moved_by_place rule.motion dice middle next speeds go.answers.0 go.moves in (
      middle,
      record {
        lane_change = crossed_by_answers rule.change dice road middle crosses cross;
        motion = motion_is_done rule.motion dice middle next speeds go.answers.0 moves;
        distance = all_gone rule.motion dice middle next speeds (sum speeds) go.answers moves refl;
        stopped = all_stopped rule.motion dice middle next speeds (count_by (λ speed. nat_eq speed 0) speeds) go.answers moves refl;
      },
    )
