-- Steps under any rule, whether its programs were accepted or not: what its cars answer on a legal road is allowed,
-- so the road stays legal. And the motion of 1992 without randomization.
use Rattle.std.proofs.Common.{◌≡◌, ℕ, Bool, Option, Some, None, length, sym, subst, ◌/◌, false, List, ◌∙◌, ap}
use Rattle.std.proofs.Common.{arith, le-ltb}
use Rattle.trlab_words.{specs.Words.happens_on, proofs.RandomWords.slice_index-random_words}
use Rattle.trlab_code.specs.{declared.{program.Kind.TheVariants.Change, view.View.View}, Machine.EndsWith}
use Rattle.trlab_road.specs.{declared.car.Car.Car, Cells.{Cells, IsAt, cell, lane_of, IsLegal}}
use Rattle.trlab_road.specs.{LaneChange.{CrossesToEmpty, other_lane}, Motion.{Fits, Moves}, Gaps.gap}
use Rattle.trlab_road.proofs.LaneChangeLaws.{lane_change_legal, lane_change_same_count}
use Rattle.trlab_road.proofs.{MotionLaws.{moved_legal, moves_same_count}, Ring.{car_in, none_is}}
use Rattle.trlab_rules.specs.Rules.{Programs, ComputesSpeed, IsNasch}
use Rattle.trlab_rules.specs.Published.{brake, nasch_speed, safe_speed}
use Rattle.trlab_machine.specs.{declared.dice.Dice.Dice, Blocks.{words_of, word_of}, Answers.crossing_answer}
use Rattle.trlab_machine.{specs.Answers.IsAllowed, proofs.{Crossings.crossing_allowed, Speeds.speed_allowed}}
use Rattle.trlab_verify.specs.Verified.{CheckedProgram}
use Rattle.trlab_step.specs.{declared.tally.StepTally.StepTally, Answers.{AnswersSpeeds, AnswersCrossings}}
use Rattle.trlab_step.specs.{Answers.{change_view_of, motion_view_of}, Laws.IsLegalLike}
use Rattle.trlab_step.{specs.Next.{IsLaneChangePhase, IsMotionPhase, IsNext}, proofs.NextLaws.like_itself}
use Rattle.trlab_step.proofs.{NextLaws.like_next, AnswersExist.motion_view_is_view, PartLaws.one_answer_each}

-- the speeds of a motion program are within the gaps and the limit
pub answers_fit : (motion : CheckedProgram) (dice : Dice) (road : Cells) (speeds : ℕ → ℕ → ℕ) → AnswersSpeeds motion dice road speeds → Fits speeds road
answers_fit motion dice road speeds answers = record {
  each_lane = λ l h. record { gaps = λ x number speed here. (allowed (car_in l x number speed) here).gap };
  within_limit = λ car here. (allowed car here).limit;
}
  where
    allowed : (car : Car) → IsAt road car → IsAllowed (motion_view_of road car) (speeds car.lane car.place)
    allowed car here =
        let answer = answers.each car here in
        speed_allowed motion.program.instrs (motion_view_of road car) (words_of dice car.number) (speeds car.lane car.place) answer.0 answer.1

-- the cars that a change program lets change lanes do so only to empty cells
pub crossings_free : (change : CheckedProgram) (dice : Dice) (road : Cells) (crosses : ℕ → ℕ → Bool) → length road.lanes ≡ 2 → AnswersCrossings change dice road crosses → CrossesToEmpty crosses road
crossings_free change dice road crosses two answers = record {
  two_lanes = two;
  side_empty = λ car here goes.
      let view = change_view_of road car in
      let words = words_of dice car.number in
      let answer = answers.each car here in
      let ends = subst (λ (b : Bool). EndsWith Change change.program.instrs view words (crossing_answer b) answer.0) goes answer.1 in
      none_is (cell road (other_lane car.lane) car.place) (crossing_allowed change.program.instrs view words answer.0 ends);
}

-- a legal road is legal after the lane change
pub middle_like : (change : Option CheckedProgram) (dice : Dice) (road middle : Cells) (changes : ℕ) → IsLegal road → IsLaneChangePhase change dice road middle changes → IsLegalLike road middle
middle_like None dice road middle changes legal phase = subst (IsLegalLike road) (sym phase.0) (like_itself road legal)
middle_like (Some change) dice road middle changes legal phase =
    let crosses = phase.1 in
    let crossed = phase.3 in
    let free = crossings_free change dice road crosses phase.0 phase.2 in
    record {
      legal = lane_change_legal crosses road middle legal crossed free;
      same_lanes = crossed.same_lanes;
      same_limit = crossed.same_limit;
      same_count = lane_change_same_count crosses road middle legal crossed free;
    }

-- and after the motion
pub moved_like : (motion : CheckedProgram) (dice : Dice) (road next : Cells) → IsLegal road → IsMotionPhase motion dice road next → IsLegalLike road next
moved_like motion dice road next legal phase =
    let speeds = phase.0 in
    let moved = phase.2 in
    let fits = answers_fit motion dice road speeds phase.1 in
    record {
      legal = moved_legal speeds road next legal moved fits;
      same_lanes = moved.same_lanes;
      same_limit = moved.same_limit;
      same_count = moves_same_count speeds road next legal moved fits;
    }

-- so the next road of a legal road is legal
pub next_legal_like : (rule : Programs) (dice : Dice) (road next : Cells) (tally : StepTally) → IsLegal road → IsNext rule dice road next tally → IsLegalLike road next
next_legal_like rule dice road next tally legal is =
    let middle = middle_like rule.change dice road is.0 tally.changes legal is.1.lane_change in
    like_next road is.0 next middle (moved_like rule.motion dice is.0 next middle.legal is.1.motion)

-- The motion of 1992 without randomization, on the cells of a road.

-- an event of probability 0 never happens
pub never : (word : ℕ) → happens_on 0 word ≡ false
never word = le-ltb (word / 2) 0 (omega arith)

-- a step under a rule without a change program is a motion of the road itself
pub motion_alone : (rule : Programs) (dice : Dice) (old new : Cells) (tally : StepTally) → rule.change ≡ None → IsNext rule dice old new tally → IsMotionPhase rule.motion dice old new
motion_alone rule dice old new tally none is =
    let P : Option CheckedProgram → Type 0 = λ change. IsLaneChangePhase change dice old is.0 tally.changes in
    let same = subst P none is.1.lane_change in
    subst (λ (road : Cells). IsMotionPhase rule.motion dice road new) same.0 is.1.motion

-- a car moves at the speed of its rule
pub answered : (speed : View → List ℕ → ℕ) (motion : CheckedProgram) (dice : Dice) (road : Cells) (speeds : ℕ → ℕ → ℕ) → ComputesSpeed speed motion.program → IsLegal road → AnswersSpeeds motion dice road speeds
    → (car : Car) → IsAt road car → speeds car.lane car.place ≡ speed (motion_view_of road car) (words_of dice car.number)
answered speed motion dice road speeds moves legal answers car here =
    let view = motion_view_of road car in
    let words = words_of dice car.number in
    one_answer_each motion dice road car (speeds car.lane car.place) (speed view words) (answers.each car here) (moves view words (motion_view_is_view road car legal here))

-- without randomization a car moves at its safe speed
pub safely : (motion : CheckedProgram) (dice : Dice) (road : Cells) (speeds : ℕ → ℕ → ℕ) → ComputesSpeed (nasch_speed 0) motion.program → IsLegal road → AnswersSpeeds motion dice road speeds
    → (car : Car) → IsAt road car → speeds car.lane car.place ≡ safe_speed car.speed road.limit (gap (lane_of road car.lane) car.place)
safely motion dice road speeds moves legal answers car here =
    let same = answered (nasch_speed 0) motion dice road speeds moves legal answers car here in
    let safe = safe_speed car.speed road.limit (gap (lane_of road car.lane) car.place) in
    let drawn = slice_index-random_words dice.key dice.road car.number dice.step 0 (omega arith) in
    same ∙ ap (λ (word : ℕ). brake (happens_on 0 word) safe) drawn ∙ ap (λ (b : Bool). brake b safe) (never (word_of dice car.number 0))

-- the motion of a step under the rule of 1992 without randomization
pub record SafeMotion (old new : Cells) : Type 0 where
  pub speeds : ℕ → ℕ → ℕ
  pub safe : (car : Car) → IsAt old car → speeds car.lane car.place ≡ safe_speed car.speed old.limit (gap (lane_of old car.lane) car.place)
  pub fits : Fits speeds old
  pub moves : Moves speeds old new

pub safe_motion : (rule : Programs) (dice : Dice) (old new : Cells) (tally : StepTally) → IsNasch 0 rule → IsLegal old → IsNext rule dice old new tally → SafeMotion old new
safe_motion rule dice old new tally is legal next =
    let phase = motion_alone rule dice old new tally is.change next in
    record { speeds = phase.0; safe = safely rule.motion dice old phase.0 is.motion.moves legal phase.1; fits = answers_fit rule.motion dice old phase.0 phase.1; moves = phase.2 }
