-- Steps under the published rules, cell by cell.
use Rattle.std.proofs.Common.{◌≡◌, ℕ, ◌+◌, ◌<◌, ◌&&◌, Bool, true, false, cond, Option, Some, None, List}
use Rattle.std.proofs.Common.{length, if◌then◌else◌, refl, sym, ◌∙◌, ap, subst, arith, is_none, nat_lt}
use Rattle.std.proofs.Common.{slice_index, MatchOption}
use Rattle.trlab_words.{specs.Words.{happens_on, random_word}, proofs.RandomWords.slice_index-random_words}
use Rattle.trlab_code.specs.declared.{program.Kind.TheVariants.Change, view.View.View}
use Rattle.trlab_code.specs.Machine.{Answer, Crosses as EndsAcross, Stays, EndsWith}
use Rattle.trlab_machine.specs.{Answers.crossing_answer, declared.dice.Dice.Dice, Blocks.words_of}
use Rattle.trlab_verify.specs.Verified.{CheckedProgram}
use Rattle.trlab_road.specs.Cells.{Cell, Cells, cars, cell, lane_of, IsAt, IsLegal}
use Rattle.trlab_road.specs.LaneChange.{ChangesLanes, CrossesToEmpty, other_lane, car_after_crossing}
use Rattle.trlab_road.specs.LaneChange.StaysOrCrosses.{on_own_lane, on_other_lane}
use Rattle.trlab_road.specs.{Gaps.{gap, side, sidegap, sideback}, declared.car.Car.Car}
use Rattle.trlab_road.proofs.LaneChangeLaws.{came_from, lane_change_legal, lane_change_none_lost}
use Rattle.trlab_road.proofs.{LaneChangeLaws.lane_change_same_count, MotionLaws.on_lane, Ring.car_in}
use Rattle.trlab_rules.specs.Published.{brake, safe_speed, nasch_speed, rickert_crosses, vdr_braking_chance}
use Rattle.trlab_rules.specs.{Published.vdr_speed, Rules.{IsChangeComputing, ComputesCrossing, ComputesSpeed}}
use Rattle.trlab_rules.specs.{Rules.Programs, Standard.rickert_program}
use Rattle.trlab_step.specs.Answers.{AnswersCrossings, change_view_of, motion_view_of}
use Rattle.trlab_step.specs.Next.{IsMotionPhase, IsLaneChangePhase}
use Rattle.trlab_step.specs.Published.{CarsCrossIf, AllMoveAhead, NaschOnCells, RickertOnCells, VdrOnCells}
use Rattle.trlab_step.specs.Published.{nasch_car_speed, rickert_car_crosses, vdr_car_speed, car_after_motion}
use Rattle.trlab_step.proofs.AnswersExist.{change_view_is_view, motion_view_is_view}
use Rattle.trlab_step.proofs.PartLaws.{one_answer_each, one_crossing_each}

-- the random words of a car
word_is : (dice : Dice) (number k : ℕ) → k < 16 → slice_index (words_of dice number) k ≡ random_word dice.key dice.road number dice.step k
word_is dice number k below = slice_index-random_words dice.key dice.road number dice.step k below

-- the motion by a program that computes the speed of a rule
goes_by : (speed : View → List ℕ → ℕ) (motion : CheckedProgram) (dice : Dice) (old new : Cells)
    → ComputesSpeed speed motion.program
    → IsLegal old → IsMotionPhase motion dice old new → AllMoveAhead (λ car. speed (motion_view_of old car) (words_of dice car.number)) old new
goes_by speed motion dice old new moves legal phase car here =
    let view = motion_view_of old car in
    let words = words_of dice car.number in
    let answer = moves view words (motion_view_is_view old car legal here) in
    let same = one_answer_each motion dice old car (phase.0 car.lane car.place) (speed view words) (phase.1.each car here) answer in
    let arrives = (phase.2.each_lane car.lane (on_lane old car.lane car.place (car.number, car.speed) here)).arrives car.place car.number car.speed here in
    subst (λ (w : ℕ). IsAt new (car_after_motion old car w)) same arrives

-- the same by the random words of the car's number
all_go : (goes others : Car → ℕ) (old new : Cells) → ((car : Car) → goes car ≡ others car) → AllMoveAhead goes old new → AllMoveAhead others old new
all_go goes others old new same go car here = subst (λ (w : ℕ). IsAt new (car_after_motion old car w)) (same car) (go car here)

nasch_goes_by : (p : ℕ) (motion : CheckedProgram) (dice : Dice) (old new : Cells) → ComputesSpeed (nasch_speed p) motion.program → IsLegal old → IsMotionPhase motion dice old new → AllMoveAhead (nasch_car_speed p dice old) old new
nasch_goes_by p motion dice old new moves legal phase =
    all_go (λ car. nasch_speed p (motion_view_of old car) (words_of dice car.number)) (nasch_car_speed p dice old) old new
    (λ car. ap (λ (word : ℕ). brake (happens_on p word) (safe_speed car.speed old.limit (gap (lane_of old car.lane) car.place))) (word_is dice car.number 0 (omega arith)))
    (goes_by (nasch_speed p) motion dice old new moves legal phase)

vdr_goes_by : (p p0 : ℕ) (motion : CheckedProgram) (dice : Dice) (old new : Cells) → ComputesSpeed (vdr_speed p p0) motion.program → IsLegal old → IsMotionPhase motion dice old new → AllMoveAhead (vdr_car_speed p p0 dice old) old new
vdr_goes_by p p0 motion dice old new moves legal phase =
    all_go (λ car. vdr_speed p p0 (motion_view_of old car) (words_of dice car.number)) (vdr_car_speed p p0 dice old) old new
    (λ car. ap (λ (word : ℕ). brake (happens_on (vdr_braking_chance p p0 car.speed) word) (safe_speed car.speed old.limit (gap (lane_of old car.lane) car.place))) (word_is dice car.number 0 (omega arith)))
    (goes_by (vdr_speed p p0) motion dice old new moves legal phase)

-- a rule without a change program goes ahead from the road itself
motion_alone : (rule : Programs) (dice : Dice) (old middle new : Cells) (changes : ℕ) → rule.change ≡ None → IsLaneChangePhase rule.change dice old middle changes → IsMotionPhase rule.motion dice middle new → IsMotionPhase rule.motion dice old new
motion_alone rule dice old middle new changes none change motion =
    let P : Option CheckedProgram → Type 0 = λ change. IsLaneChangePhase change dice old middle changes in
    let same = subst P none change in
    subst (λ (road : Cells). IsMotionPhase rule.motion dice road new) same.0 motion

pub nasch_on_cells : NaschOnCells
nasch_on_cells p rule dice old new tally is legal next =
    nasch_goes_by p rule.motion dice old new is.motion.moves legal
    (motion_alone rule dice old next.0 new tally.changes is.change next.1.lane_change next.1.motion)

pub vdr_on_cells : VdrOnCells
vdr_on_cells p p0 rule dice old new tally is legal next =
    vdr_goes_by p p0 rule.motion dice old new is.motion.moves legal
    (motion_alone rule dice old next.0 new tally.changes is.change next.1.lane_change next.1.motion)

-- the cells of the cars after a lane change
change_by : (crosses : ℕ → ℕ → Bool) (old new : Cells) → IsLegal old → ChangesLanes crosses old new → CrossesToEmpty crosses old → CarsCrossIf (λ car. crosses car.lane car.place) old new
change_by crosses old new legal phase free car here =
    let l = car.lane in
    let x = car.place in
    let now : ℕ → ℕ = λ m. cond (crosses m x) (other_lane m) m in
    let stands : ℕ → Type 0 = λ m. cell new m x ≡ Some (car.number, car.speed) in
    let where_from : (m : ℕ) → stands m → m ≡ now l =
    λ m there.
    let came = came_from crosses old new legal phase m x (car.number, car.speed) there in
    let same = (legal.once (car_in came.0 x car.number car.speed) car came.1.0 here refl).0 in
    subst (λ (k : ℕ). m ≡ now k) same came.1.1 in
    let to : (m : ℕ) → stands m → stands (now l) = λ m there. subst stands (where_from m there) there in
    at_lane (crosses l x) car new (elim (lane_change_none_lost crosses old new legal phase free l x car.number car.speed here) [
      | on_own_lane there ↦ to l there
      | on_other_lane empty there ↦ to (other_lane l) there
    ])
  where
    at_lane : (b : Bool) (car : Car) (new : Cells) → cell new (cond b (other_lane car.lane) car.lane) car.place ≡ Some (car.number, car.speed) → IsAt new (if b then car_after_crossing car else car)
    at_lane true car new h = h
    at_lane false car new h = h

across : (b : Bool) → (if b then EndsAcross else Stays) ≡ crossing_answer b
across true = refl
across false = refl

-- the lane changes by a program that computes those of a rule
changes_agree : (crosses : View → List ℕ → Bool) (change : CheckedProgram) (dice : Dice) (old : Cells) (answers : ℕ → ℕ → Bool) → ComputesCrossing crosses change.program → IsLegal old → length old.lanes ≡ 2 → AnswersCrossings change dice old answers
    → (car : Car) → IsAt old car → answers car.lane car.place ≡ crosses (change_view_of old car) (words_of dice car.number)
changes_agree crosses change dice old answers changes legal two crossings car here =
    let view = change_view_of old car in
    let words = words_of dice car.number in
    let answer = changes view words (change_view_is_view old car legal two here) in
    let P : Answer → Type 0 = λ a. EndsWith Change change.program.instrs view words a answer.0 in
    one_crossing_each change dice old car (answers car.lane car.place) (crosses view words) (crossings.each car here)
    (answer.0, subst P (across (crosses view words)) answer.1)

first_of : (a b c d e : Bool) → (a && b && c && d && e) ≡ true → a ≡ true
first_of true b c d e h = refl
first_of false b c d e h = absurd cc

none_of : (c : Cell) → is_none c ≡ true → c ≡ None
none_of None h = refl
none_of (Some car) h = absurd cc

-- a phase in which cars change lanes
record Changed (c : ℕ) (dice : Dice) (old middle : Cells) : Type 0 where
  legal : IsLegal middle
  kept : cars middle ≡ cars old
  changed : CarsCrossIf (rickert_car_crosses c dice old) old middle

rickert_phase : (c : ℕ) (change : CheckedProgram) (dice : Dice) (old middle : Cells) (changes : ℕ) → ComputesCrossing (rickert_crosses c) change.program → IsLegal old → IsLaneChangePhase (Some change) dice old middle changes
    → Changed c dice old middle
rickert_phase c change dice old middle changes by legal phase =
    let two = phase.0 in
    let answers = phase.1 in
    let agree = changes_agree (rickert_crosses c) change dice old answers by legal two phase.2 in
    let free : CrossesToEmpty answers old = record {
      two_lanes = two;
      side_empty = λ car here goes.
          let l = car.lane in
          let x = car.place in
          let other = lane_of old (other_lane l) in
          let word = slice_index (words_of dice car.number) 1 in
          none_of (cell old (other_lane l) x)
          (first_of (side other x) (nat_lt (gap (lane_of old l) x) (car.speed + 1)) (nat_lt (car.speed + 1) (sidegap other x)) (nat_lt old.limit (sideback other x)) (happens_on c word)
          (sym (agree car here) ∙ goes));
    } in
    let word : (car : Car) → rickert_crosses c (change_view_of old car) (words_of dice car.number) ≡ rickert_car_crosses c dice old car =
    λ car. rw (word_is dice car.number 1 (omega arith)) refl in
    record {
      legal = lane_change_legal answers old middle legal phase.3 free;
      kept = lane_change_same_count answers old middle legal phase.3 free;
      changed = λ car here.
          subst (λ (b : Bool). IsAt middle (if b then car_after_crossing car else car)) (agree car here ∙ word car)
          (change_by answers old middle legal phase.3 free car here);
    }

-- the change program of Rickert et al. (1996)
rickert_change : (c : ℕ) (change : Option CheckedProgram) (dice : Dice) (old middle : Cells) (changes : ℕ) → MatchOption change ⊥ (IsChangeComputing (rickert_crosses c) (rickert_program c)) → IsLegal old → IsLaneChangePhase change dice old middle changes
    → Changed c dice old middle
rickert_change c None dice old middle changes is legal phase = absurd is
rickert_change c (Some change) dice old middle changes is legal phase = rickert_phase c change dice old middle changes is.changes legal phase

pub rickert_on_cells : RickertOnCells
rickert_on_cells p c rule dice old new tally is legal next =
    let middle = next.0 in
    let phase = rickert_change c rule.change dice old middle tally.changes is.change legal next.1.lane_change in
    (middle, phase.legal, phase.kept, phase.changed, nasch_goes_by p rule.motion dice middle new is.motion.moves phase.legal next.1.motion)
