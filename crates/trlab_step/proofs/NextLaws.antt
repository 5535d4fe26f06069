-- There is exactly one next road.
use Rattle.std.proofs.Common.{◌≡◌, ℕ, suc, ◌<◌, ◌+◌, Bool, cond, Option, Some, None, List, [], ◌∷◌, length}
use Rattle.std.proofs.Common.{get_or, refl, sym, ◌∙◌, ap, subst, arith, count_by, IfSome, IsSome}
use Rattle.std.proofs.lemmas.List.Sums.{sum_by-cons}
use Rattle.trlab_code.specs.declared.program.Kind.TheVariants.{Motion, Change}
use Rattle.trlab_verify.specs.Verified.{CheckedProgram, IsChecked}
use Rattle.trlab_road.specs.{declared.car.Car.Car, Cells.{Cells, AgreeAtCars, standing, IsLegal}}
use Rattle.trlab_road.specs.LaneChange.{IsCleanLaneChange, road_after_change, StaysOrCrosses.on_own_lane}
use Rattle.trlab_road.specs.Motion.{IsCleanMotion}
use Rattle.trlab_road.proofs.MotionLaws.{moves_clean, moves_same_count, moved_legal, one_road_only}
use Rattle.trlab_road.proofs.{MotionExists.road_moves_somewhere, MotionInOrder.moves_by}
use Rattle.trlab_road.proofs.LaneChangeLaws.{crosses_by, road_after_change_is, lane_change_clean}
use Rattle.trlab_road.proofs.LaneChangeLaws.{lane_change_legal, lane_change_same_count, one_road_after_change}
use Rattle.trlab_road.proofs.StandingOrder.{standing_cell, length-standing_from_lane}
use Rattle.trlab_step.specs.{declared.tally.StepTally.StepTally, Answers.{AnswersSpeeds, AnswersCrossings}}
use Rattle.trlab_step.specs.Next.{total_speed, stopped_cars, crossing_cars, IsLaneChangePhase, IsMotionPhase}
use Rattle.trlab_step.specs.Laws.{IsLegalLike, NextRoadExists, NextRoadIsUnique}
use Rattle.trlab_step.proofs.AnswersExist.{speeds_exist, crossings_exist}
use Rattle.trlab_step.proofs.{PartLaws.{one_answer_each, one_crossing_each}, SafeCalls.step_calls_safe}
use Rattle.trlab_machine.specs.declared.dice.Dice.{Dice}

-- a road is like itself, and likeness is transitive
pub like_itself : (road : Cells) → IsLegal road → IsLegalLike road road
like_itself road legal = record { legal = legal; same_lanes = refl; same_limit = refl; same_count = refl }

pub like_next : (old middle new : Cells) → IsLegalLike old middle → IsLegalLike middle new → IsLegalLike old new
like_next old middle new a b = record {
  legal = b.legal;
  same_lanes = b.same_lanes ∙ a.same_lanes;
  same_limit = b.same_limit ∙ a.same_limit;
  same_count = b.same_count ∙ a.same_count;
}

-- if no car changes lanes, the lane change is clean
pub no_change_clean : (road : Cells) → IsCleanLaneChange road road
no_change_clean road = record { same_count = refl; none_lost = λ car here. on_own_lane here; none_made = λ car here. (car.lane, here) }

-- the lane change has a result
pub record LaneChangeSomewhere (change : Option CheckedProgram) (dice : Dice) (road : Cells) : Type 0 where
  pub middle : Cells
  pub changes : ℕ
  pub lane_change : IsLaneChangePhase change dice road middle changes
  pub clean : IsCleanLaneChange road middle
  pub like : IsLegalLike road middle

pub lane_change_somewhere : (change : Option CheckedProgram) (dice : Dice) (road : Cells) → IfSome change (λ c. IsChecked Change c) → (IsSome change → length road.lanes ≡ 2) → IsLegal road → LaneChangeSomewhere change dice road
lane_change_somewhere None dice road checked two legal =
    record { middle = road; changes = 0; lane_change = (refl, refl); clean = no_change_clean road; like = like_itself road legal }
lane_change_somewhere (Some change) dice road checked two legal =
    let answered = crossings_exist change dice road checked legal (two refl) in
    let crosses = answered.0 in
    let free = answered.2 in
    let middle = road_after_change crosses road in
    let phase = road_after_change_is crosses road in
    record {
      middle = middle;
      changes = crossing_cars crosses road;
      lane_change = (two refl, crosses, answered.1, phase, refl);
      clean = lane_change_clean crosses road middle legal phase free;
      like = record {
        legal = lane_change_legal crosses road middle legal phase free;
        same_lanes = phase.same_lanes;
        same_limit = phase.same_limit;
        same_count = lane_change_same_count crosses road middle legal phase free;
      };
    }

-- the motion has a result
pub record MotionSomewhere (motion : CheckedProgram) (dice : Dice) (road : Cells) : Type 0 where
  pub next : Cells
  pub motion_phase : IsMotionPhase motion dice road next
  pub clean : IsCleanMotion road next
  pub like : IsLegalLike road next

pub motion_somewhere : (motion : CheckedProgram) (dice : Dice) (road : Cells) → IsChecked Motion motion → IsLegal road → MotionSomewhere motion dice road
motion_somewhere motion dice road checked legal =
    let answered = speeds_exist motion dice road checked legal in
    let speeds = answered.0 in
    let fits = answered.2 in
    let moves = road_moves_somewhere speeds road fits in
    record {
      next = moves.0;
      motion_phase = (speeds, answered.1, moves.1);
      clean = moves_clean speeds road moves.0 legal moves.1 fits;
      like = record {
        legal = moved_legal speeds road moves.0 legal moves.1 fits;
        same_lanes = moves.1.same_lanes;
        same_limit = moves.1.same_limit;
        same_count = moves_same_count speeds road moves.0 legal moves.1 fits;
      };
    }

-- the counts of the step to a road
abbrev tally_of : Cells → ℕ → StepTally
tally_of next changes = record { distance = total_speed next; stopped = stopped_cars next; changes = changes }

pub next_road_exists : NextRoadExists
next_road_exists rule dice road is legal =
    let side = lane_change_somewhere rule.change dice road is.change is.two_lanes legal in
    let ahead = motion_somewhere rule.motion dice side.middle is.motion side.like.legal in (
      ahead.next,
      tally_of ahead.next side.changes,
      (
        side.middle,
        record {
          step = record { lane_change = side.lane_change; motion = ahead.motion_phase; distance = refl; stopped = refl };
          clean_lane_change = side.clean;
          clean_motion = ahead.clean;
          calls = step_calls_safe rule dice road side.middle (record { motion = is.motion; change = is.change }) is.two_lanes legal side.like.legal;
        },
      ),
      like_next road side.middle ahead.next side.like ahead.like,
    )

-- a motion program has only one speed for each car
pub speeds_agree : (motion : CheckedProgram) (dice : Dice) (road : Cells) (speeds others : ℕ → ℕ → ℕ) → AnswersSpeeds motion dice road speeds → AnswersSpeeds motion dice road others
    → AgreeAtCars speeds others road
speeds_agree motion dice road speeds others a b car here =
    one_answer_each motion dice road car (speeds car.lane car.place) (others car.lane car.place) (a.each car here) (b.each car here)

-- the motion has only one result
motion_is_one : (motion : CheckedProgram) (dice : Dice) (road next other : Cells) → IsMotionPhase motion dice road next → IsMotionPhase motion dice road other → next ≡ other
motion_is_one motion dice road next other a b =
    one_road_only b.0 road next other (moves_by a.0 b.0 road next (speeds_agree motion dice road a.0 b.0 a.1 b.1) a.2) b.2

-- a change program lets each car change lanes or stay, and not both
crossings_agree : (change : CheckedProgram) (dice : Dice) (road : Cells) (crosses others : ℕ → ℕ → Bool) → AnswersCrossings change dice road crosses → AnswersCrossings change dice road others
    → AgreeAtCars crosses others road
crossings_agree change dice road crosses others a b car here =
    one_crossing_each change dice road car (crosses car.lane car.place) (others car.lane car.place) (a.each car here) (b.each car here)

-- tests that agree at each car count as many cars
count_same : (p q : Car → Bool) (xs : List Car) (d : Car) → ((k : ℕ) → k < length xs → p (get_or xs k d) ≡ q (get_or xs k d)) → count_by p xs ≡ count_by q xs
count_same p q [] d same = refl
count_same p q (x ∷ xs) d same =
    let one : Bool → ℕ = λ b. cond b 1 0 in
    sum_by-cons (λ (c : Car). cond (p c) 1 0) x xs
    ∙ ap (λ (n : ℕ). n + count_by p xs) (ap one (same 0 (omega arith)))
    ∙ ap (λ (n : ℕ). one (q x) + n) (count_same p q xs d (λ k h. same (suc k) (omega arith)))
    ∙ sym (sum_by-cons (λ (c : Car). cond (q c) 1 0) x xs)

no_one : Car
no_one = record { number = 0; lane = 0; place = 0; speed = 0 }

crossing_cars_same : (road : Cells) (crosses others : ℕ → ℕ → Bool) → AgreeAtCars crosses others road → crossing_cars crosses road ≡ crossing_cars others road
crossing_cars_same road crosses others same =
    count_same (λ car. crosses car.lane car.place) (λ car. others car.lane car.place) (standing road) no_one
    (λ k h. let car = get_or (standing road) k no_one in
    same car (standing_cell road k no_one (rw length-standing_from_lane at h)))

-- the lane change has only one result, and one number of lane changes
pub lane_change_is_one : (change : Option CheckedProgram) (dice : Dice) (road middle other : Cells) (m n : ℕ) → IsLaneChangePhase change dice road middle m → IsLaneChangePhase change dice road other n → (middle ≡ other) × (m ≡ n)
lane_change_is_one None dice road middle other m n a b = (a.0 ∙ sym b.0, a.1 ∙ sym b.1)
lane_change_is_one (Some change) dice road middle other m n a b =
    let same = crossings_agree change dice road a.1 b.1 a.2 b.2 in
    (one_road_after_change b.1 road middle other (crosses_by a.1 b.1 road middle same a.3) b.3, a.4 ∙ crossing_cars_same road a.1 b.1 same ∙ sym b.4)

counted : ℕ → ℕ → ℕ → StepTally
counted distance stopped changes = record { distance = distance; stopped = stopped; changes = changes }

pub tally_path : (a b : StepTally) → a.distance ≡ b.distance → a.stopped ≡ b.stopped → a.changes ≡ b.changes → a ≡ b
unfolding counted
tally_path a b distance stopped changes =
    ap (λ n. counted n a.stopped a.changes) distance ∙ ap (λ n. counted b.distance n a.changes) stopped ∙ ap (counted b.distance b.stopped) changes

pub next_road_is_unique : NextRoadIsUnique
next_road_is_unique rule dice road next other tally count a b =
    let side = lane_change_is_one rule.change dice road a.0 b.0 tally.changes count.changes a.1.lane_change b.1.lane_change in
    let phase = subst (λ (middle : Cells). IsMotionPhase rule.motion dice middle next) side.0 a.1.motion in
    let same = motion_is_one rule.motion dice b.0 next other phase b.1.motion in
    (same, tally_path tally count (a.1.distance ∙ ap total_speed same ∙ sym b.1.distance) (a.1.stopped ∙ ap stopped_cars same ∙ sym b.1.stopped) side.1)
