-- The ring is homogeneous: a rotated road continues as the road itself does.
use Rattle.std.proofs.Common.{◌≡◌, ℕ, zero, suc, ◌+◌, ◌<◌, Bool, cond, Option, Some, None, List, length, map}
use Rattle.std.proofs.{Common.{refl, sym, ◌∙◌, ap, subst, arith, nat_eq}, lemmas.List.length-map}
use Rattle.trlab_code.specs.declared.{program.Kind.TheVariants.{Change, Motion}, view.View.View}
use Rattle.trlab_code.specs.{Machine.{EndsWith, Goes}, Views.change_view}
use Rattle.trlab_verify.specs.Verified.{CheckedProgram}
use Rattle.trlab_machine.specs.{declared.dice.Dice.Dice, Blocks.words_of, Answers.crossing_answer}
use Rattle.trlab_road.specs.{declared.car.Car.Car, Cells.{Cells, IsAt, Lane, at, lane_of, IsLegal}}
use Rattle.trlab_road.specs.{Gaps.{ahead, gap, headspeed, side, sideback, sidegap}, LaneChange.ChangesLanes}
use Rattle.trlab_road.{specs.{LaneChange.other_lane, Motion.Moves}, proofs.{MotionLaws.on_lane, Ring.car_in}}
use Rattle.trlab_step.specs.{declared.tally.StepTally.StepTally, Run.{ComesTo, Seed, Sheet, dice_at}}
use Rattle.trlab_step.specs.Answers.{AnswersCrossings, AnswersSpeeds, change_view_of, motion_view_of}
use Rattle.trlab_step.{specs.Laws.IsLegalLike, proofs.{NextLaws.{like_itself, like_next}, Parts.same_view}}
use Rattle.trlab_step.specs.Next.{IsLaneChangePhase, IsMotionPhase, crossing_cars, stopped_cars, total_speed}
use Rattle.trlab_traffic.specs.{Terms.{rotate_road, rotate_lane}, Invariance.RunIsHomogeneous}
use Rattle.trlab_traffic.{specs.Invariance.StepIsHomogeneous, proofs.Steps.next_legal_like}
use Rattle.trlab_traffic.proofs.Rotation.{gap_turned, headspeed_turned, lane_crosses_turned}
use Rattle.trlab_traffic.proofs.Rotation.{lane_moves_turned, lane_turned, side_turned, sideback_turned}
use Rattle.trlab_traffic.proofs.Rotation.{sidegap_turned, turned_at, turned_car, sum_turned}

-- a place of the rotated road, as a place of the road
abbrev place_before : ℕ → Cells → ℕ → ℕ → ℕ
place_before r road l x = ahead (length (lane_of road l)) x r

-- a car of the rotated road, at its place on the road itself
abbrev car_before : ℕ → Cells → Car → Car
car_before r road car = car_in car.lane (place_before r road car.lane car.place) car.number car.speed

module _ (r : ℕ) (road : Cells) (car : Car) (here : IsAt (rotate_road r road) car) where
  on_own : at (rotate_lane r (lane_of road car.lane)) car.place ≡ Some (car.number, car.speed)
  on_own = subst (λ (lane : Lane). at lane car.place ≡ Some (car.number, car.speed)) (lane_turned r road car.lane) here

  pub place_low : car.place < length (lane_of road car.lane)
  place_low = turned_car r (lane_of road car.lane) car.place (car.number, car.speed) on_own

  some_cell : 0 < length (lane_of road car.lane)
  some_cell = let low = place_low in omega (arith, low)

  -- it is there
  pub stood : IsAt road (car_before r road car)
  stood = sym (turned_at r (lane_of road car.lane) car.place place_low) ∙ on_own

  -- and has the same view
  pub motion_view_turned : motion_view_of (rotate_road r road) car ≡ motion_view_of road (car_before r road car)
  motion_view_turned =
      let own = lane_of road car.lane in
      let turn = lane_turned r road car.lane in
      same_view _ _ _ _ _ _ _ _ refl refl
      (ap (λ (lane : Lane). gap lane car.place) turn ∙ gap_turned r own car.place some_cell)
      (ap (λ (lane : Lane). headspeed lane car.place) turn ∙ headspeed_turned r own car.place some_cell)

pub same_seen : (speed limit : ℕ) (a b : ℕ) (p q : Bool) (c d e f : ℕ) (lane g h : ℕ) → a ≡ b → p ≡ q → c ≡ d → e ≡ f → g ≡ h
    → change_view speed limit a p c e lane g ≡ change_view speed limit b q d f lane h
same_seen speed limit a b p q c d e f lane g h i j k l m = rw (i, j, k, l, m) refl

module _ (r : ℕ) (road : Cells) (car : Car) (here : IsAt (rotate_road r road) car) (equal : length (lane_of road (other_lane car.lane)) ≡ length (lane_of road car.lane)) where
  pub change_view_turned : change_view_of (rotate_road r road) car ≡ change_view_of road (car_before r road car)
  change_view_turned =
      let x = car.place in
      let own = lane_of road car.lane in
      let other = lane_of road (other_lane car.lane) in
      let turn = lane_turned r road car.lane in
      let turn_other = lane_turned r road (other_lane car.lane) in
      let own_low = place_low r road car here in
      let some : 0 < length own = omega (arith, own_low) in
      let low : x < length other = omega (arith, own_low, equal) in
      let some_other : 0 < length other = omega (arith, low) in
      let same : ahead (length other) x r ≡ ahead (length own) x r = ap (λ n. ahead n x r) equal in
      same_seen car.speed road.limit _ _ _ _ _ _ _ _ car.lane _ _
      (ap (λ (lane : Lane). gap lane x) turn ∙ gap_turned r own x some)
      (ap (λ (lane : Lane). side lane x) turn_other ∙ side_turned r other x some_other low ∙ ap (side other) same)
      (ap (λ (lane : Lane). sidegap lane x) turn_other ∙ sidegap_turned r other x some_other low ∙ ap (sidegap other) same)
      (ap (λ (lane : Lane). sideback lane x) turn_other ∙ sideback_turned r other x some_other low ∙ ap (sideback other) same)
      (ap (λ (lane : Lane). headspeed lane x) turn ∙ headspeed_turned r own x some)

-- the speeds of the motion program on the rotated road
speeds_turned : (r : ℕ) (motion : CheckedProgram) (dice : Dice) (road : Cells) (speeds : ℕ → ℕ → ℕ) → AnswersSpeeds motion dice road speeds
    → AnswersSpeeds motion dice (rotate_road r road) (λ l x. speeds l (place_before r road l x))
speeds_turned r motion dice road speeds answers = record {
  each = λ car here.
      let answer = answers.each (car_before r road car) (stood r road car here) in (
        answer.0,
        subst (λ (view : View). EndsWith Motion motion.program.instrs view (words_of dice car.number) (Goes (speeds car.lane (place_before r road car.lane car.place))) answer.0)
            (sym (motion_view_turned r road car here)) answer.1,
      );
}

same_map : {A : Type 0} (f : A → A) (xs ys : List A) → length xs ≡ length ys → length (map f xs) ≡ length (map f ys)
same_map f xs ys size = length-map xs f ∙ size ∙ sym (length-map ys f)

moves_turned : (r : ℕ) (speeds : ℕ → ℕ → ℕ) (old new : Cells) → Moves speeds old new → Moves (λ l x. speeds l (place_before r old l x)) (rotate_road r old) (rotate_road r new)
moves_turned r speeds old new m = record {
  same_limit = m.same_limit;
  same_lanes = same_map (rotate_lane r) new.lanes old.lanes m.same_lanes;
  each_lane = λ l h.
      let on : l < length old.lanes = subst (λ n. l < n) (length-map old.lanes (rotate_lane r)) h in
      rw (lane_turned r old l, lane_turned r new l) (lane_moves_turned r (speeds l) (lane_of old l) (lane_of new l) (m.each_lane l on));
}

pub motion_turned : (r : ℕ) (motion : CheckedProgram) (dice : Dice) (road next : Cells) → IsMotionPhase motion dice road next → IsMotionPhase motion dice (rotate_road r road) (rotate_road r next)
motion_turned r motion dice road next phase =
    (λ l x. phase.0 l (place_before r road l x), speeds_turned r motion dice road phase.0 phase.1, moves_turned r phase.0 road next phase.2)

-- the two lanes of a legal road have the same number of cells
beside_equal : (road : Cells) (l : ℕ) → IsLegal road → length road.lanes ≡ 2 → l < length road.lanes → length (lane_of road (other_lane l)) ≡ length (lane_of road l)
beside_equal road l legal two on = legal.shape.equal (other_lane l) (omega (arith, two)) ∙ sym (legal.shape.equal l on)

module _ (r : ℕ) (change : CheckedProgram) (dice : Dice) (road : Cells) (legal : IsLegal road) (two : length road.lanes ≡ 2) (crosses : ℕ → ℕ → Bool) where
  abbrev crosses_before : ℕ → ℕ → Bool
  crosses_before l x = crosses l (place_before r road l x)

  crossings_turned : AnswersCrossings change dice road crosses → AnswersCrossings change dice (rotate_road r road) crosses_before
  crossings_turned answers = record {
    each = λ car here.
        let was = stood r road car here in
        let on = on_lane road car.lane (place_before r road car.lane car.place) (car.number, car.speed) was in
        let answer = answers.each (car_before r road car) was in (
          answer.0,
          subst (λ (view : View). EndsWith Change change.program.instrs view (words_of dice car.number) (crossing_answer (crosses car.lane (place_before r road car.lane car.place))) answer.0)
              (sym (change_view_turned r road car here (beside_equal road car.lane legal two on))) answer.1,
        );
  }

  crosses_turned : (new : Cells) → ChangesLanes crosses road new → ChangesLanes crosses_before (rotate_road r road) (rotate_road r new)
  crosses_turned new m = record {
    same_limit = m.same_limit;
    same_lanes = same_map (rotate_lane r) new.lanes road.lanes m.same_lanes;
    each_lane = λ l h.
        let on : l < length road.lanes = subst (λ n. l < n) (length-map road.lanes (rotate_lane r)) h in
        let o = other_lane l in
        rw (lane_turned r road l, lane_turned r road o, lane_turned r new l)
        (lane_crosses_turned r (crosses l) (crosses o) (lane_of road l) (lane_of road o) (lane_of new l) (beside_equal road l legal two on) (m.each_lane l on));
  }

  crossing_cars_turned : crossing_cars crosses_before (rotate_road r road) ≡ crossing_cars crosses road
  crossing_cars_turned =
      sum_turned (λ (car : Car). cond (crosses_before car.lane car.place) 1 0) (λ (car : Car). cond (crosses car.lane car.place) 1 0) 0 r road.lanes
      (λ l x number speed on. let e : 0 + l ≡ l = omega arith in
      subst (λ k. ◌≡◌ {A = ℕ} (cond (crosses k (ahead (length (lane_of road k)) x r)) 1 0) (cond (crosses k (ahead (length (lane_of road l)) x r)) 1 0)) (sym e) refl)

pub change_turned : (r : ℕ) (change : Option CheckedProgram) (dice : Dice) (road middle : Cells) (changes : ℕ) → IsLegal road → IsLaneChangePhase change dice road middle changes
    → IsLaneChangePhase change dice (rotate_road r road) (rotate_road r middle) changes
change_turned r None dice road middle changes legal phase = (ap (rotate_road r) phase.0, phase.1)
change_turned r (Some change) dice road middle changes legal phase =
    let two = phase.0 in
    let crosses = phase.1 in (
      length-map road.lanes (rotate_lane r) ∙ two,
      crosses_before r change dice road legal two crosses,
      crossings_turned r change dice road legal two crosses phase.2,
      crosses_turned r change dice road legal two crosses middle phase.3,
      phase.4 ∙ sym (crossing_cars_turned r change dice road legal two crosses),
    )

-- a road and the rotated road have the same counts
total_speed_turned : (r : ℕ) (road : Cells) → total_speed (rotate_road r road) ≡ total_speed road
total_speed_turned r road = sum_turned (λ (car : Car). car.speed) (λ (car : Car). car.speed) 0 r road.lanes (λ l x number speed on. refl)

stopped_cars_turned : (r : ℕ) (road : Cells) → stopped_cars (rotate_road r road) ≡ stopped_cars road
stopped_cars_turned r road = sum_turned (λ (car : Car). cond (nat_eq car.speed 0) 1 0) (λ (car : Car). cond (nat_eq car.speed 0) 1 0) 0 r road.lanes (λ l x number speed on. refl)

pub step_is_homogeneous : StepIsHomogeneous
step_is_homogeneous rule dice road next tally r legal is =
    let middle = is.0 in (
      rotate_road r middle,
      record {
        lane_change = change_turned r rule.change dice road middle tally.changes legal is.1.lane_change;
        motion = motion_turned r rule.motion dice middle next is.1.motion;
        distance = is.1.distance ∙ sym (total_speed_turned r next);
        stopped = is.1.stopped ∙ sym (stopped_cars_turned r next);
      },
    )

-- the seed of a run from the rotated road
abbrev seed_turned : ℕ → Seed → Seed
seed_turned r seed = record seed { road = rotate_road r seed.road }

record RunTurned (seed : Seed) (sheet : Sheet) (step : ℕ) (road : Cells) (sum : StepTally) (r : ℕ) : Type 0 where
  like : IsLegalLike seed.road road
  comes : ComesTo (seed_turned r seed) sheet step (rotate_road r road) sum

run_turned : (seed : Seed) (sheet : Sheet) (step : ℕ) (road : Cells) (sum : StepTally) (r : ℕ) → IsLegal seed.road → ComesTo seed sheet step road sum → RunTurned seed sheet step road sum r
run_turned seed sheet zero road sum r legal comes = record {
  like = subst (IsLegalLike seed.road) (sym comes.1) (like_itself seed.road legal);
  comes = (comes.0, ap (rotate_road r) comes.1, comes.2);
}
run_turned seed sheet (suc step) road sum r legal comes =
    let before = comes.0 in
    let rule = comes.2 in
    let tally = comes.3 in
    let on = comes.5 in
    let way = run_turned seed sheet step before comes.1 r legal comes.4 in
    record {
      like = like_next seed.road before road way.like (next_legal_like rule (dice_at seed step) before road tally way.like.legal on.next);
      comes = (
        rotate_road r before,
        comes.1,
        rule,
        tally,
        way.comes,
        record { under = on.under; next = step_is_homogeneous rule (dice_at seed step) before road tally r way.like.legal on.next; counted = on.counted },
      );
    }

pub run_is_homogeneous : RunIsHomogeneous
run_is_homogeneous seed sheet step road sum r legal comes = (run_turned seed sheet step road sum r legal comes).comes
