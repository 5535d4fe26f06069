-- A road whose lanes are exchanged continues as the original road, with the lanes exchanged.
use Rattle.std.proofs.Common.{◌≡◌, ℕ, zero, suc, ◌<◌, Bool, false, cond, Option, Some, None, List, [], ◌∷◌}
use Rattle.std.proofs.Common.{length, get_or, refl, sym, ◌∙◌, ap, subst, arith, All, IfSome, MatchOption}
use Rattle.std.proofs.{Common.{nat_eq, sum_by}, lemmas.List.Sums.{sum_by-append, sum_by-cons}}
use Rattle.trlab_code.specs.declared.{program.Kind.TheVariants.{Change, Motion}, instruction.Instr.Instr}
use Rattle.trlab_code.specs.{declared.view.View.View, Machine.{EndsWith, Goes}, Program.Program}
use Rattle.trlab_verify.specs.Verified.{CheckedProgram}
use Rattle.trlab_machine.specs.{declared.dice.Dice.Dice, Blocks.words_of, Answers.crossing_answer}
use Rattle.trlab_road.specs.{declared.car.Car.Car, Cells.{Cells, IsAt, Lane, at, lane_of, standing_from}}
use Rattle.trlab_road.specs.{Cells.standing_from_lane, Gaps.{gap, headspeed, side, sideback, sidegap}}
use Rattle.trlab_road.{specs.LaneChange.{car_after_crossing, other_lane}, proofs.MotionLaws.on_lane}
use Rattle.trlab_road.proofs.Ring.{car_in}
use Rattle.trlab_rules.specs.{Published.rickert_crosses, Standard.rickert_program, Rules.IsChangeComputing}
use Rattle.trlab_step.specs.Answers.{change_view_of, motion_view_of}
use Rattle.trlab_step.specs.Next.{IsLaneChangePhase, IsMotionPhase, crossing_cars, stopped_cars, total_speed}
use Rattle.trlab_step.{specs.Run.dice_at, proofs.{Parts.same_view, RunLaws.force_all}}
use Rattle.trlab_traffic.specs.Invariance.{IgnoresLane, RickertIgnoresLane, RunIsSymmetric, StepIsSymmetric}
use Rattle.trlab_traffic.{specs.Invariance.{exchange_lanes, reads_lane}, proofs.Homogeneity.same_seen}
use Rattle.trlab_traffic.proofs.{Lanes.{middle_lanes, next_lanes, run_lanes}, LaneUnread.lane_is_not_read}

-- a lane of the exchanged road is the other one of the road
lane_exchanged : (road : Cells) (l : ℕ) → l < 2 → lane_of (exchange_lanes road) l ≡ lane_of road (other_lane l)
lane_exchanged road zero low = refl
lane_exchanged road (suc zero) low = refl
lane_exchanged road (suc (suc l)) low = absurd (omega (arith, low))

other_low : (l : ℕ) → other_lane l < 2
other_low l = omega arith

module _ (road : Cells) (car : Car) (here : IsAt (exchange_lanes road) car) where
  pub on : car.lane < 2
  on = on_lane (exchange_lanes road) car.lane car.place (car.number, car.speed) here

  -- a car of the exchanged road is on the other lane of the road
  pub stood : IsAt road (car_after_crossing car)
  stood = subst (λ (lane : Lane). at lane car.place ≡ Some (car.number, car.speed)) (lane_exchanged road car.lane on) here

  pub motion_view_exchanged : motion_view_of (exchange_lanes road) car ≡ motion_view_of road (car_after_crossing car)
  motion_view_exchanged =
      let turn = lane_exchanged road car.lane on in
      same_view _ _ _ _ _ _ _ _ refl refl (ap (λ (lane : Lane). gap lane car.place) turn) (ap (λ (lane : Lane). headspeed lane car.place) turn)

  pub change_view_exchanged : record (change_view_of road (car_after_crossing car)) { lane = car.lane } ≡ change_view_of (exchange_lanes road) car
  change_view_exchanged =
      let x = car.place in
      let turn = lane_exchanged road car.lane on in
      let turn_other = lane_exchanged road (other_lane car.lane) (other_low car.lane) in
      sym (
      same_seen car.speed road.limit _ _ _ _ _ _ _ _ car.lane _ _
      (ap (λ (lane : Lane). gap lane x) turn)
      (ap (λ (lane : Lane). side lane x) turn_other)
      (ap (λ (lane : Lane). sidegap lane x) turn_other)
      (ap (λ (lane : Lane). sideback lane x) turn_other)
      (ap (λ (lane : Lane). headspeed lane x) turn)
      )

motion_exchanged : (motion : CheckedProgram) (dice : Dice) (road next : Cells) → length road.lanes ≡ 2 → IsMotionPhase motion dice road next → IsMotionPhase motion dice (exchange_lanes road) (exchange_lanes next)
motion_exchanged motion dice road next both phase =
    let speeds = phase.0 in
    let m = phase.2 in (
      λ l x. speeds (other_lane l) x,
      record {
        each = λ car here.
            let answer = phase.1.each (car_after_crossing car) (stood road car here) in (
              answer.0,
              subst (λ (view : View). EndsWith Motion motion.program.instrs view (words_of dice car.number) (Goes (speeds (other_lane car.lane) car.place)) answer.0)
                  (sym (motion_view_exchanged road car here)) answer.1,
            );
      },
      record {
        same_limit = m.same_limit;
        same_lanes = refl;
        each_lane = λ l h. rw (lane_exchanged road l h, lane_exchanged next l h) (m.each_lane (other_lane l) (omega (arith, both)));
      },
    )

-- sums over the cars
lane_sum : (g f : Car → ℕ) (l m s : ℕ) (lane : Lane) → ((x number speed : ℕ) → g (car_in l x number speed) ≡ f (car_in m x number speed)) → sum_by g (standing_from l s lane) ≡ sum_by f (standing_from m s lane)
lane_sum g f l m s [] same = refl
lane_sum g f l m s (None ∷ cells) same = lane_sum g f l m (suc s) cells same
lane_sum g f l m s (Some car ∷ cells) same =
    let first = same s car.0 car.1 in
    let rest = lane_sum g f l m (suc s) cells same in
    let a = sum_by-cons g (car_in l s car.0 car.1) (standing_from l (suc s) cells) in
    let b = sum_by-cons f (car_in m s car.0 car.1) (standing_from m (suc s) cells) in
    omega (arith, first, rest, a, b)

sum_exchanged : (g f : Car → ℕ) (lanes : List Lane) → length lanes ≡ 2
    → ((x number speed : ℕ) → g (car_in 0 x number speed) ≡ f (car_in 1 x number speed))
    → ((x number speed : ℕ) → g (car_in 1 x number speed) ≡ f (car_in 0 x number speed))
    → sum_by g (standing_from_lane 0 (get_or lanes 1 [] ∷ get_or lanes 0 [] ∷ [])) ≡ sum_by f (standing_from_lane 0 lanes)
sum_exchanged g f [] both up down = absurd (omega (arith, both))
sum_exchanged g f (lane ∷ []) both up down = absurd (omega (arith, both))
sum_exchanged g f (lane ∷ beside ∷ []) both up down =
    let one = lane_sum g f 0 1 0 beside up in
    let two = lane_sum g f 1 0 0 lane down in
    let a = sum_by-append g (standing_from 0 0 beside) (standing_from_lane 1 (lane ∷ [])) in
    let b = sum_by-append g (standing_from 1 0 lane) [] in
    let c = sum_by-append f (standing_from 0 0 lane) (standing_from_lane 1 (beside ∷ [])) in
    let d = sum_by-append f (standing_from 1 0 beside) [] in
    omega (arith, one, two, a, b, c, d)
sum_exchanged g f (lane ∷ beside ∷ more ∷ lanes) both up down = absurd (omega (arith, both))

total_speed_exchanged : (road : Cells) → length road.lanes ≡ 2 → total_speed (exchange_lanes road) ≡ total_speed road
total_speed_exchanged road both = sum_exchanged (λ (car : Car). car.speed) (λ (car : Car). car.speed) road.lanes both (λ x number speed. refl) (λ x number speed. refl)

stopped_cars_exchanged : (road : Cells) → length road.lanes ≡ 2 → stopped_cars (exchange_lanes road) ≡ stopped_cars road
stopped_cars_exchanged road both =
    sum_exchanged (λ (car : Car). cond (nat_eq car.speed 0) 1 0) (λ (car : Car). cond (nat_eq car.speed 0) 1 0) road.lanes both (λ x number speed. refl) (λ x number speed. refl)

crossing_cars_exchanged : (crosses : ℕ → ℕ → Bool) (road : Cells) → length road.lanes ≡ 2 → crossing_cars (λ l x. crosses (other_lane l) x) (exchange_lanes road) ≡ crossing_cars crosses road
crossing_cars_exchanged crosses road both =
    sum_exchanged (λ (car : Car). cond (crosses (other_lane car.lane) car.place) 1 0) (λ (car : Car). cond (crosses car.lane car.place) 1 0) road.lanes both
    (λ x number speed. refl) (λ x number speed. refl)

change_exchanged : (change : Option CheckedProgram) (dice : Dice) (road middle : Cells) (changes : ℕ) → IfSome change (λ (c : CheckedProgram). All (λ (instr : Instr). reads_lane instr ≡ false) c.program.instrs)
    → length road.lanes ≡ 2 → IsLaneChangePhase change dice road middle changes → IsLaneChangePhase change dice (exchange_lanes road) (exchange_lanes middle) changes
change_exchanged None dice road middle changes unread both phase = (ap exchange_lanes phase.0, phase.1)
change_exchanged (Some change) dice road middle changes unread both phase =
    let crosses = phase.1 in
    let m = phase.3 in (
      refl,
      λ l x. crosses (other_lane l) x,
      record {
        each = λ car here.
            let answer = phase.2.each (car_after_crossing car) (stood road car here) in
            let code = change.program.instrs in
            let answers = crossing_answer (crosses (other_lane car.lane) car.place) in (
              answer.0,
              subst (λ (view : View). EndsWith Change code view (words_of dice car.number) answers answer.0) (change_view_exchanged road car here)
                  (lane_is_not_read Change code (change_view_of road (car_after_crossing car)) (words_of dice car.number) car.lane answers answer.0 unread answer.1),
            );
      },
      record {
        same_limit = m.same_limit;
        same_lanes = refl;
        each_lane = λ l h.
            rw (lane_exchanged road l h, lane_exchanged road (other_lane l) (other_low l), lane_exchanged middle l h) (m.each_lane (other_lane l) (omega (arith, both)));
      },
      phase.4 ∙ sym (crossing_cars_exchanged crosses road both),
    )

pub step_is_symmetric : StepIsSymmetric
step_is_symmetric rule dice road next tally unread both is =
    let middle = is.0 in
    let two : length middle.lanes ≡ 2 = (middle_lanes rule.change dice road middle tally.changes is.1.lane_change).count ∙ both in
    let two_next : length next.lanes ≡ 2 = (next_lanes rule dice road next tally is).count ∙ both in (
      exchange_lanes middle,
      record {
        lane_change = change_exchanged rule.change dice road middle tally.changes unread both is.1.lane_change;
        motion = motion_exchanged rule.motion dice middle next two is.1.motion;
        distance = is.1.distance ∙ sym (total_speed_exchanged next two_next);
        stopped = is.1.stopped ∙ sym (stopped_cars_exchanged next two_next);
      },
    )

pub run_is_symmetric : RunIsSymmetric
run_is_symmetric seed sheet zero road sum unread both comes = (comes.0, ap exchange_lanes comes.1, comes.2)
run_is_symmetric seed sheet (suc step) road sum unread both comes =
    let before = comes.0 in
    let rule = comes.2 in
    let tally = comes.3 in
    let on_step = comes.5 in
    let ignores = force_all IgnoresLane sheet step rule unread on_step.under in
    let two : length before.lanes ≡ 2 = (run_lanes seed sheet step before comes.1 comes.4).count ∙ both in (
      exchange_lanes before,
      comes.1,
      rule,
      tally,
      run_is_symmetric seed sheet step before comes.1 unread both comes.4,
      record { under = on_step.under; next = step_is_symmetric rule (dice_at seed step) before road tally ignores two on_step.next; counted = on_step.counted },
    )

-- the rule of Rickert et al. (1996), instruction by instruction
abbrev NoneReads : List Instr → Type 0
NoneReads [] = Unit {0}
NoneReads (instr ∷ code) = (reads_lane instr ≡ false) × NoneReads code

none_reads : (code : List Instr) → NoneReads code → All (λ (instr : Instr). reads_lane instr ≡ false) code
none_reads [] each k d below = absurd (omega (arith, below))
none_reads (instr ∷ code) each zero d below = each.0
none_reads (instr ∷ code) each (suc k) d below = none_reads code each.1 k d (omega (arith, below))

rickert_unread : (c : ℕ) → All (λ (instr : Instr). reads_lane instr ≡ false) (rickert_program c).instrs
rickert_unread c = none_reads (rickert_program c).instrs (refl, (refl, (refl, (refl, (refl, (refl, (refl, (refl, (refl, (refl, (refl, (refl, (refl, (refl, (refl, (refl, tt))))))))))))))))

change_unread : (c : ℕ) (change : Option CheckedProgram) → MatchOption change ⊥ (IsChangeComputing (rickert_crosses c) (rickert_program c)) → IfSome change (λ (p : CheckedProgram). All (λ (instr : Instr). reads_lane instr ≡ false) p.program.instrs)
change_unread c None is = absurd is
change_unread c (Some change) is = subst (λ (p : Program). All (λ (instr : Instr). reads_lane instr ≡ false) p.instrs) (sym is.same) (rickert_unread c)

pub rickert_ignores_lane : RickertIgnoresLane
rickert_ignores_lane p c rule is = change_unread c rule.change is.change
