-- Each random braking costs one cell.
use Rattle.std.proofs.Common.{◌≡◌, ℕ, zero, suc, ◌+◌, ◌-◌, ◌*◌, ◌≤◌, ◌&&◌, min, Bool, true, false, cond, List}
use Rattle.std.proofs.Common.{[], ◌∷◌, length, get_or, refl, sym, ◌∙◌, ap, subst, inl, inr, arith, mul_comm}
use Rattle.std.proofs.Common.{suc-mul, if◌then◌else◌, All, nat_le, nat_lt, sum_by, le-leb}
use Rattle.std.proofs.lemmas.{Bool.{cases_lt, lt-leb}, List.Sums.{sum_by-cons, sum_by-le}}
use Rattle.trlab_words.{specs.Words.{happens_on, random_word}, proofs.RandomWords.slice_index-random_words}
use Rattle.trlab_machine.specs.declared.dice.Dice.{Dice}
use Rattle.trlab_road.specs.{declared.car.Car.Car, Cells.{Cells, IsAt, cars, lane_of, IsLegal, standing}}
use Rattle.trlab_road.{specs.{Gaps.gap, Motion.IsClearAhead}, proofs.Ring.{car_in, clear_within_gap}}
use Rattle.trlab_road.proofs.StandingOrder.{length-standing_from_lane, standing_cell}
use Rattle.trlab_rules.specs.Rules.{ComputesSpeed, Programs, IsRickert}
use Rattle.trlab_rules.specs.Published.{brake, nasch_speed, safe_speed, vdr_braking_chance}
use Rattle.trlab_verify.specs.Verified.{CheckedProgram}
use Rattle.trlab_step.specs.{declared.tally.StepTally.StepTally, Next.{IsMotionPhase, IsNext, IsStep}}
use Rattle.trlab_step.specs.{Next.total_speed, Laws.IsLegalLike, Published.happens_to, Run.ComesTo}
use Rattle.trlab_step.{specs.Run.{IsRoadAt, Seed, Sheet, dice_at}, proofs.RunLaws.road_at_is_one}
use Rattle.trlab_traffic.specs.{Terms.{StaysInLane, always, all_cells, empty_cells}, Bounds.AddsUpTo}
use Rattle.trlab_traffic.specs.Bounds.{BrakingCosts, BrakingCostsRuns, BrakingCostsRunsWithLaneChanges}
use Rattle.trlab_traffic.specs.Bounds.{BrakingCostsRunsWithSlowStarts, BrakingCostsSteps}
use Rattle.trlab_traffic.specs.Bounds.{BrakingCostsStepsWithLaneChanges, EachRunHasBraked, HasBraked}
use Rattle.trlab_traffic.{specs.Bounds.{braking_cars, braking_cars_with_gap}, proofs.Lanes.below_not}
use Rattle.trlab_traffic.proofs.{Lanes.{below_so, total}, Steps.{answers_fit, middle_like, answered}}
use Rattle.trlab_traffic.proofs.{Steps.motion_alone, RoomAhead.lanes_room, Capacities.distance_counted}
use Rattle.trlab_traffic.proofs.Capacities.{distance_uncounted, middle_cells, next_cells, same_empty}
use Rattle.trlab_traffic.proofs.{Capacities.speeds_total, FreeFlow.one_rule, Courses.run_like}
use Rattle.trlab_traffic.proofs.{Courses.sum_of_standing, DetectingRuns.{counted_so, uncounted_so}}

-- a sum of sums
sum_two : (f g : Car → ℕ) (xs : List Car) → sum_by (λ (c : Car). f c + g c) xs ≡ sum_by f xs + sum_by g xs
sum_two f g [] = refl
sum_two f g (x ∷ xs) =
    let rest = sum_two f g xs in
    let a = sum_by-cons (λ (c : Car). f c + g c) x xs in
    let b = sum_by-cons f x xs in
    let c = sum_by-cons g x xs in
    omega (arith, rest, a, b, c)

-- one car
by_limit_each : (b : Bool) (s limit : ℕ) → 1 ≤ limit → s ≤ limit → brake b s + cond b 1 0 ≤ limit
by_limit_each true s limit some low = omega (arith, some, low)
by_limit_each false s limit some low = omega (arith, low)

by_gap_each : (b : Bool) (s g : ℕ) → s ≤ g → brake b s + cond (b && nat_lt 0 g) 1 0 ≤ g
by_gap_each true s g low =
    elim (cases_lt 0 g) [
      | inl room ↦ let e = below_so 0 g room in omega (arith, e, low, room)
      | inr none ↦ let e = below_not 0 g none in omega (arith, e, low)
    ]
by_gap_each false s g low = omega (arith, low)

-- a run keeps its cells
pub run_cells : (seed : Seed) (sheet : Sheet) (step : ℕ) (road : Cells) (sum : StepTally) → ComesTo seed sheet step road sum → all_cells road ≡ all_cells seed.road
run_cells seed sheet zero road sum comes = ap all_cells comes.1
run_cells seed sheet (suc step) road sum comes = next_cells comes.2 (dice_at seed step) comes.0 road comes.3 comes.5.next ∙ run_cells seed sheet step comes.0 comes.1 comes.4

-- one step
record Costs (chance : ℕ → ℕ) (dice : Dice) (road : Cells) (distance : ℕ) : Type 0 where
  by_limit : distance + braking_cars chance dice road ≤ road.limit * cars road
  by_empty_cells : distance + braking_cars_with_gap chance dice road ≤ empty_cells road

-- the motion of one step
module _ (chance : ℕ → ℕ) (motion : CheckedProgram) (moves : ComputesSpeed (λ view words. nasch_speed (chance view.speed) view words) motion.program) where
  motion_costs : (dice : Dice) (old new : Cells) → IsLegal old → IsMotionPhase motion dice old new → Costs chance dice old (total_speed new)
  motion_costs dice old new legal phase =
      let speeds = phase.0 in
      let fits = answers_fit motion dice old speeds phase.1 in
      let total = speeds_total speeds old new fits phase.2 in
      let b : Car → Bool = λ car. happens_to dice car 0 (chance car.speed) in
      let g : Car → ℕ = λ car. gap (lane_of old car.lane) car.place in
      let safe : Car → ℕ = λ car. safe_speed car.speed old.limit (g car) in
      let goes : (car : Car) → IsAt old car → speeds car.lane car.place ≡ brake (b car) (safe car) = λ car here.
      answered (λ view words. nasch_speed (chance view.speed) view words) motion dice old speeds moves legal phase.1 car here
      ∙ ap (λ (word : ℕ). brake (happens_on (chance car.speed) word) (safe car)) (slice_index-random_words dice.key dice.road car.number dice.step 0 (omega arith)) in
      let speed : Car → ℕ = λ car. speeds car.lane car.place in
      let braked : Car → ℕ = λ car. cond (b car) 1 0 in
      let gone : Car → ℕ = λ car. speed car + braked car in
      let count = length-standing_from_lane 0 old.lanes in
      let some_limit = legal.shape.limit.some_limit in
      let each : All (λ (car : Car). gone car ≤ old.limit) (standing old) = λ k d below.
      let car = get_or (standing old) k d in
      let here = standing_cell old k d (omega (arith, below, count)) in
      let most = by_limit_each (b car) (safe car) old.limit some_limit (let k : min (min (car.speed + 1) old.limit) (g car) ≤ old.limit = omega arith in k) in
      let e = goes car here in
      omega (arith, most, e) in
      let limits = sum_by-le gone old.limit (standing old) each in
      let split = sum_two speed braked (standing old) in
      let same : length (standing old) * old.limit ≡ old.limit * cars old = ap (λ k. k * old.limit) count ∙ mul_comm (cars old) old.limit in
      let with_gap : Car → ℕ = λ car. cond (b car && nat_lt 0 (g car)) 1 0 in
      let over : Car → ℕ = λ car. speed car + with_gap car in
      let rooms = lanes_room over 0 old.lanes (λ l low x number v here.
      let e : l ≡ 0 + l = omega arith in
      let car = car_in l x number v in
      let most = by_gap_each (b car) (safe car) (g car) (let k : min (min (v + 1) old.limit) (g car) ≤ g car = omega arith in k) in
      let go = goes car here in
      subst (λ k. IsClearAhead (lane_of old l) x (over (car_in k x number v))) e (clear_within_gap (lane_of old l) x (over car) (omega (arith, most, go)))) in
      let split_gaps = sum_two speed with_gap (standing old) in
      record { by_limit = omega (arith, total, limits, split, same); by_empty_cells = omega (arith, total, rooms, split_gaps) }

module _ (chance : ℕ → ℕ) (rule : Programs) (moves : ComputesSpeed (λ view words. nasch_speed (chance view.speed) view words) rule.motion.program) (stays : StaysInLane rule) where
  step_costs : (dice : Dice) (old new : Cells) (tally : StepTally) → IsLegal old → IsNext rule dice old new tally → Costs chance dice old tally.distance
  step_costs dice old new tally legal is =
      subst (Costs chance dice old) (sym is.1.distance) (motion_costs chance rule.motion moves dice old new legal (motion_alone rule dice old new tally stays is))

  -- a run
  run_costs : (seed : Seed) (step : ℕ) (road : Cells) (sum : StepTally) (braked with_gap : ℕ) → IsLegal seed.road → ComesTo seed (always rule) step road sum
      → HasBraked chance seed (always rule) step braked with_gap → BrakingCosts seed.road (step - seed.warm) sum.distance braked with_gap
  run_costs seed zero road sum braked with_gap legal comes has =
      let none = ap (λ (t : StepTally). t.distance) comes.2 in
      let a = has.all in
      let b = has.with_gaps in
      record { by_limit = omega (arith, none, a); by_empty_cells = omega (arith, none, b) }
  run_costs seed (suc step) road sum braked with_gap legal comes has =
      let old = comes.0 in
      let tally = comes.3 in
      let go = comes.5 in
      let all = has.all in
      let those = has.with_gaps in
      let here : IsRoadAt seed (always rule) step old = (comes.1, comes.4) in
      let all_here = road_at_is_one seed (always rule) step all.0 old all.2 here in
      let those_here = road_at_is_one seed (always rule) step those.0 old those.2 here in
      let before = run_costs seed step old comes.1 all.1 those.1 legal comes.4 (record { all = all.3; with_gaps = those.3 }) in
      let like = run_like seed (always rule) step old comes.1 legal comes.4 in
      let same = one_rule rule comes.2 step go.under in
      let next = subst (λ (r : Programs). IsNext r (dice_at seed step) old road tally) (sym same) go.next in
      let now = step_costs (dice_at seed step) old road tally like.legal next in
      let a = now.by_limit in
      let b = now.by_empty_cells in
      let a_before = before.by_limit in
      let b_before = before.by_empty_cells in
      let most : old.limit * cars old ≡ seed.road.limit * cars seed.road = ap (λ k. k * cars old) like.same_limit ∙ ap (λ k. seed.road.limit * k) like.same_count in
      let empty = same_empty seed.road old like.same_count (run_cells seed (always rule) step old comes.1 comes.4) in
      let brakes = ap (braking_cars chance (dice_at seed step)) all_here in
      let brakes_with_gap = ap (braking_cars_with_gap chance (dice_at seed step)) those_here in
      elim (cases_lt step seed.warm) [
        | inl early ↦
            let e : suc step - seed.warm ≡ step - seed.warm = omega (arith, early) in
            let not_yet = lt-leb seed.warm step early in
            let d = distance_uncounted (nat_le seed.warm step) sum comes.1 tally go.counted not_yet in
            let c = uncounted_so (nat_le seed.warm step) braked all.1 (braking_cars chance (dice_at seed step) all.0) all.4 not_yet in
            let f = uncounted_so (nat_le seed.warm step) with_gap those.1 (braking_cars_with_gap chance (dice_at seed step) those.0) those.4 not_yet in
            subst (λ k. BrakingCosts seed.road k sum.distance braked with_gap) (sym e) (record { by_limit = omega (arith, a_before, d, c); by_empty_cells = omega (arith, b_before, d, f) })
        | inr late ↦
            let e : suc step - seed.warm ≡ suc (step - seed.warm) = omega (arith, late) in
            let yet = le-leb seed.warm step late in
            let d = distance_counted (nat_le seed.warm step) sum comes.1 tally go.counted yet in
            let c = counted_so (nat_le seed.warm step) braked all.1 (braking_cars chance (dice_at seed step) all.0) all.4 yet in
            let f = counted_so (nat_le seed.warm step) with_gap those.1 (braking_cars_with_gap chance (dice_at seed step) those.0) those.4 yet in
            let limits = suc-mul (step - seed.warm) (seed.road.limit * cars seed.road) in
            let empties = suc-mul (step - seed.warm) (empty_cells seed.road) in
            subst (λ k. BrakingCosts seed.road k sum.distance braked with_gap) (sym e) (record {
              by_limit = omega (arith, a, a_before, d, c, most, brakes, limits);
              by_empty_cells = omega (arith, b, b_before, d, f, empty, brakes_with_gap, empties);
            })
      ]

once : (m n : ℕ) → m ≤ n → m ≤ 1 * n
once m n h = omega (arith, h)

pub braking_costs_steps : BrakingCostsSteps
braking_costs_steps p rule dice road next tally is legal step =
    let costs = step_costs (λ speed. p) rule is.motion.moves is.change dice road next tally legal step in
    let a = costs.by_limit in
    let b = costs.by_empty_cells in
    record { by_limit = once (tally.distance + braking_cars (λ speed. p) dice road) (road.limit * cars road) a; by_empty_cells = once (tally.distance + braking_cars_with_gap (λ speed. p) dice road) (empty_cells road) b }

pub braking_costs_runs : BrakingCostsRuns
braking_costs_runs p rule seed step road sum braked with_gap is legal comes has =
    run_costs (λ speed. p) rule is.motion.moves is.change seed step road sum braked with_gap legal comes has

pub braking_costs_runs_with_slow_starts : BrakingCostsRunsWithSlowStarts
braking_costs_runs_with_slow_starts p p0 rule seed step road sum braked with_gap is legal comes has =
    run_costs (vdr_braking_chance p p0) rule is.motion.moves is.change seed step road sum braked with_gap legal comes has

adds_up : (braking : Dice → Cells → ℕ) (seed : Seed) (sheet : Sheet) (step : ℕ) (road : Cells) (sum : StepTally) → ComesTo seed sheet step road sum → (all : ℕ) × AddsUpTo braking seed sheet step all
adds_up braking seed sheet zero road sum comes = (0, refl)
adds_up braking seed sheet (suc step) road sum comes =
    let before = adds_up braking seed sheet step comes.0 comes.1 comes.4 in
    let all = if nat_le seed.warm step then before.0 + braking (dice_at seed step) comes.0 else before.0 in
    (all, (comes.0, before.0, (comes.1, comes.4), before.1, refl))

pub each_run_has_braked : EachRunHasBraked
each_run_has_braked chance seed sheet step road sum comes =
    let all = adds_up (braking_cars chance) seed sheet step road sum comes in
    let those = adds_up (braking_cars_with_gap chance) seed sheet step road sum comes in
    (all.0, those.0, record { all = all.1; with_gaps = those.1 })

-- with lane changes: the same cars brake after them
same_braking : (p : ℕ) (dice : Dice) (road middle : Cells) → IsLegal road → IsLegalLike road middle → braking_cars (λ speed. p) dice middle ≡ braking_cars (λ speed. p) dice road
same_braking p dice road middle legal like =
    let of_number : ℕ → ℕ = λ i. cond (happens_on p (random_word dice.key dice.road i dice.step 0)) 1 0 in
    let of_car : Car → ℕ = λ car. cond (happens_to dice car 0 p) 1 0 in
    sum_of_standing of_car of_number middle like.legal (λ car here. refl)
    ∙ ap (total of_number) like.same_count
    ∙ sym (sum_of_standing of_car of_number road legal (λ car here. refl))

record ChangeCosts (p : ℕ) (dice : Dice) (road middle : Cells) (distance : ℕ) : Type 0 where
  by_limit : distance + braking_cars (λ speed. p) dice road ≤ road.limit * cars road
  by_empty_cells : distance + braking_cars_with_gap (λ speed. p) dice middle ≤ empty_cells road

change_costs : (p c : ℕ) (rule : Programs) (dice : Dice) (road middle next : Cells) (tally : StepTally) → IsRickert p c rule → IsLegal road → IsStep rule dice road middle next tally
    → ChangeCosts p dice road middle tally.distance
change_costs p c rule dice road middle next tally is legal step =
    let like = middle_like rule.change dice road middle tally.changes legal step.lane_change in
    let costs = motion_costs (λ speed. p) rule.motion is.motion.moves dice middle next like.legal step.motion in
    let a = costs.by_limit in
    let b = costs.by_empty_cells in
    let total = step.distance in
    let same = same_braking p dice road middle legal like in
    let most : middle.limit * cars middle ≡ road.limit * cars road = ap (λ k. k * cars middle) like.same_limit ∙ ap (λ k. road.limit * k) like.same_count in
    let empty = same_empty road middle like.same_count (middle_cells rule.change dice road middle tally.changes step.lane_change) in
    record { by_limit = omega (arith, a, total, same, most); by_empty_cells = omega (arith, b, total, empty) }

pub braking_costs_steps_with_lane_changes : BrakingCostsStepsWithLaneChanges
braking_costs_steps_with_lane_changes p c rule dice road middle next tally is legal step =
    let costs = change_costs p c rule dice road middle next tally is legal step in
    record {
      by_limit = once (tally.distance + braking_cars (λ speed. p) dice road) (road.limit * cars road) costs.by_limit;
      by_empty_cells = once (tally.distance + braking_cars_with_gap (λ speed. p) dice middle) (empty_cells road) costs.by_empty_cells;
    }

pub braking_costs_runs_with_lane_changes : BrakingCostsRunsWithLaneChanges
braking_costs_runs_with_lane_changes p c rule seed zero road sum braked is legal comes has =
    let none = ap (λ (t : StepTally). t.distance) comes.2 in
    omega (arith, none, has)
braking_costs_runs_with_lane_changes p c rule seed (suc step) road sum braked is legal comes has =
    let old = comes.0 in
    let tally = comes.3 in
    let go = comes.5 in
    let most = seed.road.limit * cars seed.road in
    let here : IsRoadAt seed (always rule) step old = (comes.1, comes.4) in
    let all_here = road_at_is_one seed (always rule) step has.0 old has.2 here in
    let before = braking_costs_runs_with_lane_changes p c rule seed step old comes.1 has.1 is legal comes.4 has.3 in
    let like = run_like seed (always rule) step old comes.1 legal comes.4 in
    let same = one_rule rule comes.2 step go.under in
    let next = subst (λ (r : Programs). IsNext r (dice_at seed step) old road tally) (sym same) go.next in
    let now = (change_costs p c rule (dice_at seed step) old next.0 road tally is like.legal next.1).by_limit in
    let same_most : old.limit * cars old ≡ most = ap (λ k. k * cars old) like.same_limit ∙ ap (λ k. seed.road.limit * k) like.same_count in
    let brakes = ap (braking_cars (λ speed. p) (dice_at seed step)) all_here in
    elim (cases_lt step seed.warm) [
      | inl early ↦
          let e : suc step - seed.warm ≡ step - seed.warm = omega (arith, early) in
          let not_yet = lt-leb seed.warm step early in
          let d = distance_uncounted (nat_le seed.warm step) sum comes.1 tally go.counted not_yet in
          let c = uncounted_so (nat_le seed.warm step) braked has.1 (braking_cars (λ speed. p) (dice_at seed step) has.0) has.4 not_yet in
          subst (λ k. sum.distance + braked ≤ k * most) (sym e) (omega (arith, before, d, c))
      | inr late ↦
          let e : suc step - seed.warm ≡ suc (step - seed.warm) = omega (arith, late) in
          let yet = le-leb seed.warm step late in
          let d = distance_counted (nat_le seed.warm step) sum comes.1 tally go.counted yet in
          let c = counted_so (nat_le seed.warm step) braked has.1 (braking_cars (λ speed. p) (dice_at seed step) has.0) has.4 yet in
          let limits = suc-mul (step - seed.warm) most in
          subst (λ k. sum.distance + braked ≤ k * most) (sym e) (omega (arith, now, before, d, c, same_most, brakes, limits))
    ]
