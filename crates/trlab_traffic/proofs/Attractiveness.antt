-- Roads in order stay in order: a car that does not lead brakes whenever the same car on the front road does.
use Rattle.std.proofs.Common.{◌≡◌, ℕ, zero, suc, ◌+◌, ◌-◌, ◌<◌, ◌≤◌, min, length, refl, sym, ◌∙◌, ap, subst}
use Rattle.std.proofs.{Common.{inl, inr, arith, slice_index}, lemmas.Bool.cases_lt}
use Rattle.trlab_words.specs.Words.{happens_on}
use Rattle.trlab_machine.specs.{declared.dice.Dice.Dice, Blocks.words_of}
use Rattle.trlab_road.specs.{declared.car.Car.Car, Cells.{Cells, IsAt, cars, lane_of, IsLegal}}
use Rattle.trlab_road.{specs.{Gaps.{ahead, gap}, Motion.{Fits, Moves}}, proofs.MotionLaws.on_lane}
use Rattle.trlab_road.proofs.{Numbers.all_present, Ring.car_in}
use Rattle.trlab_rules.specs.{Published.{brake, nasch_speed, safe_speed}, Rules.{Programs, IsNasch}}
use Rattle.trlab_step.specs.{declared.tally.StepTally.StepTally, Answers.AnswersSpeeds, Laws.IsLegalLike}
use Rattle.trlab_step.{specs.{Next.IsNext, Run.{IsRoadAt, dice_at}}, proofs.RunLaws.road_at_is_one}
use Rattle.trlab_traffic.specs.{Terms.{seed_from, always}, Following.IsNextOf, Comparison.IsFurther}
use Rattle.trlab_traffic.specs.Comparison.{IsOrdered, LeadsFollowSpeeds, RunKeepsOrder, StepKeepsOrder}
use Rattle.trlab_traffic.proofs.{Lanes.ahead_more, Steps.{answers_fit, next_legal_like, answered}}
use Rattle.trlab_traffic.proofs.{Steps.motion_alone, FreeFlow.one_rule, Slower.more_happens}
use Rattle.trlab_traffic.proofs.Gaps.{each_car_has_next, next_car_is_one, step_keeps_next_car}
use Rattle.trlab_traffic.proofs.Courses.{gap_of, moved, moved_gap, moved_stands, one_speed, run_like, choose}
use Rattle.trlab_traffic.proofs.Fastest.{brakes_more}

-- a car has only one lane and place
same_place : (f : ℕ → ℕ → ℕ) (road : Cells) (car other : Car) → IsLegal road → IsAt road car → IsAt road other → car.number ≡ other.number → f car.lane car.place ≡ f other.lane other.place
same_place f road car other legal here there numbered =
    let place = legal.once car other here there numbered in
    ap (λ l. f l car.place) place.0 ∙ ap (f other.lane) place.1

-- a step of both roads
module _ (p q : ℕ) (light heavy : Programs) (dice : Dice) (rear front next_rear next_front : Cells) (rear_tally front_tally : StepTally) (lead : ℕ → ℕ)
    (more : p ≤ q) (is_light : IsNasch p light) (is_heavy : IsNasch q heavy) (legal : IsLegal rear) (front_legal : IsLegal front) (one : rear.limit ≡ 1)
    (order : IsOrdered lead rear front) (step : IsNext heavy dice rear next_rear rear_tally) (front_step : IsNext light dice front next_front front_tally)
    (a b : ℕ → ℕ → ℕ) (answers : AnswersSpeeds heavy.motion dice rear a) (front_answers : AnswersSpeeds light.motion dice front b)
    (moves : Moves a rear next_rear) (front_moves : Moves b front next_front) where
  fits : Fits a rear
  fits = answers_fit heavy.motion dice rear a answers

  front_fits : Fits b front
  front_fits = answers_fit light.motion dice front b front_answers

  like : IsLegalLike rear next_rear
  like = next_legal_like heavy dice rear next_rear rear_tally legal step

  front_like : IsLegalLike front next_front
  front_like = next_legal_like light dice front next_front front_tally front_legal front_step

  -- with no less room a car goes at least as far on the front road
  slower : (car same : Car) → IsAt rear car → IsAt front same → same.number ≡ car.number → gap_of rear car ≤ gap_of front same → a car.lane car.place ≤ b same.lane same.place
  slower car same here there numbered room =
      let c = happens_on q (slice_index (words_of dice car.number) 0) in
      let d = happens_on p (slice_index (words_of dice car.number) 0) in
      let first = answered (nasch_speed q) heavy.motion dice rear a is_heavy.motion.moves legal answers car here in
      let second = answered (nasch_speed p) light.motion dice front b is_light.motion.moves front_legal front_answers same there in
      let limit : safe_speed car.speed rear.limit (gap_of rear car) ≡ min (min (car.speed + 1) 1) (gap_of rear car) = ap (λ k. safe_speed car.speed k (gap_of rear car)) one in
      let front_limit : safe_speed same.speed front.limit (gap_of front same) ≡ min (min (same.speed + 1) 1) (gap_of front same) = ap (λ k. safe_speed same.speed k (gap_of front same)) (order.same_limit ∙ one) in
      let own : a car.lane car.place ≡ brake c (min (min (car.speed + 1) 1) (gap_of rear car)) = first ∙ ap (brake c) limit in
      let others : b same.lane same.place ≡ brake d (min (min (same.speed + 1) 1) (gap_of front same)) =
      second ∙ ap (λ i. brake (happens_on p (slice_index (words_of dice i) 0)) (safe_speed same.speed front.limit (gap_of front same))) numbered ∙ ap (brake d) front_limit in
      let less = brakes_more c d car.speed (gap_of rear car) same.speed (gap_of front same) (more_happens p q (slice_index (words_of dice car.number) 0) more) room in
      omega (arith, own, others, less)

  -- the lead of a car after the step
  record LeadsBy (i k : ℕ) : Type 0 where
    by_speeds : (car same : Car) → IsAt rear car → IsAt front same → car.number ≡ i → same.number ≡ i → k + a car.lane car.place ≡ lead i + b same.lane same.place

  not_passed : (car same : Car) → IsAt rear car → IsAt front same → same.number ≡ car.number → a car.lane car.place ≤ lead car.number + b same.lane same.place
  not_passed car same here there numbered =
      let next = each_car_has_next rear car here in
      let before = next.1 in
      let on_front = order.same_next car.number next.0 before in
      let rooms = order.gaps car.number next.0 before on_front in
      let own : gap_of rear before.car ≡ gap_of rear car = same_place (λ l x. gap (lane_of rear l) x) rear before.car car legal before.on_road here before.numbered in
      let others : gap_of front on_front.car ≡ gap_of front same =
      same_place (λ l x. gap (lane_of front l) x) front on_front.car same front_legal on_front.on_road there (on_front.numbered ∙ sym numbered) in
      let low = fits.within_limit car here in
      elim (cases_lt 0 (lead car.number)) [
        | inl leads ↦ omega (arith, low, one, leads)
        | inr level ↦
            let less = slower car same here there numbered (let k : gap_of rear car ≤ gap_of front same = omega (arith, rooms, own, others, level) in k) in
            omega (arith, less)
      ]

  lead_after : (i : ℕ) → i < cars rear → (k : ℕ) × LeadsBy i k
  lead_after i low =
      let found = all_present rear legal i low in
      let car = found.0 in
      let here = found.1.0 in
      let numbered = found.1.1 in
      let partner = order.each_car car here in
      let same = partner.0 in
      let there = partner.1 in
      let further = partner.2 in
      let kept = not_passed car same here there further.same_number in
      let leads : lead car.number ≡ lead i = ap lead numbered in
      let k = lead i + b same.lane same.place - a car.lane car.place in
      let now : k + a car.lane car.place ≡ lead i + b same.lane same.place = omega (arith, kept, leads) in (
        k,
        record {
          by_speeds = λ other other_same other_here other_there is is_same.
              let own = same_place a rear other car legal other_here here (is ∙ sym numbered) in
              let others = same_place b front other_same same front_legal other_there there (is_same ∙ sym numbered ∙ sym further.same_number) in
              omega (arith, now, own, others);
        },
      )

  -- the next car ahead was the same before
  next_before : (number next : ℕ) → IsNextOf next_rear number next → IsNextOf rear number next
  next_before number next is =
      let below = like.legal.numbered is.car is.on_road in
      let count = like.same_count in
      let numbered = is.numbered in
      let found = all_present rear legal number (omega (arith, below, count, numbered)) in
      let before = each_car_has_next rear found.0 found.1.0 in
      let here : IsNextOf rear number before.0 = subst (λ i. IsNextOf rear i before.0) found.1.1 before.1 in
      let after = step_keeps_next_car heavy dice rear next_rear rear_tally number before.0 is_heavy.change step here in
      subst (IsNextOf rear number) (next_car_is_one next_rear number before.0 next like.legal after is) here

  module _ (later : ℕ → ℕ) (leads : (i : ℕ) → i < cars rear → LeadsBy i (later i)) where
    -- the position of a car after the step
    further_after : (car : Car) → IsAt next_rear car → (same : Car) × IsAt next_front same × IsFurther (later car.number) next_rear car same
    further_after car here =
        let l = car.lane in
        let n = length (lane_of rear l) in
        let on : l < length rear.lanes = rw moves.same_lanes at (on_lane next_rear l car.place (car.number, car.speed) here) in
        let m = moves.each_lane l on in
        let came = m.nothing_else car.place car.number car.speed here in
        let x = came.0 in
        let was = came.1.1.was in
        let old = car_in l x car.number came.1.0 in
        let partner = order.each_car old was in
        let same = partner.0 in
        let there = partner.1 in
        let further = partner.2 in
        let front_on = on_lane front same.lane same.place (same.number, same.speed) there in
        let far = b same.lane same.place in
        let below = legal.numbered old was in
        let now = (leads car.number below).by_speeds old same was there refl further.same_number in
        let size : length (lane_of front same.lane) ≡ n = ap (λ k. length (lane_of front k)) further.same_lane ∙ order.same_cells l on in
        let order_of : lead car.number + far ≡ a l x + later car.number = omega (arith, now) in
        let to : ahead (length (lane_of front same.lane)) same.place far ≡ ahead n x (lead car.number + far) =
        ap (λ k. ahead k same.place far) size ∙ ap (λ y. ahead n y far) further.place ∙ ahead_more n x (lead car.number) far in
        let from : ahead (length (lane_of next_rear l)) car.place (later car.number) ≡ ahead n x (a l x + later car.number) =
        ap (λ k. ahead k car.place (later car.number)) m.same_length ∙ ap (λ y. ahead n y (later car.number)) came.1.1.reaches ∙ ahead_more n x (a l x) (later car.number) in (
          car_in same.lane (ahead (length (lane_of front same.lane)) same.place far) same.number far,
          (front_moves.each_lane same.lane front_on).arrives same.place same.number same.speed there,
          record {
            same_number = further.same_number;
            same_lane = further.same_lane;
            place = to ∙ ap (ahead n x) order_of ∙ sym from;
          },
        )

    gaps_after : (number next : ℕ) (here : IsNextOf next_rear number next) (there : IsNextOf next_front number next)
        → gap_of next_front there.car + later number ≡ gap_of next_rear here.car + later next
    gaps_after number next here there =
        let old = next_before number next here in
        let front_old = order.same_next number next old in
        let rooms = order.gaps number next old front_old in
        let on = moved_gap rear next_rear a moves fits old.car old.next_car old.on_road old.follows in
        let front_on = moved_gap front next_front b front_moves front_fits front_old.car front_old.next_car front_old.on_road front_old.follows in
        let stands = moved_stands rear next_rear a moves fits old.car old.on_road in
        let front_stands = moved_stands front next_front b front_moves front_fits front_old.car front_old.on_road in
        let own : gap_of next_rear here.car ≡ gap_of next_rear (moved rear next_rear a moves fits old.car) =
        same_place (λ l x. gap (lane_of next_rear l) x) next_rear here.car (moved rear next_rear a moves fits old.car) like.legal here.on_road stands (here.numbered ∙ sym old.numbered) in
        let others : gap_of next_front there.car ≡ gap_of next_front (moved front next_front b front_moves front_fits front_old.car) =
        same_place (λ l x. gap (lane_of next_front l) x) next_front there.car (moved front next_front b front_moves front_fits front_old.car) front_like.legal there.on_road front_stands (there.numbered ∙ sym front_old.numbered) in
        let low = legal.numbered old.car old.on_road in
        let numbered = old.numbered in
        let low_next = legal.numbered old.next_car old.next_on_road in
        let next_numbered = old.next_numbered in
        let first = (leads number (omega (arith, low, numbered))).by_speeds old.car front_old.car old.on_road front_old.on_road old.numbered front_old.numbered in
        let second = (leads next (omega (arith, low_next, next_numbered))).by_speeds old.next_car front_old.next_car old.next_on_road front_old.next_on_road old.next_numbered front_old.next_numbered in
        omega (arith, rooms, on, front_on, own, others, first, second)

    order_after : IsOrdered later next_rear next_front
    order_after = record {
      same_limit = front_moves.same_limit ∙ order.same_limit ∙ sym moves.same_limit;
      same_lanes = front_moves.same_lanes ∙ order.same_lanes ∙ sym moves.same_lanes;
      same_cells = λ l low.
          let on : l < length rear.lanes = rw moves.same_lanes at low in
          let lanes = order.same_lanes in
          let front_on : l < length front.lanes = omega (arith, on, lanes) in
          (front_moves.each_lane l front_on).same_length ∙ order.same_cells l on ∙ sym (moves.each_lane l on).same_length;
      each_car = further_after;
      same_next = λ number next is. step_keeps_next_car light dice front next_front front_tally number next is_light.change front_step (order.same_next number next (next_before number next is));
      gaps = gaps_after;
    }

    leads_after : LeadsFollowSpeeds lead later next_rear next_front
    leads_after = record {
      by_speeds = λ car same here there numbered.
          let below = like.legal.numbered car here in
          let count = like.same_count in
          let found = all_present rear legal car.number (omega (arith, below, count)) in
          let partner = order.each_car found.0 found.1.0 in
          let further = partner.2 in
          let stands = moved_stands rear next_rear a moves fits found.0 found.1.0 in
          let front_stands = moved_stands front next_front b front_moves front_fits partner.0 partner.1 in
          let own = one_speed next_rear car (moved rear next_rear a moves fits found.0) like.legal here stands (sym found.1.1) in
          let others = one_speed next_front same (moved front next_front b front_moves front_fits partner.0) front_like.legal there front_stands (numbered ∙ sym found.1.1 ∙ sym further.same_number) in
          let now = (leads car.number (omega (arith, below, count))).by_speeds found.0 partner.0 found.1.0 partner.1 found.1.1 (further.same_number ∙ found.1.1) in
          omega (arith, own, others, now);
    }

pub step_keeps_order : StepKeepsOrder
step_keeps_order p q light heavy dice rear front next_rear next_front rear_tally front_tally lead more is_light is_heavy legal front_legal one order step front_step =
    let phase = motion_alone heavy dice rear next_rear rear_tally is_heavy.change step in
    let front_phase = motion_alone light dice front next_front front_tally is_light.change front_step in
    let later = choose (λ i k. LeadsBy p q light heavy dice rear front next_rear next_front rear_tally front_tally lead more is_light is_heavy legal front_legal one order step front_step phase.0 front_phase.0 phase.1 front_phase.1 phase.2 front_phase.2 i k) (cars rear)
    (lead_after p q light heavy dice rear front next_rear next_front rear_tally front_tally lead more is_light is_heavy legal front_legal one order step front_step phase.0 front_phase.0 phase.1 front_phase.1 phase.2 front_phase.2) in (
      later.value,
      order_after p q light heavy dice rear front next_rear next_front rear_tally front_tally lead more is_light is_heavy legal front_legal one order step front_step phase.0 front_phase.0 phase.1 front_phase.1 phase.2 front_phase.2 later.value later.is,
      leads_after p q light heavy dice rear front next_rear next_front rear_tally front_tally lead more is_light is_heavy legal front_legal one order step front_step phase.0 front_phase.0 phase.1 front_phase.1 phase.2 front_phase.2 later.value later.is,
    )

-- a run
pub run_keeps_order : RunKeepsOrder
run_keeps_order p q light heavy seed front road other lead zero more is_light is_heavy legal front_legal one order is front_is = (
  lead,
  subst (λ (r : Cells). IsOrdered lead r other) (sym is.1.1) (subst (λ (r : Cells). IsOrdered lead seed.road r) (sym front_is.1.1) order),
  record { by_distances = λ number far most gone also. omega (arith, gone, also) },
)
run_keeps_order p q light heavy seed front road other lead (suc step) more is_light is_heavy legal front_legal one order is front_is =
    let from = seed_from seed front in
    let comes = is.1 in
    let front_comes = front_is.1 in
    let old = comes.0 in
    let front_old = front_comes.0 in
    let here : IsRoadAt seed (always heavy) step old = (comes.1, comes.4) in
    let front_here : IsRoadAt from (always light) step front_old = (front_comes.1, front_comes.4) in
    let before = run_keeps_order p q light heavy seed front old front_old lead step more is_light is_heavy legal front_legal one order here front_here in
    let like = run_like seed (always heavy) step old comes.1 legal comes.4 in
    let front_like = run_like from (always light) step front_old front_comes.1 front_legal front_comes.4 in
    let same = one_rule heavy comes.2 step comes.5.under in
    let front_same = one_rule light front_comes.2 step front_comes.5.under in
    let next = subst (λ (r : Programs). IsNext r (dice_at seed step) old road comes.3) (sym same) comes.5.next in
    let front_next = subst (λ (r : Programs). IsNext r (dice_at seed step) front_old other front_comes.3) (sym front_same) front_comes.5.next in
    let on = step_keeps_order p q light heavy (dice_at seed step) old front_old road other comes.3 front_comes.3 before.0 more is_light is_heavy like.legal front_like.legal (like.same_limit ∙ one) before.1 next front_next in (
      on.0,
      on.1,
      record {
        by_distances = λ number far most gone also.
            let road_same = road_at_is_one seed (always heavy) (suc step) gone.0 road gone.3 is in
            let front_road_same = road_at_is_one from (always light) (suc step) also.0 other also.3 front_is in
            let car = gone.1 in
            let partner = also.1 in
            let at = subst (λ (r : Cells). IsAt r car) road_same gone.4 in
            let front_at = subst (λ (r : Cells). IsAt r partner) front_road_same also.4 in
            let so_far = before.2.by_distances number gone.2 also.2 gone.6 also.6 in
            let speeds = on.2.by_speeds car partner at front_at (also.5 ∙ sym gone.5) in
            let lead_now : on.0 car.number ≡ on.0 number = ap on.0 gone.5 in
            let lead_before : before.0 car.number ≡ before.0 number = ap before.0 gone.5 in
            let own = gone.7 in
            let others = also.7 in
            omega (arith, so_far, speeds, lead_now, lead_before, own, others);
      },
    )
