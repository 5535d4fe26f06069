-- The counts of the lanes of a window add up to the counts of the road.
use Rattle.std.proofs.Common.{◌≡◌, ℕ, zero, suc, ◌+◌, ◌*◌, ◌<◌, ◌&&◌, cond, List, [], ◌∷◌, length, get_or}
use Rattle.std.proofs.Common.{refl, sym, ◌∙◌, ap, subst, arith, nat_eq, All, sum_by, Ok}
use Rattle.std.proofs.lemmas.List.Sums.{sum_by-cons}
use Rattle.std.proofs.lemmas.List.FromFn.{get_or-map-range_with_len, length-map-range_with_len}
use Rattle.trlab_diagram.specs.declared.point.Window.{Window}
use Rattle.trlab_road.specs.{declared.car.Car.Car, Cells.{Cells, cars, IsLegal, standing}}
use Rattle.trlab_road.proofs.{MotionLaws.on_lane, StandingOrder.{length-standing_from_lane, standing_cell}}
use Rattle.trlab_step.specs.{declared.tally.StepTally.StepTally, Laws.IsLegalLike}
use Rattle.trlab_step.specs.{Next.{stopped_cars, total_speed}, Run.{Seed, Sheet}}
use Rattle.trlab_step.proofs.RunLaws.{run_comes_to_road, road_at_is_one}
use Rattle.trlab_jobs.specs.{Job.{Job, seed_of, sheet_of}, Stored.IsStoredJob}
use Rattle.trlab_jobs.proofs.OneText.{one_thing, says_plain}
use Rattle.trlab_campaign.specs.Laws.{LanesAddUp, LanesOfSeriesAddUp}
use Rattle.trlab_campaign.specs.SeriesOutput.{AreRoads, IsCourse, IsSeries, cars_on, first_windows, is_on}
use Rattle.trlab_campaign.specs.SeriesOutput.{lane_count, nth_window, roads_after, total_speed_on, stopped_on}
use Rattle.trlab_campaign.specs.SeriesOutput.{tallies_from, window_of}
use Rattle.trlab_campaign.proofs.{LaneCounts.{both_tests, ones, same_sum}, Sheets.plain_sheet}

-- a number of a car, on lane 0 or on lane 1
of_lane : (lane number : ℕ) → lane < 2 → cond (nat_eq lane 0) number 0 + cond (nat_eq lane 1) number 0 ≡ number
of_lane zero number low = omega arith
of_lane (suc zero) number low = omega arith
of_lane (suc (suc lane)) number low = absurd (omega arith)

-- the sum over the cars of lane 0 and that over the cars of lane 1 are the sum over all
split_sum : (f : Car → ℕ) (xs : List Car) → ((k : ℕ) (d : Car) → k < length xs → (get_or xs k d).lane < 2)
    → sum_by (λ (car : Car). cond (is_on 0 car) (f car) 0) xs + sum_by (λ (car : Car). cond (is_on 1 car) (f car) 0) xs ≡ sum_by f xs
split_sum f [] low = refl
split_sum f (x ∷ xs) low =
    let first = sum_by-cons (λ (car : Car). cond (is_on 0 car) (f car) 0) x xs in
    let second = sum_by-cons (λ (car : Car). cond (is_on 1 car) (f car) 0) x xs in
    let both = sum_by-cons f x xs in
    let here = of_lane x.lane (f x) (low 0 x (omega arith)) in
    let rest = split_sum f xs (λ k d inside. low (suc k) d (omega arith)) in
    omega (arith, first, second, both, here, rest)

-- each car of a legal road is on lane 0 or on lane 1
on_two : (road : Cells) → IsLegal road → (k : ℕ) (d : Car) → k < length (standing road) → (get_or (standing road) k d).lane < 2
on_two road legal k d inside =
    let count = length-standing_from_lane 0 road.lanes in
    let car = get_or (standing road) k d in
    let on = on_lane road car.lane car.place (car.number, car.speed) (standing_cell road k d (omega (arith, inside, count))) in
    let few = legal.shape.lanes.few_lanes in
    omega (arith, on, few)

-- the cars on both lanes of a legal road
both_cars : (road : Cells) → IsLegal road → cars_on 0 road + cars_on 1 road ≡ cars road
both_cars road legal = split_sum (λ (car : Car). 1) (standing road) (on_two road legal) ∙ ones (standing road) ∙ length-standing_from_lane 0 road.lanes

both_speeds : (road : Cells) → IsLegal road → total_speed_on 0 road + total_speed_on 1 road ≡ total_speed road
both_speeds road legal = split_sum (λ (car : Car). car.speed) (standing road) (on_two road legal)

both_stopped : (road : Cells) → IsLegal road → stopped_on 0 road + stopped_on 1 road ≡ stopped_cars road
both_stopped road legal =
    let split = split_sum (λ (car : Car). cond (nat_eq car.speed 0) 1 0) (standing road) (on_two road legal) in
    let first = same_sum (λ (car : Car). cond (is_on 0 car && nat_eq car.speed 0) 1 0) (λ (car : Car). cond (is_on 0 car) (cond (nat_eq car.speed 0) 1 0) 0) (standing road) (λ car. both_tests (is_on 0 car) (nat_eq car.speed 0) 1) in
    let second = same_sum (λ (car : Car). cond (is_on 1 car && nat_eq car.speed 0) 1 0) (λ (car : Car). cond (is_on 1 car) (cond (nat_eq car.speed 0) 1 0) 0) (standing road) (λ car. both_tests (is_on 1 car) (nat_eq car.speed 0) 1) in
    omega (arith, split, first, second)

-- the windows of a course of legal roads with this number of cars
module _ (seed : Seed) (sheet : Sheet) (roads : ℕ → Cells) (tallies : ℕ → StepTally) (course : IsCourse seed sheet roads tallies)
    (legal : (step : ℕ) → IsLegal (roads step)) (most : ℕ) (kept : (step : ℕ) → cars (roads step) ≡ most) where
  all_cars : (first count : ℕ) → (lane_count 0 (roads_after roads first count)).cars + (lane_count 1 (roads_after roads first count)).cars ≡ count * most
  all_cars first zero = omega arith
  all_cars first (suc count) =
      let a = sum_by-cons (cars_on 0) (roads (first + 1)) (roads_after roads (first + 1) count) in
      let b = sum_by-cons (cars_on 1) (roads (first + 1)) (roads_after roads (first + 1) count) in
      let here = both_cars (roads (first + 1)) (legal (first + 1)) ∙ kept (first + 1) in
      let rest = all_cars (first + 1) count in
      omega (arith, a, b, here, rest)

  all_speeds : (first count : ℕ)
      → (lane_count 0 (roads_after roads first count)).distance + (lane_count 1 (roads_after roads first count)).distance ≡ sum_by (λ (tally : StepTally). tally.distance) (tallies_from tallies first count)
  all_speeds first zero = refl
  all_speeds first (suc count) =
      let a = sum_by-cons (total_speed_on 0) (roads (first + 1)) (roads_after roads (first + 1) count) in
      let b = sum_by-cons (total_speed_on 1) (roads (first + 1)) (roads_after roads (first + 1) count) in
      let c = sum_by-cons (λ (tally : StepTally). tally.distance) (tallies first) (tallies_from tallies (first + 1) count) in
      let here = both_speeds (roads (first + 1)) (legal (first + 1)) in
      let told = (course.step_at first).next.1.distance in
      let rest = all_speeds (first + 1) count in
      omega (arith, a, b, c, here, told, rest)

  all_stopped : (first count : ℕ)
      → (lane_count 0 (roads_after roads first count)).stopped + (lane_count 1 (roads_after roads first count)).stopped ≡ sum_by (λ (tally : StepTally). tally.stopped) (tallies_from tallies first count)
  all_stopped first zero = refl
  all_stopped first (suc count) =
      let a = sum_by-cons (stopped_on 0) (roads (first + 1)) (roads_after roads (first + 1) count) in
      let b = sum_by-cons (stopped_on 1) (roads (first + 1)) (roads_after roads (first + 1) count) in
      let c = sum_by-cons (λ (tally : StepTally). tally.stopped) (tallies first) (tallies_from tallies (first + 1) count) in
      let here = both_stopped (roads (first + 1)) (legal (first + 1)) in
      let told = (course.step_at first).next.1.stopped in
      let rest = all_stopped (first + 1) count in
      omega (arith, a, b, c, here, told, rest)

  window_adds_up : (first count : ℕ) → LanesAddUp (window_of roads tallies first count)
  window_adds_up first count = record {
    cars = all_cars first count ∙ ap (λ n. count * n) (sym (kept (first + count)));
    distance = all_speeds first count;
    stopped = all_stopped first count;
  }

  pub windows_add_up : (every from count : ℕ) → All LanesAddUp (first_windows roads tallies every from count)
  windows_add_up every from count k d inside =
      let below : k < count = omega (arith, inside, length-map-range_with_len (nth_window roads tallies every from) 0 count) in
      let here = get_or-map-range_with_len (nth_window roads tallies every from) 0 count k k d below (omega arith) in
      subst LanesAddUp (sym here) (window_adds_up (from + k * every) every)

-- each road of a run is like its first
like_first : (job : Job) (roads : ℕ → Cells) → IsStoredJob job → AreRoads (seed_of job) (sheet_of job) roads → (step : ℕ) → IsLegalLike job.road (roads step)
like_first job roads stored each step =
    let at = run_comes_to_road (seed_of job) (sheet_of job) step stored.legal (plain_sheet job stored) in
    subst (λ (road : Cells). IsLegalLike job.road road) (road_at_is_one (seed_of job) (sheet_of job) step at.0 (roads step) (at.1, at.2) (each step)) at.3

series_add_up : (job : Job) (every from : ℕ) (windows : List Window) → IsStoredJob job → IsSeries job every from windows → All LanesAddUp windows
series_add_up job every from windows stored is =
    let like = like_first job is.roads stored is.course.road_at in
    rw is.told (windows_add_up (seed_of job) (sheet_of job) is.roads is.tallies is.course (λ step. (like step).legal) (cars job.road) (λ step. (like step).same_count) every from is.count)

pub lanes_of_series_add_up : LanesOfSeriesAddUp
lanes_of_series_add_up text job every from windows says is =
    let found = says_plain text in
    let same = one_thing text found.0 (Ok job) found.1.0 says in
    let stored : IsStoredJob job = rw same at found.1.1 in
    series_add_up job every from windows stored is
