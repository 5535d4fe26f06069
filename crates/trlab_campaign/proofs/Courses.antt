-- The course of a run, and the sums that are counted along it.
use Rattle.std.proofs.Common.{◌≡◌, ℕ, zero, suc, ◌+◌, ◌-◌, ◌*◌, ◌/◌, ◌<◌, ◌≤◌, ◌↔◌, true, List, length, refl}
use Rattle.std.proofs.Common.{sym, ◌∙◌, ap, subst, arith, add-one, le-leb, div-add-mod', Some, sum_by, nat_le}
use Rattle.std.proofs.lemmas.{Nat.{le-div, mul-le}, List.FromFn.sum_by-map-range_with_len_more}
use Rattle.trlab_diagram.specs.declared.point.{Point.Point, LaneCount.LaneCount, Window.Window}
use Rattle.trlab_road.specs.Cells.{Cells, cars, lane_of, IsLegal}
use Rattle.trlab_rules.specs.Rules.{Programs}
use Rattle.trlab_step.specs.{declared.tally.StepTally.StepTally, Run.{IsSheetFor, Seed, Sheet, ComesTo}}
use Rattle.trlab_step.specs.Run.{IsRoadAt, IsTallyAt, dice_at, tally_sum, Progress, IsReachedByRun}
use Rattle.trlab_step.{specs.Next.IsNext, proofs.{NextLaws.next_road_is_unique, RunLaws.run_comes_to_road}}
use Rattle.trlab_step.proofs.RunLaws.{road_is_unique, road_at_is_one}
use Rattle.trlab_campaign.specs.SeriesOutput.{IsBoundedCount, IsLaterBy, AreRoads, IsCourse, IsStepAt}
use Rattle.trlab_campaign.specs.SeriesOutput.{cars_on, lane_count, roads_after, total_speed_on, stopped_on}
use Rattle.trlab_campaign.specs.SeriesOutput.{tallies_from, window_of}

-- a run that has come to a step took one more step to come there
last_step : (seed : Seed) (sheet : Sheet) (step : ℕ) (before after : Cells) (sum : StepTally) (comes : ComesTo seed sheet (suc step) after sum) → comes.0 ≡ before
    → IsStepAt seed sheet step before after comes.3
last_step seed sheet step before after sum comes same = record {
  rule = comes.2;
  under = comes.5.under;
  next = subst (λ (road : Cells). IsNext comes.2 (dice_at seed step) road after comes.3) same comes.5.next;
}

-- a run has a course
pub course_of : (seed : Seed) (sheet : Sheet) → IsLegal seed.road → IsSheetFor (length seed.road.lanes) sheet
    → (roads : ℕ → Cells) × (tallies : ℕ → StepTally) × IsCourse seed sheet roads tallies
course_of seed sheet legal suits =
    let at = λ (step : ℕ). run_comes_to_road seed sheet step legal suits in (
      λ (step : ℕ). (at step).0,
      λ (step : ℕ). (at (suc step)).2.3,
      record {
        road_at = λ step. ((at step).1, (at step).2);
        step_at = λ step. rw (add-one step) (last_step seed sheet step (at step).0 (at (suc step)).0 (at (suc step)).1 (at (suc step)).2
            (road_at_is_one seed sheet step (at (suc step)).2.0 (at step).0 ((at (suc step)).2.1, (at (suc step)).2.4) ((at step).1, (at step).2)));
      },
    )

one_rule : {a b : Programs} → Some a ≡ Some b → a ≡ b
one_rule h = cc

-- a step has one tally
pub one_tally : (seed : Seed) (sheet : Sheet) (step : ℕ) (before after other : Cells) (tally count : StepTally) → IsStepAt seed sheet step before after tally
    → IsStepAt seed sheet step before other count → tally ≡ count
one_tally seed sheet step before after other tally count a b =
    let rule : a.rule ≡ b.rule = one_rule (sym a.under ∙ b.under) in
    let ruled = subst (λ (r : Programs). IsNext r (dice_at seed step) before after tally) rule a.next in
    (next_road_is_unique b.rule (dice_at seed step) before after other tally count ruled b.next).1

-- the tallies of these steps, added to the sum that was counted before
pub record IsSumSince (tallies : List StepTally) (old new : StepTally) : Type 0 where
  pub distance : new.distance ≡ old.distance + sum_by (λ (tally : StepTally). tally.distance) tallies
  pub stopped : new.stopped ≡ old.stopped + sum_by (λ (tally : StepTally). tally.stopped) tallies
  pub changes : new.changes ≡ old.changes + sum_by (λ (tally : StepTally). tally.changes) tallies

-- one step more
sum_more : (tallies : ℕ → StepTally) (first count : ℕ) (old mid new : StepTally) → IsSumSince (tallies_from tallies first count) old mid
    → new ≡ tally_sum mid (tallies (first + count)) → IsSumSince (tallies_from tallies first (suc count)) old new
sum_more tallies first count old mid new since is =
    let distance = rw (add-one count) at (sum_by-map-range_with_len_more (λ (tally : StepTally). tally.distance) tallies first count (first + count) refl) in
    let stopped = rw (add-one count) at (sum_by-map-range_with_len_more (λ (tally : StepTally). tally.stopped) tallies first count (first + count) refl) in
    let changes = rw (add-one count) at (sum_by-map-range_with_len_more (λ (tally : StepTally). tally.changes) tallies first count (first + count) refl) in
    let a = since.distance in
    let b = since.stopped in
    let c = since.changes in
    rw is (record { distance = omega (arith, distance, a); stopped = omega (arith, stopped, b); changes = omega (arith, changes, c) })

-- the sums that a run counts from some step on
module _ (seed : Seed) (sheet : Sheet) (roads : ℕ → Cells) (tallies : ℕ → StepTally) (course : IsCourse seed sheet roads tallies) (counts : seed.warm ≡ 0) where
  counted_here : (step : ℕ) (road : Cells) (sum : StepTally) (comes : ComesTo seed sheet (suc step) road sum) → sum ≡ tally_sum comes.1 (tallies step)
  counted_here step road sum comes =
      let before = road_at_is_one seed sheet step comes.0 (roads step) (comes.1, comes.4) (course.road_at step) in
      let tally : comes.3 ≡ tallies step = one_tally seed sheet step (roads step) road (roads (step + 1)) comes.3 (tallies step) (last_step seed sheet step (roads step) road sum comes before) (course.step_at step) in
      let yes : nat_le seed.warm step ≡ true = le-leb seed.warm step (omega (arith, counts)) in
      let added : sum ≡ tally_sum comes.1 comes.3 = rw yes at comes.5.counted in
      added ∙ ap (tally_sum comes.1) tally

  pub sum_since : (first count last : ℕ) (before road : Cells) (old new : StepTally) → first + count ≡ last → ComesTo seed sheet first before old → ComesTo seed sheet last road new
      → IsSumSince (tallies_from tallies first count) old new
  sum_since first zero last before road old new is start end =
      let same : last ≡ first = omega (arith, is) in
      let sum = (road_is_unique seed sheet first road before new old (subst (λ (n : ℕ). ComesTo seed sheet n road new) same end) start).1 in
      rw sum (record { distance = omega arith; stopped = omega arith; changes = omega arith })
  sum_since first (suc count) last before road old new is start end =
      let same : last ≡ suc (first + count) = omega (arith, is) in
      let comes : ComesTo seed sheet (suc (first + count)) road new = subst (λ (n : ℕ). ComesTo seed sheet n road new) same end in
      sum_more tallies first count old comes.1 new (sum_since first count (first + count) before comes.0 old comes.1 refl start comes.4)
      (counted_here (first + count) road new comes)

-- the counts of a lane after one more step
pub lane_more : (lane : ℕ) (roads : ℕ → Cells) (first done : ℕ) (road : Cells) (old now new : LaneCount) → old ≡ lane_count lane (roads_after roads first done)
    → roads (first + 1 + done) ≡ road → now.cars ≡ cars_on lane road → now.distance ≡ total_speed_on lane road → now.stopped ≡ stopped_on lane road
    → new.cars ≡ old.cars + now.cars → new.distance ≡ old.distance + now.distance → new.stopped ≡ old.stopped + now.stopped
    → new ≡ lane_count lane (roads_after roads first (done + 1))
lane_more lane roads first done road old now new is here cars distance stopped a b c =
    let p = sum_by-map-range_with_len_more (cars_on lane) roads (first + 1) done (first + 1 + done) refl in
    let q = sum_by-map-range_with_len_more (total_speed_on lane) roads (first + 1) done (first + 1 + done) refl in
    let r = sum_by-map-range_with_len_more (stopped_on lane) roads (first + 1) done (first + 1 + done) refl in
    counts_are new (lane_count lane (roads_after roads first (done + 1)))
    (a ∙ ap (λ n. n + now.cars) (ap (λ (l : LaneCount). l.cars) is) ∙ ap (λ n. (lane_count lane (roads_after roads first done)).cars + n) (cars ∙ ap (cars_on lane) (sym here)) ∙ sym p)
    (b ∙ ap (λ n. n + now.distance) (ap (λ (l : LaneCount). l.distance) is) ∙ ap (λ n. (lane_count lane (roads_after roads first done)).distance + n) (distance ∙ ap (total_speed_on lane) (sym here)) ∙ sym q)
    (c ∙ ap (λ n. n + now.stopped) (ap (λ (l : LaneCount). l.stopped) is) ∙ ap (λ n. (lane_count lane (roads_after roads first done)).stopped + n) (stopped ∙ ap (stopped_on lane) (sym here)) ∙ sym r)
  where
    counts_are : (x y : LaneCount) → x.cars ≡ y.cars → x.distance ≡ y.distance → x.stopped ≡ y.stopped → x ≡ y
    counts_are x y p q r =
        let of : ℕ → ℕ → ℕ → LaneCount = λ a b c. record { cars = a; distance = b; stopped = c } in
        let same : of x.cars x.distance x.stopped ≡ of y.cars y.distance y.stopped = cc (p, q, r) in
        same

-- this number of windows is complete
pub whole_windows : (every from steps : ℕ) → 1 ≤ every → (k : ℕ) → (k < (steps - from) / every) ↔ (from + (k + 1) * every ≤ steps)
whole_windows every from steps some k = (ends, fits)
  where
    ends : k < (steps - from) / every → from + (k + 1) * every ≤ steps
    ends below =
        let whole = div-add-mod' (steps - from) every in
        let product = mul-le (k + 1) every ((steps - from) / every) every (omega arith) (omega arith) in
        let least = mul-le 1 every (k + 1) every (omega arith) (omega arith) in
        omega (arith, whole, product, least)

    fits : from + (k + 1) * every ≤ steps → k < (steps - from) / every
    fits within =
        let many = le-div (k + 1) (steps - from) every (omega arith) (omega (arith, within)) in
        omega (arith, many)

-- the point of some steps of a run, by the sums of the tallies before and after them
pub record IsPointSince (road : Cells) (count : ℕ) (old new : StepTally) (point : Point) : Type 0 where
  pub cars : point.cars ≡ cars road
  pub cells : point.cells ≡ length road.lanes * length (lane_of road 0)
  pub steps : point.steps ≡ count
  pub distance : old.distance + point.distance ≡ new.distance
  pub stopped : old.stopped + point.stopped ≡ new.stopped
  pub changes : old.changes + point.changes ≡ new.changes

points_are : (x y : Point) → x.cars ≡ y.cars → x.cells ≡ y.cells → x.steps ≡ y.steps → x.distance ≡ y.distance → x.stopped ≡ y.stopped → x.changes ≡ y.changes → x ≡ y
points_are x y a b c d e f =
    let of : ℕ → ℕ → ℕ → ℕ → ℕ → ℕ → Point = λ a b c d e f. record { cars = a; cells = b; steps = c; distance = d; stopped = e; changes = f } in
    let same : of x.cars x.cells x.steps x.distance x.stopped x.changes ≡ of y.cars y.cells y.steps y.distance y.stopped y.changes = cc (a, b, c, d, e, f) in
    same

-- the point of a window
point_is : (roads : ℕ → Cells) (tallies : ℕ → StepTally) (first count : ℕ) (road : Cells) (old new : StepTally) (point : Point) → roads (first + count) ≡ road
    → IsSumSince (tallies_from tallies first count) old new → IsPointSince road count old new point → point ≡ (window_of roads tallies first count).point
point_is roads tallies first count road old new point here sum is =
    let a = sum.distance in
    let b = sum.stopped in
    let c = sum.changes in
    let d = is.distance in
    let e = is.stopped in
    let f = is.changes in
    points_are point (window_of roads tallies first count).point (is.cars ∙ ap cars (sym here)) (is.cells ∙ ap (λ (r : Cells). length r.lanes * length (lane_of r 0)) (sym here)) is.steps
    (omega (arith, a, d)) (omega (arith, b, e)) (omega (arith, c, f))

-- the window of some steps of a run
pub window_is : (roads : ℕ → Cells) (tallies : ℕ → StepTally) (first count step : ℕ) (road : Cells) (old new : StepTally) (point : Point) (one two : LaneCount) → step ≡ first + count
    → roads (first + count) ≡ road → IsSumSince (tallies_from tallies first count) old new → IsPointSince road count old new point
    → one ≡ lane_count 0 (roads_after roads first count) → two ≡ lane_count 1 (roads_after roads first count)
    → record { step = step; point = point; lane0 = one; lane1 = two } ≡ window_of roads tallies first count
window_is roads tallies first count step road old new point one two at here sum is a b =
    let same = point_is roads tallies first count road old new point here sum is in
    let of : ℕ → Point → LaneCount → LaneCount → Window = λ s p x y. record { step = s; point = p; lane0 = x; lane1 = y } in
    let all : of step point one two ≡ of (first + count) (window_of roads tallies first count).point (lane_count 0 (roads_after roads first count)) (lane_count 1 (roads_after roads first count)) = cc (at, same, a, b) in
    all

-- the road of a run at a step is that of its roads
pub road_here : (seed other : Seed) (sheet also : Sheet) (n step : ℕ) (roads : ℕ → Cells) (road : Cells) → other ≡ seed → also ≡ sheet → step ≡ n → AreRoads seed sheet roads
    → IsRoadAt other also step road → roads n ≡ road
road_here seed other sheet also n step roads road a b c each at = road_at_is_one seed sheet n (roads n) road (each n) (rw (← a, ← b, ← c) at)

-- after one more step the number of counted cars is still small
pub few_more : (steps : ℕ) (old now new : LaneCount) → IsBoundedCount steps old → IsBoundedCount 1 now → new.cars ≡ old.cars + now.cars → new.distance ≡ old.distance + now.distance
    → new.stopped ≡ old.stopped + now.stopped → IsBoundedCount (steps + 1) new
few_more steps old now new few more a b c =
    let d = few.cars in
    let e = few.distance in
    let f = few.stopped in
    let g = more.cars in
    let h = more.distance in
    let i = more.stopped in
    record { cars = omega (arith, a, d, g); distance = omega (arith, b, e, h); stopped = omega (arith, c, f, i) }

-- a run that continued for some steps, by its sums of tallies
module _ (old new : Progress) (count : ℕ) (before : StepTally) (on : IsLaterBy count old new) (counts : old.seed.warm ≡ 0)
    (tally : IsTallyAt old.seed old.sheet old.step before) (under : IsReachedByRun new) where
  pub run_since : (roads : ℕ → Cells) (tallies : ℕ → StepTally) → IsCourse old.seed old.sheet roads tallies → IsSumSince (tallies_from tallies old.step count) before new.sum
  run_since roads tallies course =
      let comes : ComesTo old.seed old.sheet new.step new.road new.sum = rw (← on.same_seed, ← on.same_sheet) under.comes in
      sum_since old.seed old.sheet roads tallies course counts old.step count new.step tally.0 new.road before new.sum (sym on.later) tally.1 comes

  pub sums_grow : (before.distance ≤ new.sum.distance) × (before.stopped ≤ new.sum.stopped) × (before.changes ≤ new.sum.changes)
  sums_grow =
      let legal : IsLegal old.seed.road = rw (← on.same_seed) under.legal in
      let suits : IsSheetFor (length old.seed.road.lanes) old.sheet = rw (← on.same_seed, ← on.same_sheet) under.suits in
      let course = course_of old.seed old.sheet legal suits in
      let sum = run_since course.0 course.1 course.2 in
      let a = sum.distance in
      let b = sum.stopped in
      let c = sum.changes in
      (omega (arith, a), omega (arith, b), omega (arith, c))

  pub road_then : (roads : ℕ → Cells) → AreRoads old.seed old.sheet roads → roads (old.step + count) ≡ new.road
  road_then roads each = road_here old.seed new.seed old.sheet new.sheet (old.step + count) new.step roads new.road on.same_seed on.same_sheet on.later each (new.sum, under.comes)
