-- Rows of detectors, one on each lane: their counts in runs, even if cars change lanes.
use Rattle.std.proofs.Common.{◌≡◌, ℕ, zero, suc, ◌+◌, ◌-◌, ◌*◌, ◌<◌, ◌≤◌, Bool, true, false, is_some, Option}
use Rattle.std.proofs.Common.{Some, None, List, [], ◌∷◌, length, get_or, refl, sym, ◌∙◌, ap, subst, inl, inr}
use Rattle.std.proofs.Common.{arith, suc-mul, true≢false, if◌then◌else◌, min, le-leb, nat_le, sum_by}
use Rattle.std.{proofs.lemmas.{Bool.{cases_lt, lt-leb}, List.Sums.sum_by-cons}, specs.List.range_with_len}
use Rattle.trlab_machine.specs.declared.dice.Dice.{Dice}
use Rattle.trlab_road.proofs.Ring.{car_in}
use Rattle.trlab_road.specs.Cells.{Cell, Cells, Lane, cars, cell, lane_of, lane_car_count, IsLegal}
use Rattle.trlab_road.specs.{Gaps.ahead, LaneChange.{CrossesToEmpty, cell_after_change, other_lane}}
use Rattle.trlab_step.{proofs.RunLaws.road_at_is_one, specs.{Next.IsLaneChangePhase, Run.{ComesTo, Seed}}}
use Rattle.trlab_step.specs.{Run.{Sheet, dice_at, IsRoadAt}, declared.tally.StepTally.StepTally}
use Rattle.trlab_verify.specs.Verified.{CheckedProgram}
use Rattle.trlab_traffic.specs.{Terms.{empty_cells, lane_empty_cells, is_taken}, LimitOne.digit}
use Rattle.trlab_traffic.specs.Detectors.{cars_ahead_of, passages, all_passages, cells_ahead_to}
use Rattle.trlab_traffic.specs.Detectors.{DifferByAtMost, DetectorHasCounted, RowMeasuresFlow, RowsAgree}
use Rattle.trlab_traffic.specs.Detectors.{RunSatisfiesContinuityByRows, StepIsContinuousByRows}
use Rattle.trlab_traffic.{specs.Detectors.{cars_ahead_of_row, row_passages}, proofs.Lanes.ahead_below}
use Rattle.trlab_traffic.proofs.Lanes.{run_lanes, middle_lanes, by_lane, sum_range, total, total_add}
use Rattle.trlab_traffic.proofs.{Lanes.{total_none, total_same, total_swap}, Steps.answers_fit}
use Rattle.trlab_traffic.proofs.{Steps.crossings_free, RoomAhead.taken_or_empty, Capacities.distance_counted}
use Rattle.trlab_traffic.proofs.{Capacities.distance_uncounted, Moving.{run_cells, two_sum}, Courses.run_like}
use Rattle.trlab_traffic.proofs.{Influence.any_lane, Detecting.{any_lane_fits, stretch_is_continuous}}
use Rattle.trlab_traffic.proofs.{Detecting.{detectors_count_distance, way_reaches}, FewCars.{few, stretch}}
use Rattle.trlab_traffic.proofs.DetectingRuns.{counted_so, counts_on, none_counted, count_exists, few_cars}
use Rattle.trlab_traffic.proofs.DetectingRuns.{road_before, uncounted_so}

-- together the two cells of a place have as many cars after the lane change as before
cell_balance : (c d : Bool) (own beside : Cell) → (c ≡ true → is_some own ≡ true → beside ≡ None) → (d ≡ true → is_some beside ≡ true → own ≡ None)
    → digit (is_some (cell_after_change c d own beside)) + digit (is_some (cell_after_change d c beside own)) ≡ digit (is_some own) + digit (is_some beside)
cell_balance true true None None one other = refl
cell_balance true true None (Some b) one other = refl
cell_balance true true (Some a) None one other = refl
cell_balance true true (Some a) (Some b) one other = let e = one refl refl in absurd cc
cell_balance true false None None one other = refl
cell_balance true false None (Some b) one other = refl
cell_balance true false (Some a) None one other = refl
cell_balance true false (Some a) (Some b) one other = let e = one refl refl in absurd cc
cell_balance false true None None one other = refl
cell_balance false true None (Some b) one other = refl
cell_balance false true (Some a) None one other = refl
cell_balance false true (Some a) (Some b) one other = let e = other refl refl in absurd cc
cell_balance false false None None one other = refl
cell_balance false false None (Some b) one other = refl
cell_balance false false (Some a) None one other = refl
cell_balance false false (Some a) (Some b) one other = refl

side_free : (crosses : ℕ → ℕ → Bool) (road : Cells) → CrossesToEmpty crosses road → (l y : ℕ) (here : Cell) → cell road l y ≡ here → crosses l y ≡ true → is_some here ≡ true → cell road (other_lane l) y ≡ None
side_free crosses road free l y None is goes some = absurd (true≢false (sym some))
side_free crosses road free l y (Some car) is goes some = free.side_empty (car_in l y car.0 car.1) is goes

change_keeps : (change : Option CheckedProgram) (dice : Dice) (road middle : Cells) (changes x k : ℕ) → IsLegal road → IsLaneChangePhase change dice road middle changes → cars_ahead_of_row middle x k ≡ cars_ahead_of_row road x k
change_keeps None dice road middle changes x k legal phase = ap (λ (r : Cells). cars_ahead_of_row r x k) phase.0
change_keeps (Some change) dice road middle changes x k legal phase =
    let two = phase.0 in
    let crosses = phase.1 in
    let crossed = phase.3 in
    let free = crossings_free change dice road crosses phase.0 phase.2 in
    let n = length (lane_of road 0) in
    let some = legal.shape.cells.some_cell in
    let equal : length (lane_of road 1) ≡ n = legal.shape.equal 1 (omega (arith, two)) in
    let first = crossed.each_lane 0 (omega (arith, two)) in
    let second = crossed.each_lane 1 (omega (arith, two)) in
    let by_cells : (lane : Lane) → length lane ≡ n → cars_ahead_of lane x k ≡ total (λ j. digit (is_taken lane (ahead n j (x + 1)))) k = λ lane size.
    stretch lane x k ∙ ap (λ m. total (λ j. digit (is_taken lane (ahead m j (x + 1)))) k) size in
    let a = by_cells (lane_of middle 0) first.same_length in
    let b = by_cells (lane_of middle 1) (second.same_length ∙ equal) in
    let c = by_cells (lane_of road 0) refl in
    let d = by_cells (lane_of road 1) equal in
    let each : (y : ℕ) → y < n → digit (is_taken (lane_of middle 0) y) + digit (is_taken (lane_of middle 1) y) ≡ digit (is_taken (lane_of road 0) y) + digit (is_taken (lane_of road 1) y) = λ y low.
    let one = ap (λ (v : Cell). digit (is_some v)) (first.each_cell y low) in
    let other = ap (λ (v : Cell). digit (is_some v)) (second.each_cell y (omega (arith, low, equal))) in
    let both = cell_balance (crosses 0 y) (crosses 1 y) (cell road 0 y) (cell road 1 y)
    (side_free crosses road free 0 y (cell road 0 y) refl) (side_free crosses road free 1 y (cell road 1 y) refl) in
    omega (arith, one, other, both) in
    let sum_new = total_add (λ j. digit (is_taken (lane_of middle 0) (ahead n j (x + 1)))) (λ j. digit (is_taken (lane_of middle 1) (ahead n j (x + 1)))) k in
    let sum_old = total_add (λ j. digit (is_taken (lane_of road 0) (ahead n j (x + 1)))) (λ j. digit (is_taken (lane_of road 1) (ahead n j (x + 1)))) k in
    let same = total_same (λ j. digit (is_taken (lane_of middle 0) (ahead n j (x + 1))) + digit (is_taken (lane_of middle 1) (ahead n j (x + 1))))
    (λ j. digit (is_taken (lane_of road 0) (ahead n j (x + 1))) + digit (is_taken (lane_of road 1) (ahead n j (x + 1)))) k (λ j low. each (ahead n j (x + 1)) (ahead_below n j (x + 1) (omega (arith, some)))) in
    let all_new = two_sum (λ (lane : Lane). cars_ahead_of lane x k) middle.lanes (crossed.same_lanes ∙ two) in
    let all_old = two_sum (λ (lane : Lane). cars_ahead_of lane x k) road.lanes two in
    omega (arith, a, b, c, d, sum_new, sum_old, same, all_new, all_old)

-- sums over lanes that balance
lanes_balance : (a b c d : Lane → ℕ) (olds news : List Lane) → length news ≡ length olds
    → ((l : ℕ) → l < length olds → a (get_or news l []) + b (get_or news l []) ≡ c (get_or olds l []) + d (get_or news l []))
    → sum_by a news + sum_by b news ≡ sum_by c olds + sum_by d news
lanes_balance a b c d [] [] size each = refl
lanes_balance a b c d [] (new ∷ news) size each = absurd (omega (arith, size))
lanes_balance a b c d (old ∷ olds) [] size each = absurd (omega (arith, size))
lanes_balance a b c d (old ∷ olds) (new ∷ news) size each =
    let first : a new + b new ≡ c old + d new = each 0 (omega arith) in
    let rest = lanes_balance a b c d olds news (omega (arith, size)) (λ l low. each (suc l) (omega (arith, low))) in
    let e = sum_by-cons a new news in
    let f = sum_by-cons b new news in
    let g = sum_by-cons c old olds in
    let h = sum_by-cons d new news in
    omega (arith, first, rest, e, f, g, h)

pub step_is_continuous_by_rows : StepIsContinuousByRows
step_is_continuous_by_rows rule dice old new tally x k legal is low =
    let middle = is.0 in
    let n = length (lane_of old 0) in
    let change = change_keeps rule.change dice old middle tally.changes x k legal is.1.lane_change in
    let lanes = middle_lanes rule.change dice old middle tally.changes is.1.lane_change in
    let phase = is.1.motion in
    let speeds = phase.0 in
    let fits = answers_fit rule.motion dice middle speeds phase.1 in
    let all = lanes_balance (λ (lane : Lane). cars_ahead_of lane x k) (λ (lane : Lane). passages lane (ahead n x k)) (λ (lane : Lane). cars_ahead_of lane x k) (λ (lane : Lane). passages lane x)
    middle.lanes new.lanes phase.2.same_lanes (λ l on.
    let count = lanes.count in
    let size : length (lane_of middle l) ≡ n = lanes.size l (omega (arith, on, count)) ∙ legal.shape.equal l (omega (arith, on, count)) in
    let one = stretch_is_continuous (speeds l) (lane_of middle l) (lane_of new l) (any_lane speeds middle new l phase.2) (any_lane_fits speeds middle l fits) x (omega (arith, low, size)) k in
    let end : passages (lane_of new l) (ahead (length (lane_of middle l)) x k) ≡ passages (lane_of new l) (ahead n x k) = ap (λ m. passages (lane_of new l) (ahead m x k)) size in
    omega (arith, one, end)) in
    omega (arith, all, change)

by_range : (f : ℕ → ℕ) (m : ℕ) → sum_by f (range_with_len 0 m) ≡ total f m
by_range f m = sum_range f 0 m ∙ total_same (λ l. f (0 + l)) f m (λ l low. let e : 0 + l ≡ l = omega arith in ap f e)

module _ (seed : Seed) (sheet : Sheet) (legal : IsLegal seed.road) (x k : ℕ) (low : x < length (lane_of seed.road 0)) where
  abbrev end : ℕ
  end = ahead (length (lane_of seed.road 0)) x k

  abbrev m : ℕ
  m = length seed.road.lanes

  nothing : (y step : ℕ) (count : ℕ → ℕ) → step ≤ seed.warm → ((l : ℕ) → DetectorHasCounted seed sheet l y step (count l)) → total count m ≡ 0
  nothing y step count early counts = total_none count m (λ l on. none_counted seed sheet l y step (count l) early (counts l))

  -- the counts of the detectors of a place in one more step
  one_on : (y step : ℕ) (road : Cells) (count before : ℕ → ℕ) → length road.lanes ≡ m → ((l : ℕ) → count l ≡ before l + passages (lane_of road l) y) → total count m ≡ total before m + sum_by (λ (lane : Lane). passages lane y) road.lanes
  one_on y step road count before size each =
      let same = total_same count (λ l. before l + passages (lane_of road l) y) m (λ l on. each l) in
      let both = total_add before (λ l. passages (lane_of road l) y) m in
      let lanes = by_lane (λ (lane : Lane). passages lane y) road.lanes in
      let sizes = ap (total (λ l. passages (lane_of road l) y)) size in
      omega (arith, same, both, lanes, sizes)

  by_rows : (step : ℕ) (start road : Cells) (first second : ℕ → ℕ) → seed.warm ≤ step → IsRoadAt seed sheet seed.warm start → IsRoadAt seed sheet step road
      → ((l : ℕ) → DetectorHasCounted seed sheet l x step (first l)) → ((l : ℕ) → DetectorHasCounted seed sheet l end step (second l))
      → cars_ahead_of_row road x k + total second m ≡ cars_ahead_of_row start x k + total first m
  by_rows zero start road first second late begins here firsts seconds =
      let e : seed.warm ≡ 0 = omega (arith, late) in
      let same = road_at_is_one seed sheet 0 road start here (subst (λ j. IsRoadAt seed sheet j start) e begins) in
      let f = ap (λ (r : Cells). cars_ahead_of_row r x k) same in
      let a = nothing x 0 first (omega arith) firsts in
      let b = nothing end 0 second (omega arith) seconds in
      omega (arith, f, a, b)
  by_rows (suc step) start road first second late begins here firsts seconds =
      let comes = here.1 in
      elim (cases_lt step seed.warm) [
        | inl early ↦
            let e : seed.warm ≡ suc step = omega (arith, late, early) in
            let same = road_at_is_one seed sheet (suc step) road start here (subst (λ j. IsRoadAt seed sheet j start) e begins) in
            let f = ap (λ (r : Cells). cars_ahead_of_row r x k) same in
            let a = nothing x (suc step) first (omega (arith, early)) firsts in
            let b = nothing end (suc step) second (omega (arith, early)) seconds in
            omega (arith, f, a, b)
        | inr on_count ↦
            let old = comes.0 in
            let go = comes.5 in
            let counted = le-leb seed.warm step on_count in
            let one : (l : ℕ) → (b : ℕ) × (DetectorHasCounted seed sheet l x step b × (first l ≡ (if nat_le seed.warm step then b + passages (lane_of road l) x else b))) = λ l. counts_on seed sheet step road l x (first l) here (firsts l) in
            let two : (l : ℕ) → (b : ℕ) × (DetectorHasCounted seed sheet l end step b × (second l ≡ (if nat_le seed.warm step then b + passages (lane_of road l) end else b))) = λ l. counts_on seed sheet step road l end (second l) here (seconds l) in
            let so_far = by_rows step start old (λ l. (one l).0) (λ l. (two l).0) on_count begins (comes.1, comes.4) (λ l. (one l).1.0) (λ l. (two l).1.0) in
            let like = run_like seed sheet step old comes.1 legal comes.4 in
            let kept = run_lanes seed sheet step old comes.1 comes.4 in
            let keeps = run_lanes seed sheet (suc step) road here.0 comes in
            let some = legal.shape.lanes.some_lane in
            let size = kept.size 0 (omega (arith, some)) in
            let now = step_is_continuous_by_rows comes.2 (dice_at seed step) old road comes.3 x k like.legal go.next (omega (arith, low, size)) in
            let place : row_passages road (ahead (length (lane_of old 0)) x k) ≡ row_passages road end = ap (λ j. row_passages road (ahead j x k)) size in
            let a = one_on x step road first (λ l. (one l).0) keeps.count (λ l. counted_so (nat_le seed.warm step) (first l) (one l).0 (passages (lane_of road l) x) (one l).1.1 counted) in
            let b = one_on end step road second (λ l. (two l).0) keeps.count (λ l. counted_so (nat_le seed.warm step) (second l) (two l).0 (passages (lane_of road l) end) (two l).1.1 counted) in
            omega (arith, so_far, now, place, a, b)
      ]

pub run_is_continuous_by_rows : RunSatisfiesContinuityByRows
run_is_continuous_by_rows seed sheet step start road x k first second legal low late begins here firsts seconds =
    let all = by_rows seed sheet legal x k low step start road first second late begins here firsts seconds in
    let a = by_range first (length seed.road.lanes) in
    let b = by_range second (length seed.road.lanes) in
    omega (arith, all, a, b)

-- the cars between two places of lanes
record Between (lanes : List Lane) (x k : ℕ) : Type 0 where
  most : sum_by (λ (lane : Lane). cars_ahead_of lane x k) lanes ≤ sum_by lane_car_count lanes
  within : sum_by (λ (lane : Lane). cars_ahead_of lane x k) lanes ≤ length lanes * k
  least : length lanes * k ≤ sum_by (λ (lane : Lane). cars_ahead_of lane x k) lanes + sum_by lane_empty_cells lanes

between : (lanes : List Lane) (x k : ℕ) → ((l : ℕ) → l < length lanes → k ≤ length (get_or lanes l [])) → Between lanes x k
between [] x k round = record { most = omega arith; within = omega arith; least = omega arith }
between (lane ∷ lanes) x k round =
    let rest = between lanes x k (λ l low. round (suc l) (omega (arith, low))) in
    let here = few lane x k (round 0 (omega arith)) in
    let short = few_cars lane x k in
    let a = rest.most in
    let b = rest.within in
    let c = rest.least in
    let d = here.most in
    let e = here.least in
    let f = sum_by-cons (λ (one : Lane). cars_ahead_of one x k) lane lanes in
    let g = sum_by-cons lane_car_count lane lanes in
    let h = sum_by-cons lane_empty_cells lane lanes in
    let i = suc-mul (length lanes) k in
    record { most = omega (arith, a, d, f, g); within = omega (arith, b, short, f, i); least = omega (arith, c, e, f, h, i) }

-- two counts that differ as two numbers of cars do
apart : (first second now before n e w : ℕ) → now + second ≡ before + first → now ≤ n → now ≤ w → w ≤ now + e → before ≤ n → before ≤ w → w ≤ before + e → DifferByAtMost (min n e) first second
apart first second now before n e w all a b c d f g =
    let less : first ≤ second + min n e = omega (arith, all, a, b, c, d, f, g) in
    let more : second ≤ first + min n e = omega (arith, all, a, b, c, d, f, g) in
    record { no_less = less; no_more = more }

none_apart : (first second k : ℕ) → first ≡ 0 → second ≡ 0 → DifferByAtMost k first second
none_apart first second k a b = record { no_less = omega (arith, a, b); no_more = omega (arith, a, b) }

-- properties of a road of the run
record OnRoad (seed : Seed) (road : Cells) (x k : ℕ) : Type 0 where
  most : cars_ahead_of_row road x k ≤ cars seed.road
  within : cars_ahead_of_row road x k ≤ length seed.road.lanes * k
  least : length seed.road.lanes * k ≤ cars_ahead_of_row road x k + empty_cells seed.road

on_road : (seed : Seed) (sheet : Sheet) (step : ℕ) (road : Cells) (sum : StepTally) (x k : ℕ) → IsLegal seed.road → ComesTo seed sheet step road sum → k ≤ length (lane_of seed.road 0) → OnRoad seed road x k
on_road seed sheet step road sum x k legal comes round =
    let like = run_like seed sheet step road sum legal comes in
    let lanes = run_lanes seed sheet step road sum comes in
    let count = lanes.count in
    let all = between road.lanes x k (λ l low.
    let on : l < length seed.road.lanes = omega (arith, low, count) in
    let size = lanes.size l on in
    let equal = legal.shape.equal l on in
    omega (arith, round, size, equal)) in
    let width = ap (λ m. m * k) lanes.count in
    let same = like.same_count in
    let cells = run_cells seed sheet step road sum comes in
    let a = taken_or_empty road in
    let b = taken_or_empty seed.road in
    let most = all.most in
    let within = all.within in
    let least = all.least in
    record { most = omega (arith, most, same); within = omega (arith, within, width); least = omega (arith, least, width, same, cells, a, b) }

module _ (seed : Seed) (sheet : Sheet) (legal : IsLegal seed.road) where
  rows_agree_totals : (step : ℕ) (road : Cells) (sum : StepTally) (x k : ℕ) (first second : ℕ → ℕ) → ComesTo seed sheet step road sum → x < length (lane_of seed.road 0) → k ≤ length (lane_of seed.road 0)
      → ((l : ℕ) → DetectorHasCounted seed sheet l x step (first l)) → ((l : ℕ) → DetectorHasCounted seed sheet l (ahead (length (lane_of seed.road 0)) x k) step (second l))
      → DifferByAtMost (min (cars seed.road) (empty_cells seed.road)) (total first (length seed.road.lanes)) (total second (length seed.road.lanes))
  rows_agree_totals step road sum x k first second comes low round firsts seconds =
      let m = length seed.road.lanes in
      elim (cases_lt step seed.warm) [
        | inl early ↦
            none_apart (total first m) (total second m) (min (cars seed.road) (empty_cells seed.road))
            (nothing seed sheet legal x k low x step first (omega (arith, early)) firsts)
            (nothing seed sheet legal x k low (ahead (length (lane_of seed.road 0)) x k) step second (omega (arith, early)) seconds)
        | inr late ↦
            let start = road_before seed sheet seed.warm step road late (sum, comes) in
            let all = by_rows seed sheet legal x k low step start.0 road first second late start.1 (sum, comes) firsts seconds in
            let now = on_road seed sheet step road sum x k legal comes round in
            let before = on_road seed sheet seed.warm start.0 start.1.0 x k legal start.1.1 round in
            apart (total first m) (total second m) (cars_ahead_of_row road x k) (cars_ahead_of_row start.0 x k) (cars seed.road) (empty_cells seed.road) (m * k)
            all now.most now.within now.least before.most before.within before.least
      ]

  -- all detectors of all lanes together count the distance
  all_count : (step : ℕ) (road : Cells) (sum : StepTally) (count : ℕ → ℕ → ℕ) → ComesTo seed sheet step road sum → ((y l : ℕ) → DetectorHasCounted seed sheet l y step (count y l))
      → total (λ y. total (λ l. count y l) (length seed.road.lanes)) (length (lane_of seed.road 0)) ≡ sum.distance
  all_count zero road sum count comes counts =
      total_none (λ y. total (λ l. count y l) (length seed.road.lanes)) (length (lane_of seed.road 0)) (λ y low. total_none (λ l. count y l) (length seed.road.lanes) (λ l on. counts y l))
      ∙ sym (ap (λ (t : StepTally). t.distance) comes.2)
  all_count (suc step) road sum count comes counts =
      let n = length (lane_of seed.road 0) in
      let m = length seed.road.lanes in
      let old = comes.0 in
      let on = comes.5 in
      let tally = comes.3 in
      let before : (y l : ℕ) → (b : ℕ) × (DetectorHasCounted seed sheet l y step b × (count y l ≡ (if nat_le seed.warm step then b + passages (lane_of road l) y else b))) =
      λ y l. counts_on seed sheet step road l y (count y l) (sum, comes) (counts y l) in
      let so_far = all_count step old comes.1 (λ y l. (before y l).0) comes.4 (λ y l. (before y l).1.0) in
      elim (cases_lt step seed.warm) [
        | inl early ↦
            let not_yet = lt-leb seed.warm step early in
            let same = total_same (λ y. total (λ l. count y l) m) (λ y. total (λ l. (before y l).0) m) n
            (λ y low. total_same (λ l. count y l) (λ l. (before y l).0) m (λ l less. uncounted_so (nat_le seed.warm step) (count y l) (before y l).0 (passages (lane_of road l) y) (before y l).1.1 not_yet)) in
            let gone = distance_uncounted (nat_le seed.warm step) sum comes.1 tally on.counted not_yet in
            omega (arith, so_far, same, gone)
        | inr late ↦
            let counted = le-leb seed.warm step late in
            let split = total_same (λ y. total (λ l. count y l) m) (λ y. total (λ l. (before y l).0) m + total (λ l. passages (lane_of road l) y) m) n
            (λ y low. total_same (λ l. count y l) (λ l. (before y l).0 + passages (lane_of road l) y) m (λ l less. counted_so (nat_le seed.warm step) (count y l) (before y l).0 (passages (lane_of road l) y) (before y l).1.1 counted)
            ∙ total_add (λ l. (before y l).0) (λ l. passages (lane_of road l) y) m) in
            let both = total_add (λ y. total (λ l. (before y l).0) m) (λ y. total (λ l. passages (lane_of road l) y) m) n in
            let swapped = total_swap (λ y l. passages (lane_of road l) y) n m in
            let lanes = run_lanes seed sheet (suc step) road sum comes in
            let each = total_same (λ l. total (λ y. passages (lane_of road l) y) n) (λ l. all_passages (lane_of road l)) m (λ l less.
            sym (by_range (passages (lane_of road l)) (length (lane_of road l)) ∙ ap (total (passages (lane_of road l))) (lanes.size l less ∙ legal.shape.equal l less))) in
            let across = by_lane all_passages road.lanes ∙ ap (total (λ l. all_passages (lane_of road l))) lanes.count in
            let now = detectors_count_distance comes.2 (dice_at seed step) old road tally on.next in
            let gone = distance_counted (nat_le seed.warm step) sum comes.1 tally on.counted counted in
            omega (arith, so_far, split, both, swapped, each, across, now, gone)
      ]

pub rows_agree : RowsAgree
rows_agree seed sheet step road sum x k first second legal comes low round firsts seconds =
    let all = rows_agree_totals seed sheet legal step road sum x k first second comes low round firsts seconds in
    let a = by_range first (length seed.road.lanes) in
    let b = by_range second (length seed.road.lanes) in
    let less = all.no_less in
    let more = all.no_more in
    record { no_less = omega (arith, less, a, b); no_more = omega (arith, more, a, b) }

-- sums of numbers that are close to one number
total_near : (f : ℕ → ℕ) (c d n : ℕ) → ((y : ℕ) → y < n → DifferByAtMost d c (f y)) → DifferByAtMost (n * d) (n * c) (total f n)
total_near f c d zero near = record { no_less = omega arith; no_more = omega arith }
total_near f c d (suc n) near =
    let first = near 0 (omega arith) in
    let rest = total_near (λ y. f (suc y)) c d n (λ y low. near (suc y) (omega (arith, low))) in
    let a = first.no_less in
    let b = first.no_more in
    let g = rest.no_less in
    let h = rest.no_more in
    let e = suc-mul n c in
    let i = suc-mul n d in
    record { no_less = omega (arith, a, g, e, i); no_more = omega (arith, b, h, e, i) }

pub row_measures_flow : RowMeasuresFlow
row_measures_flow seed sheet step road sum x count legal comes low counts =
    let n = length (lane_of seed.road 0) in
    let m = length seed.road.lanes in
    let each : (y l : ℕ) → (c : ℕ) × DetectorHasCounted seed sheet l y step c = λ y l. count_exists seed sheet step road sum l y comes in
    let all = all_count seed sheet legal step road sum (λ y l. (each y l).0) comes (λ y l. (each y l).1) in
    let near = total_near (λ y. total (λ l. (each y l).0) m) (total count m) (min (cars seed.road) (empty_cells seed.road)) n (λ y high.
    let short : cells_ahead_to n x y < n = ahead_below n y (n - x) (omega (arith, low)) in
    rows_agree_totals seed sheet legal step road sum x (cells_ahead_to n x y) count (λ l. (each y l).0) comes low (let k : cells_ahead_to n x y ≤ n = omega (arith, short) in k) counts
    (λ l. subst (λ z. DetectorHasCounted seed sheet l z step (each y l).0) (sym (way_reaches n x y low high)) (each y l).1)) in
    let here = ap (λ k. n * k) (by_range count m) in
    let less = near.no_less in
    let more = near.no_more in
    record { no_less = omega (arith, less, all, here); no_more = omega (arith, more, all, here) }
