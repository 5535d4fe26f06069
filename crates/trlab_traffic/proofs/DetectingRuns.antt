-- The counts of detectors in runs.
use Rattle.std.proofs.Common.{◌≡◌, ℕ, zero, suc, ◌+◌, ◌<◌, ◌≤◌, Bool, true, false, cond, length, min, refl}
use Rattle.std.proofs.Common.{sym, ◌∙◌, ap, subst, arith, ◌-◌, ◌*◌, ◌%◌, inl, inr, suc-mul, if◌then◌else◌}
use Rattle.std.proofs.{Common.{nat_le, sum_by, le-leb}, lemmas.Bool.{cases_lt, lt-leb}}
use Rattle.std.{proofs.lemmas.List.Sums.sum_by-cons, specs.List.range_with_len}
use Rattle.trlab_road.specs.{Cells.{Cells, Lane, lane_car_count, lane_of}, Gaps.ahead}
use Rattle.trlab_rules.specs.Rules.{Programs}
use Rattle.trlab_machine.specs.declared.dice.Dice.{Dice}
use Rattle.trlab_step.specs.{declared.tally.StepTally.StepTally, Next.IsNext, Run.{ComesTo, Seed, Sheet}}
use Rattle.trlab_step.{specs.Run.{dice_at, IsRoadAt}, proofs.RunLaws.{force_all, road_at_is_one}}
use Rattle.trlab_traffic.specs.Terms.{lane_empty_cells, is_taken, EachRule, StaysInLane}
use Rattle.trlab_traffic.specs.Detectors.{all_passages, cars_ahead_of, passages, DetectorsHaveCounted}
use Rattle.trlab_traffic.specs.Detectors.{DifferByAtMost, DetectorCountExists, DetectorHasCounted}
use Rattle.trlab_traffic.specs.Detectors.{DetectorMeasuresFlow, DetectorsAgree, DetectorsAgreeByCars}
use Rattle.trlab_traffic.{specs.Detectors.{DetectorsCountRun, RunSatisfiesContinuity}, proofs.Lanes.one_sum}
use Rattle.trlab_traffic.proofs.Lanes.{run_lanes, below, below_not, below_so, sum_range, total, total_add}
use Rattle.trlab_traffic.proofs.Lanes.{total_balance, total_below, total_last, total_none, total_same}
use Rattle.trlab_traffic.proofs.{Lanes.total_turned, Steps.motion_alone, RoomAhead.lane_taken_or_empty}
use Rattle.trlab_traffic.proofs.{Capacities.{distance_counted, distance_uncounted}, Courses.total_le}
use Rattle.trlab_traffic.proofs.{Influence.any_lane, Detecting.{detectors_count_distance, step_is_continuous}}
use Rattle.trlab_traffic.proofs.FewCars.{empty_too, few, run_cars}

pub count_exists : DetectorCountExists
count_exists seed sheet zero road sum l x comes = (0, refl)
count_exists seed sheet (suc step) road sum l x comes =
    let before = count_exists seed sheet step comes.0 comes.1 l x comes.4 in
    let count = if nat_le seed.warm step then before.0 + passages (lane_of road l) x else before.0 in
    (count, (road, before.0, (sum, comes), before.1, refl))

-- the count of a detector in one more step
pub counts_on : (seed : Seed) (sheet : Sheet) (step : ℕ) (road : Cells) (l x count : ℕ) → IsRoadAt seed sheet (suc step) road → DetectorHasCounted seed sheet l x (suc step) count
    → (before : ℕ) × (DetectorHasCounted seed sheet l x step before × (count ≡ (if nat_le seed.warm step then before + passages (lane_of road l) x else before)))
counts_on seed sheet step road l x count here counts =
    let same = road_at_is_one seed sheet (suc step) counts.0 road counts.2 here in
    (counts.1, (counts.3, counts.4 ∙ ap (λ (r : Cells). if nat_le seed.warm step then counts.1 + passages (lane_of r l) x else counts.1) same))

pub counted_so : (b : Bool) (count before p : ℕ) → count ≡ (if b then before + p else before) → b ≡ true → count ≡ before + p
counted_so true count before p is so = is
counted_so false count before p is so = absurd (cc so)

pub uncounted_so : (b : Bool) (count before p : ℕ) → count ≡ (if b then before + p else before) → b ≡ false → count ≡ before
uncounted_so true count before p is so = absurd (cc so)
uncounted_so false count before p is so = is

-- nothing is counted before the count begins
pub none_counted : (seed : Seed) (sheet : Sheet) (l x step count : ℕ) → step ≤ seed.warm → DetectorHasCounted seed sheet l x step count → count ≡ 0
none_counted seed sheet l x zero count early counts = counts
none_counted seed sheet l x (suc step) count early counts =
    uncounted_so (nat_le seed.warm step) count counts.1 (passages (lane_of counts.0 l) x) counts.4 (lt-leb seed.warm step (omega (arith, early)))
    ∙ none_counted seed sheet l x step counts.1 (omega (arith, early)) counts.3

-- a run has a road at each earlier step
pub road_before : (seed : Seed) (sheet : Sheet) (at step : ℕ) (road : Cells) → at ≤ step → IsRoadAt seed sheet step road → (start : Cells) × IsRoadAt seed sheet at start
road_before seed sheet at zero road early here = let e : 0 ≡ at = omega (arith, early) in (road, subst (λ k. IsRoadAt seed sheet k road) e here)
road_before seed sheet at (suc step) road early here =
    elim (cases_lt step at) [
      | inl now ↦ let e : suc step ≡ at = omega (arith, early, now) in (road, subst (λ k. IsRoadAt seed sheet k road) e here)
      | inr before ↦ let comes = here.1 in road_before seed sheet at step comes.0 before (comes.1, comes.4)
    ]

-- lanes keep their lengths under any rule
change_length : (rule : Programs) (dice : Dice) (old new : Cells) (tally : StepTally) (l : ℕ) → StaysInLane rule → IsNext rule dice old new tally → length (lane_of new l) ≡ length (lane_of old l)
change_length rule dice old new tally l none is =
    let phase = motion_alone rule dice old new tally none is in
    (any_lane phase.0 old new l phase.2).same_length

run_length : (seed : Seed) (sheet : Sheet) (step : ℕ) (road : Cells) (sum : StepTally) (l : ℕ) → EachRule StaysInLane sheet → ComesTo seed sheet step road sum → length (lane_of road l) ≡ length (lane_of seed.road l)
run_length seed sheet zero road sum l nobody comes = ap (λ (r : Cells). length (lane_of r l)) comes.1
run_length seed sheet (suc step) road sum l nobody comes =
    let on = comes.5 in
    let none = force_all StaysInLane sheet step comes.2 nobody on.under in
    change_length comes.2 (dice_at seed step) comes.0 road comes.3 l none on.next ∙ run_length seed sheet step comes.0 comes.1 l nobody comes.4

pub run_is_continuous : RunSatisfiesContinuity
run_is_continuous seed sheet zero start road l x k first second nobody late begins here both =
    let one = both.here in
    let two = both.there in
    let e : seed.warm ≡ 0 = omega (arith, late) in
    let same = road_at_is_one seed sheet 0 road start here (subst (λ j. IsRoadAt seed sheet j start) e begins) in
    let f : cars_ahead_of (lane_of road l) x k ≡ cars_ahead_of (lane_of start l) x k = ap (λ (r : Cells). cars_ahead_of (lane_of r l) x k) same in
    omega (arith, f, one, two)
run_is_continuous seed sheet (suc step) start road l x k first second nobody late begins here both =
    let low = both.is_cell in
    let one = both.here in
    let two = both.there in
    let n = length (lane_of seed.road l) in
    let comes = here.1 in
    elim (cases_lt step seed.warm) [
      | inl early ↦
          let e : seed.warm ≡ suc step = omega (arith, late, early) in
          let same = road_at_is_one seed sheet (suc step) road start here (subst (λ j. IsRoadAt seed sheet j start) e begins) in
          let f : cars_ahead_of (lane_of road l) x k ≡ cars_ahead_of (lane_of start l) x k = ap (λ (r : Cells). cars_ahead_of (lane_of r l) x k) same in
          let a = none_counted seed sheet l x (suc step) first (omega (arith, early)) one in
          let b = none_counted seed sheet l (ahead n x k) (suc step) second (omega (arith, early)) two in
          omega (arith, f, a, b)
      | inr on_count ↦
          let before = comes.0 in
          let on = comes.5 in
          let none = force_all StaysInLane sheet step comes.2 nobody on.under in
          let size = run_length seed sheet step before comes.1 l nobody comes.4 in
          let a = counts_on seed sheet step road l x first here one in
          let b = counts_on seed sheet step road l (ahead n x k) second here two in
          let so_far = run_is_continuous seed sheet step start before l x k a.0 b.0 nobody on_count begins (comes.1, comes.4) (record { is_cell = low; here = a.1.0; there = b.1.0 }) in
          let now = step_is_continuous comes.2 (dice_at seed step) before road comes.3 l x k none on.next (omega (arith, low, size)) in
          let place : passages (lane_of road l) (ahead (length (lane_of before l)) x k) ≡ passages (lane_of road l) (ahead n x k) = ap (λ j. passages (lane_of road l) (ahead j x k)) size in
          let counted = le-leb seed.warm step on_count in
          let c = counted_so (nat_le seed.warm step) first a.0 (passages (lane_of road l) x) a.1.1 counted in
          let d = counted_so (nat_le seed.warm step) second b.0 (passages (lane_of road l) (ahead n x k)) b.1.1 counted in
          omega (arith, so_far, now, place, c, d)
    ]

-- no more cars than cells
digit_most : (f : ℕ → ℕ) (s k : ℕ) → ((j : ℕ) → f j ≤ 1) → sum_by f (range_with_len s k) ≤ k
digit_most f s zero each = omega arith
digit_most f s (suc k) each =
    let split = sum_by-cons f s (range_with_len (s + 1) k) in
    let first = each s in
    let rest = digit_most f (s + 1) k each in
    omega (arith, split, first, rest)

one_most : (b : Bool) → cond b 1 0 ≤ 1
one_most true = omega arith
one_most false = omega arith

pub few_cars : (lane : Lane) (x k : ℕ) → cars_ahead_of lane x k ≤ k
few_cars lane x k = digit_most (λ j. cond (is_taken lane (ahead (length lane) x j)) 1 0) 1 k (λ j. one_most (is_taken lane (ahead (length lane) x j)))

pub detectors_agree : DetectorsAgree
detectors_agree seed sheet step road sum l x k first second nobody comes both =
    let n = length (lane_of seed.road l) in
    elim (cases_lt step seed.warm) [
      | inl early ↦
          let a = none_counted seed sheet l x step first (omega (arith, early)) both.here in
          let b = none_counted seed sheet l (ahead n x k) step second (omega (arith, early)) both.there in
          record { no_less = omega (arith, a, b); no_more = omega (arith, a, b) }
      | inr late ↦
          let start = road_before seed sheet seed.warm step road late (sum, comes) in
          let all = run_is_continuous seed sheet step start.0 road l x k first second nobody late start.1 (sum, comes) both in
          let a = few_cars (lane_of road l) x k in
          let b = few_cars (lane_of start.0 l) x k in
          record { no_less = omega (arith, all, a, b); no_more = omega (arith, all, a, b) }
    ]

pub detectors_agree_by_cars : DetectorsAgreeByCars
detectors_agree_by_cars seed sheet step road sum l x k first second nobody comes round both =
    let n = length (lane_of seed.road l) in
    elim (cases_lt step seed.warm) [
      | inl early ↦
          let a = none_counted seed sheet l x step first (omega (arith, early)) both.here in
          let b = none_counted seed sheet l (ahead n x k) step second (omega (arith, early)) both.there in
          record { no_less = omega (arith, a, b); no_more = omega (arith, a, b) }
      | inr late ↦
          let start = road_before seed sheet seed.warm step road late (sum, comes) in
          let all = run_is_continuous seed sheet step start.0 road l x k first second nobody late start.1 (sum, comes) both in
          let keeps = run_cars seed sheet step road sum l nobody comes in
          let kept = run_cars seed sheet seed.warm start.0 start.1.0 l nobody start.1.1 in
          let size = keeps.size in
          let first_size = kept.size in
          let now = few (lane_of road l) x k (omega (arith, round, size)) in
          let before = few (lane_of start.0 l) x k (omega (arith, round, first_size)) in
          let a = now.most in
          let b = now.least in
          let c = before.most in
          let d = before.least in
          let e = few_cars (lane_of road l) x k in
          let f = few_cars (lane_of start.0 l) x k in
          let count = keeps.count in
          let first_count = kept.count in
          let free = empty_too seed.road road l keeps in
          let first_free = empty_too seed.road start.0 l kept in
          let no_less : first ≤ second + min (lane_car_count (lane_of seed.road l)) (lane_empty_cells (lane_of seed.road l)) = omega (arith, all, a, b, c, d, e, f, count, first_count, free, first_free) in
          let no_more : second ≤ first + min (lane_car_count (lane_of seed.road l)) (lane_empty_cells (lane_of seed.road l)) = omega (arith, all, a, b, c, d, e, f, count, first_count, free, first_free) in
          record { no_less = no_less; no_more = no_more }
    ]

-- sums of the counts of detectors
sum_both : (f g h : ℕ → ℕ) (s k : ℕ) → ((x : ℕ) → f x ≡ g x + h x) → sum_by f (range_with_len s k) ≡ sum_by g (range_with_len s k) + sum_by h (range_with_len s k)
sum_both f g h s k each =
    let same = total_same (λ x. f (s + x)) (λ x. g (s + x) + h (s + x)) k (λ x low. each (s + x)) in
    let split = total_add (λ x. g (s + x)) (λ x. h (s + x)) k in
    let a = sum_range f s k in
    let b = sum_range g s k in
    let c = sum_range h s k in
    omega (arith, same, split, a, b, c)

sum_zero : (f : ℕ → ℕ) (s k : ℕ) → ((x : ℕ) → f x ≡ 0) → sum_by f (range_with_len s k) ≡ 0
sum_zero f s k each = sum_range f s k ∙ total_none (λ x. f (s + x)) k (λ x low. each (s + x))

pub detectors_count_run : DetectorsCountRun
detectors_count_run seed sheet zero road sum count one comes counts =
    sum_zero count 0 (length (lane_of seed.road 0)) counts ∙ sym (ap (λ (t : StepTally). t.distance) comes.2)
detectors_count_run seed sheet (suc step) road sum count one comes counts =
    let n = length (lane_of seed.road 0) in
    let on = comes.5 in
    let tally = comes.3 in
    let before : (x : ℕ) → (b : ℕ) × (DetectorHasCounted seed sheet 0 x step b × (count x ≡ (if nat_le seed.warm step then b + passages (lane_of road 0) x else b))) =
    λ x. counts_on seed sheet step road 0 x (count x) (sum, comes) (counts x) in
    let so_far = detectors_count_run seed sheet step comes.0 comes.1 (λ x. (before x).0) one comes.4 (λ x. (before x).1.0) in
    elim (cases_lt step seed.warm) [
      | inl early ↦
          let not_yet = lt-leb seed.warm step early in
          let split = sum_both count (λ x. (before x).0) (λ x. 0) 0 n
          (λ x. let e = uncounted_so (nat_le seed.warm step) (count x) (before x).0 (passages (lane_of road 0) x) (before x).1.1 not_yet in omega (arith, e)) in
          let nothing = sum_zero (λ x. 0) 0 n (λ x. refl) in
          let total = distance_uncounted (nat_le seed.warm step) sum comes.1 tally on.counted not_yet in
          omega (arith, so_far, split, nothing, total)
      | inr late ↦
          let counted = le-leb seed.warm step late in
          let split = sum_both count (λ x. (before x).0) (passages (lane_of road 0)) 0 n
          (λ x. counted_so (nat_le seed.warm step) (count x) (before x).0 (passages (lane_of road 0) x) (before x).1.1 counted) in
          let lanes = run_lanes seed sheet (suc step) road sum comes in
          let here = one_sum all_passages road.lanes (lanes.count ∙ one) in
          let size : sum_by (passages (lane_of road 0)) (range_with_len 0 (length (lane_of road 0))) ≡ sum_by (passages (lane_of road 0)) (range_with_len 0 n) =
          ap (λ k. sum_by (passages (lane_of road 0)) (range_with_len 0 k)) (lanes.size 0 (omega (arith, one))) in
          let now = detectors_count_distance comes.2 (dice_at seed step) comes.0 road tally on.next in
          let total = distance_counted (nat_le seed.warm step) sum comes.1 tally on.counted counted in
          omega (arith, so_far, split, here, size, now, total)
    ]

-- the counts of two detectors k cells apart differ by no more than the cars that fit in k cells, less those
-- that must be
record AreClose (cars empty k first second : ℕ) : Type 0 where
  no_less : first ≤ second + (min k cars - (k - empty))
  no_more : second ≤ first + (min k cars - (k - empty))

detectors_are_close : (seed : Seed) (sheet : Sheet) (step : ℕ) (road : Cells) (sum : StepTally) (l x k first second : ℕ) → EachRule StaysInLane sheet → ComesTo seed sheet step road sum
    → k ≤ length (lane_of seed.road l) → DetectorsHaveCounted seed sheet step l x k first second → AreClose (lane_car_count (lane_of seed.road l)) (lane_empty_cells (lane_of seed.road l)) k first second
detectors_are_close seed sheet step road sum l x k first second nobody comes round both =
    let n = length (lane_of seed.road l) in
    elim (cases_lt step seed.warm) [
      | inl early ↦
          let a = none_counted seed sheet l x step first (omega (arith, early)) both.here in
          let b = none_counted seed sheet l (ahead n x k) step second (omega (arith, early)) both.there in
          record { no_less = omega (arith, a, b); no_more = omega (arith, a, b) }
      | inr late ↦
          let start = road_before seed sheet seed.warm step road late (sum, comes) in
          let all = run_is_continuous seed sheet step start.0 road l x k first second nobody late start.1 (sum, comes) both in
          let keeps = run_cars seed sheet step road sum l nobody comes in
          let kept = run_cars seed sheet seed.warm start.0 start.1.0 l nobody start.1.1 in
          let size = keeps.size in
          let first_size = kept.size in
          let now = few (lane_of road l) x k (omega (arith, round, size)) in
          let before = few (lane_of start.0 l) x k (omega (arith, round, first_size)) in
          let a = now.most in
          let b = now.least in
          let c = before.most in
          let d = before.least in
          let e = few_cars (lane_of road l) x k in
          let f = few_cars (lane_of start.0 l) x k in
          let count = keeps.count in
          let first_count = kept.count in
          let free = empty_too seed.road road l keeps in
          let first_free = empty_too seed.road start.0 l kept in
          record { no_less = omega (arith, all, a, b, c, d, e, f, count, first_count, free, first_free); no_more = omega (arith, all, a, b, c, d, e, f, count, first_count, free, first_free) }
    ]

-- the sum of these differences
spread : ℕ → ℕ → ℕ → ℕ
spread cars empty k = min k cars - (k - empty)

ones : (n : ℕ) → total (λ k. 1) n ≡ n
ones zero = refl
ones (suc n) = let rest = ones n in omega (arith, rest)

all_spread : (cars empty : ℕ) → total (spread cars empty) (cars + empty) ≡ cars * empty
unfolding spread
all_spread zero empty = total_none (spread 0 empty) (0 + empty) (λ k low. omega arith) ∙ (let e : 0 ≡ 0 * empty = omega arith in e)
all_spread (suc cars) empty =
    let n = cars + empty in
    let size : suc cars + empty ≡ suc n = omega arith in
    let rest = all_spread cars empty in
    let one_more : (k : ℕ) → k < n → spread (suc cars) empty k + below k (suc cars) ≡ spread cars empty k + 1 = λ k low.
    elim (cases_lt k (suc cars)) [
      | inl under ↦ let e = below_so k (suc cars) under in omega (arith, e, under)
      | inr past ↦ let e = below_not k (suc cars) past in omega (arith, e, past, low)
    ] in
    let balance = total_balance (spread (suc cars) empty) (λ k. below k (suc cars)) (spread cars empty) (λ k. 1) n one_more in
    let few = total_below (suc cars) n in
    let each = ones n in
    let last = total_last (spread (suc cars) empty) n in
    let end : spread (suc cars) empty n ≡ min n (suc cars) - cars = omega arith in
    let product = suc-mul cars empty in
    ap (total (spread (suc cars) empty)) size ∙ (let e : total (spread (suc cars) empty) (suc n) ≡ suc cars * empty = omega (arith, rest, balance, few, each, last, end, product) in e)

pub same_each : (c n : ℕ) → total (λ k. c) n ≡ n * c
same_each c zero = let e : 0 ≡ 0 * c = omega arith in e
same_each c (suc n) = let rest = same_each c n in let product = suc-mul n c in omega (arith, rest, product)

-- numbers near a value, and their sum
sum_is_near : (w f : ℕ → ℕ) (c n : ℕ) → ((k : ℕ) → k < n → (c ≤ w k + f k) × (w k ≤ c + f k)) → DifferByAtMost (total f n) (n * c) (total w n)
sum_is_near w f c n near =
    let most = total_le w (λ k. c + f k) n (λ k low. (near k low).1) in
    let least = total_le (λ k. c) (λ k. w k + f k) n (λ k low. (near k low).0) in
    let a = total_add (λ k. c) f n in
    let b = total_add w f n in
    let each = same_each c n in
    record { no_less = omega (arith, least, b, each); no_more = omega (arith, most, a, each) }

pub detector_measures_flow : DetectorMeasuresFlow
unfolding spread
detector_measures_flow seed sheet step road sum x count nobody one comes low counted =
    let lane = lane_of seed.road 0 in
    let n = length lane in
    let cars = lane_car_count lane in
    let empty = lane_empty_cells lane in
    let whole = lane_taken_or_empty lane in
    let counts : (y : ℕ) → (c : ℕ) × DetectorHasCounted seed sheet 0 y step c = λ y. count_exists seed sheet step road sum 0 y comes in
    let w : ℕ → ℕ = λ y. (counts y).0 in
    let all = detectors_count_run seed sheet step road sum w one comes (λ y. (counts y).1) in
    let from_zero = sum_range w 0 n ∙ total_same (λ y. w (0 + y)) w n (λ y high. let e : 0 + y ≡ y = omega arith in ap w e) in
    let turned = total_turned w n x in
    let near : (k : ℕ) → k < n → (count ≤ w (ahead n k x) + spread cars empty k) × (w (ahead n k x) ≤ count + spread cars empty k) = λ k high.
    let e : k + x ≡ x + k = omega arith in
    let place : ahead n k x ≡ ahead n x k = ap (λ j. j % n) e in
    let close = detectors_are_close seed sheet step road sum 0 x k count (w (ahead n x k)) nobody comes (omega (arith, high)) (record { is_cell = low; here = counted; there = (counts (ahead n x k)).1 }) in
    let same = ap w place in
    let a = close.no_less in
    let b = close.no_more in
    (omega (arith, a, same), omega (arith, b, same)) in
    let both = sum_is_near (λ k. w (ahead n k x)) (spread cars empty) count n near in
    let no_less = both.no_less in
    let no_more = both.no_more in
    let area = ap (total (spread cars empty)) (sym whole) ∙ all_spread cars empty in
    record { no_less = omega (arith, no_less, area, all, from_zero, turned); no_more = omega (arith, no_more, area, all, from_zero, turned) }
