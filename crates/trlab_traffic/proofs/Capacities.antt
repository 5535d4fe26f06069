-- Steps and runs stay under the triangle of their road.
use Rattle.std.proofs.Common.{◌≡◌, ℕ, zero, suc, ◌+◌, ◌-◌, ◌*◌, ◌<◌, ◌≤◌, Bool, true, false, Option, Some}
use Rattle.std.proofs.Common.{None, List, [], ◌∷◌, length, get_or, refl, sym, ◌∙◌, ap, subst, inl, inr, arith}
use Rattle.std.proofs.Common.{mul_comm, suc-mul, true≢false, if◌then◌else◌, All, nat_le, slice_index, sum_by}
use Rattle.std.proofs.{Common.le-leb, lemmas.{Bool.{cases_lt, lt-leb}, List.length-map}}
use Rattle.std.proofs.lemmas.List.Sums.{sum-map, sum_by-cons, sum_by-le}
use Rattle.trlab_verify.specs.Verified.{CheckedProgram}
use Rattle.trlab_machine.specs.declared.dice.Dice.{Dice}
use Rattle.trlab_road.specs.{declared.car.Car.Car, Cells.{AgreeAtCars, Cells, Lane, cars, lane_of, IsLegal}}
use Rattle.trlab_road.specs.{Cells.standing, Gaps.gap, Motion.{Fits, IsClearAhead, AreSafeSpeeds, Moves}}
use Rattle.trlab_road.{specs.Motion.in_order, proofs.MotionInOrder.{answer_at, moves_by}}
use Rattle.trlab_road.proofs.{MotionLaws.on_lane, Numbers.no_one, Ring.clear_within_gap}
use Rattle.trlab_road.proofs.StandingOrder.{get_or-map_in, in_order_at, length-standing_from_lane}
use Rattle.trlab_road.proofs.StandingOrder.{standing_cell}
use Rattle.trlab_rules.specs.Rules.{Programs}
use Rattle.trlab_step.specs.{declared.tally.StepTally.StepTally, Laws.IsLegalLike, Next.IsLaneChangePhase}
use Rattle.trlab_step.specs.{Next.{IsNext, total_speed}, Run.{ComesTo, Seed, Sheet, dice_at, tally_sum}}
use Rattle.trlab_step.proofs.{NextLaws.{like_itself, like_next}, SumsOverCars.total_speed-moved}
use Rattle.trlab_traffic.specs.Terms.{all_cells, empty_cells, lane_cells}
use Rattle.trlab_traffic.specs.Bounds.{IsDistanceUnderTriangle, RunStaysUnderTriangle, StepStaysUnderTriangle}
use Rattle.trlab_traffic.proofs.Steps.{answers_fit, middle_like, next_legal_like}
use Rattle.trlab_traffic.proofs.RoomAhead.{lanes_room, taken_or_empty}

-- the value of a function for the k-th car
kth_is : (f : ℕ → ℕ → ℕ) (road : Cells) (k : ℕ) → k < cars road → let car = get_or (standing road) k no_one in slice_index (in_order f road) k ≡ f car.lane car.place
kth_is f road k below =
    let count = length-standing_from_lane 0 road.lanes in
    get_or-map_in (λ (car : Car). f car.lane car.place) (standing road) k no_one 0 (omega (arith, below, count))

-- speeds that fit are safe speeds, in standing order
pub may_move : (speeds : ℕ → ℕ → ℕ) (road : Cells) → Fits speeds road → AreSafeSpeeds road (in_order speeds road)
may_move speeds road fits = record {
  one_each = length-map (standing road) (λ (car : Car). speeds car.lane car.place) ∙ length-standing_from_lane 0 road.lanes;
  within_gaps = λ k below.
      let car = get_or (standing road) k no_one in
      let here = standing_cell road k no_one below in
      rw (kth_is speeds road k below, kth_is (λ l x. gap (lane_of road l) x) road k below)
      ((fits.each_lane car.lane (on_lane road car.lane car.place (car.number, car.speed) here)).gaps car.place car.number car.speed here);
  within_limit = λ k below.
      let car = get_or (standing road) k no_one in
      rw (kth_is speeds road k below) (fits.within_limit car (standing_cell road k no_one below));
}

-- the sum of the speeds after a motion is the sum of the answers before it
pub speeds_total : (speeds : ℕ → ℕ → ℕ) (road next : Cells) → Fits speeds road → Moves speeds road next → total_speed next ≡ sum_by (λ (car : Car). speeds car.lane car.place) (standing road)
speeds_total speeds road next fits moves =
    let answers = in_order speeds road in
    let agree : AgreeAtCars speeds (answer_at road answers) road = λ car here. sym (in_order_at speeds 0 road car.lane car.place car.number car.speed here) in
    total_speed-moved road next answers (may_move speeds road fits) (moves_by speeds (answer_at road answers) road next agree moves)
    ∙ sum-map (λ (car : Car). speeds car.lane car.place) (standing road)

-- speeds that fit go over the empty cells, and no further than the limit
pub fitting_by_cells : (speeds : ℕ → ℕ → ℕ) (road : Cells) → Fits speeds road → sum_by (λ (car : Car). speeds car.lane car.place) (standing road) ≤ empty_cells road
fitting_by_cells speeds road fits =
    lanes_room (λ (car : Car). speeds car.lane car.place) 0 road.lanes
    (λ l h x number speed here. let e : l ≡ 0 + l = omega arith in
    subst (λ k. IsClearAhead (lane_of road l) x (speeds k x)) e (clear_within_gap (lane_of road l) x (speeds l x) ((fits.each_lane l h).gaps x number speed here)))

pub fitting_by_limit : (speeds : ℕ → ℕ → ℕ) (road : Cells) → Fits speeds road → sum_by (λ (car : Car). speeds car.lane car.place) (standing road) ≤ road.limit * cars road
fitting_by_limit speeds road fits =
    let count = length-standing_from_lane 0 road.lanes in
    let each : All (λ (car : Car). speeds car.lane car.place ≤ road.limit) (standing road) =
    λ k d below. fits.within_limit (get_or (standing road) k d) (standing_cell road k d (omega (arith, below, count))) in
    let all = sum_by-le (λ (car : Car). speeds car.lane car.place) road.limit (standing road) each in
    let same : length (standing road) * road.limit ≡ road.limit * cars road = ap (λ k. k * road.limit) count ∙ mul_comm (cars road) road.limit in
    subst (λ m. sum_by (λ (car : Car). speeds car.lane car.place) (standing road) ≤ m) same all

-- lanes of the same lengths have the same number of cells
same_cells : (xs ys : List Lane) → length ys ≡ length xs → ((l : ℕ) → l < length xs → length (get_or ys l []) ≡ length (get_or xs l [])) → sum_by lane_cells ys ≡ sum_by lane_cells xs
same_cells [] [] size same = refl
same_cells [] (y ∷ ys) size same = absurd (omega arith)
same_cells (x ∷ xs) [] size same = absurd (omega arith)
same_cells (x ∷ xs) (y ∷ ys) size same =
    let first : length y ≡ length x = same 0 (omega arith) in
    let rest = same_cells xs ys (omega arith) (λ l h. same (suc l) (omega arith)) in
    let a = sum_by-cons lane_cells x xs in
    let b = sum_by-cons lane_cells y ys in
    omega (arith, first, rest, a, b)

-- a road keeps its cells in the lane change, and in the motion
pub middle_cells : (change : Option CheckedProgram) (dice : Dice) (road middle : Cells) (changes : ℕ) → IsLaneChangePhase change dice road middle changes → all_cells middle ≡ all_cells road
middle_cells None dice road middle changes phase = ap all_cells phase.0
middle_cells (Some change) dice road middle changes phase =
    let crossed = phase.3 in
    same_cells road.lanes middle.lanes crossed.same_lanes (λ l h. (crossed.each_lane l h).same_length)

pub next_cells : (rule : Programs) (dice : Dice) (road next : Cells) (tally : StepTally) → IsNext rule dice road next tally → all_cells next ≡ all_cells road
next_cells rule dice road next tally is =
    let moved = is.1.motion.2 in
    same_cells is.0.lanes next.lanes moved.same_lanes (λ l h. (moved.each_lane l h).same_length)
    ∙ middle_cells rule.change dice road is.0 tally.changes is.1.lane_change

-- and so its empty cells
pub same_empty : (road other : Cells) → cars other ≡ cars road → all_cells other ≡ all_cells road → empty_cells other ≡ empty_cells road
same_empty road other count cells =
    let a = taken_or_empty road in
    let b = taken_or_empty other in
    omega (arith, a, b, count, cells)

-- a distance within bounds
record Within (road : Cells) (distance : ℕ) : Type 0 where
  by_cells : distance ≤ empty_cells road
  by_limit : distance ≤ road.limit * cars road

step_within : (rule : Programs) (dice : Dice) (road next : Cells) (tally : StepTally) → IsLegal road → IsNext rule dice road next tally → Within road tally.distance
step_within rule dice road next tally legal is =
    let middle = is.0 in
    let phase = is.1.motion in
    let like = middle_like rule.change dice road middle tally.changes legal is.1.lane_change in
    let fits = answers_fit rule.motion dice middle phase.0 phase.1 in
    let gone = is.1.distance ∙ speeds_total phase.0 middle next fits phase.2 in
    let empty = same_empty road middle like.same_count (middle_cells rule.change dice road middle tally.changes is.1.lane_change) in
    let a = fitting_by_cells phase.0 middle fits in
    let b = fitting_by_limit phase.0 middle fits in
    let most : middle.limit * cars middle ≡ road.limit * cars road = ap (λ k. k * cars middle) like.same_limit ∙ ap (λ k. road.limit * k) like.same_count in
    record { by_cells = omega (arith, gone, a, empty); by_limit = omega (arith, gone, b, most) }

one_step : (m n : ℕ) → m ≤ n → m ≤ 1 * n
one_step m n h = omega arith

pub step_stays_under_triangle : StepStaysUnderTriangle
step_stays_under_triangle rule dice road next tally legal is =
    let within = step_within rule dice road next tally legal is in
    record { by_empty_cells = one_step tally.distance (empty_cells road) within.by_cells; by_limit = one_step tally.distance (road.limit * cars road) within.by_limit }

-- the distance after a step that is counted, and after one that is not
pub distance_counted : (b : Bool) (sum so_far tally : StepTally) → sum ≡ (if b then tally_sum so_far tally else so_far) → b ≡ true → sum.distance ≡ so_far.distance + tally.distance
distance_counted true sum so_far tally is h = ap (λ (t : StepTally). t.distance) is
distance_counted false sum so_far tally is h = absurd (true≢false (sym h))

pub distance_uncounted : (b : Bool) (sum so_far tally : StepTally) → sum ≡ (if b then tally_sum so_far tally else so_far) → b ≡ false → sum.distance ≡ so_far.distance
distance_uncounted true sum so_far tally is h = absurd (true≢false h)
distance_uncounted false sum so_far tally is h = ap (λ (t : StepTally). t.distance) is

-- a run on its way: its road is like the one from which it started, and its distance is within bounds
record OnItsWay (seed : Seed) (step : ℕ) (road : Cells) (sum : StepTally) : Type 0 where
  like : IsLegalLike seed.road road
  cells : all_cells road ≡ all_cells seed.road
  within : IsDistanceUnderTriangle seed.road (step - seed.warm) sum.distance

-- the distance after one more step, whether or not it is counted
one_more : (m n most step warm : ℕ) → m ≤ (step - warm) * most → n ≤ most → warm ≤ step → m + n ≤ (suc step - warm) * most
one_more m n most step warm before now counted =
    let e : suc step - warm ≡ suc (step - warm) = omega arith in
    let f = suc-mul (step - warm) most in
    rw (e, f) (omega (arith, before, now))

none_more : (m most step warm : ℕ) → m ≤ (step - warm) * most → step < warm → m ≤ (suc step - warm) * most
none_more m most step warm before early =
    let e : suc step - warm ≡ step - warm = omega arith in
    rw e before

at_start : (most warm : ℕ) → 0 ≤ (0 - warm) * most
at_start most warm = omega arith

run_on_its_way : (seed : Seed) (sheet : Sheet) (step : ℕ) (road : Cells) (sum : StepTally) → IsLegal seed.road → ComesTo seed sheet step road sum → OnItsWay seed step road sum
run_on_its_way seed sheet zero road sum legal is = record {
  like = subst (IsLegalLike seed.road) (sym is.1) (like_itself seed.road legal);
  cells = ap all_cells is.1;
  within = record {
    by_empty_cells = subst (λ (t : StepTally). t.distance ≤ (0 - seed.warm) * empty_cells seed.road) (sym is.2) (at_start (empty_cells seed.road) seed.warm);
    by_limit = subst (λ (t : StepTally). t.distance ≤ (0 - seed.warm) * (seed.road.limit * cars seed.road)) (sym is.2) (at_start (seed.road.limit * cars seed.road) seed.warm);
  };
}
run_on_its_way seed sheet (suc step) road sum legal is =
    let before = is.0 in
    let so_far = is.1 in
    let tally = is.3 in
    let on = is.5 in
    let way = run_on_its_way seed sheet step before so_far legal is.4 in
    let rule = is.2 in
    let next = next_legal_like rule (dice_at seed step) before road tally way.like.legal on.next in
    let now = step_within rule (dice_at seed step) before road tally way.like.legal on.next in
    let cells = next_cells rule (dice_at seed step) before road tally on.next in
    let empty = same_empty seed.road before way.like.same_count way.cells in
    let most : before.limit * cars before ≡ seed.road.limit * cars seed.road = ap (λ k. k * cars before) way.like.same_limit ∙ ap (λ k. seed.road.limit * k) way.like.same_count in
    let a : tally.distance ≤ empty_cells seed.road = (let h = now.by_cells in omega (arith, h, empty)) in
    let b : tally.distance ≤ seed.road.limit * cars seed.road = (let h = now.by_limit in omega (arith, h, most)) in
    record {
      like = like_next seed.road before road way.like next;
      cells = cells ∙ way.cells;
      within = elim (cases_lt step seed.warm) [
        | inl early ↦
            let same = distance_uncounted (nat_le seed.warm step) sum so_far tally on.counted (lt-leb seed.warm step early) in
            record {
              by_empty_cells = rw same (none_more so_far.distance (empty_cells seed.road) step seed.warm way.within.by_empty_cells early);
              by_limit = rw same (none_more so_far.distance (seed.road.limit * cars seed.road) step seed.warm way.within.by_limit early);
            }
        | inr late ↦
            let same = distance_counted (nat_le seed.warm step) sum so_far tally on.counted (le-leb seed.warm step late) in
            record {
              by_empty_cells = rw same (one_more so_far.distance tally.distance (empty_cells seed.road) step seed.warm way.within.by_empty_cells a late);
              by_limit = rw same (one_more so_far.distance tally.distance (seed.road.limit * cars seed.road) step seed.warm way.within.by_limit b late);
            }
      ];
    }

pub run_stays_under_triangle : RunStaysUnderTriangle
run_stays_under_triangle seed sheet step road sum legal is = (run_on_its_way seed sheet step road sum legal is).within
