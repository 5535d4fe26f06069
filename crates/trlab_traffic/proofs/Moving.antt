-- Moving cars go at least one cell and at most as many as the limit, few cars change lanes, and no flow is above the
-- peak of the triangle.
use Rattle.std.proofs.Common.{◌≡◌, ℕ, zero, suc, ◌+◌, ◌-◌, ◌*◌, ◌≤◌, Bool, true, false, cond, List, [], ◌∷◌}
use Rattle.std.proofs.Common.{length, get_or, sym, ◌∙◌, ap, subst, inl, inr, arith, mul-add, mul-suc}
use Rattle.std.proofs.Common.{mul_assoc, mul_comm, suc-mul, true≢false, if◌then◌else◌, is_none, Option, Some}
use Rattle.std.proofs.Common.{None, refl, All, count_by, nat_eq, nat_le, sum_by, eq-eqb, le-leb, ne_eqb}
use Rattle.std.proofs.lemmas.Bool.{cases_eq, cases_lt, lt-leb, cases_Bool}
use Rattle.std.proofs.lemmas.List.Sums.{sum_by-cons, sum_by-append, sum_by-le}
use Rattle.trlab_road.specs.{declared.car.Car.Car, Cells.{Cells, cars, Cell, Lane, at, cell, lane_of}}
use Rattle.trlab_road.specs.Cells.{IsLegal, standing, standing_from, standing_from_lane}
use Rattle.trlab_road.specs.LaneChange.{CrossesToEmpty, other_lane}
use Rattle.trlab_road.proofs.{StandingOrder.{length-standing_from_lane, standing_cell}, Ring.car_in}
use Rattle.trlab_rules.specs.Rules.{Programs}
use Rattle.trlab_machine.specs.declared.dice.Dice.{Dice}
use Rattle.trlab_verify.specs.Verified.{CheckedProgram}
use Rattle.trlab_step.specs.{declared.tally.StepTally.StepTally, Next.{IsNext, IsLaneChangePhase}}
use Rattle.trlab_step.specs.Run.{ComesTo, Seed, Sheet, dice_at, tally_sum}
use Rattle.trlab_traffic.specs.{Terms.{all_cells, empty_cells, lane_empty_cells}, Bounds.RunKeepsBelowPeak}
use Rattle.trlab_traffic.specs.Bounds.{BoundsMovingSpeed, RunBoundsMovingSpeed, StepBoundsMovingSpeed}
use Rattle.trlab_traffic.specs.Bounds.{BoundsLaneChanges, RunBoundsLaneChanges, StepBoundsLaneChanges}
use Rattle.trlab_traffic.proofs.{Lanes.{sum_of_cells, total, total_same, weight}, Steps.next_legal_like}
use Rattle.trlab_traffic.proofs.{Steps.crossings_free, RoomAhead.{taken_or_empty, empty-none, empty-some}}
use Rattle.trlab_traffic.proofs.{Capacities.{run_stays_under_triangle, next_cells}, Courses.run_like}
use Rattle.trlab_traffic.proofs.Courses.{total_le}

-- the speeds of cars, and how many of them are 0
record Bounds (v : ℕ) (xs : List Car) : Type 0 where
  cell_each : length xs ≤ sum_by (λ (car : Car). car.speed) xs + count_by (λ (car : Car). nat_eq car.speed 0) xs
  limit_each : sum_by (λ (car : Car). car.speed) xs + v * count_by (λ (car : Car). nat_eq car.speed 0) xs ≤ length xs * v

bounds : (v : ℕ) (xs : List Car) → All (λ car. car.speed ≤ v) xs → Bounds v xs
bounds v [] all = record { cell_each = omega arith; limit_each = omega arith }
bounds v (x ∷ xs) all =
    let first : x.speed ≤ v = all 0 x (omega arith) in
    let rest = bounds v xs (λ k d below. all (suc k) d (omega (arith, below))) in
    let a = rest.cell_each in
    let b = rest.limit_each in
    let speeds = sum_by-cons (λ (car : Car). car.speed) x xs in
    let count = sum_by-cons (λ (car : Car). cond (nat_eq car.speed 0) 1 0) x xs in
    let more = suc-mul (length xs) v in
    let digit : Bool → ℕ = λ t. cond t 1 0 in
    elim (cases_eq x.speed 0) [
      | inl stopped ↦
          let one = ap digit (eq-eqb x.speed 0 stopped) in
          let total : count_by (λ (car : Car). nat_eq car.speed 0) (x ∷ xs) ≡ suc (count_by (λ (car : Car). nat_eq car.speed 0) xs) = omega (arith, count, one) in
          let product = ap (λ k. v * k) total ∙ mul-suc v (count_by (λ (car : Car). nat_eq car.speed 0) xs) in
          record { cell_each = omega (arith, a, speeds, total); limit_each = omega (arith, b, speeds, product, more, stopped) }
      | inr moves ↦
          let none = ap digit (ne_eqb x.speed 0 moves) in
          let total : count_by (λ (car : Car). nat_eq car.speed 0) (x ∷ xs) ≡ count_by (λ (car : Car). nat_eq car.speed 0) xs = omega (arith, count, none) in
          let product = ap (λ k. v * k) total in
          record { cell_each = omega (arith, a, speeds, total, moves); limit_each = omega (arith, b, speeds, product, more, first) }
    ]

-- one step, by numbers
record One (road : Cells) (tally : StepTally) : Type 0 where
  cell_each : cars road ≤ tally.distance + tally.stopped
  limit_each : tally.distance + road.limit * tally.stopped ≤ road.limit * cars road

one_step : (rule : Programs) (dice : Dice) (road next : Cells) (tally : StepTally) → IsLegal road → IsNext rule dice road next tally → One road tally
one_step rule dice road next tally legal is =
    let like = next_legal_like rule dice road next tally legal is in
    let count = length-standing_from_lane 0 next.lanes in
    let all : All (λ car. car.speed ≤ road.limit) (standing next) = λ k d below.
    subst (λ m. (get_or (standing next) k d).speed ≤ m) like.same_limit (like.legal.within_limit (get_or (standing next) k d) (standing_cell next k d (omega (arith, below, count)))) in
    let both = bounds road.limit (standing next) all in
    let a = both.cell_each in
    let b = both.limit_each in
    let distance = is.1.distance in
    let stopped = is.1.stopped in
    let product = ap (λ k. road.limit * k) is.1.stopped in
    let cars_count = like.same_count in
    let most : length (standing next) * road.limit ≡ road.limit * cars road = ap (λ k. k * road.limit) (count ∙ like.same_count) ∙ mul_comm (cars road) road.limit in
    record { cell_each = omega (arith, a, distance, stopped, count, cars_count); limit_each = omega (arith, b, distance, product, most) }

pub step_goes_by_moving_cars : StepBoundsMovingSpeed
step_goes_by_moving_cars rule dice road next tally legal is =
    let one = one_step rule dice road next tally legal is in
    let a = one.cell_each in
    let b = one.limit_each in
    record { cell_each = (let k : 1 * cars road ≤ tally.distance + tally.stopped = omega (arith, a) in k); limit_each = once (tally.distance + road.limit * tally.stopped) (road.limit * cars road) b }
  where
    once : (m n : ℕ) → m ≤ n → m ≤ 1 * n
    once m n h = omega (arith, h)

-- the sum after a step that is counted, and after one that is not
counted_so : (b : Bool) (sum so_far tally : StepTally) → sum ≡ (if b then tally_sum so_far tally else so_far) → b ≡ true → sum ≡ tally_sum so_far tally
counted_so true sum so_far tally is h = is
counted_so false sum so_far tally is h = absurd (true≢false (sym h))

uncounted_so : (b : Bool) (sum so_far tally : StepTally) → sum ≡ (if b then tally_sum so_far tally else so_far) → b ≡ false → sum ≡ so_far
uncounted_so true sum so_far tally is h = absurd (true≢false h)
uncounted_so false sum so_far tally is h = is

-- one more step
more_steps : (n k d s d1 s1 : ℕ) → k * n ≤ d + s → n ≤ d1 + s1 → suc k * n ≤ d + d1 + (s + s1)
more_steps n k d s d1 s1 before now = let e = suc-mul k n in omega (arith, before, now, e)

more_limits : (most v k d s d1 s1 : ℕ) → d + v * s ≤ k * most → d1 + v * s1 ≤ most → d + d1 + v * (s + s1) ≤ suc k * most
more_limits most v k d s d1 s1 before now =
    let e = suc-mul k most in
    let f = mul-add v s s1 in
    omega (arith, before, now, e, f)

go_by_moving_cars : (seed : Seed) (sheet : Sheet) (step : ℕ) (road : Cells) (sum : StepTally) → IsLegal seed.road → ComesTo seed sheet step road sum → BoundsMovingSpeed seed.road (step - seed.warm) sum
go_by_moving_cars seed sheet zero road sum legal comes =
    let none : 0 - seed.warm ≡ 0 = omega arith in
    subst (λ k. BoundsMovingSpeed seed.road k sum) (sym none) (subst (BoundsMovingSpeed seed.road 0) (sym comes.2) (record { cell_each = omega arith; limit_each = omega arith }))
go_by_moving_cars seed sheet (suc step) road sum legal comes =
    let old = comes.0 in
    let tally = comes.3 in
    let on = comes.5 in
    let before = go_by_moving_cars seed sheet step old comes.1 legal comes.4 in
    let like = run_like seed sheet step old comes.1 legal comes.4 in
    let now = one_step comes.2 (dice_at seed step) old road tally like.legal on.next in
    elim (cases_lt step seed.warm) [
      | inl early ↦
          let e : step - seed.warm ≡ suc step - seed.warm = omega (arith, early) in
          let same = uncounted_so (nat_le seed.warm step) sum comes.1 tally on.counted (lt-leb seed.warm step early) in
          subst (λ k. BoundsMovingSpeed seed.road k sum) e (subst (BoundsMovingSpeed seed.road (step - seed.warm)) (sym same) before)
      | inr late ↦
          let e : suc (step - seed.warm) ≡ suc step - seed.warm = omega (arith, late) in
          let same = counted_so (nat_le seed.warm step) sum comes.1 tally on.counted (le-leb seed.warm step late) in
          let a = now.cell_each in
          let count = like.same_count in
          let limit = ap (λ v. tally.distance + v * tally.stopped) like.same_limit in
          let most : old.limit * cars old ≡ seed.road.limit * cars seed.road = ap (λ k. k * cars old) like.same_limit ∙ ap (λ k. seed.road.limit * k) like.same_count in
          let b = now.limit_each in
          subst (λ k. BoundsMovingSpeed seed.road k sum) e (subst (BoundsMovingSpeed seed.road (suc (step - seed.warm))) (sym same) (record {
            cell_each = more_steps (cars seed.road) (step - seed.warm) comes.1.distance comes.1.stopped tally.distance tally.stopped before.cell_each (omega (arith, a, count));
            limit_each = more_limits (seed.road.limit * cars seed.road) seed.road.limit (step - seed.warm) comes.1.distance comes.1.stopped tally.distance tally.stopped before.limit_each (omega (arith, b, limit, most));
          }))
    ]

pub run_goes_by_moving_cars : RunBoundsMovingSpeed
run_goes_by_moving_cars seed sheet step road sum legal comes = go_by_moving_cars seed sheet step road sum legal comes

-- the peak of the triangle
peak : (v k d n m cells : ℕ) → d ≤ k * m → d ≤ k * (v * n) → n + m ≡ cells → (v + 1) * d ≤ k * (v * cells)
peak v k d n m cells by_cells by_limit whole =
    let a : v * d ≤ v * (k * m) = mul_mono v d (k * m) by_cells in
    let b : v * (k * m) ≡ k * (v * m) = swap v k m in
    let c : v * cells ≡ v * n + v * m = sym (ap (λ j. v * j) whole) ∙ mul-add v n m in
    let e : k * (v * cells) ≡ k * (v * n) + k * (v * m) = ap (λ j. k * j) c ∙ mul-add k (v * n) (v * m) in
    let f : (v + 1) * d ≡ v * d + d = (let g : v + 1 ≡ suc v = omega arith in ap (λ j. j * d) g ∙ suc-mul v d) in
    omega (arith, a, b, e, f, by_limit)
  where
    mul_mono : (v i j : ℕ) → i ≤ j → v * i ≤ v * j
    mul_mono v i j h =
        let e : i + (j - i) ≡ j = omega (arith, h) in
        let f = sym (ap (λ x. v * x) e) ∙ mul-add v i (j - i) in
        omega (arith, f)

    swap : (v k m : ℕ) → v * (k * m) ≡ k * (v * m)
    swap v k m = sym (mul_assoc v k m) ∙ ap (λ x. x * m) (mul_comm v k) ∙ mul_assoc k v m

pub run_keeps_below_peak : RunKeepsBelowPeak
run_keeps_below_peak seed sheet step road sum legal comes =
    let within = run_stays_under_triangle seed sheet step road sum legal comes in
    peak seed.road.limit (step - seed.warm) sum.distance (cars seed.road) (empty_cells seed.road) (all_cells seed.road) within.by_empty_cells within.by_limit (taken_or_empty seed.road)

-- Lane changes: few of them.

-- sums over two lanes
pub two_sum : (g : Lane → ℕ) (lanes : List Lane) → length lanes ≡ 2 → sum_by g lanes ≡ g (get_or lanes 0 []) + g (get_or lanes 1 [])
two_sum g [] two = absurd (omega (arith, two))
two_sum g (a ∷ []) two = absurd (omega (arith, two))
two_sum g (a ∷ b ∷ []) two =
    let first = sum_by-cons g a (b ∷ []) in
    let second = sum_by-cons g b [] in
    omega (arith, first, second)
two_sum g (a ∷ b ∷ c ∷ lanes) two = absurd (omega (arith, two))

two_standing : (f : Car → ℕ) (lanes : List Lane) → length lanes ≡ 2 → sum_by f (standing_from_lane 0 lanes) ≡ sum_by f (standing_from 0 0 (get_or lanes 0 [])) + sum_by f (standing_from 1 0 (get_or lanes 1 []))
two_standing f [] two = absurd (omega (arith, two))
two_standing f (a ∷ []) two = absurd (omega (arith, two))
two_standing f (a ∷ b ∷ []) two =
    let first = sum_by-append f (standing_from 0 0 a) (standing_from_lane 1 (b ∷ [])) in
    let second = sum_by-append f (standing_from 1 0 b) [] in
    omega (arith, first, second)
two_standing f (a ∷ b ∷ c ∷ lanes) two = absurd (omega (arith, two))

-- the empty cells of a lane, cell by cell
holes : (lane : Lane) → total (λ x. cond (is_none (at lane x)) 1 0) (length lane) ≡ lane_empty_cells lane
holes [] = refl
holes (None ∷ cells) = let rest = holes cells in let e = empty-none cells in omega (arith, rest, e)
holes (Some car ∷ cells) = let rest = holes cells in let e = empty-some car cells in omega (arith, rest, e)

-- the cars of a lane that change go to empty cells of the other lane
module _ (crosses : ℕ → ℕ → Bool) (road : Cells) (free : CrossesToEmpty crosses road) where
  to_hole : (l y : ℕ) (here : Cell) → cell road l y ≡ here → weight (λ (car : Car). cond (crosses car.lane car.place) 1 0) l y here ≤ cond (is_none (at (lane_of road (other_lane l)) y)) 1 0
  to_hole l y None is = omega arith
  to_hole l y (Some car) is =
      elim (cases_Bool (crosses l y)) [
        | inl goes ↦
            let number : Bool → ℕ = λ b. cond b 1 0 in
            let beside = ap (λ (c : Cell). number (is_none c)) (free.side_empty (car_in l y car.0 car.1) is goes) in
            let one = ap number goes in
            omega (arith, beside, one)
        | inr stays ↦ let number : Bool → ℕ = λ b. cond b 1 0 in let none = ap number stays in omega (arith, none)
      ]

  lane_crossing : (l : ℕ) → length (lane_of road (other_lane l)) ≡ length (lane_of road l) → sum_by (λ (car : Car). cond (crosses car.lane car.place) 1 0) (standing_from l 0 (lane_of road l)) ≤ lane_empty_cells (lane_of road (other_lane l))
  lane_crossing l same =
      let f : Car → ℕ = λ car. cond (crosses car.lane car.place) 1 0 in
      let lane = lane_of road l in
      let own = sum_of_cells f l 0 lane in
      let places = total_same (λ y. weight f l (0 + y) (at lane y)) (λ y. weight f l y (at lane y)) (length lane) (λ y low. let e : 0 + y ≡ y = omega arith in ap (λ k. weight f l k (at lane y)) e) in
      let each = total_le (λ y. weight f l y (at lane y)) (λ y. cond (is_none (at (lane_of road (other_lane l)) y)) 1 0) (length lane) (λ y low. to_hole l y (at lane y) refl) in
      let size = ap (total (λ y. cond (is_none (at (lane_of road (other_lane l)) y)) 1 0)) same in
      let all = holes (lane_of road (other_lane l)) in
      omega (arith, own, places, each, size, all)

at_most_one : (b : Bool) → cond b 1 0 ≤ 1
at_most_one true = omega arith
at_most_one false = omega arith

-- the changes of one step
record Few (road : Cells) (changes : ℕ) : Type 0 where
  by_cars : changes ≤ cars road
  by_empty_cells : changes ≤ empty_cells road

few_changes : (change : Option CheckedProgram) (dice : Dice) (road middle : Cells) (changes : ℕ) → IsLegal road → IsLaneChangePhase change dice road middle changes → Few road changes
few_changes None dice road middle changes legal phase = let none = phase.1 in record { by_cars = omega (arith, none); by_empty_cells = omega (arith, none) }
few_changes (Some change) dice road middle changes legal phase =
    let two = phase.0 in
    let crosses = phase.1 in
    let free = crossings_free change dice road crosses phase.0 phase.2 in
    let count = phase.4 in
    let f : Car → ℕ = λ car. cond (crosses car.lane car.place) 1 0 in
    let all = sum_by-le f 1 (standing road) (λ k d below. at_most_one (crosses (get_or (standing road) k d).lane (get_or (standing road) k d).place)) in
    let size = length-standing_from_lane 0 road.lanes in
    let equal : length (lane_of road 1) ≡ length (lane_of road 0) = legal.shape.equal 1 (omega (arith, two)) in
    let split = two_standing f road.lanes two in
    let first = lane_crossing crosses road free 0 equal in
    let second = lane_crossing crosses road free 1 (sym equal) in
    let empty = two_sum lane_empty_cells road.lanes two in
    record { by_cars = omega (arith, all, size, count); by_empty_cells = omega (arith, split, first, second, empty, count) }

once : (m n : ℕ) → m ≤ n → m ≤ 1 * n
once m n h = omega (arith, h)

pub step_changes_few : StepBoundsLaneChanges
step_changes_few rule dice road next tally legal is =
    let few = few_changes rule.change dice road is.0 tally.changes legal is.1.lane_change in
    record { by_cars = once tally.changes (cars road) few.by_cars; by_empty_cells = once tally.changes (empty_cells road) few.by_empty_cells }

-- the changes after a step that is counted, and after one that is not
changes_counted : (b : Bool) (sum so_far tally : StepTally) → sum ≡ (if b then tally_sum so_far tally else so_far) → b ≡ true → sum.changes ≡ so_far.changes + tally.changes
changes_counted true sum so_far tally is h = ap (λ (t : StepTally). t.changes) is
changes_counted false sum so_far tally is h = absurd (true≢false (sym h))

changes_uncounted : (b : Bool) (sum so_far tally : StepTally) → sum ≡ (if b then tally_sum so_far tally else so_far) → b ≡ false → sum.changes ≡ so_far.changes
changes_uncounted true sum so_far tally is h = absurd (true≢false h)
changes_uncounted false sum so_far tally is h = ap (λ (t : StepTally). t.changes) is

-- a road keeps its cells
pub run_cells : (seed : Seed) (sheet : Sheet) (step : ℕ) (road : Cells) (sum : StepTally) → ComesTo seed sheet step road sum → all_cells road ≡ all_cells seed.road
run_cells seed sheet zero road sum comes = ap all_cells comes.1
run_cells seed sheet (suc step) road sum comes = next_cells comes.2 (dice_at seed step) comes.0 road comes.3 comes.5.next ∙ run_cells seed sheet step comes.0 comes.1 comes.4

more : (most k a b : ℕ) → a ≤ k * most → b ≤ most → a + b ≤ suc k * most
more most k a b before now = let e = suc-mul k most in omega (arith, before, now, e)

change_few : (seed : Seed) (sheet : Sheet) (step : ℕ) (road : Cells) (sum : StepTally) → IsLegal seed.road → ComesTo seed sheet step road sum → BoundsLaneChanges seed.road (step - seed.warm) sum.changes
change_few seed sheet zero road sum legal comes =
    let none = ap (λ (t : StepTally). t.changes) comes.2 in
    record { by_cars = omega (arith, none); by_empty_cells = omega (arith, none) }
change_few seed sheet (suc step) road sum legal comes =
    let old = comes.0 in
    let tally = comes.3 in
    let on = comes.5 in
    let before = change_few seed sheet step old comes.1 legal comes.4 in
    let like = run_like seed sheet step old comes.1 legal comes.4 in
    let few = few_changes comes.2.change (dice_at seed step) old on.next.0 tally.changes like.legal on.next.1.lane_change in
    let count = like.same_count in
    let cells = run_cells seed sheet step old comes.1 comes.4 in
    let a = taken_or_empty old in
    let b = taken_or_empty seed.road in
    let by_cars = few.by_cars in
    let by_empty_cells = few.by_empty_cells in
    elim (cases_lt step seed.warm) [
      | inl early ↦
          let e : step - seed.warm ≡ suc step - seed.warm = omega (arith, early) in
          let same = changes_uncounted (nat_le seed.warm step) sum comes.1 tally on.counted (lt-leb seed.warm step early) in
          subst (λ k. BoundsLaneChanges seed.road k sum.changes) e (subst (BoundsLaneChanges seed.road (step - seed.warm)) (sym same) before)
      | inr late ↦
          let e : suc (step - seed.warm) ≡ suc step - seed.warm = omega (arith, late) in
          let same = changes_counted (nat_le seed.warm step) sum comes.1 tally on.counted (le-leb seed.warm step late) in
          subst (λ k. BoundsLaneChanges seed.road k sum.changes) e (subst (BoundsLaneChanges seed.road (suc (step - seed.warm))) (sym same) (record {
            by_cars = more (cars seed.road) (step - seed.warm) comes.1.changes tally.changes before.by_cars (omega (arith, by_cars, count));
            by_empty_cells = more (empty_cells seed.road) (step - seed.warm) comes.1.changes tally.changes before.by_empty_cells (omega (arith, by_empty_cells, count, cells, a, b));
          }))
    ]

pub run_changes_few : RunBoundsLaneChanges
run_changes_few seed sheet step road sum legal comes = change_few seed sheet step road sum legal comes
