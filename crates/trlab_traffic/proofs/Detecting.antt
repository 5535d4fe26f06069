-- The counts of detectors in a step.
use Rattle.std.proofs.Common.{◌≡◌, ◌≢◌, ℕ, zero, suc, ◌+◌, ◌-◌, ◌%◌, ◌<◌, ◌≤◌, cond, is_some, Some, None}
use Rattle.std.proofs.Common.{List, [], ◌∷◌, length, get_or, refl, sym, ◌∙◌, ap, inl, inr, arith}
use Rattle.std.proofs.{Common.{mod-eq_of_lt, count_by, sum_by}, lemmas.List.Sums.{sum_by-append, sum_by-cons}}
use Rattle.std.{proofs.{Math.Nat.mod_self, lemmas.Bool.{cases_eq, cases_lt}}, specs.List.range_with_len}
use Rattle.trlab_road.specs.{declared.car.Car.Car, Cells.{Cell, Cells, Lane, at, lane_of, standing_from}}
use Rattle.trlab_road.specs.{Cells.standing_from_lane, Gaps.ahead, Motion.{Fits, LaneFits, LaneMoves}}
use Rattle.trlab_road.proofs.{MotionLaws.on_lane, Ring.{car_in, inside}}
use Rattle.trlab_traffic.specs.{Terms.is_taken, LimitOne.digit, Detectors.DetectorsCountDistance}
use Rattle.trlab_traffic.specs.Detectors.{StepSatisfiesContinuity, all_passages, cars_ahead_of, passages}
use Rattle.trlab_traffic.specs.Detectors.{has_passed, place_before_motion, cells_ahead_to}
use Rattle.trlab_traffic.proofs.Lanes.{ahead_back, ahead_below, ahead_more, ahead_none, ahead_swap}
use Rattle.trlab_traffic.proofs.Lanes.{back_ahead, gap_below, below, below_not, below_so, cell_sum, in_cell}
use Rattle.trlab_traffic.proofs.Lanes.{is, is_not, is_so, sum_of_cells, sum_range, total, total_at}
use Rattle.trlab_traffic.proofs.Lanes.{total_balance, total_below, total_none, total_same, total_swap}
use Rattle.trlab_traffic.proofs.{Lanes.{total_turned, weight}, Steps.{answers_fit, motion_alone}}
use Rattle.trlab_traffic.proofs.Influence.{any_lane}

-- the distance to the cell that a car goes to
way_gone : (n p v : ℕ) → p < n → v < n → cells_ahead_to n p (ahead n p v) ≡ v
way_gone n p v low short =
    let e : p + v ≡ v + p = omega arith in
    let back = ahead_back n v p short in
    let same : n - p % n ≡ n - p = ap (λ k. n - k) (mod-eq_of_lt low) in
    ap (λ k. ahead n (k % n) (n - p)) e ∙ sym (ap (ahead n (ahead n v p)) same) ∙ back

pub way_reaches : (n p c : ℕ) → p < n → c < n → ahead n p (cells_ahead_to n p c) ≡ c
way_reaches n p c low high =
    let e : p + cells_ahead_to n p c ≡ cells_ahead_to n p c + p = omega arith in
    let there = back_ahead n c p high in
    let same : n - p % n ≡ n - p = ap (λ k. n - k) (mod-eq_of_lt low) in
    ap (λ k. k % n) e ∙ sym (ap (λ k. ahead n (ahead n c k) p) same) ∙ there

is_there : (n p v c : ℕ) → p < n → v < n → c < n → is (ahead n p v) c ≡ is (cells_ahead_to n p c) v
is_there n p v c low short high =
    elim (cases_eq (cells_ahead_to n p c) v) [
      | inl e ↦ is_so (ahead n p v) c (sym (ap (ahead n p) e) ∙ way_reaches n p c low high) ∙ sym (is_so (cells_ahead_to n p c) v e)
      | inr apart ↦ is_not (ahead n p v) c (λ e. apart (sym (ap (cells_ahead_to n p) e) ∙ way_gone n p v low short)) ∙ sym (is_not (cells_ahead_to n p c) v apart)
    ]

-- the path of a car that goes v cells from p: whether it comes to the cell behind a detector and whether it
-- passes on, whether it was there, and whether it passed the detector before
numbers_balance : (n z v : ℕ) → z < n → v < n → is (ahead n z 1) v + below (ahead n z 1) v ≡ is (ahead n z 1) 0 + below z v
numbers_balance n z v low short =
    elim (cases_lt (z + 1) n) [
      | inl more ↦
          let to : ahead n z 1 ≡ z + 1 = mod-eq_of_lt more in
          let far = is_not (z + 1) 0 (λ e. omega (arith, e)) in
          rw to (elim (cases_eq (z + 1) v) [
            | inl e ↦
                let a = is_so (z + 1) v e in
                let b = below_not (z + 1) v (omega (arith, e)) in
                let c = below_so z v (omega (arith, e)) in
                omega (arith, a, b, c, far)
            | inr apart ↦
                let a = is_not (z + 1) v apart in
                elim (cases_lt z v) [
                  | inl less ↦
                      let b = below_so (z + 1) v (elim (cases_lt (z + 1) v) [
                        | inl k ↦ k
                        | inr k ↦ absurd (apart (omega (arith, k, less)))
                      ]) in
                      let c = below_so z v less in
                      omega (arith, a, b, c, far)
                  | inr past ↦
                      let b = below_not (z + 1) v (omega (arith, past)) in
                      let c = below_not z v past in
                      omega (arith, a, b, c, far)
                ]
          ])
      | inr last ↦
          let whole : z + 1 ≡ n = omega (arith, low, last) in
          let to : ahead n z 1 ≡ 0 = ap (λ k. k % n) whole ∙ mod_self n in
          let here = is_so 0 0 refl in
          let c = below_not z v (omega (arith, last, short)) in
          rw to (elim (cases_eq 0 v) [
            | inl e ↦ let a = is_so 0 v e in let b = below_not 0 v (omega (arith, e)) in omega (arith, a, b, c, here)
            | inr apart ↦
                let a = is_not 0 v apart in
                let b = below_so 0 v (elim (cases_lt 0 v) [
                  | inl k ↦ k
                  | inr k ↦ absurd (apart (omega (arith, k)))
                ]) in
                omega (arith, a, b, c, here)
          ])
    ]

car_balance : (n p v b : ℕ) → p < n → v < n → b < n
    → is (ahead n p v) (ahead n b 1) + below (cells_ahead_to n p (ahead n b 1)) v ≡ is p (ahead n b 1) + below (cells_ahead_to n p b) v
car_balance n p v b low short high =
    let c = ahead n b 1 in
    let some : 0 < n = omega (arith, low) in
    let c_low = ahead_below n b 1 some in
    let on : cells_ahead_to n p c ≡ ahead n (cells_ahead_to n p b) 1 = ahead_swap n b 1 (n - p) in
    let arrives = is_there n p v c low short c_low ∙ ap (λ k. is k v) on in
    let stays = is_there n p 0 c low some c_low ∙ ap (λ k. is k 0) on in
    let own : is (ahead n p 0) c ≡ is p c = ap (λ k. is k c) (ahead_none n p low) in
    let passes_on : below (cells_ahead_to n p c) v ≡ below (ahead n (cells_ahead_to n p b) 1) v = ap (λ k. below k v) on in
    let all = numbers_balance n (cells_ahead_to n p b) v (ahead_below n b (n - p) some) short in
    omega (arith, arrives, stays, own, passes_on, all)

module _ (answer : ℕ → ℕ) (old new : Lane) (m : LaneMoves answer old new) (fits : LaneFits answer old) where
  abbrev n : ℕ
  n = length old

  -- the cell that a car of the lane came from
  pub record Came (y number speed : ℕ) : Type 0 where
    pub from : ℕ
    pub before : ℕ
    pub was : at old from ≡ Some (number, before)
    pub reaches : y ≡ ahead n from speed
    pub goes : speed ≡ answer from
    pub low : from < n
    pub short : speed < n
    pub start : place_before_motion n (car_in 0 y number speed) ≡ from

  pub came_from : (y number speed : ℕ) → at new y ≡ Some (number, speed) → Came y number speed
  came_from y number speed there =
      let came = m.nothing_else y number speed there in
      let x = came.0 in
      let was = came.1.1.was in
      let at_speed = came.1.1.at_speed in
      let low = inside old x (number, came.1.0) was in
      let fit = fits.gaps x number came.1.0 was in
      let most = gap_below old x x (number, came.1.0) was in
      let short : speed < n = omega (arith, fit, most, at_speed) in
      let reaches : y ≡ ahead n x speed = came.1.1.reaches ∙ ap (ahead n x) (sym at_speed) in
      let back = ahead_back n x speed low in
      let same : n - speed % n ≡ n - speed = ap (λ k. n - k) (mod-eq_of_lt short) in
      record {
        from = x;
        before = came.1.0;
        was = was;
        reaches = reaches;
        goes = at_speed;
        low = low;
        short = short;
        start = ap (λ k. ahead n k (n - speed)) reaches ∙ sym (ap (ahead n (ahead n x speed)) same) ∙ back;
      }

  module _ (b : ℕ) (b_low : b < n) where
    abbrev c : ℕ
    c = ahead n b 1

    abbrev arrived : Car → ℕ
    arrived car = is car.place c

    abbrev passed : ℕ → Car → ℕ
    passed x car = cond (has_passed n x car) 1 0

    abbrev started : Car → ℕ
    started car = is (place_before_motion n car) c

    c_in : c < n
    c_in = ahead_below n b 1 (omega (arith, b_low))

    each_balance : (y : ℕ) (here : Cell) → at new y ≡ here
        → weight arrived 0 y here + weight (passed c) 0 y here ≡ weight started 0 y here + weight (passed b) 0 y here
    each_balance y None there = refl
    each_balance y (Some car) there =
        let came = came_from y car.0 car.1 there in
        let p = came.from in
        let start = came.start in
        let all = car_balance n p car.1 b came.low came.short b_low in
        let one : is y c ≡ is (ahead n p car.1) c = ap (λ k. is k c) came.reaches in
        let two : below (cells_ahead_to n (place_before_motion n (car_in 0 y car.0 car.1)) c) car.1 ≡ below (cells_ahead_to n p c) car.1 = ap (λ k. below (cells_ahead_to n k c) car.1) start in
        let three : is (place_before_motion n (car_in 0 y car.0 car.1)) c ≡ is p c = ap (λ k. is k c) start in
        let four : below (cells_ahead_to n (place_before_motion n (car_in 0 y car.0 car.1)) b) car.1 ≡ below (cells_ahead_to n p b) car.1 = ap (λ k. below (cells_ahead_to n k b) car.1) start in
        omega (arith, all, one, two, three, four)

    -- a car that arrives at a cell is there
    arrived_elsewhere : (y : ℕ) (here : Cell) → y ≢ c → weight arrived 0 y here ≡ 0
    arrived_elsewhere y None apart = refl
    arrived_elsewhere y (Some car) apart = is_not y c apart

    arrived_here : (here : Cell) → weight arrived 0 c here ≡ digit (is_some here)
    arrived_here None = refl
    arrived_here (Some car) = is_so c c refl

    arrived_is : total (in_cell arrived new) n ≡ digit (is_taken new c)
    arrived_is = total_at (in_cell arrived new) n c c_in (λ y low apart. arrived_elsewhere y (at new y) apart) ∙ arrived_here (at new c)

    -- a car that started from a cell was there
    started_elsewhere : (y : ℕ) (here : Cell) → at new y ≡ here → ((from : ℕ) → from ≡ c → y ≡ ahead n from (answer from) → (car : ℕ × ℕ) → at old from ≡ Some car → ⊥) → weight started 0 y here ≡ 0
    started_elsewhere y None there apart = refl
    started_elsewhere y (Some car) there apart =
        let came = came_from y car.0 car.1 there in
        ap (λ k. is k c) came.start
        ∙ is_not came.from c (λ e. apart came.from e (came.reaches ∙ ap (ahead n came.from) came.goes) (car.0, came.before) came.was)

    started_is : (here : Cell) → at old c ≡ here → total (in_cell started new) n ≡ digit (is_some here)
    started_is None was = total_none (in_cell started new) n (λ y low. started_elsewhere y (at new y) refl (λ from e reach car at_from. let f = sym at_from ∙ ap (at old) e ∙ was in absurd cc))
    started_is (Some car) was =
        let y = ahead n c (answer c) in
        let some : 0 < n = omega (arith, b_low) in
        let there = m.arrives c car.0 car.1 was in
        let came = came_from y car.0 (answer c) there in
        let same : came.from ≡ c = sym came.start ∙ (let fit = fits.gaps c car.0 car.1 was in
        let most = gap_below old c c car was in
        let short : answer c < n = omega (arith, fit, most) in
        ap (λ k. ahead n y (n - k)) (sym (mod-eq_of_lt short)) ∙ ahead_back n c (answer c) c_in) in
        let one : in_cell started new y ≡ 1 = ap (weight started 0 y) there ∙ ap (λ k. is k c) came.start ∙ is_so came.from c same in
        total_at (in_cell started new) n y (ahead_below n c (answer c) some)
        (λ z low apart. started_elsewhere z (at new z) refl (λ from e reach other at_from. apart (reach ∙ ap (λ k. ahead n k (answer k)) e)))
        ∙ one

    -- the counts of the detectors of a lane, cell by cell
    passages_are : (x : ℕ) → passages new x ≡ total (in_cell (passed x) new) n
    passages_are x =
        ap (λ k. count_by (has_passed k x) (standing_from 0 0 new)) m.same_length
        ∙ cell_sum (passed x) new
        ∙ ap (total (in_cell (passed x) new)) m.same_length

    -- one cell behind a detector
    pub cell_is_continuous : digit (is_taken new c) + passages new c ≡ digit (is_taken old c) + passages new b
    cell_is_continuous =
        let all = total_balance (in_cell arrived new) (in_cell (passed c) new) (in_cell started new) (in_cell (passed b) new) n (λ y low. each_balance y (at new y) refl) in
        let one = arrived_is in
        let two = started_is (at old c) refl in
        let three = passages_are c in
        let four = passages_are b in
        omega (arith, all, one, two, three, four)

-- one by one, the cells between two detectors
module _ (answer : ℕ → ℕ) (old new : Lane) (m : LaneMoves answer old new) (fits : LaneFits answer old) (x : ℕ) (x_low : x < length old) where
  abbrev on : ℕ → ℕ
  on i = ahead (length old) x i

  abbrev taken_on : Lane → ℕ → ℕ
  taken_on lane j = digit (is_taken lane (ahead (length lane) x j))

  next_cell : (i : ℕ) → taken_on new (suc i) + passages new (on (suc i)) ≡ taken_on old (suc i) + passages new (on i)
  next_cell i =
      let one = cell_is_continuous answer old new m fits (on i) (ahead_below (length old) x i (omega (arith, x_low))) in
      let e : i + 1 ≡ suc i = omega arith in
      let to : ahead (length old) (on i) 1 ≡ on (suc i) = ahead_more (length old) x i 1 ∙ ap on e in
      let size : ahead (length new) x (suc i) ≡ on (suc i) = ap (λ k. ahead k x (suc i)) m.same_length in
      let a : digit (is_taken new (ahead (length old) (on i) 1)) ≡ taken_on new (suc i) = ap (λ k. digit (is_taken new k)) (to ∙ sym size) in
      let b : digit (is_taken old (ahead (length old) (on i) 1)) ≡ taken_on old (suc i) = ap (λ k. digit (is_taken old k)) to in
      let c : passages new (ahead (length old) (on i) 1) ≡ passages new (on (suc i)) = ap (passages new) to in
      omega (arith, one, a, b, c)

  cells_are_continuous : (i k : ℕ) → sum_by (taken_on new) (range_with_len (suc i) k) + passages new (on (i + k)) ≡ sum_by (taken_on old) (range_with_len (suc i) k) + passages new (on i)
  cells_are_continuous i zero = let e : i + 0 ≡ i = omega arith in ap (λ j. 0 + passages new (on j)) e
  cells_are_continuous i (suc k) =
      let e : suc i + 1 ≡ suc (suc i) = omega arith in
      let a = sum_by-cons (taken_on new) (suc i) (range_with_len (suc i + 1) k) in
      let b = sum_by-cons (taken_on old) (suc i) (range_with_len (suc i + 1) k) in
      let rest = cells_are_continuous (suc i) k in
      let c : sum_by (taken_on new) (range_with_len (suc i + 1) k) ≡ sum_by (taken_on new) (range_with_len (suc (suc i)) k) = ap (λ j. sum_by (taken_on new) (range_with_len j k)) e in
      let d : sum_by (taken_on old) (range_with_len (suc i + 1) k) ≡ sum_by (taken_on old) (range_with_len (suc (suc i)) k) = ap (λ j. sum_by (taken_on old) (range_with_len j k)) e in
      let f : i + suc k ≡ suc i + k = omega arith in
      let end : passages new (on (i + suc k)) ≡ passages new (on (suc i + k)) = ap (λ j. passages new (on j)) f in
      let one = next_cell i in
      omega (arith, a, b, c, d, rest, end, one)

  pub stretch_is_continuous : (k : ℕ) → cars_ahead_of new x k + passages new (on k) ≡ cars_ahead_of old x k + passages new x
  stretch_is_continuous k =
      let all = cells_are_continuous 0 k in
      let e : 0 + k ≡ k = omega arith in
      let end : passages new (on (0 + k)) ≡ passages new (on k) = ap (λ j. passages new (on j)) e in
      let first : passages new (on 0) ≡ passages new x = ap (passages new) (ahead_none (length old) x x_low) in
      omega (arith, all, end, first)

-- the answers of the cars of any lane fit this lane
pub any_lane_fits : (speeds : ℕ → ℕ → ℕ) (road : Cells) (l : ℕ) → Fits speeds road → LaneFits (speeds l) (lane_of road l)
any_lane_fits speeds road l fits = record { gaps = λ x number speed here. (fits.each_lane l (on_lane road l x (number, speed) here)).gaps x number speed here }

pub step_is_continuous : StepSatisfiesContinuity
step_is_continuous rule dice old new tally l x k none is_next low =
    let phase = motion_alone rule dice old new tally none is_next in
    let speeds = phase.0 in
    stretch_is_continuous (speeds l) (lane_of old l) (lane_of new l) (any_lane speeds old new l phase.2)
    (any_lane_fits speeds old l (answers_fit rule.motion dice old speeds phase.1)) x low k

-- all detectors of a lane
abbrev speed_of : Car → ℕ
speed_of car = car.speed

-- no car of a lane goes more than a lap
pub record IsShort (lane : Lane) : Type 0 where
  pub short : (x number speed : ℕ) → at lane x ≡ Some (number, speed) → speed ≤ length lane

car_passes : (n y number speed : ℕ) → speed ≤ n → total (λ x. cond (has_passed n x (car_in 0 y number speed)) 1 0) n ≡ speed
car_passes n y number speed short =
    let r = n - place_before_motion n (car_in 0 y number speed) in
    let all = total_turned (λ z. below z speed) n r in
    let count = total_below speed n in
    omega (arith, all, count, short)

module _ (lane : Lane) (slow : IsShort lane) where
  abbrev passing : ℕ → ℕ → ℕ
  passing x y = in_cell (λ (car : Car). cond (has_passed (length lane) x car) 1 0) lane y

  cell_passes : (y : ℕ) (here : Cell) → at lane y ≡ here → total (λ x. weight (λ (car : Car). cond (has_passed (length lane) x car) 1 0) 0 y here) (length lane) ≡ weight speed_of 0 y here
  cell_passes y None there = total_none (λ x. 0) (length lane) (λ x low. refl)
  cell_passes y (Some car) there = car_passes (length lane) y car.0 car.1 (slow.short y car.0 car.1 there)

  pub lane_counts : all_passages lane ≡ sum_by speed_of (standing_from 0 0 lane)
  lane_counts =
      let n = length lane in
      sum_range (passages lane) 0 n
      ∙ total_same (λ x. passages lane (0 + x)) (λ x. total (passing x) n) n
      (λ x low. let e : 0 + x ≡ x = omega arith in ap (passages lane) e ∙ cell_sum (λ (car : Car). cond (has_passed n x car) 1 0) lane)
      ∙ total_swap passing n n
      ∙ total_same (λ y. total (λ x. passing x y) n) (in_cell speed_of lane) n (λ y low. cell_passes y (at lane y) refl)
      ∙ sym (cell_sum speed_of lane)

-- on any lane
same_speed : (l x y : ℕ) (here : Cell) → weight speed_of l x here ≡ weight speed_of 0 y here
same_speed l x y None = refl
same_speed l x y (Some car) = refl

any_base : (base : ℕ) (lane : Lane) → sum_by speed_of (standing_from base 0 lane) ≡ sum_by speed_of (standing_from 0 0 lane)
any_base base lane =
    sum_of_cells speed_of base 0 lane
    ∙ total_same (λ x. weight speed_of base (0 + x) (at lane x)) (λ x. weight speed_of 0 (0 + x) (at lane x)) (length lane) (λ x low. same_speed base (0 + x) (0 + x) (at lane x))
    ∙ sym (sum_of_cells speed_of 0 0 lane)

lanes_count : (base : ℕ) (lanes : List Lane) → ((l : ℕ) → l < length lanes → IsShort (get_or lanes l [])) → sum_by all_passages lanes ≡ sum_by speed_of (standing_from_lane base lanes)
lanes_count base [] slow = refl
lanes_count base (lane ∷ lanes) slow =
    let first = lane_counts lane (slow 0 (omega arith)) in
    let same = any_base base lane in
    let rest = lanes_count (suc base) lanes (λ l low. slow (suc l) (omega (arith, low))) in
    let a = sum_by-cons all_passages lane lanes in
    let b = sum_by-append speed_of (standing_from base 0 lane) (standing_from_lane (suc base) lanes) in
    omega (arith, first, same, rest, a, b)

pub detectors_count_distance : DetectorsCountDistance
detectors_count_distance rule dice road next tally is_next =
    let middle = is_next.0 in
    let phase = is_next.1.motion in
    let speeds = phase.0 in
    let fits = answers_fit rule.motion dice middle speeds phase.1 in
    let slow : (l : ℕ) → l < length next.lanes → IsShort (lane_of next l) = λ l low. record {
      short = λ y number speed there.
          let m = any_lane speeds middle next l phase.2 in
          let came = came_from (speeds l) (lane_of middle l) (lane_of next l) m (any_lane_fits speeds middle l fits) y number speed there in
          let short = came.short in
          let size = m.same_length in
          omega (arith, short, size);
    } in
    lanes_count 0 next.lanes slow ∙ sym is_next.1.distance
