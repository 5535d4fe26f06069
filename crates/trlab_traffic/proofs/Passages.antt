-- A detector counts one car in a step at most, and in v + 1 steps in a row, where v is the limit, not one in every
-- step: there is room between its passages.
use Rattle.std.proofs.Common.{◌≡◌, ℕ, ◌+◌, ◌-◌, ◌<◌, ◌≤◌, ◌⊎◌, cond, Some, None, length, refl, sym, ◌∙◌, ap}
use Rattle.std.proofs.Common.{subst, inl, inr, arith, zero, suc, true, is_some, Bool, count_by, nat_le}
use Rattle.std.proofs.{Common.le-leb, lemmas.Bool.{cases_lt, lt-leb}}
use Rattle.trlab_road.specs.{declared.car.Car.Car, Cells.{Cell, Lane, at, lane_of, Cells, standing_from}}
use Rattle.trlab_road.specs.{Cells.IsLegal, Gaps.{ahead, gap}, Motion.{LaneFits, LaneMoves}}
use Rattle.trlab_road.proofs.Ring.{car_in, clear_within_gap, inside}
use Rattle.trlab_step.{specs.Run.{IsRoadAt, Seed, Sheet, dice_at}, proofs.RunLaws.{force_all, road_at_is_one}}
use Rattle.trlab_traffic.specs.{Terms.{is_taken, EachRule, StaysInLane}, Detectors.DetectorCountsAtMostOne}
use Rattle.trlab_traffic.specs.Detectors.{passages, has_passed, place_before_motion, cells_ahead_to}
use Rattle.trlab_traffic.specs.Detectors.{cars_ahead_of, DetectorHasCounted, DetectorCountsBelowPeak}
use Rattle.trlab_traffic.proofs.Lanes.{ahead_below, ahead_more, ahead_once, below_cases, below_is, cell_sum}
use Rattle.trlab_traffic.proofs.{Lanes.{in_cell, single, total, weight, ahead_none, below}, Steps.answers_fit}
use Rattle.trlab_traffic.proofs.{Steps.motion_alone, Courses.run_like, Influence.any_lane}
use Rattle.trlab_traffic.proofs.Detecting.{any_lane_fits, came_from, way_reaches, step_is_continuous}
use Rattle.trlab_traffic.proofs.{FewCars.run_cars, DetectingRuns.{counted_so, uncounted_so}}

module _ (answer : ℕ → ℕ) (old new : Lane) (m : LaneMoves answer old new) (fits : LaneFits answer old) (x : ℕ) (x_low : x < length old) where
  -- of two cars that pass a detector, neither is behind the other
  not_behind : (p q v u : ℕ) (car other : ℕ × ℕ) → at old p ≡ Some car → at old q ≡ Some other → v ≤ gap old p → cells_ahead_to (length old) p x < v → cells_ahead_to (length old) q x < cells_ahead_to (length old) p x → ⊥
  not_behind p q v u car other here there room far behind =
      let k = cells_ahead_to (length old) p x - cells_ahead_to (length old) q x in
      let low = inside old p car here in
      let high = inside old q other there in
      let e : k + cells_ahead_to (length old) q x ≡ cells_ahead_to (length old) p x = omega (arith, behind) in
      let meet : ahead (length old) (ahead (length old) p k) (cells_ahead_to (length old) q x) ≡ ahead (length old) q (cells_ahead_to (length old) q x) =
      ahead_more (length old) p k (cells_ahead_to (length old) q x) ∙ ap (ahead (length old) p) e ∙ way_reaches (length old) p x low x_low ∙ sym (way_reaches (length old) q x high x_low) in
      let same = ahead_once (length old) (ahead (length old) p k) q (cells_ahead_to (length old) q x) (ahead_below (length old) p k (omega (arith, low))) high meet in
      let free = (clear_within_gap old p v room).clear k (omega (arith, behind)) (omega (arith, far)) in
      let f = sym there ∙ sym (ap (at old) same) ∙ free in
      absurd cc

  abbrev passing_at : ℕ → ℕ
  passing_at y = in_cell (λ (car : Car). cond (has_passed (length old) x car) 1 0) new y

  passing_cases : (y : ℕ) (here : Cell) → let w = weight (λ (car : Car). cond (has_passed (length old) x car) 1 0) 0 y here in (w ≡ 0) ⊎ (w ≡ 1)
  passing_cases y None = inl refl
  passing_cases y (Some car) = below_cases (cells_ahead_to (length old) (place_before_motion (length old) (car_in 0 y car.0 car.1)) x) car.1

  -- a car that passes
  record Passing (y : ℕ) : Type 0 where
    number : ℕ
    speed : ℕ
    there : at new y ≡ Some (number, speed)
    far : cells_ahead_to (length old) (place_before_motion (length old) (car_in 0 y number speed)) x < speed

  passing_car : (y : ℕ) (here : Cell) → at new y ≡ here → weight (λ (car : Car). cond (has_passed (length old) x car) 1 0) 0 y here ≡ 1 → Passing y
  passing_car y None there passed = absurd (omega (arith, passed))
  passing_car y (Some car) there passed = record { number = car.0; speed = car.1; there = there; far = below_is (cells_ahead_to (length old) (place_before_motion (length old) (car_in 0 y car.0 car.1)) x) car.1 passed }

  one_passes : (y z : ℕ) → Passing y → Passing z → y ≡ z
  one_passes y z a b =
      let from = came_from answer old new m fits y a.number a.speed a.there in
      let other = came_from answer old new m fits z b.number b.speed b.there in
      let p = from.from in
      let q = other.from in
      let far : cells_ahead_to (length old) p x < a.speed = subst (λ k. cells_ahead_to (length old) k x < a.speed) from.start a.far in
      let far_other : cells_ahead_to (length old) q x < b.speed = subst (λ k. cells_ahead_to (length old) k x < b.speed) other.start b.far in
      let goes = from.goes in
      let goes_other = other.goes in
      let fit = fits.gaps p a.number from.before from.was in
      let fit_other = fits.gaps q b.number other.before other.was in
      elim (cases_lt (cells_ahead_to (length old) q x) (cells_ahead_to (length old) p x)) [
        | inl behind ↦ absurd (not_behind p q a.speed b.speed (a.number, from.before) (b.number, other.before) from.was other.was (omega (arith, goes, fit)) far behind)
        | inr not_less ↦ elim (cases_lt (cells_ahead_to (length old) p x) (cells_ahead_to (length old) q x)) [
          | inl behind ↦ absurd (not_behind q p b.speed a.speed (b.number, other.before) (a.number, from.before) other.was from.was (omega (arith, goes_other, fit_other)) far_other behind)
          | inr not_more ↦
              let level : cells_ahead_to (length old) p x ≡ cells_ahead_to (length old) q x = omega (arith, not_less, not_more) in
              let meet : ahead (length old) p (cells_ahead_to (length old) q x) ≡ ahead (length old) q (cells_ahead_to (length old) q x) =
              sym (ap (ahead (length old) p) level) ∙ way_reaches (length old) p x from.low x_low ∙ sym (way_reaches (length old) q x other.low x_low) in
              let same : p ≡ q = ahead_once (length old) p q (cells_ahead_to (length old) q x) from.low other.low meet in
              from.reaches ∙ ap (ahead (length old) p) goes ∙ ap (λ k. ahead (length old) k (answer k)) same ∙ sym (ap (ahead (length old) q) goes_other) ∙ sym other.reaches
        ]
      ]

  pub one_at_most : passages new x ≤ 1
  one_at_most =
      let n = length old in
      let f : Car → ℕ = λ car. cond (has_passed n x car) 1 0 in
      let are = ap (λ k. count_by (has_passed k x) (standing_from 0 0 new)) m.same_length ∙ cell_sum f new ∙ ap (total (in_cell f new)) m.same_length in
      let all = single passing_at n (λ y low. passing_cases y (at new y)) (λ y z low high a b. one_passes y z (passing_car y (at new y) refl a) (passing_car z (at new z) refl b)) in
      omega (arith, are, all)

pub detector_counts_one : DetectorCountsAtMostOne
detector_counts_one rule dice road next tally l x is_next low =
    let middle = is_next.0 in
    let phase = is_next.1.motion in
    let speeds = phase.0 in
    let m = any_lane speeds middle next l phase.2 in
    let size = m.same_length in
    one_at_most (speeds l) (lane_of middle l) (lane_of next l) m (any_lane_fits speeds middle l (answers_fit rule.motion dice middle speeds phase.1)) x (omega (arith, low, size))

-- In v_max + 1 consecutive steps, not every step has a passage of a detector.

-- a nonzero sum has a nonzero term
some_value : (w : ℕ → ℕ) (n : ℕ) → 1 ≤ total w n → (y : ℕ) × ((y < n) × (1 ≤ w y))
some_value w zero some = absurd (omega (arith, some))
some_value w (suc n) some =
    elim (cases_lt 0 (w 0)) [
      | inl here ↦ (0, (omega arith, omega (arith, here)))
      | inr none ↦
          let rest = some_value (λ x. w (suc x)) n (omega (arith, some, none)) in
          let low = rest.1.0 in
          (suc rest.0, (omega (arith, low), rest.1.1))
    ]

module _ (answer : ℕ → ℕ) (old new : Lane) (m : LaneMoves answer old new) (fits : LaneFits answer old) where
  -- a car that passes a detector
  record Passer (x : ℕ) : Type 0 where
    from : ℕ
    number : ℕ
    before : ℕ
    was : at old from ≡ Some (number, before)
    far : cells_ahead_to (length old) from x < answer from

  passer_at : (x y : ℕ) (here : Cell) → at new y ≡ here → 1 ≤ weight (λ (car : Car). cond (has_passed (length old) x car) 1 0) 0 y here → Passer x
  passer_at x y None there some = absurd (omega (arith, some))
  passer_at x y (Some car) there some =
      let came = came_from answer old new m fits y car.0 car.1 there in
      let one : below (cells_ahead_to (length old) (place_before_motion (length old) (car_in 0 y car.0 car.1)) x) car.1 ≡ 1 = (elim (below_cases (cells_ahead_to (length old) (place_before_motion (length old) (car_in 0 y car.0 car.1)) x) car.1) [
        | inl none ↦ absurd (omega (arith, some, none))
        | inr is ↦ is
      ]) in
      let far : cells_ahead_to (length old) (place_before_motion (length old) (car_in 0 y car.0 car.1)) x < car.1 = below_is (cells_ahead_to (length old) (place_before_motion (length old) (car_in 0 y car.0 car.1)) x) car.1 one in
      let short : cells_ahead_to (length old) came.from x < car.1 = subst (λ k. cells_ahead_to (length old) k x < car.1) came.start far in
      let goes = came.goes in
      record { from = came.from; number = car.0; before = came.before; was = came.was; far = omega (arith, short, goes) }

  passer : (x : ℕ) → 1 ≤ passages new x → Passer x
  passer x some =
      let f : Car → ℕ = λ car. cond (has_passed (length old) x car) 1 0 in
      let are = ap (λ k. count_by (has_passed k x) (standing_from 0 0 new)) m.same_length ∙ cell_sum f new in
      let found = some_value (in_cell f new) (length new) (omega (arith, some, are)) in
      passer_at x found.0 (at new found.0) refl found.1.1

  -- the cell ahead of a detector that is passed was empty
  was_free : (x : ℕ) → x < length old → 1 ≤ passages new x → at old (ahead (length old) x 1) ≡ None
  was_free x low some =
      let p = passer x some in
      let n = length old in
      let far = p.far in
      let fit = fits.gaps p.from p.number p.before p.was in
      let w = cells_ahead_to n p.from x in
      let inside_ring : p.from < n = inside old p.from (p.number, p.before) p.was in
      let clear = (clear_within_gap old p.from (w + 1) (omega (arith, far, fit))).clear (w + 1) (omega arith) (omega arith) in
      let place : ahead n x 1 ≡ ahead n p.from (w + 1) = ap (λ k. ahead n k 1) (sym (way_reaches n p.from x inside_ring low)) ∙ ahead_more n p.from w 1 in
      ap (at old) place ∙ clear

  -- a car that passes a detector is ahead of it by at most the limit
  record Ends (limit x : ℕ) : Type 0 where
    on : ℕ
    some : 1 ≤ on
    few : on ≤ limit
    taken : is_taken new (ahead (length old) x on) ≡ true

  ends : (limit x : ℕ) → x < length old → ((y number speed : ℕ) → at old y ≡ Some (number, speed) → answer y ≤ limit) → 1 ≤ passages new x → Ends limit x
  ends limit x low slow some =
      let p = passer x some in
      let n = length old in
      let far = p.far in
      let most = slow p.from p.number p.before p.was in
      let w = cells_ahead_to n p.from x in
      let inside_ring : p.from < n = inside old p.from (p.number, p.before) p.was in
      let whole : w + (answer p.from - w) ≡ answer p.from = omega (arith, far) in
      let place : ahead n x (answer p.from - w) ≡ ahead n p.from (answer p.from) = ap (λ j. ahead n j (answer p.from - w)) (sym (way_reaches n p.from x inside_ring low)) ∙ ahead_more n p.from w (answer p.from - w) ∙ ap (ahead n p.from) whole in
      record {
        on = answer p.from - w;
        some = omega (arith, far);
        few = omega (arith, most);
        taken = ap (λ j. is_some (at new j)) place ∙ ap is_some (m.arrives p.from p.number p.before p.was);
      }

-- one cell ahead of a detector
one_ahead : (lane : Lane) (x : ℕ) → cars_ahead_of lane x 1 ≡ cond (is_taken lane (ahead (length lane) x 1)) 1 0
one_ahead lane x = omega arith

none_ahead : (lane : Lane) (x : ℕ) → at lane (ahead (length lane) x 1) ≡ None → cars_ahead_of lane x 1 ≡ 0
none_ahead lane x free = one_ahead lane x ∙ ap (λ c. cond (is_some c) 1 0) free

module _ (seed : Seed) (sheet : Sheet) (legal : IsLegal seed.road) (nobody : EachRule StaysInLane sheet) (l : ℕ) where
  abbrev n : ℕ
  n = length (lane_of seed.road l)

  -- a lane in a step of the run
  record LaneStep (t : ℕ) (road : Cells) : Type 0 where
    old : Cells
    old_is : IsRoadAt seed sheet t old
    answer : ℕ → ℕ
    size : length (lane_of old l) ≡ n
    moves : LaneMoves answer (lane_of old l) (lane_of road l)
    fits : LaneFits answer (lane_of old l)
    slow : (y number speed : ℕ) → at (lane_of old l) y ≡ Some (number, speed) → answer y ≤ seed.road.limit
    one : (x : ℕ) → x < n → passages (lane_of road l) x ≤ 1
    goes_on : (x : ℕ) → x < n → cars_ahead_of (lane_of road l) x 1 + passages (lane_of road l) (ahead n x 1) ≡ cars_ahead_of (lane_of old l) x 1 + passages (lane_of road l) x

  lane_step : (t : ℕ) (road : Cells) → IsRoadAt seed sheet (suc t) road → LaneStep t road
  lane_step t road is =
      let comes = is.1 in
      let old = comes.0 in
      let rule = comes.2 in
      let tally = comes.3 in
      let go = comes.5 in
      let dice = dice_at seed t in
      let none = force_all StaysInLane sheet t rule nobody go.under in
      let phase = motion_alone rule dice old road tally none go.next in
      let speeds = phase.0 in
      let fits = answers_fit rule.motion dice old speeds phase.1 in
      let m = any_lane speeds old road l phase.2 in
      let size = (run_cars seed sheet t old comes.1 l nobody comes.4).size in
      let like = run_like seed sheet t old comes.1 legal comes.4 in
      let same = m.same_length in
      record {
        old = old;
        old_is = (comes.1, comes.4);
        answer = speeds l;
        size = size;
        moves = m;
        fits = any_lane_fits speeds old l fits;
        slow = λ y number speed here. subst (λ v. speeds l y ≤ v) like.same_limit (fits.within_limit (car_in l y number speed) here);
        one = λ x low. detector_counts_one rule dice old road tally l x go.next (omega (arith, low, size, same));
        goes_on = λ x low.
            let all = step_is_continuous rule dice old road tally l x 1 none go.next (omega (arith, low, size)) in
            let end : passages (lane_of road l) (ahead (length (lane_of old l)) x 1) ≡ passages (lane_of road l) (ahead n x 1) = ap (λ k. passages (lane_of road l) (ahead k x 1)) size in
            omega (arith, all, end);
      }

  -- a detector has a passage in a step
  abbrev Passed : ℕ → ℕ → Type 0
  Passed t x = (road : Cells) × (IsRoadAt seed sheet (suc t) road × (1 ≤ passages (lane_of road l) x))

  free_before : (t x : ℕ) (road : Cells) → (s : LaneStep t road) → x < n → 1 ≤ passages (lane_of road l) x → cars_ahead_of (lane_of s.old l) x 1 ≡ 0
  free_before t x road s low some =
      let size = s.size in
      none_ahead (lane_of s.old l) x (was_free s.answer (lane_of s.old l) (lane_of road l) s.moves s.fits x (omega (arith, low, size)) some)

  -- if a detector has passages in two consecutive steps, the next one has a passage in the first of them
  next_passed : (t x : ℕ) → x < n → Passed t x → Passed (suc t) x → Passed t (ahead n x 1)
  next_passed t x low first second =
      let s = lane_step (suc t) second.0 second.1.0 in
      let same = road_at_is_one seed sheet (suc t) first.0 s.old first.1.0 s.old_is in
      let some : 1 ≤ passages (lane_of s.old l) x = subst (λ (r : Cells). 1 ≤ passages (lane_of r l) x) same first.1.1 in
      let free = free_before (suc t) x second.0 s low second.1.1 in
      let before = lane_step t s.old s.old_is in
      let all = before.goes_on x low in
      (s.old, (s.old_is, omega (arith, all, free, some)))

  further_passed : (k t x : ℕ) → x < n → ((j : ℕ) → j ≤ k → Passed (t + j) x) → Passed t (ahead n x k)
  further_passed zero t x low each =
      let e : t + 0 ≡ t = omega arith in
      subst (λ y. Passed t y) (sym (ahead_none n x low)) (subst (λ u. Passed u x) e (each 0 (omega arith)))
  further_passed (suc k) t x low each =
      let rest = further_passed k t (ahead n x 1) (ahead_below n x 1 (omega (arith, low))) (λ j few.
      let e : t + suc j ≡ suc (t + j) = omega arith in
      next_passed (t + j) x low (each j (omega (arith, few))) (subst (λ u. Passed u x) e (each (suc j) (omega (arith, few))))) in
      let e : 1 + k ≡ suc k = omega arith in
      subst (λ y. Passed t y) (ahead_more n x 1 k ∙ ap (ahead n x) e) rest

  stands_ahead : (lane : Lane) (cells size x i y : ℕ) → length lane ≡ cells → cells ≡ size → ahead cells y 1 ≡ ahead cells x i → is_taken lane (ahead size x i) ≡ true → cars_ahead_of lane y 1 ≡ 1
  stands_ahead lane cells size x i y own other place taken =
      let number : Bool → ℕ = λ b. cond b 1 0 in
      let here : is_taken lane (ahead (length lane) y 1) ≡ is_taken lane (ahead size x i) = ap (λ k. is_taken lane (ahead k y 1)) own ∙ ap (is_taken lane) place ∙ ap (λ k. is_taken lane (ahead k x i)) other in
      let one = ap number here in
      let same = ap number taken in
      let stands = one_ahead lane y in
      omega (arith, one, same, stands)

  -- a car passes at most as many consecutive detectors as the limit
  not_all : (t x : ℕ) → x < n → ((j : ℕ) → j ≤ seed.road.limit → Passed t (ahead n x j)) → ⊥
  not_all t x low each =
      let first = each 0 (omega arith) in
      let road = first.0 in
      let s = lane_step t road first.1.0 in
      let here : (j : ℕ) → j ≤ seed.road.limit → 1 ≤ passages (lane_of road l) (ahead n x j) = λ j few.
      let p = each j few in
      subst (λ (r : Cells). 1 ≤ passages (lane_of r l) (ahead n x j)) (road_at_is_one seed sheet (suc t) p.0 road p.1.0 first.1.0) p.1.1 in
      let size = s.size in
      let at_first : 1 ≤ passages (lane_of road l) x = subst (λ y. 1 ≤ passages (lane_of road l) y) (ahead_none n x low) (here 0 (omega arith)) in
      let e = ends s.answer (lane_of s.old l) (lane_of road l) s.moves s.fits seed.road.limit x (omega (arith, low, size)) s.slow at_first in
      let i = e.on in
      let some = e.some in
      let few = e.few in
      let y_low : ahead n x (i - 1) < n = ahead_below n x (i - 1) (omega (arith, low)) in
      let step : ahead n (ahead n x (i - 1)) 1 ≡ ahead n x i = (let f : i - 1 + 1 ≡ i = omega (arith, some) in ahead_more n x (i - 1) 1 ∙ ap (ahead n x) f) in
      let behind = here (i - 1) (omega (arith, few)) in
      let there : 1 ≤ passages (lane_of road l) (ahead n (ahead n x (i - 1)) 1) = subst (λ z. 1 ≤ passages (lane_of road l) z) (sym step) (here i few) in
      let one = s.one (ahead n x (i - 1)) y_low in
      let free = free_before t (ahead n x (i - 1)) road s y_low behind in
      let all = s.goes_on (ahead n x (i - 1)) y_low in
      let new_size : length (lane_of road l) ≡ n = s.moves.same_length ∙ s.size in
      let stands = stands_ahead (lane_of road l) n (length (lane_of s.old l)) x i (ahead n x (i - 1)) new_size (sym s.size) step e.taken in
      omega (arith, one, free, all, there, stands)

  -- a count is at most the number of steps, and if it equals this number, each step has a passage
  record Each (x step count : ℕ) : Type 0 where
    few : count ≤ step - seed.warm
    each : count ≡ step - seed.warm → (t : ℕ) → seed.warm ≤ t → t < step → Passed t x

  each_step : (x : ℕ) → x < n → (step count : ℕ) → DetectorHasCounted seed sheet l x step count → Each x step count
  each_step x low zero count counts = record { few = omega (arith, counts); each = λ all t late early. absurd (omega (arith, early)) }
  each_step x low (suc step) count counts =
      let road = counts.0 in
      let rest = each_step x low step counts.1 counts.3 in
      let few = rest.few in
      let s = lane_step step road counts.2 in
      let one = s.one x low in
      elim (cases_lt step seed.warm) [
        | inl early ↦
            let same = uncounted_so (nat_le seed.warm step) count counts.1 (passages (lane_of road l) x) counts.4 (lt-leb seed.warm step early) in
            record { few = omega (arith, few, same, early); each = λ all t late soon. absurd (omega (arith, late, soon, early)) }
        | inr late ↦
            let more = counted_so (nat_le seed.warm step) count counts.1 (passages (lane_of road l) x) counts.4 (le-leb seed.warm step late) in
            record {
              few = omega (arith, few, more, one, late);
              each = λ all t from soon.
                  elim (cases_lt t step) [
                    | inl before ↦ rest.each (omega (arith, all, more, one, few, late)) t from before
                    | inr now ↦
                        let e : step ≡ t = omega (arith, now, soon) in
                        subst (λ u. Passed u x) e (road, (counts.2, omega (arith, all, more, few, late)))
                  ];
            }
      ]

pub detector_counts_below_peak : DetectorCountsBelowPeak
detector_counts_below_peak seed sheet step l x count nobody legal low soon counts =
    elim (cases_lt seed.road.limit count) [
      | inl many ↦
          let each = each_step seed sheet legal nobody l x low step count counts in
          let few = each.few in
          let passed = each.each (omega (arith, few, many, soon)) in
          absurd (not_all seed sheet legal nobody l seed.warm x low (λ k within.
          further_passed seed sheet legal nobody l k seed.warm x low (λ j less. passed (seed.warm + j) (omega arith) (omega (arith, less, within, few, many)))))
      | inr few ↦ few
    ]
