-- Without randomization acceleration holds cars back only in the first steps; from then on each moves by the limit or
-- its gap, whichever is smaller, so the lane leaps.
use Rattle.std.proofs.Common.{◌≡◌, ℕ, zero, suc, ◌+◌, ◌-◌, ◌*◌, ◌%◌, ◌<◌, ◌≤◌, ◌⊎◌, min, is_some, Some}
use Rattle.std.proofs.Common.{length, refl, sym, ◌∙◌, ap, subst, inl, inr, arith, mod-eq_of_lt, mul-add}
use Rattle.std.proofs.{Common.{mul-suc, mul_comm, suc-mul, sum_by, mod-lt}, lemmas.Bool.cases_lt}
use Rattle.std.proofs.lemmas.Option.{some_pair_parts}
use Rattle.trlab_road.specs.{declared.car.Car.Car, Cells.{Cell, Lane, at, cars, lane_car_count}}
use Rattle.trlab_road.specs.{Cells.standing_from, Gaps.{ahead, gap, next_place}, Motion.{LaneFits, LaneMoves}}
use Rattle.trlab_road.proofs.{MotionLaws.lane_same_count, Ring.{apart_within_gaps, blocked, clear_within_gap}}
use Rattle.trlab_road.proofs.{Ring.inside, StandingOrder.{length-standing_from, rank_below}}
use Rattle.trlab_traffic.{specs.{Terms.{lane_empty_cells, is_taken}, LimitOne.digit}, proofs.Lanes.ahead_more}
use Rattle.trlab_traffic.proofs.{Lanes.{clear_is_gap, sum_at_cars, total}, RoomAhead.lane_taken_or_empty}
use Rattle.trlab_traffic.proofs.{FreeFlow.sum_by-same, Gaps.{gap_after, next_taken, gaps_total}}
use Rattle.trlab_traffic.proofs.Heights.{digit_at, taken_total, last_of, window, window_none, window_has}
use Rattle.trlab_traffic.proofs.{Heights.{window_last, window_slides}, Leaping.{Leaps, few_near, leaps_more}}
use Rattle.trlab_traffic.proofs.Leaping.{none_is_empty, one_is_car, some_near}

-- no car's gap is below the speed of the next car ahead
pub record Settled (lane : Lane) : Type 0 where
  room : (x number speed : ℕ) (next : ℕ × ℕ) → at lane x ≡ Some (number, speed) → at lane (next_place lane x) ≡ Some next → next.1 ≤ gap lane x

-- a car is not held back by acceleration, or has gained speed in each step
abbrev pub Quick : ℕ → ℕ → ℕ → ℕ → Type 0
Quick limit t speed g = (min limit g ≤ speed + 1) ⊎ (t ≤ speed + 1)

pub record AreQuick (limit t : ℕ) (lane : Lane) : Type 0 where
  pub quick : (x number speed : ℕ) → at lane x ≡ Some (number, speed) → Quick limit t speed (gap lane x)

-- one more step of a car: from its speed, its gap and the speeds of the next car
quick_on : (limit t speed g a b ahead_speed after : ℕ) → a ≡ min (min (speed + 1) limit) g → b ≤ ahead_speed + 1 → ahead_speed ≤ g → after ≡ g - a + b → Quick limit t speed g → Quick limit (suc t) a after
quick_on limit t speed g a b ahead_speed after goes slow room is (inl ready) =
    inl (let k : min limit after ≤ a + 1 = omega (arith, goes, slow, room, is, ready) in k)
quick_on limit t speed g a b ahead_speed after goes slow room is (inr gained) =
    elim (cases_lt (speed + 1) (min limit g)) [
      | inl held ↦ inr (let k : suc t ≤ a + 1 = omega (arith, goes, held, gained) in k)
      | inr ready ↦ inl (let k : min limit after ≤ a + 1 = omega (arith, goes, slow, room, is, ready) in k)
    ]

module _ (limit : ℕ) (answer : ℕ → ℕ) (old new : Lane) (m : LaneMoves answer old new) (fits : LaneFits answer old)
    (goes : (x number speed : ℕ) → at old x ≡ Some (number, speed) → answer x ≡ min (min (speed + 1) limit) (gap old x)) where
  -- a car, by the cell that it came from, and the next car
  record From (y speed : ℕ) : Type 0 where
    x : ℕ
    number : ℕ
    before : ℕ
    next : ℕ × ℕ
    was : at old x ≡ Some (number, before)
    next_was : at old (next_place old x) ≡ Some next
    place : y ≡ ahead (length old) x (answer x)
    at_speed : speed ≡ answer x
    gap_is : gap new y ≡ gap old x - answer x + answer (next_place old x)
    within : answer x ≤ gap old x

  from : (y number speed : ℕ) → at new y ≡ Some (number, speed) → From y speed
  from y number speed there =
      let came = m.nothing_else y number speed there in
      let x = came.0 in
      let was = came.1.1.was in
      let next = next_taken old x (number, came.1.0) was in
      record {
        x = x;
        number = number;
        before = came.1.0;
        next = next.0;
        was = was;
        next_was = next.1;
        place = came.1.1.reaches;
        at_speed = came.1.1.at_speed;
        gap_is = ap (gap new) came.1.1.reaches ∙ gap_after answer old new m fits x number came.1.0 was;
        within = fits.gaps x number came.1.0 was;
      }

  pub settles : Settled new
  settles = record {
    room = λ y number speed next there next_there.
        let f = from y number speed there in
        let n = length old in
        let a = answer f.x in
        let p = next_place old f.x in
        let b = answer p in
        let is = f.gap_is in
        let within = f.within in
        let far : a + (gap new y + 1) ≡ gap old f.x + 1 + b = omega (arith, is, within) in
        let to : next_place new y ≡ ahead n p b =
        ap (λ k. ahead k y (gap new y + 1)) m.same_length
        ∙ ap (λ k. ahead n k (gap new y + 1)) f.place
        ∙ ahead_more n f.x a (gap new y + 1)
        ∙ ap (ahead n f.x) far
        ∙ sym (ahead_more n f.x (gap old f.x + 1) b) in
        let arrived = m.arrives p f.next.0 f.next.1 f.next_was in
        let speeds = (some_pair_parts next.0 f.next.0 next.1 b (sym next_there ∙ ap (at new) to ∙ arrived)).1 in
        omega (arith, speeds, is, within);
  }

  pub quickens : (t : ℕ) → Settled old → AreQuick limit t old → AreQuick limit (suc t) new
  quickens t settled are = record {
    quick = λ y number speed there.
        let f = from y number speed there in
        let p = next_place old f.x in
        let slow = goes p f.next.0 f.next.1 f.next_was in
        let q = quick_on limit t f.before (gap old f.x) (answer f.x) (answer p) f.next.1 (gap new y) (goes f.x f.number f.before f.was) (omega (arith, slow))
        (settled.room f.x f.number f.before f.next f.was f.next_was) f.gap_is (are.quick f.x f.number f.before f.was) in
        subst (λ v. Quick limit (suc t) v (gap new y)) (sym f.at_speed) q;
  }

-- a lane that has leapt for a number of steps, from some lane with its numbers of cells and cars
pub record Leaping (limit cells count k : ℕ) (lane : Lane) : Type 0 where
  pub first : Lane
  pub size : length first ≡ cells
  pub full : lane_car_count first ≡ count
  pub leaps : Leaps limit first lane k

-- a number of steps in which one car at the limit goes as far as all cars of a lane can in one
abbrev pub Suffices : ℕ → ℕ → ℕ → ℕ → Type 0
Suffices limit cells count steps = min (limit * count) (cells - count) ≤ limit * steps

-- a lane on its way
pub record OnWay (limit cells count wait t : ℕ) (lane : Lane) : Type 0 where
  pub size : length lane ≡ cells
  pub settled : 1 ≤ t → Settled lane
  pub quick : 1 ≤ t → AreQuick limit t lane
  pub soon : Suffices limit cells count wait
  pub leaping : limit ≤ t → lane_car_count lane ≡ count → Leaping limit cells count (t - limit) lane

-- no car is held back by acceleration any more
pub ready : (limit t : ℕ) (lane : Lane) (answer : ℕ → ℕ) → 1 ≤ limit → limit ≤ t → AreQuick limit t lane → ((x number speed : ℕ) → at lane x ≡ Some (number, speed) → answer x ≡ min (min (speed + 1) limit) (gap lane x))
    → (x number speed : ℕ) → at lane x ≡ Some (number, speed) → answer x ≡ min limit (gap lane x)
ready limit t lane answer some late are goes x number speed here =
    let far = goes x number speed here in
    elim (are.quick x number speed here) [
      | inl fast ↦ omega (arith, far, fast)
      | inr gained ↦ omega (arith, far, gained, late)
    ]

-- the gaps of a lane on which no two cars are near, and of a lane on which no two are far apart
wide_gap : (limit : ℕ) (lane : Lane) (x : ℕ) (car : ℕ × ℕ) → limit < length lane → at lane x ≡ Some car → window (digit_at lane) x (suc limit) ≤ 1 → limit ≤ gap lane x
wide_gap limit lane x car short here few =
    let d = digit_at lane in
    let low = inside lane x car here in
    let zeroth : x + 0 ≡ x = omega arith in
    let own : d x ≡ 1 = ap (λ k. digit (is_taken lane k)) (mod-eq_of_lt low) ∙ ap (λ (c : Cell). digit (is_some c)) here in
    let slide = window_slides d x limit in
    let last = window_last d x limit in
    let none : window d (suc x) limit ≡ 0 = omega (arith, few, own, slide, last) in
    clear_is_gap lane x limit short (record {
      clear = λ j least most.
          let i = j - 1 in
          let e : x + j ≡ suc x + i = omega (arith, least) in
          let has = window_has d (suc x) limit i (omega (arith, least, most)) in
          ap (λ k. at lane (k % length lane)) e ∙ none_is_empty lane ((suc x + i) % length lane) (let g : d (suc x + i) ≡ 0 = omega (arith, has, none) in g);
    })

tight_gap : (limit : ℕ) (lane : Lane) (x : ℕ) (car : ℕ × ℕ) → at lane x ≡ Some car → 1 ≤ window (digit_at lane) (suc x) (suc limit) → gap lane x ≤ limit
tight_gap limit lane x car here some =
    let d = digit_at lane in
    let last = last_of d (suc x) (suc limit) some in
    let i = last.0 in
    let below = last.1.low in
    let there = one_is_car lane ((suc x + i) % length lane) last.1.some in
    let e : x + (i + 1) ≡ suc x + i = omega arith in
    let before = blocked lane x (gap lane x) (i + 1) ((suc x + i) % length lane) there.0 (clear_within_gap lane x (gap lane x) (omega arith)) there.1 (omega arith) (ap (λ k. k % length lane) e) in
    omega (arith, before, below)

-- as many steps as cars
each_has_one : (limit a b : ℕ) → 1 ≤ limit → limit * a ≤ limit * b → a ≤ b
each_has_one limit a b some less =
    elim (cases_lt b a) [
      | inl more ↦
          let d = a - suc b in
          let e : suc b + d ≡ a = omega (arith, more) in
          let f = sym (ap (λ k. limit * k) e) ∙ mul-add limit (suc b) d in
          let g = mul-suc limit b in
          absurd (omega (arith, f, g, less, some))
      | inr fine ↦ fine
    ]

-- the cars of a lane that has leapt for long enough: each moves by its gap, or each at the limit
module _ (limit cells count k : ℕ) (lane : Lane) (answer : ℕ → ℕ) (some_limit : 1 ≤ limit) (some_cell : 1 ≤ cells) (size : length lane ≡ cells) (full : lane_car_count lane ≡ count)
    (leaping : Leaping limit cells count k lane) (soon : Suffices limit cells count (k + 1)) where
  pub near_some : cells ≤ suc limit * count → (y : ℕ) → 1 ≤ window (digit_at lane) y (suc limit)
  near_some many y =
      let first_size = leaping.size in
      let first_full = leaping.full in
      let product = suc-mul limit count in
      let factor : suc limit * lane_car_count leaping.first ≡ suc limit * count = ap (λ j. suc limit * j) first_full in
      some_near limit leaping.first lane k y leaping.leaps (omega (arith, size, some_cell)) (omega (arith, many, factor, first_size)) (omega (arith, soon, many, product, first_size, first_full))

  pub near_few : suc limit * count ≤ cells → (y : ℕ) → window (digit_at lane) y (suc limit) ≤ 1
  near_few few y =
      let first_size = leaping.size in
      let first_full = leaping.full in
      let product = suc-mul limit count in
      let factor : suc limit * lane_car_count leaping.first ≡ suc limit * count = ap (λ j. suc limit * j) first_full in
      elim (cases_lt 0 count) [
        | inl cars ↦
            let round = each_has_one limit count (k + 1) some_limit (omega (arith, soon, few, product)) in
            few_near limit leaping.first lane k y leaping.leaps (omega (arith, size, some_cell)) (omega (arith, few, factor, first_size)) (omega (arith, round, first_full)) (omega (arith, cars, first_full))
        | inr empty ↦
            let none : total (λ x. digit (is_taken lane x)) (length lane) ≡ 0 = taken_total lane ∙ (let e : lane_car_count lane ≡ 0 = omega (arith, full, empty) in e) in
            let all = window_none (digit_at lane) y (suc limit)
            (λ i low. total_zero (λ x. digit (is_taken lane x)) (length lane) none ((y + i) % length lane) (mod-lt (y + i) (omega (arith, size, some_cell)))) in
            omega (arith, all)
      ]
    where
      total_zero : (w : ℕ → ℕ) (n : ℕ) → total w n ≡ 0 → (i : ℕ) → i < n → w i ≡ 0
      total_zero w zero none i low = absurd (omega (arith, low))
      total_zero w (suc n) none zero low = omega (arith, none)
      total_zero w (suc n) none (suc i) low = total_zero (λ x. w (suc x)) n (omega (arith, none)) i (omega (arith, low))

  module _ (goes : (x number speed : ℕ) → at lane x ≡ Some (number, speed) → answer x ≡ min limit (gap lane x)) where
    pub by_gap : cells ≤ suc limit * count → (x number speed : ℕ) → at lane x ≡ Some (number, speed) → answer x ≡ gap lane x
    by_gap many x number speed here =
        let tight = tight_gap limit lane x (number, speed) here (near_some many (suc x)) in
        let far = goes x number speed here in
        omega (arith, far, tight)

    pub by_limit : suc limit * count ≤ cells → (x number speed : ℕ) → at lane x ≡ Some (number, speed) → answer x ≡ limit
    by_limit few x number speed here =
        let rank = rank_below lane x (number, speed) here in
        let short : limit < length lane = one_fits limit count cells (length lane) (omega (arith, rank, full)) few size in
        let wide = wide_gap limit lane x (number, speed) short here (near_few few x) in
        let far = goes x number speed here in
        omega (arith, far, wide)
      where
        one_fits : (limit n size length_now : ℕ) → 0 < n → suc limit * n ≤ size → length_now ≡ size → limit < length_now
        one_fits limit zero size length_now some few same = absurd (omega (arith, some))
        one_fits limit (suc n) size length_now some few same = let e = suc-mul limit (suc n) in omega (arith, few, same, e)

    -- and the sum of the distances they go
    pub leapt_far : (l : ℕ) → sum_by (λ (car : Car). answer car.place) (standing_from l 0 lane) ≡ min (limit * count) (cells - count)
    leapt_far l =
        let product = suc-mul limit count in
        let whole = lane_taken_or_empty lane in
        elim (cases_lt cells (suc limit * count)) [
          | inl many ↦
              let some_car : 0 < count = none_full limit count cells many in
              sum_at_cars (λ (car : Car). answer car.place) (λ (car : Car). gap lane car.place) l 0 lane
              (λ x number speed here. let e : 0 + x ≡ x = omega arith in subst (λ i. answer i ≡ gap lane i) (sym e) (by_gap (omega (arith, many)) x number speed here))
              ∙ gaps_total l lane (omega (arith, full, some_car))
              ∙ (let e : lane_empty_cells lane ≡ min (limit * count) (cells - count) = omega (arith, whole, size, full, many, product) in e)
          | inr few ↦
              sum_at_cars (λ (car : Car). answer car.place) (λ (car : Car). limit) l 0 lane
              (λ x number speed here. let e : 0 + x ≡ x = omega arith in subst (λ i. answer i ≡ limit) (sym e) (by_limit few x number speed here))
              ∙ sum_by-same (λ (car : Car). limit) limit (standing_from l 0 lane) (λ j d below. refl)
              ∙ ap (λ j. j * limit) (length-standing_from l 0 lane ∙ full)
              ∙ mul_comm count limit
              ∙ (let e : limit * count ≡ min (limit * count) (cells - count) = omega (arith, few, product) in e)
        ]
      where
        none_full : (limit n size : ℕ) → size < suc limit * n → 0 < n
        none_full limit zero size many = absurd (let e : suc limit * 0 ≡ 0 = omega arith in omega (arith, many, e))
        none_full limit (suc n) size many = omega arith

-- a lane that has leapt leaps once more if its cars move by the limit or their gaps
pub leap_on : (limit cells count k : ℕ) (answer : ℕ → ℕ) (old new : Lane) → 1 ≤ limit → 1 ≤ cells → LaneMoves answer old new → LaneFits answer old
    → ((x number speed : ℕ) → at old x ≡ Some (number, speed) → answer x ≡ min limit (gap old x)) → (lane_car_count old ≡ count → Leaping limit cells count k old)
    → lane_car_count new ≡ count → Leaping limit cells count (suc k) new
leap_on limit cells count k answer old new some_limit some_cell m fits goes leaping full =
    let l = leaping (sym (lane_same_count answer old new m (apart_within_gaps answer old fits)) ∙ full) in
    let size = l.size in
    record { first = l.first; size = l.size; full = l.full; leaps = leaps_more limit answer l.first old new k some_limit (omega (arith, size, some_cell)) l.leaps m goes }
