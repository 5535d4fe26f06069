-- Cars that went ahead, none of them past the end of the lane, and then the last one.
use Rattle.std.proofs.Common.{◌≡◌, ℕ, zero, suc, ◌+◌, ◌-◌, ◌<◌, ◌≤◌, List, [], ◌∷◌, ◌++◌, Vec, Global}
use Rattle.std.proofs.Common.{vec_len, vec_capacity, length, get_or, take, drop, refl, sym, ◌∙◌, ap, subst}
use Rattle.std.proofs.{Common.{arith, add-one, take_at, take_all}, lemmas.List.{length_push, take_more}}
use Rattle.trlab_road.specs.Stored.{LaneCar, HaveMovedAhead, moved_ahead, cells_of, IsSortedFrom, no_car}
use Rattle.trlab_road.specs.{Stored.{place_of, lane_answer}, Motion.{LaneFits, LaneMoves}}
use Rattle.trlab_road.proofs.{Lists.rises_high, ListMotion.{Moved, answer_kth, before_kth, before_next}}
use Rattle.trlab_road.proofs.ListMotion.{last_kth, last_round, last_straight, moved_all, moved_none}
use Rattle.trlab_road.proofs.ListMotion.{moved_straight, reach_fits, size_whole}

-- a car that is made from the number and the place of another
made : (car new : LaneCar) (number place v : ℕ) → new ≡ record { number = number; place = place + v; speed = v } → number ≡ car.number → place ≡ car.place
    → new ≡ record { number = car.number; place = car.place + v; speed = v }
made car new number place v is e f = rw is (rw (e, f) refl)

round : (car new : LaneCar) (number place v n : ℕ) → new ≡ record { number = number; place = place + v - n; speed = v } → number ≡ car.number → place ≡ car.place
    → new ≡ record { number = car.number; place = car.place + v - n; speed = v }
round car new number place v n is e f = rw is (rw (e, f) refl)

-- a list without its last car, and the speeds of its cars from an index on
module _ (n : ℕ) (cars before : List LaneCar) (last : LaneCar) (speeds : List ℕ) (from : ℕ) (r : IsSortedFrom 0 n cars)
    (fits : LaneFits (lane_answer (cells_of n cars) speeds from) (cells_of n cars)) (whole : cars ≡ before ++ last ∷ []) where
  abbrev answer : ℕ → ℕ
  answer = lane_answer (cells_of n cars) speeds from

  size : length cars ≡ length before + 1
  size = size_whole n answer cars before last r fits whole

  first_cars : (k : ℕ) → k < length before → get_or before k no_car ≡ get_or cars k no_car
  first_cars = before_kth n answer cars before last r fits whole

  abbrev speed : ℕ → ℕ
  speed k = get_or speeds (from + k) 0

  last_speed : (k : ℕ) → k ≡ length before → speed k ≡ answer last.place
  last_speed k e =
      let s = size in
      rw e (answer_kth n cars speeds from (length before) r (omega (arith, s))) ∙ ap (λ (car : LaneCar). answer car.place) (sym (last_kth n answer cars before last r fits whole))

  -- the last car moves at most one lap
  pub last_short : (k place : ℕ) → k ≡ length before → place ≡ last.place → place + speed k < n + n
  last_short k place e here =
      let a = reach_fits n cars answer (length before) r fits (sym size) in
      let p = ap (λ (car : LaneCar). car.place) (last_kth n answer cars before last r fits whole) in
      let q = ap answer p in
      let v = last_speed k e in
      omega (arith, a, p, q, v, here)

  speed_kth : (k : ℕ) → k < length before → get_or speeds (from + k) 0 ≡ answer (place_of cars k)
  speed_kth k low = let s = size in answer_kth n cars speeds from k r (omega (arith, low, s))

  short_kth : (k : ℕ) → k < length before → place_of cars k + get_or speeds (from + k) 0 < n
  short_kth k low =
      let s = size in
      let more : k + 1 < length cars = omega (arith, s, low) in
      let a = before_next n cars answer r fits k more in
      let b = rises_high 0 n cars (k + 1) r more in
      let v = speed_kth k low in
      omega (arith, a, b, v)

  -- no car before the last one moves past the end
  pub short : (k : ℕ) → k < length before → place_of before k + get_or speeds (from + k) 0 < n
  short k low = let a = short_kth k low in let p = ap (λ (c : LaneCar). c.place) (first_cars k low) in omega (arith, a, p)

  module _ (now : List LaneCar) (all : HaveMovedAhead speeds from before now (length before)) where
    moved_first : (k : ℕ) → k ≤ length before → Moved n answer cars (take k now) k
    moved_first zero h = moved_none n answer cars
    moved_first (suc k) h =
        let low : k < length before = omega (arith, h) in
        let s = size in
        let here : k < length now = (let e = all.same_count in omega (arith, low, e)) in
        let v = get_or speeds (from + k) 0 in
        let is = all.moved k low ∙ ap (λ (c : LaneCar). moved_ahead c v) (first_cars k low) in
        let next = moved_straight n answer cars (take k now) k r fits (moved_first k (omega (arith, low))) (omega (arith, s, low)) (get_or now k no_car) v (speed_kth k low) (short_kth k low) is in
        subst (λ i. Moved n answer cars (take i now) i) (add-one k) (subst (λ (xs : List LaneCar). Moved n answer cars xs (k + 1)) (sym (take_more now k no_car here)) next)

    -- all cars but the last one went ahead
    moved_before : Moved n answer cars now (length before)
    moved_before =
        let all_now = take_all (length before) now (let e = all.same_count in omega (arith, e)) in
        subst (λ (xs : List LaneCar). Moved n answer cars xs (length before)) all_now (moved_first (length before) (omega arith))

    after : (items next : List LaneCar) → items ≡ next → Moved n answer cars next (length cars) → IsSortedFrom 0 n items × LaneMoves answer (cells_of n cars) (cells_of n items)
    after items next is m = rw is (m.rises, moved_all n answer cars next r m)

    -- and the last one straight ahead
    pub went_straight : (items : List LaneCar) (new : LaneCar) (j number place : ℕ) → j ≡ length before → items ≡ now ++ new ∷ [] → new ≡ record { number = number; place = place + speed j; speed = speed j }
        → number ≡ last.number → place ≡ last.place → place + speed j < n → IsSortedFrom 0 n items × LaneMoves answer (cells_of n cars) (cells_of n items)
    went_straight items new j number place end list is e f low =
        after items (now ++ new ∷ []) list (last_straight n answer cars before last r fits whole now moved_before new (speed j) (last_speed j end) (omega (arith, f, low)) (made last new number place (speed j) is e f))

    -- or past the end
    pub went_round : (items : List LaneCar) (new : LaneCar) (j number place : ℕ) → j ≡ length before → items ≡ new ∷ now → new ≡ record { number = number; place = place + speed j - n; speed = speed j }
        → number ≡ last.number → place ≡ last.place → n ≤ place + speed j → IsSortedFrom 0 n items × LaneMoves answer (cells_of n cars) (cells_of n items)
    went_round items new j number place end list is e f past =
        after items (new ∷ now) list (last_round n answer cars before last r fits whole now moved_before new (speed j) (last_speed j end) (omega (arith, f, past)) (round last new number place (speed j) n is e f))

-- a list that was written completely, and is as long as before
pub all_in_place : (old next : List LaneCar) (k : ℕ) → k ≡ length old → length next ≡ length old → take k (next ++ drop (length next) old) ≡ next
all_in_place old next k e same = take_at next _ k (same ∙ sym e)

-- there is room for the last car, because it was there
pub room_left : (old popped : Vec LaneCar Global) (last : LaneCar) → old.items ≡ popped.items ++ last ∷ [] → vec_capacity popped ≡ vec_capacity old → vec_len popped < vec_capacity popped
room_left old popped last whole room =
    let a = popped.ok.0 in
    let b = old.ok.0 in
    let s = ap length whole ∙ length_push popped.items last in
    let d = old.ok.1 in
    omega (arith, a, b, d, s, room)
