-- The motion of a sorted list of cars.
use Rattle.std.proofs.Common.{◌≡◌, ℕ, zero, suc, ◌+◌, ◌-◌, ◌%◌, ◌<◌, ◌≤◌, Some, List, [], ◌∷◌, ◌++◌, length}
use Rattle.std.proofs.Common.{get_or, take, refl, sym, ◌∙◌, ap, subst, inl, inr, arith, below_more}
use Rattle.std.proofs.{Common.mod-eq_of_lt, Math.Nat.mod-eq-sub-mod, lemmas.Bool.cases_eq}
use Rattle.std.proofs.lemmas.List.{length-map, get_or-map, get_or_append_left, get_or_push, length_push}
use Rattle.trlab_road.specs.{declared.car.Car.Car, Stored.lane_answer, Gaps.ahead}
use Rattle.trlab_road.specs.Stored.{LaneCar, cells_of, IsSortedFrom, no_car, place_of, IsFirstPast, car_on}
use Rattle.trlab_road.specs.{Cells.{at, lane_car_count, standing_from}, Motion.{LaneFits, LaneMoves}}
use Rattle.trlab_road.proofs.{Ring.inside, StandingOrder.rank_is, ListPush.{rises_push, rises_above}}
use Rattle.trlab_road.proofs.Lists.{length_cells, cells_at, at_kth, list_car, kth_of_cell, standing_list}
use Rattle.trlab_road.proofs.{Lists.{rises_high, rises_order, rises_weakly}, ListGaps.{gap_next, gap_round}}

-- before the k-th car there are k cars
pub rank_kth : (n : ℕ) (cars : List LaneCar) (k : ℕ) → IsSortedFrom 0 n cars → k < length cars → lane_car_count (take (place_of cars k) (cells_of n cars)) ≡ k
rank_kth n cars k r h =
    let cells = cells_of n cars in
    let s = standing_list 0 n cars r in
    let d : Car = car_on 0 no_car in
    let within : k < length (standing_from 0 0 cells) = rw (s, length-map) h in
    let e : (get_or (standing_from 0 0 cells) k d).place - 0 ≡ place_of cars k =
    ap (λ (cs : List Car). (get_or cs k d).place - 0) s ∙ ap (λ (c : Car). c.place - 0) (get_or-map (car_on 0) cars k no_car d h) ∙ (let z : place_of cars k - 0 ≡ place_of cars k = omega arith in z) in
    subst (λ p. lane_car_count (take p cells) ≡ k) e (rank_is 0 0 cells k d within)

pub answer_kth : (n : ℕ) (cars : List LaneCar) (answers : List ℕ) (from k : ℕ) → IsSortedFrom 0 n cars → k < length cars → get_or answers (from + k) 0 ≡ lane_answer (cells_of n cars) answers from (place_of cars k)
answer_kth n cars answers from k r h = ap (λ i. get_or answers (from + i) 0) (sym (rank_kth n cars k r h))

-- the places of the cars up to the k-th are not beyond its own
pub parted_kth : (n : ℕ) (cars : List LaneCar) (k : ℕ) → IsSortedFrom 0 n cars → k < length cars → IsFirstPast cars (place_of cars k) (k + 1)
parted_kth n cars k r h = record {
  before = λ j low within. rises_weakly n cars j k r (omega arith) h;
  after = λ j low within. rises_order 0 n cars k j r (omega arith) within;
}

-- an answer within the gap leads to a place before the next car; the last car's answer, to one before the first car
module _ (n : ℕ) (cars : List LaneCar) (answer : ℕ → ℕ) (r : IsSortedFrom 0 n cars) (fits : LaneFits answer (cells_of n cars)) where
  pub before_next : (k : ℕ) → k + 1 < length cars → place_of cars k + answer (place_of cars k) < place_of cars (k + 1)
  before_next k h =
      let low : k < length cars = omega arith in
      let v = fits.gaps (place_of cars k) _ _ (at_kth n cars k r low) in
      let e = gap_next n cars r (place_of cars k) (rises_high 0 n cars k r low) (k + 1) (parted_kth n cars k r low) h in
      let o = rises_order 0 n cars k (k + 1) r (omega arith) h in
      omega (arith, v, e, o)

  pub before_first : (k : ℕ) → k + 1 ≡ length cars → place_of cars k + answer (place_of cars k) < n + place_of cars 0
  before_first k h =
      let low : k < length cars = omega arith in
      let v = fits.gaps (place_of cars k) _ _ (at_kth n cars k r low) in
      let e = gap_round n cars r (place_of cars k) (rises_high 0 n cars k r low) (k + 1) (parted_kth n cars k r low) (omega arith) (omega arith) in
      let o = rises_high 0 n cars k r low in
      omega (arith, v, e, o)

  -- a car that passes the end is the last
  pub only_last : (k : ℕ) → k < length cars → n ≤ place_of cars k + answer (place_of cars k) → k + 1 ≡ length cars
  only_last k low past =
      elim (cases_eq (k + 1) (length cars)) [
        | inl e ↦ e
        | inr other ↦
            let more : k + 1 < length cars = omega arith in
            let a = before_next k more in
            let b = rises_high 0 n cars (k + 1) r more in
            absurd (omega (arith, a, b, past))
      ]

-- a car after it went ahead
abbrev pub gone : ℕ → (ℕ → ℕ) → LaneCar → LaneCar
gone n answer car = list_car car.number (ahead n car.place (answer car.place)) (answer car.place)

pub gone_straight : (n : ℕ) (answer : ℕ → ℕ) (car : LaneCar) (v : ℕ) → v ≡ answer car.place → car.place + v < n → ◌≡◌ {A = LaneCar} (record { number = car.number; place = car.place + v; speed = v }) (gone n answer car)
unfolding list_car
gone_straight n answer car v is within =
    ap (λ k. record { number = car.number; place = k; speed = v }) (sym (mod-eq_of_lt within)) ∙ ap (λ k. record { number = car.number; place = (car.place + k) % n; speed = k }) is

pub gone_round : (n : ℕ) (answer : ℕ → ℕ) (car : LaneCar) (v : ℕ) → v ≡ answer car.place → n ≤ car.place + v → car.place + v - n < n → ◌≡◌ {A = LaneCar} (record { number = car.number; place = car.place + v - n; speed = v }) (gone n answer car)
unfolding list_car
gone_round n answer car v is past low =
    ap (λ k. record { number = car.number; place = k; speed = v }) (sym (mod-eq-sub-mod past ∙ mod-eq_of_lt low)) ∙ ap (λ k. record { number = car.number; place = (car.place + k) % n; speed = k }) is

-- the k-th of the new cars came from one of the first m old cars
pub record From (n : ℕ) (answer : ℕ → ℕ) (cars next : List LaneCar) (m i j : ℕ) : Type 0 where
  pub index : i < m
  pub old : j < m
  pub is : get_or next i no_car ≡ gone n answer (get_or cars j no_car)

-- the first m cars went straight ahead
pub record Moved (n : ℕ) (answer : ℕ → ℕ) (cars next : List LaneCar) (m : ℕ) : Type 0 where
  pub size : length next ≡ m
  pub rises : IsSortedFrom 0 n next
  pub each : (j : ℕ) → j < m → (i : ℕ) × From n answer cars next m i j
  pub back : (i : ℕ) → i < m → (j : ℕ) × From n answer cars next m i j
  pub first : m < length cars → (k : ℕ) → k < m → place_of cars 0 ≤ place_of next k
  pub last : m < length cars → (k : ℕ) → k < m → place_of next k < place_of cars m

pub moved_none : (n : ℕ) (answer : ℕ → ℕ) (cars : List LaneCar) → Moved n answer cars [] 0
moved_none n answer cars = record {
  size = refl;
  rises = tt;
  each = λ j h. absurd (omega arith);
  back = λ j h. absurd (omega arith);
  first = λ some j h. absurd (omega arith);
  last = λ some j h. absurd (omega arith);
}

module _ (n : ℕ) (answer : ℕ → ℕ) (cars next : List LaneCar) (m : ℕ) (r : IsSortedFrom 0 n cars) (fits : LaneFits answer (cells_of n cars)) (moved : Moved n answer cars next m) (low : m < length cars)
    (car : LaneCar) (v : ℕ) (same : v ≡ answer (place_of cars m)) where
  -- one more car went straight ahead
  pub moved_straight : place_of cars m + v < n → car ≡ record { number = (get_or cars m no_car).number; place = place_of cars m + v; speed = v } → Moved n answer cars (next ++ car ∷ []) (m + 1)
  moved_straight within is =
      let place : car.place ≡ place_of cars m + v = ap (λ (c : LaneCar). c.place) is in
      let new : get_or (next ++ car ∷ []) m no_car ≡ gone n answer (get_or cars m no_car) = get_or_push next car no_car m moved.size ∙ is ∙ gone_straight n answer (get_or cars m no_car) v same within in
      let there : place_of (next ++ car ∷ []) m ≡ car.place = ap (λ (c : LaneCar). c.place) (get_or_push next car no_car m moved.size) in
      let kept : (i : ℕ) → i < m → get_or (next ++ car ∷ []) i no_car ≡ get_or next i no_car = λ i h. get_or_append_left next (car ∷ []) no_car i (rw moved.size h) in
      let higher : (k : ℕ) → k < m → place_of next k < car.place = λ k h. let a = moved.last low k h in omega (arith, a, place) in
      record {
        size = length_push next car ∙ ap (λ k. k + 1) moved.size;
        rises = rises_push 0 n next car moved.rises (λ k h. higher k (rw moved.size at h)) (omega arith) (omega (arith, place, within));
        each = below_more _ _
            (λ j h. let a = moved.each j h in (a.0, record { index = (let k = a.1.index in omega arith); old = (let k = a.1.old in omega arith); is = kept a.0 a.1.index ∙ a.1.is }))
            (m, record { index = omega arith; old = omega arith; is = new });
        back = below_more _ _
            (λ j h. let a = moved.back j h in (a.0, record { index = (let k = a.1.index in omega arith); old = (let k = a.1.old in omega arith); is = kept j h ∙ a.1.is }))
            (m, record { index = omega arith; old = omega arith; is = new });
        first = λ more. below_more _ _
            (λ k h. let a = moved.first low k h in let b = ap (λ (c : LaneCar). c.place) (kept k h) in omega (arith, a, b))
            (let a = rises_weakly n cars 0 m r (omega arith) low in omega (arith, a, place, there));
        last = λ more.
            let ahead_of = before_next n cars answer r fits m more in
            below_more _ _
            (λ k h. let a = higher k h in let b = ap (λ (c : LaneCar). c.place) (kept k h) in omega (arith, a, b, place, ahead_of, same))
            (omega (arith, place, ahead_of, same, there));
      }

  back_turn : (front : LaneCar) → front ≡ gone n answer (get_or cars m no_car) → (i : ℕ) → i < m + 1 → (j : ℕ) × From n answer cars (front ∷ next) (m + 1) i j
  back_turn front new zero h = (m, record { index = h; old = omega arith; is = new })
  back_turn front new (suc i) h = let a = moved.back i (omega arith) in (a.0, record { index = h; old = (let k = a.1.old in omega arith); is = a.1.is })

  -- the last car passed the end, and is now the first
  pub moved_round : n ≤ place_of cars m + v → car ≡ record { number = (get_or cars m no_car).number; place = place_of cars m + v - n; speed = v } → Moved n answer cars (car ∷ next) (m + 1)
  moved_round past is =
      let place : car.place ≡ place_of cars m + v - n = ap (λ (c : LaneCar). c.place) is in
      let whole = only_last n cars answer r fits m low (omega (arith, past, same)) in
      let short = before_first n cars answer r fits m whole in
      let high = rises_high 0 n cars 0 r (omega arith) in
      let new : car ≡ gone n answer (get_or cars m no_car) = is ∙ gone_round n answer (get_or cars m no_car) v same past (omega (arith, short, high, same)) in
      record {
        size = (let a = moved.size in omega arith);
        rises = (omega arith, omega (arith, place, short, high, same), rises_above 0 (suc car.place) n next moved.rises (λ k h. let a = moved.first low k (rw moved.size at h) in omega (arith, a, place, short, same)));
        each = below_more _ _
            (λ j h. let a = moved.each j h in (suc a.0, record { index = (let k = a.1.index in omega arith); old = (let k = a.1.old in omega arith); is = a.1.is }))
            (0, record { index = omega arith; old = omega arith; is = new });
        back = back_turn car new;
        first = λ more. absurd (omega (arith, more, whole));
        last = λ more. absurd (omega (arith, more, whole));
      }

-- a car of a list is in the cell of its place
stands : (n : ℕ) (cars : List LaneCar) (k number x speed : ℕ) → IsSortedFrom 0 n cars → k < length cars → get_or cars k no_car ≡ list_car number x speed → at (cells_of n cars) x ≡ Some (number, speed)
unfolding list_car
stands n cars k number x speed r low is = subst (λ (car : LaneCar). at (cells_of n cars) car.place ≡ Some (car.number, car.speed)) is (at_kth n cars k r low)

-- if all cars went ahead, the lane of the new list is the old lane after the motion
pub moved_all : (n : ℕ) (answer : ℕ → ℕ) (cars next : List LaneCar) → IsSortedFrom 0 n cars → Moved n answer cars next (length cars) → LaneMoves answer (cells_of n cars) (cells_of n next)
unfolding list_car
moved_all n answer cars next r moved =
    let size = length_cells n cars in
    record {
      same_length = length_cells n next ∙ sym size;
      arrives = λ x number speed h.
          let low = rw size at (inside (cells_of n cars) x (number, speed) h) in
          let k = kth_of_cell cars number x speed (sym (cells_at n cars x low) ∙ h) in
          let i = moved.each k.0 k.1.low in
          rw size (stands n next i.0 number (ahead n x (answer x)) (answer x) moved.rises (rw moved.size i.1.index) (i.1.is ∙ ap (gone n answer) k.1.is));
      nothing_else = λ y number speed h.
          let low = rw length_cells at (inside (cells_of n next) y (number, speed) h) in
          let i = kth_of_cell next number y speed (sym (cells_at n next y low) ∙ h) in
          let j = moved.back i.0 (rw moved.size at i.1.low) in
          let car = get_or cars j.0 no_car in
          let same : list_car number y speed ≡ gone n answer car = sym i.1.is ∙ j.1.is in (
            car.place,
            (
              car.speed,
              record {
                was = subst (λ (m : ℕ). at (cells_of n cars) car.place ≡ Some (m, car.speed)) (sym (ap (λ (c : LaneCar). c.number) same)) (at_kth n cars j.0 r j.1.old);
                reaches = rw size (ap (λ (c : LaneCar). c.place) same);
                at_speed = ap (λ (c : LaneCar). c.speed) same;
              },
            ),
          );
    }

-- a list without its last car
module _ (n : ℕ) (answer : ℕ → ℕ) (cars before : List LaneCar) (last : LaneCar) (r : IsSortedFrom 0 n cars) (fits : LaneFits answer (cells_of n cars)) (whole : cars ≡ before ++ last ∷ []) where
  pub size_whole : length cars ≡ length before + 1
  size_whole = ap length whole ∙ length_push before last

  pub last_kth : last ≡ get_or cars (length before) no_car
  last_kth = sym (ap (λ (cs : List LaneCar). get_or cs (length before) no_car) whole ∙ get_or_push before last no_car (length before) refl)

  pub before_kth : (k : ℕ) → k < length before → get_or before k no_car ≡ get_or cars k no_car
  before_kth k low = sym (ap (λ (cs : List LaneCar). get_or cs k no_car) whole ∙ get_or_append_left before (last ∷ []) no_car k low)

  module _ (now : List LaneCar) (moved : Moved n answer cars now (length before)) where
    -- the last car goes too, straight ahead or past the end
    pub last_straight : (car : LaneCar) (v : ℕ) → v ≡ answer last.place → last.place + v < n → car ≡ record { number = last.number; place = last.place + v; speed = v }
        → Moved n answer cars (now ++ car ∷ []) (length cars)
    last_straight car v same within is =
        let s = size_whole in
        let here = last_kth in
        rw s (moved_straight n answer cars now (length before) r fits moved (omega (arith, s)) car v (rw here at same) (rw here at within) (rw here at is))

    pub last_round : (car : LaneCar) (v : ℕ) → v ≡ answer last.place → n ≤ last.place + v → car ≡ record { number = last.number; place = last.place + v - n; speed = v }
        → Moved n answer cars (car ∷ now) (length cars)
    last_round car v same past is =
        let s = size_whole in
        let here = last_kth in
        rw s (moved_round n answer cars now (length before) r fits moved (omega (arith, s)) car v (rw here at same) (rw here at past) (rw here at is))

-- a car's answer is at most one lap
pub reach_fits : (n : ℕ) (cars : List LaneCar) (answer : ℕ → ℕ) (k : ℕ) → IsSortedFrom 0 n cars → LaneFits answer (cells_of n cars) → k + 1 ≡ length cars → place_of cars k + answer (place_of cars k) < n + n
reach_fits n cars answer k r fits whole =
    let a = before_first n cars answer r fits k whole in
    let b = rises_high 0 n cars 0 r (omega (arith, whole)) in
    omega (arith, a, b)
