-- Cars in standing order, and their cells.
use Rattle.std.proofs.Common.{◌≡◌, ℕ, zero, suc, ◌+◌, ◌-◌, ◌<◌, ◌≤◌, cond, Some, None, List, [], ◌∷◌, ◌++◌}
use Rattle.std.proofs.Common.{length, get_or, take, map, refl, sym, ◌∙◌, ap, inl, inr, arith, length-append}
use Rattle.std.proofs.{Common.{is_some, sum_by, get_or-append-add}, lemmas.Bool.cases_lt}
use Rattle.std.proofs.lemmas.List.{get_or_append_left, get_or-append_right, Sums.sum_by-cons}
use Rattle.trlab_road.specs.{declared.car.Car.Car, Cells.{Cell, Lane, Cells, at, cell, cars, lane_car_count}}
use Rattle.trlab_road.specs.{Cells.{standing_from, standing_from_lane, standing, rank}, Motion.in_order}

one_if : Cell → ℕ
one_if c = cond (is_some c) 1 0

pub lane_car_count-some : (car : ℕ × ℕ) (cells : Lane) → lane_car_count (Some car ∷ cells) ≡ suc (lane_car_count cells)
lane_car_count-some car cells = let e = sum_by-cons (λ (c : Cell). cond (is_some c) 1 0) (Some car) cells in omega arith

-- the standing order contains each car of a lane exactly once
pub length-standing_from : (l s : ℕ) (lane : Lane) → length (standing_from l s lane) ≡ lane_car_count lane
length-standing_from l s [] = refl
length-standing_from l s (None ∷ cells) = length-standing_from l (suc s) cells
length-standing_from l s (Some car ∷ cells) = ap suc (length-standing_from l (suc s) cells) ∙ sym (lane_car_count-some car cells)

pub length-standing_from_lane : (l : ℕ) (lanes : List Lane)
    → length (standing_from_lane l lanes) ≡ sum_by lane_car_count lanes
length-standing_from_lane l [] = refl
length-standing_from_lane l (lane ∷ lanes) =
    let a = length-append (standing_from l 0 lane) (standing_from_lane (suc l) lanes) in
    let b = length-standing_from l 0 lane in
    let d = length-standing_from_lane (suc l) lanes in
    let e = sum_by-cons lane_car_count lane lanes in
    omega arith

-- a car from its parts
unfoldable pub car_of : ℕ → ℕ → ℕ → ℕ → Car
car_of number l x speed = record { number = number; lane = l; place = x; speed = speed }

-- the car of an occupied cell comes in the order after the cars before it
pub standing_at : (l s : ℕ) (lane : Lane) (x number speed : ℕ) (d : Car)
    → at lane x ≡ Some (number, speed)
    → get_or (standing_from l s lane) (lane_car_count (take x lane)) d ≡ car_of number l (s + x) speed
unfolding car_of
standing_at l s [] x number speed d h = absurd cc
standing_at l s (None ∷ cells) zero number speed d h = absurd cc
standing_at l s (None ∷ cells) (suc x) number speed d h =
    let e : suc s + x ≡ s + suc x = omega arith in
    standing_at l (suc s) cells x number speed d h ∙ ap (λ k. car_of number l k speed) e
standing_at l s (Some car ∷ cells) zero number speed d h =
    let e : s ≡ s + 0 = omega arith in
    let f : car ≡ (number, speed) = cc in
    ap (λ (c : ℕ × ℕ). car_of c.0 l s c.1) f ∙ ap (λ k. car_of number l k speed) e
standing_at l s (Some car ∷ cells) (suc x) number speed d h =
    let e : suc s + x ≡ s + suc x = omega arith in
    rw lane_car_count-some (standing_at l (suc s) cells x number speed d h ∙ ap (λ k. car_of number l k speed) e)

-- the place of a car in the order is below the number of cars
pub rank_below : (lane : Lane) (x : ℕ) (car : ℕ × ℕ) → at lane x ≡ Some car
    → lane_car_count (take x lane) < lane_car_count lane
rank_below [] x car h = absurd cc
rank_below (None ∷ cells) zero car h = absurd cc
rank_below (None ∷ cells) (suc x) car h = rank_below cells x car h
rank_below (Some here ∷ cells) zero car h = rw lane_car_count-some (omega arith)
rank_below (Some here ∷ cells) (suc x) car h =
    let k = rank_below cells x car h in
    let a = lane_car_count-some here (take x cells) in
    let b = lane_car_count-some here cells in
    omega arith

pub standing_lanes_at : (base : ℕ) (lanes : List Lane) (l x number speed : ℕ) (d : Car)
    → at (get_or lanes l []) x ≡ Some (number, speed)
    → get_or (standing_from_lane base lanes) (sum_by lane_car_count (take l lanes) + lane_car_count (take x (get_or lanes l []))) d ≡ car_of number (base + l) x speed
standing_lanes_at base [] l x number speed d h = absurd cc
standing_lanes_at base (lane ∷ lanes) zero x number speed d h =
    let k = rank_below lane x (number, speed) h in
    let within : lane_car_count (take x lane) < length (standing_from base 0 lane) = rw length-standing_from k in
    let e : 0 + lane_car_count (take x lane) ≡ lane_car_count (take x lane) = omega arith in
    let b : base ≡ base + 0 = omega arith in
    rw e (get_or_append_left (standing_from base 0 lane) (standing_from_lane (suc base) lanes) d (lane_car_count (take x lane)) within
    ∙ standing_at base 0 lane x number speed d h ∙ ap (λ p. car_of number base p speed) (let z : 0 + x ≡ x = omega arith in z) ∙ ap (λ p. car_of number p x speed) b)
standing_lanes_at base (lane ∷ lanes) (suc l) x number speed d h =
    let rest = sum_by lane_car_count (take l lanes) + lane_car_count (take x (get_or lanes l [])) in
    let e = sum_by-cons lane_car_count lane (take l lanes) in
    let n = length-standing_from base 0 lane in
    let at_rest : sum_by lane_car_count (lane ∷ take l lanes) + lane_car_count (take x (get_or lanes l [])) ≡ length (standing_from base 0 lane) + rest = omega arith in
    let b : suc base + l ≡ base + suc l = omega arith in
    ap (λ i. get_or (standing_from base 0 lane ++ standing_from_lane (suc base) lanes) i d) at_rest
    ∙ get_or-append-add (standing_from base 0 lane) (standing_from_lane (suc base) lanes) rest d
    ∙ standing_lanes_at (suc base) lanes l x number speed d h ∙ ap (λ p. car_of number p x speed) b

-- the place of a car in the order of the whole road is below the number of cars
pub rank_in_road : (lanes : List Lane) (l x : ℕ) (car : ℕ × ℕ) → at (get_or lanes l []) x ≡ Some car
    → sum_by lane_car_count (take l lanes) + lane_car_count (take x (get_or lanes l [])) < sum_by lane_car_count lanes
rank_in_road [] l x car h = absurd cc
rank_in_road (lane ∷ lanes) zero x car h = let k = rank_below lane x car h in let e = sum_by-cons lane_car_count lane lanes in omega arith
rank_in_road (lane ∷ lanes) (suc l) x car h =
    let k = rank_in_road lanes l x car h in
    let e = sum_by-cons lane_car_count lane lanes in
    let f = sum_by-cons lane_car_count lane (take l lanes) in
    omega arith

-- a car of the order is in its cell
pub record OnLane (l s : ℕ) (lane : Lane) (car : Car) : Type 0 where
  pub of_lane : car.lane ≡ l
  pub from : s ≤ car.place
  pub here : at lane (car.place - s) ≡ Some (car.number, car.speed)

later : (l s : ℕ) (c : Cell) (cells : Lane) (car : Car) → OnLane l (suc s) cells car
    → OnLane l s (c ∷ cells) car
later l s c cells car on =
    let e : car.place - s ≡ suc (car.place - suc s) = let f = on.from in omega arith in
    record { of_lane = on.of_lane; from = (let f = on.from in omega arith); here = rw e on.here }

pub standing_on : (l s : ℕ) (lane : Lane) (k : ℕ) (d : Car) → k < length (standing_from l s lane)
    → OnLane l s lane (get_or (standing_from l s lane) k d)
standing_on l s [] k d h = absurd (omega arith)
standing_on l s (None ∷ cells) k d h = later l s None cells _ (standing_on l (suc s) cells k d h)
standing_on l s (Some car ∷ cells) zero d h =
    let e : s - s ≡ 0 = omega arith in
    record { of_lane = refl; from = omega arith; here = rw e refl }
standing_on l s (Some car ∷ cells) (suc k) d h = later l s (Some car) cells _ (standing_on l (suc s) cells k d (omega arith))

pub record OnRoad (base : ℕ) (lanes : List Lane) (car : Car) : Type 0 where
  pub from : base ≤ car.lane
  pub here : at (get_or lanes (car.lane - base) []) car.place ≡ Some (car.number, car.speed)

first_lane : (base : ℕ) (lane : Lane) (lanes : List Lane) (car : Car) → OnLane base 0 lane car
    → OnRoad base (lane ∷ lanes) car
first_lane base lane lanes car on =
    let low = on.of_lane in
    let e : car.lane - base ≡ 0 = omega arith in
    let f : car.place - 0 ≡ car.place = omega arith in
    let h : at lane car.place ≡ Some (car.number, car.speed) = rw f at on.here in
    record { from = omega arith; here = rw e h }

next_lane : (base : ℕ) (lane : Lane) (lanes : List Lane) (car : Car) → OnRoad (suc base) lanes car
    → OnRoad base (lane ∷ lanes) car
next_lane base lane lanes car on =
    let low = on.from in
    let e : car.lane - base ≡ suc (car.lane - suc base) = omega arith in
    record { from = omega arith; here = rw e on.here }

pub standing_on_lanes : (base : ℕ) (lanes : List Lane) (k : ℕ) (d : Car)
    → k < length (standing_from_lane base lanes)
    → OnRoad base lanes (get_or (standing_from_lane base lanes) k d)
standing_on_lanes base [] k d h = absurd (omega arith)
standing_on_lanes base (lane ∷ lanes) k d h =
    let n = length (standing_from base 0 lane) in
    elim (cases_lt k n) [
      | inl below ↦
          let on = standing_on base 0 lane k d below in
          rw (get_or_append_left (standing_from base 0 lane) (standing_from_lane (suc base) lanes) d k below)
          (first_lane base lane lanes (get_or (standing_from base 0 lane) k d) on)
      | inr past ↦
          let total = length-append (standing_from base 0 lane) (standing_from_lane (suc base) lanes) in
          let on = standing_on_lanes (suc base) lanes (k - n) d (omega arith) in
          rw (get_or-append_right (standing_from base 0 lane) (standing_from_lane (suc base) lanes) n k d refl past)
          (next_lane base lane lanes (get_or (standing_from_lane (suc base) lanes) (k - n) d) on)
    ]

-- the element of a mapped list at an index
pub get_or-map_in : {X Y : Type 0} (g : X → Y) (xs : List X) (k : ℕ) (d : X) (e : Y) → k < length xs
    → get_or (map g xs) k e ≡ g (get_or xs k d)
get_or-map_in g [] k d e h = absurd (omega arith)
get_or-map_in g (x ∷ xs) zero d e h = refl
get_or-map_in g (x ∷ xs) (suc k) d e h = get_or-map_in g xs k d e (omega arith)

-- at a whole road: the k-th car is at its cell, and the car of a cell is at its rank
pub standing_cell : (road : Cells) (k : ℕ) (d : Car) → k < cars road → let car = get_or (standing road) k d in cell road car.lane car.place ≡ Some (car.number, car.speed)
standing_cell road k d h =
    let car = get_or (standing road) k d in
    let on = standing_on_lanes 0 road.lanes k d (rw length-standing_from_lane h) in
    let e : car.lane - 0 ≡ car.lane = omega arith in
    rw e at on.here

pub standing_rank : (road : Cells) (l x number speed : ℕ) (d : Car)
    → cell road l x ≡ Some (number, speed)
    → get_or (standing road) (rank road l x) d ≡ car_of number l x speed
standing_rank road l x number speed d h =
    let e : 0 + l ≡ l = omega arith in
    standing_lanes_at 0 road.lanes l x number speed d h ∙ ap (λ p. car_of number p x speed) e

pub rank_below_cars : (road : Cells) (l x : ℕ) (car : ℕ × ℕ) → cell road l x ≡ Some car
    → rank road l x < cars road
rank_below_cars road l x car h = rank_in_road road.lanes l x car h

-- the value of a function for the car of a cell comes at the car's rank
pub in_order_at : {X : Type 0} (f : ℕ → ℕ → X) (e : X) (road : Cells) (l x number speed : ℕ)
    → cell road l x ≡ Some (number, speed) → get_or (in_order f road) (rank road l x) e ≡ f l x
unfolding car_of
in_order_at {X = X} f e road l x number speed h =
    let d : Car = record { number = 0; lane = 0; place = 0; speed = 0 } in
    let r = rank_below_cars road l x (number, speed) h in
    let size : rank road l x < length (standing road) = rw length-standing_from_lane r in
    let g : Car → X = λ car. f car.lane car.place in
    get_or-map_in g (standing road) (rank road l x) d e size ∙ ap g (standing_rank road l x number speed d h)

-- the rank of the k-th car is k
pub rank_is : (l s : ℕ) (lane : Lane) (k : ℕ) (d : Car) → k < length (standing_from l s lane)
    → lane_car_count (take ((get_or (standing_from l s lane) k d).place - s) lane) ≡ k
rank_is l s [] k d h = absurd (omega arith)
rank_is l s (None ∷ cells) k d h =
    let car = get_or (standing_from l (suc s) cells) k d in
    let on = standing_on l (suc s) cells k d h in
    let e : car.place - s ≡ suc (car.place - suc s) = let f = on.from in omega arith in
    rw e (rank_is l (suc s) cells k d h)
rank_is l s (Some here ∷ cells) zero d h = let e : s - s ≡ 0 = omega arith in rw e refl
rank_is l s (Some here ∷ cells) (suc k) d h =
    let inner : k < length (standing_from l (suc s) cells) = omega arith in
    let car = get_or (standing_from l (suc s) cells) k d in
    let on = standing_on l (suc s) cells k d inner in
    let e : car.place - s ≡ suc (car.place - suc s) = let f = on.from in omega arith in
    rw e (lane_car_count-some here (take (car.place - suc s) cells) ∙ ap suc (rank_is l (suc s) cells k d inner))
