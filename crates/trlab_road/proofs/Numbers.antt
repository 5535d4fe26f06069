-- Each number below the number of cars is present, and a car has one place in the standing order.
use Rattle.std.proofs.Common.{◌≡◌, ◌≢◌, ℕ, zero, suc, ◌+◌, ◌-◌, ◌<◌, ◌≤◌, Some, None, List, [], ◌∷◌, length}
use Rattle.std.proofs.Common.{get_or, take, replicate, map, refl, sym, ◌∙◌, ap, subst, inl, inr, ◌⊎◌, arith}
use Rattle.std.proofs.{Common.{length-append, sum_by}, lemmas.Bool.{cases_lt, cases_eq, cases_order}}
use Rattle.std.proofs.lemmas.List.{length-map, get_or-replicate, get_or_append_left, get_or-append_right}
use Rattle.std.proofs.lemmas.List.Sums.{sum_by-cons}
use Rattle.trlab_road.specs.{declared.car.Car.Car, Cells.{HasNumber, Cell, Lane, Cells, cars, lane_car_count}}
use Rattle.trlab_road.specs.Cells.{IsLegal, standing_from, standing_from_lane, standing, rank}
use Rattle.trlab_road.proofs.{Ring.inside, MotionLaws.fewer_cars, StandingOrder.standing_on}
use Rattle.trlab_road.proofs.StandingOrder.{standing_on_lanes, standing_cell, length-standing_from}
use Rattle.trlab_road.proofs.StandingOrder.{length-standing_from_lane, rank_is, lane_car_count-some}

-- the cell that holds a car
abbrev pub car_cell : Car → Cell
car_cell car = Some (car.number, car.speed)

-- all these cells hold cars
pub all_taken : (xs : List Car) → lane_car_count (map car_cell xs) ≡ length xs
all_taken [] = refl
all_taken (x ∷ xs) = lane_car_count-some (x.number, x.speed) (map car_cell xs) ∙ ap suc (all_taken xs)

-- a lane with a car in each cell
pub full : (n : ℕ) → lane_car_count (replicate n (Some (0, 0))) ≡ n
full zero = refl
full (suc n) = lane_car_count-some (0, 0) (replicate n (Some (0, 0))) ∙ ap suc (full n)

abbrev pub no_one : Car
no_one = record { number = 0; lane = 0; place = 0; speed = 0 }

-- the number of cars before a car of a list of lanes
abbrev before : ℕ → List Lane → Car → ℕ
before base lanes car = sum_by lane_car_count (take (car.lane - base) lanes) + lane_car_count (take car.place (get_or lanes (car.lane - base) []))

first_before : (base : ℕ) (lane : Lane) (lanes : List Lane) (car : Car) (k : ℕ) → car.lane - base ≡ 0
    → lane_car_count (take car.place lane) ≡ k → before base (lane ∷ lanes) car ≡ k
first_before base lane lanes car k e h = rw e (let z : 0 + lane_car_count (take car.place lane) ≡ k = omega arith in z)

next_before : (base : ℕ) (lane : Lane) (lanes : List Lane) (car : Car) (k n : ℕ)
    → car.lane - base ≡ suc (car.lane - suc base) → n ≡ lane_car_count lane → n ≤ k
    → before (suc base) lanes car ≡ k - n → before base (lane ∷ lanes) car ≡ k
next_before base lane lanes car k n e size past rest =
    let f = sum_by-cons lane_car_count lane (take (car.lane - suc base) lanes) in
    rw e (omega (arith, f, size, rest))

kth_before : (base : ℕ) (lanes : List Lane) (k : ℕ) → k < length (standing_from_lane base lanes)
    → before base lanes (get_or (standing_from_lane base lanes) k no_one) ≡ k
kth_before base [] k h = absurd (omega arith)
kth_before base (lane ∷ lanes) k h =
    let n = length (standing_from base 0 lane) in
    elim (cases_lt k n) [
      | inl below ↦
          let car = get_or (standing_from base 0 lane) k no_one in
          let on = standing_on base 0 lane k no_one below in
          let zeroth : car.lane - base ≡ 0 = let e = on.of_lane in omega arith in
          let r = rank_is base 0 lane k no_one below in
          let e : car.place - 0 ≡ car.place = omega arith in
          rw (get_or_append_left (standing_from base 0 lane) (standing_from_lane (suc base) lanes) no_one k below)
          (first_before base lane lanes car k zeroth (rw e at r))
      | inr past ↦
          let total = length-append (standing_from base 0 lane) (standing_from_lane (suc base) lanes) in
          let car = get_or (standing_from_lane (suc base) lanes) (k - n) no_one in
          let on = standing_on_lanes (suc base) lanes (k - n) no_one (omega arith) in
          let low = on.from in
          let rest = kth_before (suc base) lanes (k - n) (omega arith) in
          let later : car.lane - base ≡ suc (car.lane - suc base) = omega arith in
          let size = length-standing_from base 0 lane in
          rw (get_or-append_right (standing_from base 0 lane) (standing_from_lane (suc base) lanes) n k no_one refl past)
          (next_before base lane lanes car k n later size past rest)
    ]

-- a car has only one place in the standing order
pub rank_of_kth : (road : Cells) (k : ℕ) → k < cars road → let car = get_or (standing road) k no_one in rank road car.lane car.place ≡ k
rank_of_kth road k h =
    let e : (get_or (standing road) k no_one).lane - 0 ≡ (get_or (standing road) k no_one).lane = omega arith in
    rw e at (kth_before 0 road.lanes k (rw length-standing_from_lane h))

module _ (road : Cells) (legal : IsLegal road) where
  -- the number of the k-th car
  abbrev pub number_at : ℕ → ℕ
  number_at k = (get_or (standing road) k no_one).number

  -- two cars with the same number are equal
  number_once : (k m : ℕ) → k < cars road → m < cars road → number_at k ≡ number_at m → k ≡ m
  number_once k m low high same =
      let a = get_or (standing road) k no_one in
      let b = get_or (standing road) m no_one in
      let here = standing_cell road k no_one low in
      let there = standing_cell road m no_one high in
      let c = legal.once a b here there same in
      sym (rank_of_kth road k low) ∙ ap (λ i. rank road i a.place) c.0 ∙ ap (rank road b.lane) c.1 ∙ rank_of_kth road m high

  car_at : (k : ℕ) → k < length (map car_cell (standing road)) → k < cars road
  car_at k h = let a = length-map (standing road) car_cell in let b = length-standing_from_lane 0 road.lanes in omega arith

  in_order : lane_car_count (map car_cell (standing road)) ≡ cars road
  in_order = all_taken (standing road) ∙ length-standing_from_lane 0 road.lanes

  -- if each number is below n, there are at most n cars
  pub no_more_cars : (n : ℕ) → ((k : ℕ) → k < cars road → number_at k < n) → cars road ≤ n
  no_more_cars n low =
      let most = fewer_cars (map car_cell (standing road)) (replicate n (Some (0, 0))) (λ x y. (x < cars road) × (number_at x ≡ y))
      (λ x a h. let on = car_at x (inside (map car_cell (standing road)) x a h) in (number_at x, ((0, 0), get_or-replicate n (number_at x) (Some (0, 0)) None (low x on), (on, refl))))
      (λ x z y h g. number_once x z h.0 g.0 (h.1 ∙ sym g.1)) in
      let a = in_order in
      let b = full n in
      omega (arith, most, a, b)

  -- without number i, the larger numbers decrease by one
  abbrev Squeezed : ℕ → ℕ → ℕ → Type 0
  Squeezed i a y = ((a < i) × (y ≡ a)) ⊎ ((i < a) × (suc y ≡ a))

  squeezed_once : (i a b y : ℕ) → Squeezed i a y → Squeezed i b y → a ≡ b
  squeezed_once i a b y (inl p) (inl q) = let e = p.1 in let f = q.1 in omega arith
  squeezed_once i a b y (inl p) (inr q) = let e = p.1 in let f = q.1 in let g = p.0 in let h = q.0 in omega arith
  squeezed_once i a b y (inr p) (inl q) = let e = p.1 in let f = q.1 in let g = p.0 in let h = q.0 in omega arith
  squeezed_once i a b y (inr p) (inr q) = let e = p.1 in let f = q.1 in omega arith

  squeeze : (i a n : ℕ) → a < n → i < n → a ≢ i → (y : ℕ) × ((suc y < n) × Squeezed i a y)
  squeeze i a n low on other =
      elim (cases_order a i) [
        | inl e ↦ absurd (other e)
        | inr different ↦ elim different [
          | inl less ↦ (a, (omega arith, inl (less, refl)))
          | inr more ↦ (a - 1, ((let k : suc (a - 1) < n = omega arith in k), inr (more, (let k : suc (a - 1) ≡ a = omega arith in k))))
        ]
      ]

  missing : (i : ℕ) → i < cars road → ((k : ℕ) → k < cars road → number_at k ≢ i) → ⊥
  missing i on none =
      let n = cars road in
      let most = fewer_cars (map car_cell (standing road)) (replicate (n - 1) (Some (0, 0))) (λ x y. (x < n) × Squeezed i (number_at x) y)
      (λ x a h.
      let low = car_at x (inside (map car_cell (standing road)) x a h) in
      let below = let c = standing_cell road x no_one low in legal.numbered (get_or (standing road) x no_one) c in
      let s = squeeze i (number_at x) n below on (none x low) in
      (s.0, ((0, 0), get_or-replicate (n - 1) s.0 (Some (0, 0)) None (let k = s.1.0 in omega arith), (low, s.1.1))))
      (λ x z y h g. number_once x z h.0 g.0 (squeezed_once i (number_at x) (number_at z) y h.1 g.1)) in
      let a = in_order in
      let b = full (n - 1) in
      omega (arith, most, a, b, on)

  find : (i n : ℕ) → ((k : ℕ) × ((k < n) × (number_at k ≡ i))) ⊎ ((k : ℕ) → k < n → number_at k ≢ i)
  find i zero = inr (λ k h. absurd (omega arith))
  find i (suc n) =
      elim (find i n) [
        | inl found ↦ inl (found.0, ((let k = found.1.0 in omega arith), found.1.1))
        | inr none ↦ elim (cases_eq (number_at n) i) [
          | inl here ↦ inl (n, (omega arith, here))
          | inr other ↦ inr (λ k h. elim (cases_eq k n) [ inl e ↦ subst (λ j. number_at j ≢ i) (sym e) other | inr less ↦ none k (omega arith) ])
        ]
      ]

  -- each number below the count of cars is present
  pub all_present : (i : ℕ) → i < cars road → HasNumber road i
  all_present i on =
      elim (find i (cars road)) [
        | inl found ↦
            let car = get_or (standing road) found.0 no_one in
            let c = standing_cell road found.0 no_one found.1.0 in
            (car, (c, found.1.1))
        | inr none ↦ absurd (missing i on none)
      ]
