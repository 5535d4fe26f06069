-- Lanes that sorted lists of cars make.
use Rattle.std.proofs.Common.{◌≡◌, ◌≢◌, ℕ, zero, suc, ◌+◌, ◌<◌, ◌≤◌, eqb, Option, Some, None, List, [], ◌∷◌}
use Rattle.std.proofs.Common.{length, get_or, map, refl, sym, ◌∙◌, ap, subst, inl, inr, arith, add-one}
use Rattle.std.proofs.{Common.{eq-eqb, ne_eqb}, lemmas.Bool.{cases_eq, cond-true, cond-false}}
use Rattle.std.proofs.lemmas.List.{length-map, FromFn.{length-map-range_with_len, get_or-map-range_with_len}}
use Rattle.std.{proofs.lemmas.Option.some_pair_parts, specs.List.range_with_len}
use Rattle.trlab_road.specs.{declared.car.Car.Car, Stored.{LaneCar, cell_at, cells_of, IsSortedFrom, no_car}}
use Rattle.trlab_road.specs.{Stored.{place_of, car_on}, Cells.{Cell, Lane, at, lane_car_count, standing_from}}
use Rattle.trlab_road.proofs.StandingOrder.{length-standing_from}

-- the lane has n cells, and in each cell the car that the list has there
pub length_cells : (n : ℕ) (cars : List LaneCar) → length (cells_of n cars) ≡ n
length_cells n cars = length-map-range_with_len (cell_at cars) 0 n

pub cells_at : (n : ℕ) (cars : List LaneCar) (x : ℕ) → x < n → at (cells_of n cars) x ≡ cell_at cars x
cells_at n cars x h = get_or-map-range_with_len (cell_at cars) 0 n x x None h (let e : 0 + x ≡ x = omega arith in e)

-- the first car at its place, and the others elsewhere
pub cell_here : (car : LaneCar) (cars : List LaneCar) (x : ℕ) → car.place ≡ x → cell_at (car ∷ cars) x ≡ Some (car.number, car.speed)
cell_here car cars x e = cond-true (eqb car.place x) (Some (car.number, car.speed)) (cell_at cars x) (eq-eqb car.place x e)

pub cell_other : (car : LaneCar) (cars : List LaneCar) (x : ℕ) → car.place ≢ x → cell_at (car ∷ cars) x ≡ cell_at cars x
cell_other car cars x e = cond-false (eqb car.place x) (Some (car.number, car.speed)) (cell_at cars x) (ne_eqb car.place x e)

-- before the first car there is no car
pub none_before : (x n : ℕ) (cars : List LaneCar) (y : ℕ) → IsSortedFrom x n cars → y < x → cell_at cars y ≡ None
none_before x n [] y r low = refl
none_before x n (car ∷ cars) y r low =
    cell_other car cars y (λ e. let k = r.0 in omega arith) ∙ none_before (suc car.place) n cars y r.2 (let k = r.0 in omega arith)

-- two functions that agree from a place on
pub map_range_same : (f g : ℕ → Cell) (a m : ℕ) → ((y : ℕ) → a ≤ y → f y ≡ g y) → map f (range_with_len a m) ≡ map g (range_with_len a m)
map_range_same f g a zero h = refl
map_range_same f g a (suc m) h =
    ap (λ c. c ∷ map f (range_with_len (a + 1) m)) (h a (omega arith)) ∙ ap (λ cs. g a ∷ cs) (map_range_same f g (a + 1) m (λ y k. h y (omega arith)))

step_none : (l s : ℕ) (c : Cell) (cells : Lane) → c ≡ None → standing_from l s (c ∷ cells) ≡ standing_from l (suc s) cells
step_none l s c cells e = ap (λ d. standing_from l s (d ∷ cells)) e

step_some : (l s : ℕ) (c : Cell) (cells : Lane) (number speed : ℕ) → c ≡ Some (number, speed)
    → standing_from l s (c ∷ cells) ≡ record { number = number; lane = l; place = s; speed = speed } ∷ standing_from l (suc s) cells
step_some l s c cells number speed e = ap (λ d. standing_from l s (d ∷ cells)) e

same_car_on : (l s : ℕ) (car : LaneCar) → car.place ≡ s → ◌≡◌ {A = Car} (record { number = car.number; lane = l; place = s; speed = car.speed }) (car_on l car)
same_car_on l s car e = ap (λ k. record { number = car.number; lane = l; place = k; speed = car.speed }) (sym e)

-- the lane of a sorted list has these cars in standing order
pub standing_cells : (l s m n : ℕ) (cars : List LaneCar) → s + m ≡ n → IsSortedFrom s n cars → standing_from l s (map (cell_at cars) (range_with_len s m)) ≡ map (car_on l) cars
standing_cells l s zero n [] size r = refl
standing_cells l s zero n (car ∷ cars) size r = let a = r.0 in let b = r.1 in absurd (omega arith)
standing_cells l s (suc m) n [] size r =
    ap (λ k. standing_from l (suc s) (map (cell_at []) (range_with_len k m))) (add-one s) ∙ standing_cells l (suc s) m n [] (omega arith) tt
standing_cells l s (suc m) n (car ∷ cars) size r =
    elim (cases_eq car.place s) [
      | inl here ↦
          let later : IsSortedFrom (suc s) n cars = subst (λ k. IsSortedFrom (suc k) n cars) here r.2 in
          let rest = map (cell_at (car ∷ cars)) (range_with_len (s + 1) m) in
          step_some l s (cell_at (car ∷ cars) s) rest car.number car.speed (cell_here car cars s here)
          ∙ ap (λ c. c ∷ standing_from l (suc s) rest) (same_car_on l s car here)
          ∙ ap (λ cs. car_on l car ∷ standing_from l (suc s) cs) (map_range_same (cell_at (car ∷ cars)) (cell_at cars) (s + 1) m (λ y k. cell_other car cars y (λ e. omega arith)))
          ∙ ap (λ k. car_on l car ∷ standing_from l (suc s) (map (cell_at cars) (range_with_len k m))) (add-one s)
          ∙ ap (λ cs. car_on l car ∷ cs) (standing_cells l (suc s) m n cars (omega arith) later)
      | inr other ↦
          let low = r.0 in
          let past : IsSortedFrom (suc s) n (car ∷ cars) = ((let k : suc s ≤ car.place = omega arith in k), r.1, r.2) in
          step_none l s (cell_at (car ∷ cars) s) _ (none_before (suc s) n (car ∷ cars) s past (omega arith))
          ∙ ap (λ k. standing_from l (suc s) (map (cell_at (car ∷ cars)) (range_with_len k m))) (add-one s)
          ∙ standing_cells l (suc s) m n (car ∷ cars) (omega arith) past
    ]

pub standing_list : (l n : ℕ) (cars : List LaneCar) → IsSortedFrom 0 n cars → standing_from l 0 (cells_of n cars) ≡ map (car_on l) cars
standing_list l n cars r = standing_cells l 0 n n cars (let e : 0 + n ≡ n = omega arith in e) r

-- as many cars as the list
pub cars_of_list : (n : ℕ) (cars : List LaneCar) → IsSortedFrom 0 n cars → lane_car_count (cells_of n cars) ≡ length cars
cars_of_list n cars r = sym (length-standing_from 0 0 (cells_of n cars)) ∙ ap length (standing_list 0 n cars r) ∙ length-map cars (car_on 0)

-- places of a sorted list
pub rises_low : (x n : ℕ) (cars : List LaneCar) (k : ℕ) → IsSortedFrom x n cars → k < length cars → x ≤ place_of cars k
rises_low x n [] k r h = absurd (omega arith)
rises_low x n (car ∷ cars) zero r h = r.0
rises_low x n (car ∷ cars) (suc k) r h = let a = rises_low (suc car.place) n cars k r.2 (omega arith) in let b = r.0 in omega arith

pub rises_high : (x n : ℕ) (cars : List LaneCar) (k : ℕ) → IsSortedFrom x n cars → k < length cars → place_of cars k < n
rises_high x n [] k r h = absurd (omega arith)
rises_high x n (car ∷ cars) zero r h = r.1
rises_high x n (car ∷ cars) (suc k) r h = rises_high (suc car.place) n cars k r.2 (omega arith)

pub rises_order : (x n : ℕ) (cars : List LaneCar) (j k : ℕ) → IsSortedFrom x n cars → j < k → k < length cars → place_of cars j < place_of cars k
rises_order x n [] j k r less h = absurd (omega arith)
rises_order x n (car ∷ cars) j zero r less h = absurd (omega arith)
rises_order x n (car ∷ cars) zero (suc k) r less h = rises_low (suc car.place) n cars k r.2 (omega arith)
rises_order x n (car ∷ cars) (suc j) (suc k) r less h = rises_order (suc car.place) n cars j k r.2 (omega arith) (omega arith)

pub rises_weakly : (n : ℕ) (cars : List LaneCar) (j k : ℕ) → IsSortedFrom 0 n cars → j ≤ k → k < length cars → place_of cars j ≤ place_of cars k
rises_weakly n cars j k r low h =
    elim (cases_eq j k) [
      | inl e ↦ rw e (omega arith)
      | inr other ↦ let a = rises_order 0 n cars j k r (omega arith) h in omega arith
    ]

-- the k-th car is in the cell of its place
pub cell_kth : (x n : ℕ) (cars : List LaneCar) (k : ℕ) → IsSortedFrom x n cars → k < length cars → let car = get_or cars k no_car in cell_at cars car.place ≡ Some (car.number, car.speed)
cell_kth x n [] k r h = absurd (omega arith)
cell_kth x n (car ∷ cars) zero r h = cell_here car cars car.place refl
cell_kth x n (car ∷ cars) (suc k) r h =
    let low = rises_low (suc car.place) n cars k r.2 (omega arith) in
    cell_other car cars (place_of cars k) (λ e. omega (arith, low, e)) ∙ cell_kth (suc car.place) n cars k r.2 (omega arith)

pub at_kth : (n : ℕ) (cars : List LaneCar) (k : ℕ) → IsSortedFrom 0 n cars → k < length cars → let car = get_or cars k no_car in at (cells_of n cars) car.place ≡ Some (car.number, car.speed)
at_kth n cars k r h = cells_at n cars (place_of cars k) (rises_high 0 n cars k r h) ∙ cell_kth 0 n cars k r h

-- a place that no car of the list has is empty
pub empty_at : (cars : List LaneCar) (x : ℕ) → ((k : ℕ) → k < length cars → place_of cars k ≢ x) → cell_at cars x ≡ None
empty_at [] x h = refl
empty_at (car ∷ cars) x h = cell_other car cars x (h 0 (omega arith)) ∙ empty_at cars x (λ k low. h (suc k) (omega arith))

-- the car of the list for a cell that is taken
unfoldable pub list_car : ℕ → ℕ → ℕ → LaneCar
list_car number x speed = record { number = number; place = x; speed = speed }

pub record IsKth (cars : List LaneCar) (number x speed k : ℕ) : Type 0 where
  pub low : k < length cars
  pub is : get_or cars k no_car ≡ list_car number x speed

some_first : (car : LaneCar) (number x speed : ℕ) → car.place ≡ x → ◌≡◌ {A = Option (ℕ × ℕ)} (Some (car.number, car.speed)) (Some (number, speed)) → car ≡ list_car number x speed
unfolding list_car
some_first car number x speed e f = let parts = some_pair_parts car.number number car.speed speed f in
    ap (λ k. record { number = k; place = car.place; speed = car.speed }) parts.0 ∙ ap (λ k. record { number = number; place = k; speed = car.speed }) e ∙ ap (λ k. record { number = number; place = x; speed = k }) parts.1

pub kth_of_cell : (cars : List LaneCar) (number x speed : ℕ) → cell_at cars x ≡ Some (number, speed) → (k : ℕ) × IsKth cars number x speed k
kth_of_cell [] number x speed h = absurd cc
kth_of_cell (car ∷ cars) number x speed h =
    elim (cases_eq car.place x) [
      | inl e ↦ (0, record { low = omega arith; is = some_first car number x speed e (sym (cell_here car cars x e) ∙ h) })
      | inr other ↦ let k = kth_of_cell cars number x speed (sym (cell_other car cars x other) ∙ h) in
          (suc k.0, record { low = (let a = k.1.low in omega arith); is = k.1.is })
    ]
